-- The words that proofs of this crate name: of std, of the crates below, and of its own definitions.
pub use Rattle.std.proofs.Common.{All, Bool, Equal, Greater, Less, List, MatchOption, None, Option, Ordering, Some, T, [], add-zero, ap, append-nil, append_assoc, ap₂, arith, bit_and, bit_or, cond, drop, eq-eqb, eqb, eqb-true, false, filter, filter_map, flat_map, get_or, inl, inr, is_eq, is_le, is_lt, is_some, le-leb, le_of_eq, leb-true, length, length-append, length-drop, length-take-le, lit<, lit≤, lt_of_lt_of_le, ltb-true, map, max, min, mod-eq_of_lt, nat_eq, nat_le, nat_lt, not, one-add, pow-suc, pow_mono, pow_pos, refl, replicate, rules, subst, suc, sym, take, true, true≢false, unwrap_or, zero, ℕ, ◌%◌, ◌&&◌, ◌*◌, ◌++◌, ◌+◌, ◌-◌, ◌/◌, ◌<◌, ◌==◌, ◌^◌, ◌||◌, ◌↔◌, ◌∙◌, ◌∷◌, ◌≡◌, ◌≢◌, ◌≤◌, ◌⊎◌}
pub use Rattle.std.proofs.Math.Bool.{and-false, and-or_distrib_left, and-true, and_assoc, and_comm, or-false, or_assoc, or_comm}
pub use Rattle.std.proofs.Math.Nat.{mul-add, mul-le-mul_left}
pub use Rattle.std.proofs.Math.Pow.{mod-mod-pow}
pub use Rattle.std.proofs.lemmas.Bool.{and_parts, cases_Bool, cases_eq, cases_lt, false_from_ne_true, false≢true, le-ltb, lt-ltb, ne_eqb}
pub use Rattle.std.proofs.lemmas.Bool.Decides.{nat_tests}
pub use Rattle.std.proofs.lemmas.Grind.{flat_map-append}
pub use Rattle.std.proofs.lemmas.List.{get_or-map, map-append, nil_from_length, take-take, take_all, take_more}
pub use Rattle.std.proofs.lemmas.List.Elements.{All-cons, All-contains, All-head, All-nil, All-tail, Contains-append_cases, Contains-append_left, Contains-append_right, Contains-push, Contains-push_cases, filter-append, filter_agree}
pub use Rattle.std.proofs.lemmas.List.Filters.{length-filter_both}
pub use Rattle.std.proofs.lemmas.List.Folds.{flat_map-map}
pub use Rattle.std.proofs.lemmas.List.Sums.{count_by-le-length, length-filter, sum_by-cons, sum_by-le-sum_by}
pub use Rattle.std.proofs.lemmas.Nat.{and_block, and_le_l, div_below, le-div, leading_top, mod-pow-add, mod_below, one_shl, ones_cat, ones_le_self, or_lt, pow_below, shl_whole, shr_split, zero_from_ones}
pub use Rattle.std.proofs.lemmas.Nat.Bits.{bit_at-lt, bit_at-suc, bit_at-trailing_zeros, bit_at-zero, bit_at_above, bit_at_and, bit_at_cat_high, bit_at_cat_low, bit_at_clear_other, bit_at_clear_same, bit_at_or, bit_at_set_other, bit_at_set_same, same_from_bits_below}
pub use Rattle.std.proofs.lemmas.Option.{get_or_from_slice_get, none-some, same_Some, slice_get-get_or}
pub use Rattle.std.specs.Bool.{beq}
pub use Rattle.std.specs.Cmp.{Equal-is}
pub use Rattle.std.specs.FinMap.{FinMap, contains_key, contains_key-keys, empty, empty_of_len, entries, entries-from_sorted, entries-insert, entries_sorted, find, from_sorted, get, get-empty, get-entries, get-from_sorted, get-insert, get-remove, get-retain_keys, insert, is_sorted, keys, len, len-empty, len-entries, len-insert, len-remove, remove, retain_keys, same_map}
pub use Rattle.std.specs.FinMap.Entries.{below_all, by_order, find-where_key, is_sorted-where_key, where_key}
pub use Rattle.std.specs.Int.{bit_at, bit_not, leading_zeros, trailing_zeros, w32, w64}
pub use Rattle.std.specs.Int.Bits.{and_self, and_zero_l}
pub use Rattle.std.specs.Int.RustNames.{count_ones}
pub use Rattle.std.specs.List.{AllByRecursion, cons_option, list_all, list_any, slice_get}
unfoldable pub use Rattle.std.specs.List.Sorted.{IsStrictlySortedBy}
pub use Rattle.std.specs.Option.{option_or}
pub use Rattle.std.specs.Ordering.{ordering_reverse}
pub use Rattle.std.specs.Prelude.{Contains, count_by, option_to_list}
pub use Rattle.prefix_trie_bits.specs.Begins.{begins-antisymm, begins-append, begins-from-masked, begins-from-take, begins-length, begins-linear, begins-longer, begins-refl, begins-rest, begins-same-length, begins-take, begins-trans, leb-past, length-first, masked-from-begins, same_bool, take-begins}
pub use Rattle.prefix_trie_bits.specs.BitStrings.{bits-number, digits-extend, digits-number, extend-below, length-digits, number-below, number-digits, number-lt, number-power, number-window, number-window-inside, number-window-past, same-from-number, window-of-five}
pub use Rattle.prefix_trie_bits.specs.Model.Bits.{same_bit, zeros}
unfoldable pub use Rattle.prefix_trie_bits.specs.Model.Bits.{begins, digits, number}
pub use Rattle.prefix_trie_bits.specs.Comparing.{order-filled, order-here, order-later, order-numbers}
pub use Rattle.prefix_trie_bits.specs.Laws.Addresses.{AddressLaws}
pub use Rattle.prefix_trie_bits.specs.Laws.Counted.{CountedLaws}
pub use Rattle.prefix_trie_bits.specs.Laws.Determined.{DeterminedLaws, is_memory, is_refusal, may_refuse}
pub use Rattle.prefix_trie_bits.specs.Laws.SplitsOff.{SplitLaws, Splits}
pub use Rattle.prefix_trie_bits.specs.Laws.Listings.{IsListedBefore, ListingLaws}
pub use Rattle.prefix_trie_bits.specs.Laws.Matches.{MatchLaws}
pub use Rattle.prefix_trie_bits.specs.Laws.Nodes.{BeginsKey, IsHome, NodeLaws}
pub use Rattle.prefix_trie_bits.specs.Laws.Pruning.{IsPruning, IsPrunedNode, PruningLaws}
pub use Rattle.prefix_trie_bits.specs.Laws.Slots.{MakesSlots, SlotLaws}
pub use Rattle.prefix_trie_bits.specs.Laws.Steps.{IsMap, StepKeeps, StepLaws, touches}
pub use Rattle.prefix_trie_bits.specs.Laws.Storage.{LeavesFixed, StorageLaws, UseAlike, asks_length, may_change}
pub use Rattle.prefix_trie_bits.specs.Laws.Total.{GivesCause, IsStoredMap, TotalLaws}
pub use Rattle.prefix_trie_bits.specs.Laws.Visits.{VisitLaws}
pub use Rattle.prefix_trie_bits.specs.Model.Addresses.{address_total, addresses}
unfoldable pub use Rattle.prefix_trie_bits.specs.Model.Addresses.{covered, full_strings}
pub use Rattle.prefix_trie_bits.specs.Calls.Retaining.{RetainsEntries, RetainsEntriesTo, CallableOnEachEntry, RetainsInStorage}
pub use Rattle.prefix_trie_bits.specs.Calls.Blocks.{HasBlock, NodesHaveBlocks}
pub use Rattle.prefix_trie_bits.specs.Model.Blocks.{Layout, LongerByOne, Sizes, SizesStepBetween, SizesStepDown, StepsBetween, StepsDown, child_block_count, child_block_sizes, child_count, free_of, made_of, no_layout, one_of, own_entries, smallest_size, used_of, value_block_count, value_block_sizes}
pub use Rattle.prefix_trie_bits.specs.Model.Counted.{CountedFrom, CountedStep, CountsReads, TidyIf, tidy_after, tidy_after_all}
pub use Rattle.prefix_trie_bits.specs.Calls.Entries.{AreWithin, part_below, put_all}
pub use Rattle.prefix_trie_bits.specs.Model.Entries.{Entries, no_entries, part_at_least, with_entry, without_below, without_entry}
pub use Rattle.prefix_trie_bits.specs.Calls.SplitsOff.{ArePacked, SplitsOff, SplitsOffInStorage, packed_block, packed_cell_slots, packed_node_slots}
pub use Rattle.prefix_trie_bits.specs.Model.Insertion.{TakesBlocks, block_needed, missing_cell_slots, child_block_needed, missing_child_blocks, child_blocks_needed, gains_child, missing_of, slots_of_missing, missing_node_slots, value_block_needed, missing_value_blocks, value_blocks_needed}
pub use Rattle.prefix_trie_bits.specs.Calls.Matches.{IsLongestMatch, IsMatch, IsShortestMatch}
pub use Rattle.prefix_trie_bits.specs.Model.Matches.{covers, first_item, last_item, longest_match, shortest_match}
pub use Rattle.prefix_trie_bits.specs.Calls.NodeListings.{listing_at_place, listing_at_places, pair_of}
pub use Rattle.prefix_trie_bits.specs.Calls.Nodes.{AreNodes}
pub use Rattle.prefix_trie_bits.specs.Model.Nodes.{IsTidy, Nodes, beginnings, has_node, home, is_node_depth, is_pruned, is_root, needed, nodes_above, nodes_not_below, nodes_without, nodes_without_below, pruned, root_alone, with_needed, with_nodes}
pub use Rattle.prefix_trie_bits.specs.Model.Space.{LeavesSpace, MayPassLimit, Space}
pub use Rattle.prefix_trie_bits.specs.Model.Selections.{listing, listing_after, listing_below, listing_from}
pub use Rattle.prefix_trie_bits.specs.Model.Step.{Call, CallFits, Children, Clear, Count, Cover, Done, Get, IndexRange, Insert, Items, ListAll, ListFrom, Lists, Lpm, Memory, NodeCount, Refusal, Refused, Remove, RemoveChildren, RemoveKeepTree, Reply, RetainAtLeast, Run, Runs, Spm, State, Step, Value}
pub use Rattle.prefix_trie_bits.specs.Calls.Storage.{HaveBlocks, PreparesInStorage}
pub use Rattle.prefix_trie_bits.specs.Model.Storage.{InsertsInStorage, LeavesStorage, PrunesInStorage, RefusesInStorage, RemovesManyInStorage, RemovesValueInStorage, RunInStorage, StepInStorage, Storage, empty_storage}
pub use Rattle.prefix_trie_bits.specs.Model.Visits.{ReadsExactly, visits, visits_of_match, visits_to_match}
pub use Rattle.prefix_trie_bits.specs.Order.{IsBefore, listing-common, listing-extension, listing-refl, listing_same, listing_total}
pub use Rattle.prefix_trie_bits.specs.Model.Order.{listing_cmp, same_string}
pub use Rattle.prefix_trie_bits.specs.Places.{HoldsChildren, HoldsPlaces, HoldsPositions, HoldsValues, IsLongest, IsShortest, NoneBegins, Sets, TakesPlace, has, heap_number, is_before, is_in, place_of, places, has_first, value_bit}
unfoldable pub use Rattle.prefix_trie_bits.specs.Places.{pick, strings}
pub use Rattle.prefix_trie_bits.specs.Windows.{window-inside, window-of-front, window_joined, window_small}
pub use Rattle.prefix_trie_bits.specs.declared.node.Place.{Place}
pub use Rattle.prefix_trie_bits.specs.declared.node.masks.TheConstants.{CHILDREN_COVERED, MATCHES, VALUES_COVERED}
pub use Rattle.prefix_trie_bits.specs.declared.node.order.TheConstants.{AFTER_CHILD, FROM_VALUE, LISTING, NOT_BELOW, POSITION}
