-- The words that proofs of this crate name: of std, of the crates below, and of its own definitions.
pub use Rattle.std.proofs.Common.{All, Bool, Contains, Equal, Err, Greater, IfErr, IfNone, IfOk, IfSome, IsOk, IsPermutation, IsSome, IsTrue, Less, List, MatchOption, MatchResult, None, Ok, OnErr, OnOk, Option, Ordering, Result, Some, T, [], add-sub_of_le, ap, append-nil, append_assoc, ap₂, arith, bit_and, cond, count_by, drop, drop-drop, eq-eqb, eqb, eqb-true, false, filter, flat_map, get_or, get_or-set_same, if◌then◌else◌, inl, inr, insert, is_le, is_lt, is_some, leb, leb-true, length, length-append, length-drop, length-set, length-take, length-take-le, lit<, lit≤, lt-ltb, ltb, ltb-true, map, nat_eq, nat_le, nat_lt, not, option_map, refl, remove, replicate, rules, set, slice_set, subst, suc, sum, sum_by, swap, sym, take, take-append-drop, take_all, true, true≢false, unwrap_or, vec_capacity, vec_len, w32, zero, ℕ, ⊎_elim, ◌%◌, ◌&&◌, ◌*◌, ◌++◌, ◌+◌, ◌-◌, ◌/◌, ◌<◌, ◌==◌, ◌^◌, ◌||◌, ◌↔◌, ◌∙◌, ◌∷◌, ◌≡◌, ◌≢◌, ◌≤◌, ◌⊎◌}
pub use Rattle.std.proofs.Math.Bool.{and-false, and_assoc, and_comm, or-false, or-true}
pub use Rattle.std.proofs.Math.Nat.{add-mul, mul-add, mul-le-mul_left, mul-one, mul-zero, one-mul, zero-mul}
pub use Rattle.std.proofs.Math.Seq.{get_or-append_seam, take-add, take-append_seam}
pub use Rattle.std.proofs.lemmas.Bool.{and_parts, cases_Bool, cases_eq, cases_lt, false_from_ne_true, false≢true, le-leb, le-ltb, lt-leb, or_parts, true_from_ne_false}
pub use Rattle.std.proofs.lemmas.Bool.Decides.{eqb_tells, nat_tests}
pub use Rattle.std.proofs.lemmas.Cmp.{nat_list_cmp_total, tied_itself}
pub use Rattle.std.proofs.lemmas.List.{append_cancel_left, drop-append-le, drop-replicate, drop-set-lt, drop-take, drop_all, drop_at, drop_more, ext_get_or, get_or-append-add, get_or-drop, get_or-map, get_or-replicate, get_or-set_other, get_or-take, get_or_append_left, get_or_at, get_or_default, get_or_past, length-map, length-replicate, length_push, map-append, nil_from_length, replicate-append-replicate, set-append_left, set-append_right, set-get_or, set-set, set_at, take-append-le, take-replicate, take-take, take_at, take_more, take_more_set}
pub use Rattle.std.proofs.lemmas.List.Concat.{flat_map-append, length-flat_map}
pub use Rattle.std.proofs.lemmas.List.Edits.{Swapped, get_or-insert_above, get_or-insert_at, get_or-insert_below, get_or-remove_above, get_or-remove_below, insert-append_left, insert-append_right, insert_end, length-insert, length-remove, length-swap, map_over_more, remove-append_left, remove-append_right, swapped_from_swap}
pub use Rattle.std.proofs.lemmas.List.Elements.{All-cons, All-contains_itself, All-filter, All-from_recursion, All-head, All-map, All-nil, All-push, All-same, All-tail, All-weaker, AllZip-get_or, Contains-append_cases, Contains-append_left, Contains-append_right, Contains-get_or, Contains-push, Contains-push_cases, filter-append, filter_agree, filter_passes, length_all_zip, same_from_all_zip}
pub use Rattle.std.proofs.lemmas.List.Filters.{length-filter_both, sum_by-filter_both}
pub use Rattle.std.proofs.lemmas.List.Folds.{list_any-append, list_any_at, sum_by-replicate}
pub use Rattle.std.proofs.lemmas.List.FromFn.{fill_by_all, length-map-range_with_len, map-range_with_len_more}
pub use Rattle.std.proofs.lemmas.List.Sorted.{All-permutation, IsPermutation-append_comm, IsPermutation-append_left, IsPermutation-append_right, IsPermutation-cons, IsPermutation-map, IsPermutation-middle, IsPermutation-refl, IsPermutation-remove, IsPermutation-sym, IsPermutation-to_front, IsPermutation-trans, length_permutation, sum_by-IsPermutation}
pub use Rattle.std.proofs.lemmas.List.Sums.{get_or-le-sum_by, length-filter, sum-map, sum_by-append, sum_by-cons, sum_by-le, sum_by-le-sum_by, sum_by-set, sum_by-take-drop, sum_by_more, sum_by_more_le, sum_by_push}
pub use Rattle.std.proofs.lemmas.Nat.{and_le_l, and_le_r, pow_pos, shl_below}
pub use Rattle.std.proofs.lemmas.Nat.Bits.{bit_at-trailing_zeros, bit_at-zero, bit_at_above}
pub use Rattle.std.proofs.lemmas.Option.{none-some, same_Some}
pub use Rattle.std.proofs.lemmas.Result.{IfErr-weaker, err_from_is_err_and, on_ok_weaker}
pub use Rattle.std.proofs.lemmas.Simd.{map-map}
pub use Rattle.std.proofs.lemmas.Slice.{drop-append-drop}
pub use Rattle.std.specs.Borrow.{Bor, MutBor}
pub use Rattle.std.specs.Cmp.{Equal-is}
pub use Rattle.std.specs.Cmp.Lexicographic.{slice_cmp}
pub use Rattle.std.specs.FinMap.{FinMap, contains_key, contains_key-keys, empty, empty_of_len, entries, entries-from_sorted, entries-insert, entries_sorted, find, from_sorted, get, get-empty, get-entries, get-from_sorted, get-insert, get-retain_keys, is_sorted, keys, len, len-empty, len-entries, len-insert, len-remove, nat_cmp-IsAntisymmetric, put, retain_keys, slice_cmp-IsAntisymmetric, values}
pub use Rattle.std.specs.FinMap.Entries.{below_all, by_order, is_sorted-where_key}
pub use Rattle.std.specs.Int.{bit_at, leading_zeros, trailing_zeros}
pub use Rattle.std.specs.List.{AllByRecursion, AllZip, each_same, list_any, range_with_len}
unfoldable pub use Rattle.std.specs.List.Sorted.{IsStrictlySortedBy}
pub use Rattle.std.specs.Option.{ghost_name_of, option_copied, option_copied_mut, option_or}
pub use Rattle.std.specs.Ordering.{eq_by_cmp, is_eq, nat_cmp, ordering_reverse}
pub use Rattle.std.specs.Prelude.{filter_map, option_to_list, position, slice_index_or, ⊤}
pub use Rattle.prefix_trie_bits.proofs.Bitmaps.{has-and, has-zero}
pub use Rattle.prefix_trie_bits.proofs.Checks.{at_below, both}
unfoldable pub use Rattle.prefix_trie_bits.proofs.Checks.{each}
pub use Rattle.prefix_trie_bits.proofs.Listing.{count-strings, strings-short}
pub use Rattle.prefix_trie_bits.proofs.Model.SplitsOff.{split_laws}
pub use Rattle.prefix_trie_bits.proofs.Model.Homes.{home-begins, home-depth, home-length, home-longest, own_home}
pub use Rattle.prefix_trie_bits.proofs.Model.Matches.{IsMatch-from_covers, covers-from_IsMatch, match_laws, one_of_length}
pub use Rattle.prefix_trie_bits.proofs.Model.Members.{and-first, and-join, and-second, any-node_above, get-part_below, get-without_below, get-without_entry, has-empty, has-inserted, has-removed, has-retained, has-root_alone, has-with_nodes, is-same_string, needed_for, needs_root, or-cases, or-left, or-right, same_entries, same_members, same_nodes, same_string-is, some-value}
pub use Rattle.prefix_trie_bits.proofs.Model.NodeListings.{listing_at_child, listing_at_inner, listing_at_no_value, listing_at_value, listing_below_none, listing_by_node_places, listing_by_places, listing_of_root, two-tests}
pub use Rattle.prefix_trie_bits.proofs.Model.NodeSets.{AreNodes-needed, AreNodes-without_entry}
pub use Rattle.prefix_trie_bits.proofs.Model.SortedListings.{each-behind, entries-empty, entries-retained, find-from_Contains, lt-less, not_itself, shorter-first, sorted-head, sorted-tail, t-true, true-t}
pub use Rattle.prefix_trie_bits.proofs.Model.Pruning.{begins-nil, pruning_laws, removed_fewer}
pub use Rattle.prefix_trie_bits.proofs.Model.Storage.PreparedInsertions.{above, free_here, free_later, goes_up}
pub use Rattle.prefix_trie_bits.proofs.Model.Storage.ShrunkBlocks.{IsSmallest, first_in, has_cases, has_some, in_cases, later_in, smallest_of}
pub use Rattle.prefix_trie_bits.proofs.Model.Storage.Slots.{how_many, how_many-more, needed_most, shrinks_few, sizes_to, slots_most, total_most}
pub use Rattle.prefix_trie_bits.proofs.Model.Storage.Paths.{blocks_needed, none_needed}
pub use Rattle.prefix_trie_bits.proofs.Model.Visits.{begins-within, visits-exact}
pub use Rattle.prefix_trie_bits.proofs.Ranks.{bit-clear, bit-set, has-from}
pub use Rattle.prefix_trie_bits.proofs.MaskedPlaces.{is_in-and}
pub use Rattle.prefix_trie_bits.proofs.Strings.{length-short, string-bit, top_length, value_bit-injective, value_bit-longer, value_bit-small}
pub use Rattle.prefix_trie_bits.specs.Begins.{begins-append, begins-from-rest, begins-from-take, begins-length, begins-linear, begins-longer, begins-refl, begins-rest, begins-same-length, begins-take, begins-trans, same_bool, take-begins}
pub use Rattle.prefix_trie_bits.specs.BitStrings.{digits-number, length-digits, number-bits, number-digits, number-lt, same-from-number}
pub use Rattle.prefix_trie_bits.specs.Model.Bits.{number, same_bit, zeros}
unfoldable pub use Rattle.prefix_trie_bits.specs.Model.Bits.{begins, digits}
pub use Rattle.prefix_trie_bits.specs.Laws.Pruning.{IsPrunedNode, PruningLaws}
pub use Rattle.prefix_trie_bits.specs.Calls.Retaining.{RetainsEntries, RetainsEntriesTo, CallableOnEachEntry, RetainsInStorage}
pub use Rattle.prefix_trie_bits.specs.Calls.Blocks.{AreBlocksOf, HasBlock, NodesHaveBlocks, Tiles}
pub use Rattle.prefix_trie_bits.specs.Model.Blocks.{KeepsBlocks, Layout, LongerByOne, MakesAtMost, MakesBlocks, Sizes, SizesStepBetween, SizesStepDown, StepsBetween, StepsDown, child_block_count, child_block_sizes, child_count, free_of, made_of, no_layout, one_of, own_entries, smallest_size, used_of, value_block_count, value_block_sizes}
pub use Rattle.prefix_trie_bits.specs.Calls.Entries.{AreWithin, part_below}
pub use Rattle.prefix_trie_bits.specs.Model.Entries.{Entries, no_entries, with_entry, without_below, without_entry}
pub use Rattle.prefix_trie_bits.specs.Calls.SplitsOff.{SplitsOffInStorage, IsPacked, packed_block, packed_cell_slots, packed_slots}
pub use Rattle.prefix_trie_bits.specs.Model.Insertion.{TakesBlocks, block_needed, missing_cell_slots, child_block_needed, missing_child_blocks, child_blocks_needed, gains_child, missing_of, slots_of_missing, missing_node_slots, value_block_needed, missing_value_blocks, value_blocks_needed}
pub use Rattle.prefix_trie_bits.specs.Calls.Matches.{IsMatch}
pub use Rattle.prefix_trie_bits.specs.Model.Matches.{covers, longest_match, shortest_match}
pub use Rattle.prefix_trie_bits.specs.Calls.NodeListings.{listing_at_place, listing_at_places, pair_of}
pub use Rattle.prefix_trie_bits.specs.Calls.Nodes.{AreNodes, holders, is_holder, is_parent, parents}
pub use Rattle.prefix_trie_bits.specs.Model.Nodes.{Nodes, has_node, home, is_node_depth, is_pruned, needed, nodes_above, nodes_not_below, nodes_without, nodes_without_below, pruned, root_alone, with_needed, with_nodes}
pub use Rattle.prefix_trie_bits.specs.Model.Space.{LeavesSpace, MayPassLimit, Space}
pub use Rattle.prefix_trie_bits.specs.Model.Selections.{listing, listing_after, listing_below, listing_from}
pub use Rattle.prefix_trie_bits.specs.Model.Step.{Clear, Done, Insert, Remove, RemoveChildren, RemoveKeepTree, Reply, State, Step}
pub use Rattle.prefix_trie_bits.specs.Calls.Storage.{HaveBlocks, PreparesInStorage, StepByPath}
pub use Rattle.prefix_trie_bits.specs.Model.Storage.{InsertsInStorage, LeavesStorage, PrunesInStorage, RefusesInStorage, RemovesManyInStorage, RemovesValueInStorage, Storage, empty_storage}
pub use Rattle.prefix_trie_bits.specs.Model.Visits.{visits, visits_of_match, visits_to_match}
pub use Rattle.prefix_trie_bits.specs.Order.{listing-apart, listing-common, listing-refl, listing_same, listing_total}
pub use Rattle.prefix_trie_bits.specs.Model.Order.{listing_cmp, same_string}
pub use Rattle.prefix_trie_bits.specs.Places.{HoldsChildren, HoldsPlaces, HoldsValues, IsLongest, IsShortest, NoneBegins, Sets, has, is_before, is_in, place_of, places, has_first, strings, value_bit}
pub use Rattle.prefix_trie_bits.specs.Walks.{to_come}
pub use Rattle.prefix_trie_bits.specs.Windows.{take-extend, window-of-front}
pub use Rattle.prefix_trie_bits.specs.declared.node.Place.{Place}
pub use Rattle.prefix_trie_bits.specs.declared.node.Place.TheVariants.{Child, Value}
pub use Rattle.prefix_trie_bits.specs.declared.node.Places.{Places}
pub use Rattle.prefix_trie_bits.specs.declared.prefix.Refusal.{Refusal}
pub use Rattle.prefix_trie_bits.specs.declared.prefix.Refusal.TheVariants.{IndexRange, Memory, the_data}
pub use Rattle.prefix_trie_bits.specs.declared.prefix.Refused.{Refused}
pub use Rattle.prefix_trie_table.specs.Needs.{Made, MadeAtMost, Makes, ObtainsBoth, cells_needed, nodes_needed}
pub use Rattle.prefix_trie_bits.specs.Bitmaps.{bits_below, if_set}
unfoldable pub use Rattle.prefix_trie_bits.specs.Bitmaps.{bits, has_bit, rank}
pub use Rattle.prefix_trie_table.specs.Blocks.BlockCounts.{block_counts, slots_counted, tier_count, used_blocks}
pub use Rattle.prefix_trie_table.specs.Bulk.{HaveMatches, AreMatchesFound, AreCosts, AreRead, EachOf, GoOn, HasFound, IsAhead, IsMatchFound, IsLongestFound, IsNew, cost_of, found_of, new_descent, question_of, reached_by, slot_of}
pub use Rattle.prefix_trie_table.specs.Blocks.Cells.{blank_node, cell_sizes, node_at, node_sizes}
unfoldable pub use Rattle.prefix_trie_table.specs.Blocks.Cells.{HasSizes}
pub use Rattle.prefix_trie_table.specs.Copies.{AreCloned, IsCloned, IsPairCloned}
pub use Rattle.prefix_trie_table.specs.Digits.{bit_of, chunks_of, rest_of}
pub use Rattle.prefix_trie_table.specs.Forest.{CellsHold, ChildAdded, Deepest, EntryAdded, Holds, IsEnd, IsNodeAt, IsSlot, NodesHold, SomeNodes, SomeTable, ValueSet, Walked, at_child, at_root, child_blocks, child_blocks_of, child_items, child_slot, entry_count, gains, has_child, has_value, is_start, with_child_removed, node_or_blank, one_if, own_count, read_from, same_path, size_gained, starts, times, value_blocks, value_blocks_of, value_of, with_child, with_node, with_value, without}
unfoldable pub use Rattle.prefix_trie_table.specs.Forest.{below, child, read, value_in}
pub use Rattle.prefix_trie_table.specs.Splitting.Built.{AreNodesFrom, IsSubtree, IsBuilt, IsPackedNode, IsPart, IsSource, BuildsNode, NothingBuilt, SomeValue, child_slots, in_child, in_part, no_value, slots_at_child, slots_below, value_slots}
unfoldable pub use Rattle.prefix_trie_table.specs.Splitting.Built.{sum_to}
pub use Rattle.prefix_trie_table.specs.Splitting.Building.{CanBuild, Builds, BuildsList, NoneFree}
pub use Rattle.prefix_trie_table.specs.Splitting.Moving.{Awaits, AwaitsNext, HasCome, filled_with, split_off}
pub use Rattle.prefix_trie_table.specs.Splitting.Skeleton.{IsSecond, IsSkeleton}
pub use Rattle.prefix_trie_table.specs.Layouts.{AreSizesBy, Sized, Sized-prop, child_block_size, own_children, value_block_size}
pub use Rattle.prefix_trie_table.specs.Locations.{EndsAt, IsEndNode, IsLocation, IsSearchEnd, Locates, seat_in, slot_from, value_seat}
unfoldable pub use Rattle.prefix_trie_table.specs.Locations.{seat_of}
pub use Rattle.prefix_trie_table.specs.Blocks.Losing.{LosesOne}
pub use Rattle.prefix_trie_table.specs.Matching.{IsHeld, LackLastBit, LongestHeld, NoneHeld, SeatAt, ShortestHeld, cell_slot, holds_value, match_seat}
pub use Rattle.prefix_trie_table.specs.OwnBlocks.{child_need, value_need}
pub use Rattle.prefix_trie_table.specs.Removals.{AreAbove, ChildDropped, Drops, EntryRemoved, EntryTaken, GivesBack, GrowsBy, IsBare, IsStocked, AreAncestors, ShrinksList, MakesEntered, MakesFew, Pruned, PrunedTo, SameBlock, SameChildren, SameValues, IsAtEnd, ValueTaken, more, none, slot_in}
pub use Rattle.prefix_trie_table.specs.Retaining.{AsksUpTo, BlocksBetween, HasPlace, IsSite, PreservesBelow, MayAskAt, Needs, Retains, RetainsAll, RetainsIn, RetainsTo, Stays, is_at, is_at_some, is_under, is_under_some}
pub use Rattle.prefix_trie_table.specs.Blocks.Runs.{put_run, run, swap_runs}
pub use Rattle.prefix_trie_table.specs.SearchPaths.{IsAlong, IsLast, IsOwn, ReadsAlong, slot_at}
pub use Rattle.prefix_trie_table.specs.GrowthBounds.{BoundsNodeGrowth, BoundsGrowth, BoundsGrowthBy, child_headroom, headroom_if_any, headroom_of, of_any, smaller_sizes, value_headroom}
unfoldable pub use Rattle.prefix_trie_table.specs.GrowthBounds.{headroom}
pub use Rattle.prefix_trie_table.specs.Model.Contents.{Contents, state, stored_state}
pub use Rattle.prefix_trie_table.specs.Shape.{IsShapeOf, Shaped, Shaped-prop, same_shape, with_longest_at, with_match_at, with_stored_at, with_value_at}
pub use Rattle.prefix_trie_table.specs.Blocks.Slots.{HasValue, IsSeat, with_cell, with_slot}
pub use Rattle.prefix_trie_table.specs.Steps.{BoundsStorageGrowth, insert_reply, insert_new_reply}
pub use Rattle.prefix_trie_table.specs.Blocks.Store.{AreFree, HasList, HoldsItems, IsOfTier, IsVacant, Keeps, KeepsMade, MakesNone, Obtains, SameMade, SameSpace, SameSlots, Sound, Store, Tier, Turnover, UsedBlock, block, extent, filled, free_counts, free_extents, free_in, held, missing_in, list_need, list_size, made_in, many_of, needs, no_blocks, none_of, of_size, size_if_any, size_in, missing_slots, slots_made, slots_of, tier_at, tier_sizes, with_tier}
pub use Rattle.prefix_trie_table.specs.Tables.{ForHeld, Grows, GrowsBoth, IsReached, IsTable, IsTrie, MayPass, own_value}
pub use Rattle.prefix_trie_table.specs.Walking.Covers.{AreLeft, GoesOn, IsCover, IsCovering, NextHeld, TakesMatch, TakesShortest, is_ahead, still_covering}
pub use Rattle.prefix_trie_table.specs.Walking.Starts.{behind, kept, places_in, selected}
pub use Rattle.prefix_trie_table.specs.Walking.Items.{GivesFilled}
pub use Rattle.prefix_trie_table.specs.Walking.Taking.{AreApart, AreHeld, IsApart, IsTaking, Seated, Seated-prop, cell_of, pairs_in}
pub use Rattle.prefix_trie_table.specs.Walking.Cursors.{GivesKey, IsCursorIn}
pub use Rattle.prefix_trie_table.specs.Walking.Walks.{AreLevels, ArePassed, EndsLast, GivesSeat, IsOther, IsPassed, IsPlaceOf, IsSpot, IsStack, IsStackFrom, IsWalk, ShapeOf, SkipsLast, Tree, depth_of, from_last, pending, rest_of_walk, start, still, weight}
pub use Rattle.prefix_trie_table.specs.declared.allocator.blocks.BlockRef.{BlockRef}
pub use Rattle.prefix_trie_table.specs.declared.allocator.blocks.tiers.TheConstants.{TIERS}
pub use Rattle.prefix_trie_table.specs.declared.allocator.node.Node.{Node}
pub use Rattle.prefix_trie_table.specs.declared.table.bulk.Found.{Found}
pub use Rattle.prefix_trie_table.specs.declared.table.bulk.Descent.{Descent}
pub use Rattle.prefix_trie_table.specs.declared.table.walk_start.Start.{Start}
pub use Rattle.prefix_trie_table.specs.declared.table.walk_start.Start.TheVariants.{After, At, Below}
pub use Rattle.prefix_trie_table.specs.declared.table.lookup.Reached.{Reached}
pub use Rattle.prefix_trie_table.specs.declared.table.matching.Match.{Match}
pub use Rattle.prefix_trie_table.specs.declared.table.part_moving.Seats.{Seats}
pub use Rattle.prefix_trie_table.specs.declared.table.retain.Site.{Site}
pub use Rattle.prefix_trie_table.specs.declared.table.seat.Location.{Location}
pub use Rattle.prefix_trie_table.specs.declared.table.seat.Location.TheVariants.{Missing, Stored}
pub use Rattle.prefix_trie_table.specs.declared.table.seat.Seat.{Seat}
pub use Rattle.prefix_trie_table.specs.declared.table.seat.SearchEnd.{SearchEnd}
pub use Rattle.prefix_trie_table.specs.declared.table.spot.Spot.{Spot}
