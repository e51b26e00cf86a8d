-- The words that proofs of this crate name: of std, of the crates below, and of its own definitions.
pub use Rattle.std.proofs.Common.{Bool, List, None, Option, Some, [], ap, ap₂, arith, cond, eq-eqb, eqb-true, false, filter, filter_map, flat_map, get_or, inl, inr, is_le, is_lt, is_some, le_of_eq, length, lit<, lit≤, map, nat_le, nat_lt, not, refl, slice_index_or, subst, suc, sum_by, sym, take, true, true≢false, zero, ℕ, ◌%◌, ◌&&◌, ◌++◌, ◌+◌, ◌-◌, ◌<◌, ◌==◌, ◌^◌, ◌||◌, ◌∙◌, ◌∷◌, ◌≡◌, ◌≤◌, ◌⊎◌}
pub use Rattle.std.proofs.lemmas.Bool.{cases_Bool}
pub use Rattle.std.proofs.lemmas.List.Sorted.{sum_by-IsPermutation}
pub use Rattle.std.proofs.lemmas.List.Sums.{sum_by-cons}
pub use Rattle.std.specs.FinMap.{FinMap, contains_key, empty, entries, entries-from_sorted, entries-insert, find, get, get-entries, get-from_sorted, is_sorted, keys, len-entries, put, retain_keys, values}
pub use Rattle.std.specs.List.{list_all, list_any}
pub use Rattle.std.specs.Option.{option_or}
pub use Rattle.std.specs.Prelude.{Contains, count_by, option_to_list}
unfoldable pub use Rattle.prefix_trie_bits.specs.Model.Bits.{begins, digits, number}
pub use Rattle.prefix_trie_facts.specs.Facts.{FactsHold}
pub use Rattle.prefix_trie_facts.specs.Facts.Blocks.{BlocksHold, at_slot, none_free, space_of, six_free}
pub use Rattle.prefix_trie_facts.specs.Facts.Insertions.{Blocks, InsertionsHold, by_path, far_children, far_layout, lacking, layout_at, ones_free, sizes_at, three_slots, with_one}
pub use Rattle.prefix_trie_facts.specs.Facts.Steps.{FilledFacts, KeepsFacts, StepsHold, Takes, both_free, child_value, four_free, root_child, root_value, two_free}
pub use Rattle.prefix_trie_bits.specs.Laws.Determined.{is_refusal}
pub use Rattle.prefix_trie_bits.specs.Calls.Retaining.{RetainsEntries}
pub use Rattle.prefix_trie_bits.specs.Calls.Blocks.{AreBlocksOf, Block, HasBlock, Tiles}
pub use Rattle.prefix_trie_bits.specs.Model.Blocks.{Layout, LongerByOne, LosesNoBlock, Sizes, StepsBetween, child_block_sizes, child_count, free_of, made_of, no_layout, one_of, own_entries, used_of, value_block_sizes}
pub use Rattle.prefix_trie_bits.specs.Calls.Entries.{part_below}
pub use Rattle.prefix_trie_bits.specs.Model.Entries.{Entries, no_entries, part_at_least, with_entry, without_below, without_entry}
pub use Rattle.prefix_trie_bits.specs.Calls.SplitsOff.{packed_slots}
pub use Rattle.prefix_trie_bits.specs.Model.Insertion.{MissingFitsLimit, block_needed, missing_cell_slots, child_block_needed, missing_child_blocks, child_blocks_needed, gains_child, missing_of, slots_of_missing, missing_node_slots, value_block_needed, missing_value_blocks, value_blocks_needed}
pub use Rattle.prefix_trie_bits.specs.Model.Matches.{first_item, last_item, prefix_pair}
pub use Rattle.prefix_trie_bits.specs.Model.Nodes.{Nodes, has_node, home, is_node_depth, is_pruned, is_root, needed, nodes_above, nodes_not_below, nodes_without, nodes_without_below, pruned, root_alone, with_nodes}
pub use Rattle.prefix_trie_bits.specs.Model.Space.{MayPassLimit, Space}
pub use Rattle.prefix_trie_bits.specs.Model.Selections.{listing_after, prefix_pairs}
pub use Rattle.prefix_trie_bits.specs.Model.Step.{AddressCount, Addresses, Call, Children, Clear, Count, Cover, Done, Get, Insert, Items, Len, ListAll, ListFrom, Lpm, Match, NodeCount, Refused, Remove, RemoveChildren, RemoveKeepTree, Reply, RetainAtLeast, Run, Spm, State, Step, Value}
pub use Rattle.prefix_trie_bits.specs.declared.prefix.Refusal.{Refusal}
pub use Rattle.prefix_trie_bits.specs.declared.prefix.Refusal.TheVariants.{IndexRange, Memory}
pub use Rattle.prefix_trie_bits.specs.Model.Visits.{visits_of_match, visits_to_match}
pub use Rattle.prefix_trie_bits.specs.Calls.WritingWalk.{WritingWalk, walk_over}
pub use Rattle.prefix_trie_bits.specs.Order.{listing_total}
pub use Rattle.prefix_trie_bits.specs.Model.Order.{listing_cmp, same_string}
pub use Rattle.prefix_trie_facts.specs.Rows.Addresses.{AddressesHold}
pub use Rattle.prefix_trie_facts.specs.Rows.Examples.{Gives, LeadsTo, Row, back_at, calls, full_pairs, new_map, path_at, replies, sets}
pub use Rattle.prefix_trie_facts.specs.Rows.Limits.{LimitsHold}
pub use Rattle.prefix_trie_facts.specs.Rows.Lookups.{LookupsHold}
pub use Rattle.prefix_trie_facts.specs.Rows.Removals.{RemovalsHold}
pub use Rattle.prefix_trie_facts.specs.Rows.Walks.{WalksHold}
pub use Rattle.prefix_trie_facts.specs.Rows.Widths.{WidthsHold}
