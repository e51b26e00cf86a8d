-- The definitions and lemmas that the proofs of this crate use, from std and from the crates below.
pub use Rattle.std.proofs.Common.{All, Bool, Err, IfErr, IfNone, IfOk, List, MatchOption, None, Ok, Option, Result, Some, [], ap, ap₂, arith, bit_and, cond, eq-eqb, eqb, eqb-true, false, filter, is_none, length, map, nat_eq, nat_le, of_calls, option_copied, refl, rules, slice_get, sub-le, subst, sym, take, true, true≢false, unwrap_or, ℕ, ◌%◌, ◌&&◌, ◌*◌, ◌++◌, ◌+◌, ◌-◌, ◌/◌, ◌<◌, ◌^◌, ◌∙◌, ◌∷◌, ◌≡◌, ◌≤◌}
pub use Rattle.std.proofs.IntoIterSteps.{All-taken}
pub use Rattle.std.proofs.VecSteps.Shapes.{after}
pub use Rattle.std.proofs.lemmas.List.{length-take-le, take_all, take_at}
pub use Rattle.std.proofs.lemmas.List.Elements.{All-head, All-push, All-same, All-tail, All-weaker}
pub use Rattle.std.proofs.lemmas.Nat.Bits.{and_high_mask, ones_shl}
pub use Rattle.std.proofs.lemmas.Result.{IfOk-weaker}
pub use Rattle.std.proofs.lemmas.Simd.{map-map}
pub use Rattle.std.specs.Cmp.{and_equiv, nat_eq_equiv, on_equiv}
pub use Rattle.std.specs.Cmp.Lexicographic.{lists_equiv, pointwise}
pub use Rattle.std.specs.FinMap.{contains_key, find, get, get-entries, get-insert, len}
pub use Rattle.std.specs.List.{list_all, sum}
pub use Rattle.std.specs.Map.Iter.{TakesFirst}
pub use Rattle.std.specs.Option.{IfSome, option_map}
pub use Rattle.std.specs.Vec.Iter.{into_iter_items, into_iter_steps}
pub use Rattle.prefix_trie_bits.proofs.Model.RetainCalls.{keeps_filter}
pub use Rattle.prefix_trie_bits.proofs.Model.Members.{is-same_string}
pub use Rattle.prefix_trie_bits.proofs.Model.NodeSets.{tidy-no_entries}
pub use Rattle.prefix_trie_bits.proofs.Model.SortedListings.{found_first}
pub use Rattle.prefix_trie_bits.proofs.Model.Steps.{stays_map, stays_tidy, step_laws}
pub use Rattle.prefix_trie_bits.specs.Begins.{begins-from-masked, begins-longer, leb-past, length-first, masked-from-begins, same_bool}
pub use Rattle.prefix_trie_bits.specs.BitStrings.{bits-length, digits-keep, kept_of_none, length-digits, number-bits}
pub use Rattle.prefix_trie_bits.specs.Model.Bits.{begins, digits, number, zeros}
pub use Rattle.prefix_trie_bits.specs.Keys.{fits_back, path_within}
pub use Rattle.prefix_trie_bits.specs.Laws.Steps.{IsMap}
pub use Rattle.prefix_trie_bits.specs.Model.Counted.{CountedFrom, CountedRun}
pub use Rattle.prefix_trie_bits.specs.Model.Entries.{Entries, no_entries, with_entry, without_entry}
pub use Rattle.prefix_trie_bits.specs.Calls.Entries.{put_all}
pub use Rattle.prefix_trie_bits.specs.Model.Matches.{prefix_pair}
pub use Rattle.prefix_trie_bits.specs.Model.Nodes.{IsTidy, needed, nodes_without, with_needed}
pub use Rattle.prefix_trie_bits.specs.Model.Space.{LeavesSpace}
pub use Rattle.prefix_trie_bits.specs.Model.Selections.{listing, prefix_pairs}
pub use Rattle.prefix_trie_bits.specs.Model.Step.{Clear, Count, Done, Insert, Lpm, Match, NodeCount, Remove, Reply, State, Step, Value}
pub use Rattle.prefix_trie_bits.specs.Model.Storage.{Storage}
pub use Rattle.prefix_trie_bits.specs.Model.Visits.{ReadsExactly, visits}
pub use Rattle.prefix_trie_bits.specs.Model.Order.{listing_cmp}
pub use Rattle.prefix_trie_bits.specs.Order.{listing_total}
pub use Rattle.prefix_trie_bits.specs.declared.prefix.Refused.{Refused}
pub use Rattle.prefix_trie_table.proofs.Blocks.Tilings.{All-append_right}
pub use Rattle.prefix_trie_table.proofs.Tree.Trees.{is_none-None}
pub use Rattle.prefix_trie_table.specs.Copies.{AreCloned}
pub use Rattle.prefix_trie_table.specs.Model.Contents.{Contents}
pub use Rattle.prefix_trie_table.specs.Shape.{with_value_at}
pub use Rattle.prefix_trie_map.proofs.Listed.{listed_fit, listed_paths, may_ask_stored}
pub use Rattle.prefix_trie_map.proofs.Writing.{left_at_start, left_behind}
pub use Rattle.prefix_trie_map.specs.Copied.{CopyLaws}
pub use Rattle.prefix_trie_map.specs.Entry.{Fills, RefusesToFill, entry_map, entry_value}
pub use Rattle.prefix_trie_map.specs.Steps.{insert_reply, state, stored_state}
pub use Rattle.prefix_trie_map.specs.Writing.{ComesToEnd, GoesOver, ReturnsMap, IsFirst, StartsIn}
pub use Rattle.prefix_trie_map.specs.WritingWalks.{EndsIn, FirstIn, IsOverIn, PassesIn}
pub use Rattle.prefix_trie_map.specs.declared.map.entry.Entry.{Entry}
pub use Rattle.prefix_trie_map.specs.declared.map.writing.cursor.MapCursor.{MapCursor}
pub use Rattle.prefix_trie.specs.Laws.Putting.{Leads}
pub use Rattle.prefix_trie.specs.Model.Replay.{IsFittingCall}
pub use Rattle.prefix_trie.specs.Terms.{Joins, covers, ipv4_address, ipv4_back, longest_match}
