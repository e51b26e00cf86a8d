-- The words that proofs of this crate name: of std, of the crates below, and of its own definitions.
pub use Rattle.std.proofs.Common.{Bool, Bor, Equal, Err, Greater, IfErr, IfNone, IfOk, IfSome, Less, List, MatchOption, MatchResult, MutBor, None, Ok, OnErr, OnOk, Option, Result, Some, [], add-sub_of_le, ap, ap₂, arith, cond, drop, eq-eqb, eqb-true, false, filter, get_or, if◌then◌else◌, inl, inr, is_le, is_lt, is_some, length, length-append, length-drop, lit<, map, not, pow_pos, refl, rules, set, slice_range, subst, suc, sum_by, sym, take, true, true≢false, w32, zero, ℕ, ◌%◌, ◌&&◌, ◌*◌, ◌++◌, ◌+◌, ◌-◌, ◌<◌, ◌^◌, ◌↔◌, ◌∙◌, ◌∷◌, ◌≡◌, ◌≢◌, ◌≤◌}
pub use Rattle.std.proofs.RcSteps.{none_of}
pub use Rattle.std.proofs.iter.Next.{Yields-more}
pub use Rattle.std.proofs.iter.runs.Sources.{as_is, from_front}
pub use Rattle.std.proofs.lemmas.Bool.{false≢true}
pub use Rattle.std.proofs.lemmas.List.{drop-take, get_or-drop, get_or-map, get_or-take, get_or_append_left, get_or_default, length-map, length-take-le, map-append, take-take, take_all, take_more, take_more_set}
pub use Rattle.std.proofs.lemmas.List.Elements.{All-contains_itself, All-filter, All-head, All-map, All-pop, All-same, All-tail, All-weaker, filter_passes}
pub use Rattle.std.proofs.lemmas.List.Filters.{length-filter_both}
pub use Rattle.std.proofs.lemmas.List.Sums.{count_by-le-length, length-filter, sum_by-take-drop, sum_by_push}
pub use Rattle.std.proofs.lemmas.Option.{none-some, same_Some}
pub use Rattle.std.proofs.lemmas.Result.{err_from_is_err_and}
pub use Rattle.std.specs.Prelude.{IsSomeAnd, zero}
pub use Rattle.std.proofs.lemmas.Simd.{map-map}
pub use Rattle.std.specs.Cmp.Lexicographic.{pointwise}
pub use Rattle.std.specs.Coded.{Coded-set, coded_bool}
pub use Rattle.std.specs.FinMap.{contains_key, empty_of_len, get, get-empty, len, len-empty, len-entries, retain_keys}
pub use Rattle.std.specs.Iterator.{ComparesItemsByEq, YieldsThen}
pub use Rattle.std.specs.List.{All, AllZip, Contains}
pub use Rattle.std.specs.Map.Iter.{GivesInOrder, ShowsInOrder, TakesFirst, deref}
pub use Rattle.std.specs.Option.{UnwrapsOrElse, ghost_name_of, option_copied_mut, option_map, unwrap_or}
pub use Rattle.prefix_trie_bits.proofs.Model.SplitsOff.{split_laws}
pub use Rattle.prefix_trie_bits.proofs.Model.Listings.{listing_laws}
pub use Rattle.prefix_trie_bits.proofs.Model.Matches.{match_laws}
pub use Rattle.prefix_trie_bits.proofs.Model.Members.{and-first, and-second, get-with_entry, is-same_string, needs, or-cases, or-left, same_entries, same_nodes}
pub use Rattle.prefix_trie_bits.proofs.Model.NodeListings.{listing_of_root}
pub use Rattle.prefix_trie_bits.proofs.Model.NodeSets.{AreNodes-needed, AreNodes-no_entries, AreNodes-stored, has-with_needed, key_cases, needed_insert, tidy-no_entries}
pub use Rattle.prefix_trie_bits.proofs.Model.SortedListings.{entries-retained, lt-less}
pub use Rattle.prefix_trie_bits.proofs.Model.Outermost.{IsCounted, total-number, counted-all, counted-end, counted-next, counted-start}
pub use Rattle.prefix_trie_bits.proofs.Model.Pruning.{needed_fewer}
pub use Rattle.prefix_trie_bits.proofs.Model.Steps.{stays_map}
pub use Rattle.prefix_trie_bits.proofs.Model.Storage.PreparedInsertions.{no_cell_slots_lack, no_node_slots_lack, prepared_inserts}
pub use Rattle.prefix_trie_bits.proofs.Model.Storage.Slots.{slot_laws}
pub use Rattle.prefix_trie_bits.proofs.Model.Visits.{visit_laws, visits-bound}
pub use Rattle.prefix_trie_bits.specs.BitStrings.{number-lt, number_of_digits, zero_bits}
pub use Rattle.prefix_trie_bits.specs.Model.Bits.{begins, number, zeros}
pub use Rattle.prefix_trie_bits.specs.Model.Keys.{KeyLaws, PrefixLaws}
pub use Rattle.prefix_trie_bits.specs.Keys.{back_from_bits, fits_back, path_back, path_within}
pub use Rattle.prefix_trie_bits.specs.Laws.Steps.{IsMap}
pub use Rattle.prefix_trie_bits.specs.Model.Addresses.{address_total}
pub use Rattle.prefix_trie_bits.specs.Calls.Retaining.{CallableOnEachEntry, RetainsEntriesTo, RetainsInStorage}
pub use Rattle.prefix_trie_bits.specs.Calls.Entries.{AreWithin, put_all}
pub use Rattle.prefix_trie_bits.specs.Model.Entries.{Entries, no_entries, with_entry}
pub use Rattle.prefix_trie_bits.specs.Calls.SplitsOff.{SplitsOffInStorage}
pub use Rattle.prefix_trie_bits.specs.Model.Insertion.{missing_cell_slots, missing_node_slots}
pub use Rattle.prefix_trie_bits.specs.Model.Matches.{covers, first_item, last_item, longest_match, shortest_match, prefix_pair}
pub use Rattle.prefix_trie_bits.specs.Calls.Nodes.{AreNodes}
pub use Rattle.prefix_trie_bits.specs.Model.Nodes.{IsTidy, Nodes, has_node, is_node_depth, needed, root_alone, with_needed}
pub use Rattle.prefix_trie_bits.specs.Model.Space.{LeavesSpace, MayPassLimit}
pub use Rattle.prefix_trie_bits.specs.Model.Selections.{listing, listing_after, listing_below, listing_from, prefix_pairs}
pub use Rattle.prefix_trie_bits.specs.Model.Step.{Call, CallFits, Clear, Done, Insert, Remove, RemoveChildren, RemoveKeepTree, Reply, State, Step, Value}
pub use Rattle.prefix_trie_bits.specs.Model.Storage.{InsertsInStorage, RefusesInStorage, Storage}
pub use Rattle.prefix_trie_bits.specs.Calls.Storage.{PreparesInStorage, StepByPath}
pub use Rattle.prefix_trie_bits.specs.Model.Visits.{ReadsToMatch, ReadsPath, visits, visits_to_match}
pub use Rattle.prefix_trie_bits.specs.Model.Order.{listing_cmp, same_string}
pub use Rattle.prefix_trie_bits.specs.Order.{listing_same, listing_total}
pub use Rattle.prefix_trie_bits.specs.declared.prefix.Refusal.{Refusal}
pub use Rattle.prefix_trie_bits.specs.declared.prefix.Refusal.TheVariants.{IndexRange, Memory}
pub use Rattle.prefix_trie_bits.specs.declared.prefix.Refused.{Refused}
pub use Rattle.prefix_trie_table.proofs.Lookup.EntryCovers.{covers_few}
pub use Rattle.prefix_trie_table.proofs.Tree.TableCopies.{cloned_there}
pub use Rattle.prefix_trie_table.proofs.Tree.Trees.{is_none-None}
pub use Rattle.prefix_trie_table.proofs.Walk.KeySets.{pending_again}
pub use Rattle.prefix_trie_table.specs.Bulk.{AreMatchesFound, IsMatchFound}
pub use Rattle.prefix_trie_table.specs.Copies.{AreCloned, IsCloned, IsPairCloned}
pub use Rattle.prefix_trie_table.specs.Locations.{IsSearchEnd, is_seat-prop, seat_of}
pub use Rattle.prefix_trie_table.specs.Steps.{BoundsStorageGrowth}
pub use Rattle.prefix_trie_table.specs.Model.Contents.{Contents}
pub use Rattle.prefix_trie_table.specs.Shape.{with_longest_at, with_match_at, with_stored_at, with_value_at}
pub use Rattle.prefix_trie_table.specs.Walking.Starts.{selected}
pub use Rattle.prefix_trie_table.specs.Walking.Items.{GivesOutermost}
pub use Rattle.prefix_trie_table.specs.Walking.Cursors.{GivesKey, IsCursorIn, IsCursorIn-prop, keys_to_come}
pub use Rattle.prefix_trie_table.specs.declared.allocator.node.Node.{Node}
pub use Rattle.prefix_trie_table.specs.declared.table.bulk.Found.{Found}
pub use Rattle.prefix_trie_table.specs.declared.table.cursor.Cursor.{Cursor}
pub use Rattle.prefix_trie_map.specs.Calling.{CalledAtEntry, CalledByReference, TakesEntry}
pub use Rattle.prefix_trie_map.specs.Bulk.{HaveMatches, AreFound, ReadsMore, right_for, visits_of_all}
pub use Rattle.prefix_trie_map.specs.Collected.{ManyMayPassLimit, Puts}
pub use Rattle.prefix_trie_map.specs.Copied.{CopyLaws}
pub use Rattle.prefix_trie_map.specs.Covers.{CoverLaws}
pub use Rattle.prefix_trie_map.specs.Entry.{Fills, ModifiesEntry, Occupied, RefusesToFill, Vacant, entry_value, stays_stored, with_value_in}
pub use Rattle.prefix_trie_map.specs.Lending.{lends_entry_if, lends_longest_if, lent_beside}
pub use Rattle.prefix_trie_map.specs.Listed.{ListedLaws}
pub use Rattle.prefix_trie_map.specs.Resumed.{ResumeLaws}
pub use Rattle.prefix_trie_map.specs.Steps.{insert_reply, insert_new_reply, state, storage, stored_state}
pub use Rattle.prefix_trie_map.specs.Walks.{lent_item, lent_item_mut}
pub use Rattle.prefix_trie_map.specs.Whole.{IsWhole}
pub use Rattle.prefix_trie_map.specs.Writing.{ComesToEnd, GoesOver, HasValueAt, IsFirst, StartsIn, StartsOver, IsItemAt, as_walk, keys_left, with_written}
pub use Rattle.prefix_trie_map.specs.WritingWalks.{EndsIn, FirstIn, IsOverIn, StepsIn, lends_next}
pub use Rattle.prefix_trie_map.specs.declared.map.entry.OccupiedEntry.{OccupiedEntry}
pub use Rattle.prefix_trie_map.specs.declared.map.entry.VacantEntry.{VacantEntry}
pub use Rattle.prefix_trie_map.specs.declared.map.writing.cursor.MapCursor.{MapCursor}
pub use Rattle.prefix_trie_map.specs.declared.map.writing.cursor.CursorItem.{CursorItem}
