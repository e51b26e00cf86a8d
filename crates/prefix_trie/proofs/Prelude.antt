-- The words that proofs of this crate name: of std, of the crates below, and of its own definitions.
pub use Rattle.std.proofs.Common.{All, Bool, Equal, Err, Greater, IfErr, IfNone, IfOk, Less, List, MatchOption, MatchResult, MutBor, None, Ok, Option, Ordering, Result, Some, T, [], ap, append-nil, append_assoc, ap₂, arith, bit_and, cond, drop, eq-eqb, eqb, eqb-true, false, filter, get_or, inl, inr, is_eq, is_lt, is_none, is_some, length, length-append, map, min, nat_eq, nat_le, not, of_calls, option_copied, refl, rules, slice_get, sub-le, subst, suc, sym, take, true, true≢false, unwrap_or, vec_capacity, vec_len, ℕ, ◌%◌, ◌&&◌, ◌*◌, ◌++◌, ◌+◌, ◌-◌, ◌/◌, ◌<◌, ◌^◌, ◌||◌, ◌↔◌, ◌∙◌, ◌∷◌, ◌≡◌, ◌≢◌, ◌≤◌, ◌⊎◌}
pub use Rattle.std.proofs.IntoIterSteps.{All-taken}
pub use Rattle.std.proofs.Math.ListN.{drop_of_length-le}
pub use Rattle.std.proofs.Math.Seq.{drop-cons, take-append_seam}
pub use Rattle.std.proofs.VecSteps.Shapes.{after}
pub use Rattle.std.proofs.lemmas.Bool.{cases_lt, false≢true}
pub use Rattle.std.proofs.lemmas.List.{length-map, length-take, length-take-le, nil_from_length, take-append-drop, take_all, take_at}
pub use Rattle.std.proofs.lemmas.List.Elements.{All-cons, All-head, All-map, All-nil, All-push, All-same, All-tail, All-weaker}
pub use Rattle.std.proofs.lemmas.Nat.{shr_below}
pub use Rattle.std.proofs.lemmas.Nat.Bits.{and_high_mask, ones_shl}
pub use Rattle.std.proofs.lemmas.Option.{slice_get-get_or, slice_get_within}
pub use Rattle.std.proofs.lemmas.Result.{IfOk-weaker, err_from_is_err_and}
pub use Rattle.std.proofs.lemmas.Simd.{map-map}
pub use Rattle.std.specs.Bool.{Decides, one_answer}
pub use Rattle.std.specs.Cmp.{and_equiv, nat_eq_equiv, on_equiv}
pub use Rattle.std.specs.Cmp.Lexicographic.{lists_equiv, pointwise, pointwise_decides}
pub use Rattle.std.specs.FinMap.{contains_key, contains_key-keys, entries_sorted, find, get, get-empty, get-entries, get-insert, is_sorted, len, len-entries, same_entries_map}
pub use Rattle.std.specs.FinMap.Entries.{below_all}
pub use Rattle.std.specs.Fn.{Called, Mut}
pub use Rattle.std.specs.Iterator.{Drains, HoldsAlong, Yields}
pub use Rattle.std.specs.Iterator.Adapters.{map_source, map_steps}
pub use Rattle.std.specs.List.{list_all, list_any, sum}
pub use Rattle.std.specs.Map.Iter.{GivesInOrder, TakesFirst}
pub use Rattle.std.specs.Option.{IfSome, option_map, option_or}
pub use Rattle.std.specs.Ordering.{on}
pub use Rattle.std.specs.Vec.Iter.{into_iter_items, into_iter_steps}
pub use Rattle.std.specs.declared.iter.Map.{Map}
pub use Rattle.prefix_trie_bits.proofs.Model.RetainCalls.{keeps_filter}
pub use Rattle.prefix_trie_bits.proofs.Model.Counted.{StepsSoFar, all_fit_more, counted_laws, run_counted, step_pushed}
pub use Rattle.prefix_trie_bits.proofs.Model.Matches.{match_laws, one_of_length}
pub use Rattle.prefix_trie_bits.proofs.Model.Members.{and-first, and-join, and-second, get-with_entry, get-without_entry, is-same_string, of-key, or-left, or-right, same_entries, same_string-is, some-value}
pub use Rattle.prefix_trie_bits.proofs.Model.NodeSets.{tidy-no_entries}
pub use Rattle.prefix_trie_bits.proofs.Model.SortedListings.{each-behind, found_first, not_itself, sorted-head, sorted-tail, t-true, true-t}
pub use Rattle.prefix_trie_bits.proofs.Model.LengthTests.{at_least_step}
pub use Rattle.prefix_trie_bits.proofs.Model.Runs.{run_of_stored}
pub use Rattle.prefix_trie_bits.proofs.Model.Steps.{stays_map, stays_tidy, step_laws}
pub use Rattle.prefix_trie_bits.specs.Begins.{begins-from-masked, begins-from-take, begins-length, begins-linear, begins-longer, begins-take, begins-trans, leb-past, length-first, masked-from-begins, same_bool, take-begins}
pub use Rattle.prefix_trie_bits.specs.BitStrings.{bits-length, digits-keep, kept_of_none, length-digits, number-bits, number_of_digits, take-digits}
pub use Rattle.prefix_trie_bits.specs.Model.Bits.{begins, digits, number, zeros}
pub use Rattle.prefix_trie_bits.specs.Model.Keys.{PrefixLaws}
pub use Rattle.prefix_trie_bits.specs.Keys.{fits_back, len_back, narrow_width, path_back, path_length, path_within}
pub use Rattle.prefix_trie_bits.specs.Laws.Nodes.{NodeLaws}
pub use Rattle.prefix_trie_bits.specs.Laws.Pruning.{PruningLaws}
pub use Rattle.prefix_trie_bits.specs.Laws.Steps.{IsMap}
pub use Rattle.prefix_trie_bits.specs.Calls.Retaining.{RetainsEntries, RetainsEntriesTo, CallableOnEachEntry, RetainsInStorage}
pub use Rattle.prefix_trie_bits.specs.Model.Counted.{CountedFrom, CountedRun}
pub use Rattle.prefix_trie_bits.specs.Calls.Entries.{AreWithin, put_all}
pub use Rattle.prefix_trie_bits.specs.Model.Entries.{Entries, no_entries, with_entry, without_entry}
pub use Rattle.prefix_trie_bits.specs.Calls.SplitsOff.{SplitsOffInStorage}
pub use Rattle.prefix_trie_bits.specs.Calls.Matches.{IsLongestMatch}
pub use Rattle.prefix_trie_bits.specs.Model.Matches.{shortest_match, prefix_pair}
pub use Rattle.prefix_trie_bits.specs.Calls.Nodes.{AreNodes}
pub use Rattle.prefix_trie_bits.specs.Model.Nodes.{IsTidy, Nodes, needed, nodes_without, with_needed}
pub use Rattle.prefix_trie_bits.specs.Model.Space.{LeavesSpace}
pub use Rattle.prefix_trie_bits.specs.Model.Selections.{listing, listing_after, listing_below, listing_from, prefix_pairs}
pub use Rattle.prefix_trie_bits.specs.Model.Step.{Call, Clear, Count, Done, Insert, Lpm, Match, NodeCount, Remove, RemoveChildren, RemoveKeepTree, Reply, State, Step, Value}
pub use Rattle.prefix_trie_bits.specs.Calls.Storage.{StepByPath}
pub use Rattle.prefix_trie_bits.specs.Model.Storage.{StepInStorage, Storage}
pub use Rattle.prefix_trie_bits.specs.Model.Visits.{ReadsExactly, visits}
pub use Rattle.prefix_trie_bits.specs.Model.Order.{listing_cmp, same_string}
pub use Rattle.prefix_trie_bits.specs.Order.{listing_total}
pub use Rattle.prefix_trie_bits.specs.declared.prefix.Refusal.TheVariants.{IndexRange, Memory}
pub use Rattle.prefix_trie_bits.specs.declared.prefix.Refused.{Refused}
pub use Rattle.prefix_trie_table.proofs.Blocks.Tilings.{All-append_right}
pub use Rattle.prefix_trie_table.proofs.Tree.Trees.{is_none-None}
pub use Rattle.prefix_trie_table.proofs.Walk.KeySets.{bare, sorted_mapped}
pub use Rattle.prefix_trie_table.specs.Copies.{AreCloned}
pub use Rattle.prefix_trie_table.specs.Model.Contents.{Contents}
pub use Rattle.prefix_trie_table.specs.Shape.{with_value_at}
pub use Rattle.prefix_trie_map.proofs.Listed.{listed_fit, listed_paths, may_ask_stored}
pub use Rattle.prefix_trie_map.proofs.NewKeys.{entry_twice}
pub use Rattle.prefix_trie_map.proofs.Resumed.{resume_laws}
pub use Rattle.prefix_trie_map.proofs.Writing.{left_at_start, left_behind, none_left}
pub use Rattle.prefix_trie_map.specs.Copied.{CopyLaws}
pub use Rattle.prefix_trie_map.specs.Entry.{Fills, ModifiesEntry, RefusesToFill, entry_key, entry_map, entry_path, entry_value}
pub use Rattle.prefix_trie_map.specs.Steps.{insert_reply, state, storage, stored_state}
pub use Rattle.prefix_trie_map.specs.Walks.{lent_item}
pub use Rattle.prefix_trie_map.specs.Whole.{IsWhole}
pub use Rattle.prefix_trie_map.specs.Writing.{ComesToEnd, GoesOver, ReturnsMap, IsFirst, StartsIn, keys_left}
pub use Rattle.prefix_trie_map.specs.WritingWalks.{EndsIn, FirstIn, IsOverIn, PassesIn}
pub use Rattle.prefix_trie_map.specs.declared.map.entry.Entry.{Entry}
pub use Rattle.prefix_trie_map.specs.declared.map.entry.Entry.TheVariants.{Occupied, Vacant}
pub use Rattle.prefix_trie_map.specs.declared.map.writing.cursor.MapCursor.{MapCursor}
pub use Rattle.prefix_trie.specs.Laws.Comparing.{EqualLaws}
pub use Rattle.prefix_trie.specs.Laws.Joining.{JoinLaws, join_all, joined_by, with_value}
pub use Rattle.prefix_trie.specs.Laws.Lookups.{IsUncovered, LookupLaws}
pub use Rattle.prefix_trie.specs.Laws.Networks.{NetworkLaws}
pub use Rattle.prefix_trie.specs.Laws.Numbers.{NumberLaws}
pub use Rattle.prefix_trie.specs.Laws.Paging.{PageLaws}
pub use Rattle.prefix_trie.specs.Laws.Paths.{PathLaws}
pub use Rattle.prefix_trie.specs.Laws.Putting.{Leads, PutLaws}
pub use Rattle.prefix_trie.specs.Laws.Stored.{StoredLaws}
pub use Rattle.prefix_trie.specs.Model.Replay.{IsFittingCall, call_of, calls_of, replies_of, reply_of}
pub use Rattle.prefix_trie.specs.Rewriting.{AreOrdered, OrderedIn, Rewrites, RewritesIn, is_left, keyed}
pub use Rattle.prefix_trie.specs.Sets.{CalledAtKey, TakesKey, as_item, same_keys, same_parts}
pub use Rattle.prefix_trie.specs.Terms.{Joins, covers, ipv4_address, ipv4_back, longest_match}
