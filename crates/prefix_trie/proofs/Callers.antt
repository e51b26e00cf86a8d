-- Lemmas that a caller's proof cites where no law can be called: on the test of `retain`, the
-- closure of `and_modify(..).or_insert(..)`, loops over a writing walk, `==` of numbers and
-- networks, reading in pages, the prefixes to come of a walk, maps that stay tidy, and steps by
-- paths.
pub use Rattle.prefix_trie_bits.proofs.Model.RetainCalls.{may_ask_always, keeps_filter}
pub use Rattle.prefix_trie.proofs.ModifiedEntries.{modified_or_put}
pub use Rattle.prefix_trie.proofs.Rewriting.{HasRewrittenIn, left_in, starts_ordered, goes_on_rewriting, ends_rewriting, rewritten}
pub use Rattle.prefix_trie.proofs.Comparing.{numbers_same, networks_same}
pub use Rattle.prefix_trie.proofs.Paging.{read_more, read_so_far, read_to_end, all_read, page_begins, page_goes_on}
pub use Rattle.prefix_trie.proofs.Putting.{fit_in_order}
pub use Rattle.prefix_trie.proofs.TidyMaps.{tidy_with, tidy_without}
pub use Rattle.prefix_trie.proofs.ByPrefix.{insert_step, remove_step, keep_tree_step, children_step, clear_step}
