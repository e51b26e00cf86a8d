-- A cleared map has only the root, which is tidy for no entries.
use Rattle.prefix_trie_tests.proofs.Prelude.{sym, ap, ◌∙◌, needed, tidy-no_entries}
use Rattle.prefix_trie_tests.proofs.any_map.use_emptied.Goals as goal

pub insert_and_remove-requires-clause-tidy : goal.insert_and_remove-requires-clause-tidy
insert_and_remove-requires-clause-tidy g c = c.clear.ensures.nodes ∙ tidy-no_entries _ ∙ ap needed (sym c.clear.ensures.entries)
