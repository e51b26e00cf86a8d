-- A new map is tidy, so after one insertion it has the needed nodes.
use Rattle.prefix_trie_tests.proofs.Prelude.{ℕ, ap, sym, ◌∙◌, needed, tidy-no_entries}
use Rattle.prefix_trie_tests.proofs.Ran.{nodes_of_tidy}
use Rattle.prefix_trie_tests.proofs.runs.callers.nodes_of_new.Goals as goal

pub returns-in-Ok : goal.returns-in-Ok
returns-in-Ok g c =
    let made = c.in_ok-map.ensures in
    nodes_of_tidy _ _ _ _ _ _ _ _ _ (made.nodes ∙ tidy-no_entries ℕ ∙ ap needed (sym made.entries)) c.in-Ok.ensures.counted.1
