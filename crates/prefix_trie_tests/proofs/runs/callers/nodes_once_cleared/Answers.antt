-- A cleared map is tidy, so after one insertion it has the needed nodes.
use Rattle.prefix_trie_tests.proofs.Prelude.{IfOk-weaker}
use Rattle.prefix_trie_tests.proofs.Ran.{nodes_cleared}
use Rattle.prefix_trie_tests.proofs.runs.callers.nodes_once_cleared.Goals as goal

pub returns : goal.returns
returns g c =
    IfOk-weaker c.run.result _ _ (λ replies counted. nodes_cleared _ _ _ _ _ _ _ _ _ counted.1) c.run.ensures.counted
