-- The value bits under the match mask are the matches of a node that are still to come.
use Rattle.prefix_trie_table.proofs.Prelude.{begins, subst, HoldsValues}
use Rattle.prefix_trie_table.proofs.Lookup.NodeCovers.{all_left}
use Rattle.prefix_trie_table.proofs.table.cover.matches_in.Goals as goal

pub returns : goal.returns
returns g c = λ q left.
    all_left c.args.here.level c.args.here.node.value_bitmap c.match_mask.result q
    (subst (λ r. HoldsValues c.match_mask.result (λ s. begins s r)) left c.match_mask.ensures)
