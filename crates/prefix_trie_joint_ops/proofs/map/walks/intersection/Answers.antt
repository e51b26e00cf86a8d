-- The walk has no more items than the left map has entries.
use Rattle.prefix_trie_joint_ops.proofs.Combined.{common_walk_few}
use Rattle.prefix_trie_joint_ops.proofs.map.walks.intersection.Goals as goal

pub returns-clause-fits : goal.returns-clause-fits
returns-clause-fits g c = common_walk_few _ _ _ _ _ _ c.intersection.ensures.items c.intersection-2.ensures.items c.len.ensures.few
