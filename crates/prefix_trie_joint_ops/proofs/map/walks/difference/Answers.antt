-- The walk has no more items than the left map has entries.
use Rattle.prefix_trie_joint_ops.proofs.Combined.{few_items}
use Rattle.prefix_trie_joint_ops.proofs.map.walks.difference.Goals as goal

pub returns-clause-fits : goal.returns-clause-fits
returns-clause-fits g c = few_items _ _ _ _ _ _ c.difference.ensures.items c.difference-2.ensures.items c.len.ensures.few
