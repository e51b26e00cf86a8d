-- The walk has no more networks than the left set.
use Rattle.prefix_trie_joint_ops.proofs.Combined.{few_networks}
use Rattle.prefix_trie_joint_ops.proofs.set.walks.intersection.Goals as goal

pub returns-clause-fits : goal.returns-clause-fits
returns-clause-fits g c = few_networks _ _ _ _ _ _ c.intersection.ensures.items c.intersection-2.ensures.items c.new.ensures c.len.ensures.few
