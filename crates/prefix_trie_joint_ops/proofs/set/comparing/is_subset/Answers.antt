-- One joint set has each network of another exactly if this holds in both families.
use Rattle.std.proofs.Common.{true}
use Rattle.prefix_trie_joint_ops.proofs.Compared.{each_else, each_then}
use Rattle.prefix_trie_joint_ops.proofs.set.comparing.is_subset.Goals as goal

pub returns-then-is_subset : goal.returns-then-is_subset
returns-then-is_subset g c = each_then _ _ _ _ true c.is_subset.ensures c.if-is_subset.true c.is_subset-then-is_subset.ensures

pub returns-else-is_subset : goal.returns-else-is_subset
returns-else-is_subset g c = each_else _ _ _ _ true c.is_subset.ensures c.if-is_subset.false
