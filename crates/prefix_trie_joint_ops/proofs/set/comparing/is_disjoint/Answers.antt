-- Two joint sets have no common network exactly if this holds in both families.
use Rattle.std.proofs.Common.{false}
use Rattle.prefix_trie_joint_ops.proofs.Compared.{each_else, each_then}
use Rattle.prefix_trie_joint_ops.proofs.set.comparing.is_disjoint.Goals as goal

pub returns-then-is_disjoint : goal.returns-then-is_disjoint
returns-then-is_disjoint g c = each_then _ _ _ _ false c.is_disjoint.ensures c.if-is_disjoint.true c.is_disjoint-then-is_disjoint.ensures

pub returns-else-is_disjoint : goal.returns-else-is_disjoint
returns-else-is_disjoint g c = each_else _ _ _ _ false c.is_disjoint.ensures c.if-is_disjoint.false
