-- The walk has the items of the union, each with its matches.
use Rattle.std.proofs.Common.{ap, map}
use Rattle.prefix_trie_ops.specs.CoveringUnion.{with_matches}
use Rattle.prefix_trie_ops.proofs.Matched.{matched_many}
use Rattle.prefix_trie_joint.specs.Joined.{entries_of}
use Rattle.prefix_trie_joint.specs.Networks.{ip_back, ip_path}
use Rattle.prefix_trie_joint_ops.proofs.map.covering_union_walk.covering_union.Goals as goal

pub returns-clause-items : goal.returns-clause-items
returns-clause-items g c = ap (map (with_matches ip_path ip_back (entries_of c.args.left.now) (entries_of c.args.right.now))) c.union.ensures.items

pub returns-clause-at_most : goal.returns-clause-at_most
returns-clause-at_most g c = matched_many _ _ _ _ c.union.result _ c.union.ensures.at_most
