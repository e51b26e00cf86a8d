-- The walk has the networks of the union, each with its matches.
use Rattle.std.proofs.Common.{◌+◌, ◌≤◌, ap, map, subst, sym}
use Rattle.std.specs.FinMap.{len}
use Rattle.std.proofs.lemmas.List.{length-map}
use Rattle.prefix_trie_ops.specs.CoveringUnion.{with_matching_keys}
use Rattle.prefix_trie_joint.specs.Joined.{keys_of}
use Rattle.prefix_trie_joint.specs.Networks.{ip_back, ip_path}
use Rattle.prefix_trie_joint_ops.proofs.set.covering_union_walk.covering_union.Goals as goal

pub returns-clause-items : goal.returns-clause-items
returns-clause-items g c = ap (map (with_matching_keys ip_path ip_back (keys_of c.args.left.now) (keys_of c.args.right.now))) c.union.ensures.items

pub returns-clause-at_most : goal.returns-clause-at_most
returns-clause-at_most g c =
    subst (λ l. l ≤ len (keys_of c.args.left.now) + len (keys_of c.args.right.now))
    (sym (length-map c.union.result (with_matching_keys ip_path ip_back (keys_of c.args.left.now) (keys_of c.args.right.now)))) c.union.ensures.at_most
