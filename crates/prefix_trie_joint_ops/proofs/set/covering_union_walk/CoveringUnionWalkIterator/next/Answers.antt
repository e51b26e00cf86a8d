-- Each step gives the first network of the union with its matches, which two lookups find.
use Rattle.std.proofs.Common.{◌∙◌, ◌∷◌, ap, ap₂, arith, length, map, sym}
use Rattle.prefix_trie_ops.specs.CoveringUnion.{with_matching_keys}
use Rattle.prefix_trie_joint.specs.Joined.{keys_of}
use Rattle.prefix_trie_joint.specs.Networks.{ip_back, ip_path}
use Rattle.prefix_trie_joint_ops.proofs.set.covering_union_walk.CoveringUnionWalkIterator.next.Goals as goal

pub returns-in_default-clause-steps : goal.returns-in_default-clause-steps
returns-in_default-clause-steps g c =
    let i = c.self.inside in
    let shown = map (with_matching_keys ip_path ip_back (keys_of i.left.now) (keys_of i.right.now)) in
    (sym c.self.view_is ∙ ap shown c.in_default.ensures.steps.0, ap shown c.in_default.ensures.steps.1)

pub returns-clause-steps : goal.returns-clause-steps
returns-clause-steps g c =
    let i = c.self.inside in
    let shown = map (with_matching_keys ip_path ip_back (keys_of i.left.now) (keys_of i.right.now)) in
    sym c.self.view_is ∙ ap shown c.in-Some.ensures.steps
    ∙ ap₂ (λ l r. (c.in-Some.network, l, r) ∷ shown c.next.new.self) (sym c.get_lpm-left.ensures) (sym c.get_lpm-right.ensures)

pub returns-clause-goes : goal.returns-clause-goes
returns-clause-goes g c = record {
  on = λ h. (tt, tt, omega (arith, ap length (returns-clause-steps g c)));
  keeps = tt;
  rests = λ h. tt;
}
