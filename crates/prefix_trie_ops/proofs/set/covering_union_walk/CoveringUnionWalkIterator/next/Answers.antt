-- Each step gives the first key of the union with its matches, which two lookups find.
use Rattle.std.proofs.Common.{◌∙◌, ◌∷◌, All, ap, ap₂, arith, length, map, subst, sym}
use Rattle.std.proofs.lemmas.List.Elements.{All-head, All-rest}
use Rattle.prefix_trie_ops.specs.CoveringUnion.{with_matching_keys}
use Rattle.prefix_trie_ops.proofs.set.covering_union_walk.CoveringUnionWalkIterator.next.Goals as goal

pub returns-in_default-clause-steps : goal.returns-in_default-clause-steps
returns-in_default-clause-steps g c =
    let i = c.self.inside in
    let shown = map (with_matching_keys g.P.Prefix.path g.P.Prefix.back i.left.now.entries i.right.now.entries) in
    (sym c.self.view_is ∙ ap shown c.in_default.ensures.steps.0, ap shown c.in_default.ensures.steps.1)

pub get_lpm-left-requires : goal.get_lpm-left-requires
get_lpm-left-requires g c = All-head g.P.Prefix.IsFitting _ _ (subst (All g.P.Prefix.IsFitting) c.in-Some.ensures.steps c.self.invariant)

pub get_lpm-right-requires : goal.get_lpm-right-requires
get_lpm-right-requires g c = All-head g.P.Prefix.IsFitting _ _ (subst (All g.P.Prefix.IsFitting) c.in-Some.ensures.steps c.self.invariant)

pub invariant_of-self-2 : goal.invariant_of-self-2
invariant_of-self-2 g c = All-rest g.P.Prefix.IsFitting _ c.next.new.self _ c.in-Some.ensures.steps c.self.invariant

pub returns-clause-steps : goal.returns-clause-steps
returns-clause-steps g c =
    let i = c.self.inside in
    let shown = map (with_matching_keys g.P.Prefix.path g.P.Prefix.back i.left.now.entries i.right.now.entries) in
    sym c.self.view_is ∙ ap shown c.in-Some.ensures.steps
    ∙ ap₂ (λ l r. (c.in-Some.prefix, l, r) ∷ shown c.next.new.self) (sym c.get_lpm-left.ensures) (sym c.get_lpm-right.ensures)

pub returns-clause-goes : goal.returns-clause-goes
returns-clause-goes g c = record {
  on = λ h. (tt, tt, omega (arith, ap length (returns-clause-steps g c)));
  keeps = tt;
  rests = λ h. tt;
}
