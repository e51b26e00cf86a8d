-- Each step gives the first of the common keys, which is in both maps.
use Rattle.std.proofs.Common.{◌∙◌, inl, inr, arith, ap, length, sym}
use Rattle.std.specs.Option.{option_copied}
use Rattle.prefix_trie.specs.Terms.{prefix_pairs}
use Rattle.prefix_trie_ops.specs.Combining.{common}
use Rattle.prefix_trie_ops.proofs.Combined.{common_combines, common_first, common_some}
use Rattle.prefix_trie_ops.proofs.map.intersection_walk.IntersectionWalkIterator.next.Goals as goal

pub returns-in_default-clause-steps : goal.returns-in_default-clause-steps
returns-in_default-clause-steps g c =
    let i = c.self.inside in
    let h = c.in_default.ensures.item (common i.left.now.entries i.right.now.entries) (common_combines i.left.now.entries i.right.now.entries) in
    (sym c.self.view_is ∙ ap (prefix_pairs g.P.Prefix.back) h.0, ap (prefix_pairs g.P.Prefix.back) h.1)

pub unreachable-requires : goal.unreachable-requires
unreachable-requires g c =
    let i = c.self.inside in
    common_some g.P.Prefix.back i.left.now.entries i.right.now.entries c.in-Some.item _ _ (c.in-Some.ensures.item (common i.left.now.entries i.right.now.entries) (common_combines i.left.now.entries i.right.now.entries))
    (inl (ap option_copied c.in_default-1₀.is))

pub unreachable-requires-in_default-2₀ : goal.unreachable-requires-in_default-2₀
unreachable-requires-in_default-2₀ g c =
    let i = c.self.inside in
    common_some g.P.Prefix.back i.left.now.entries i.right.now.entries c.in-Some.item _ _ (c.in-Some.ensures.item (common i.left.now.entries i.right.now.entries) (common_combines i.left.now.entries i.right.now.entries))
    (inr (ap option_copied c.in_default-2₀.is))

pub returns-clause-steps : goal.returns-clause-steps
returns-clause-steps g c =
    let i = c.self.inside in
    sym c.self.view_is
    ∙ common_first g.P.Prefix.back i.left.now.entries i.right.now.entries c.in-Some.item _ _ (c.in-Some.ensures.item (common i.left.now.entries i.right.now.entries) (common_combines i.left.now.entries i.right.now.entries))
    c.in-Some-1₀.left c.in-Some-2₀.right c.in-Some-1₀.is c.in-Some-2₀.is

pub returns-clause-goes : goal.returns-clause-goes
returns-clause-goes g c = record {
  on = λ h. (tt, tt, omega (arith, ap length (returns-clause-steps g c)));
  keeps = tt;
  rests = λ h. tt;
}
