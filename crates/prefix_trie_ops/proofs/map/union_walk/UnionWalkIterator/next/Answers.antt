-- Each step gives the first item of the union, which is in one of the two maps.
use Rattle.std.proofs.Common.{◌∙◌, arith, ap, length, sym}
use Rattle.prefix_trie.specs.Terms.{prefix_pairs}
use Rattle.prefix_trie_ops.specs.Merging.{union_of}
use Rattle.prefix_trie_ops.proofs.Combined.{union_combines, union_first, union_some}
use Rattle.prefix_trie_ops.proofs.map.union_walk.UnionWalkIterator.next.Goals as goal

pub returns-in_default-clause-steps : goal.returns-in_default-clause-steps
returns-in_default-clause-steps g c =
    let i = c.self.inside in
    let h = c.in_default.ensures.item (union_of i.left.now.entries i.right.now.entries) (union_combines i.left.now.entries i.right.now.entries) in
    (sym c.self.view_is ∙ ap (prefix_pairs g.P.Prefix.back) h.0, ap (prefix_pairs g.P.Prefix.back) h.1)

pub unreachable-requires : goal.unreachable-requires
unreachable-requires g c =
    let i = c.self.inside in
    union_some g.P.Prefix.back i.left.now.entries i.right.now.entries c.in-Some.item _ _ (c.in-Some.ensures.item (union_of i.left.now.entries i.right.now.entries) (union_combines i.left.now.entries i.right.now.entries))
    (sym c.of.ensures ∙ c.in_default-of.is)

pub returns-clause-steps : goal.returns-clause-steps
returns-clause-steps g c =
    let i = c.self.inside in
    sym c.self.view_is
    ∙ union_first g.P.Prefix.back i.left.now.entries i.right.now.entries c.in-Some.item _ _ (c.in-Some.ensures.item (union_of i.left.now.entries i.right.now.entries) (union_combines i.left.now.entries i.right.now.entries))
    c.in-Some-of.side (sym c.of.ensures ∙ c.in-Some-of.is)

pub returns-clause-goes : goal.returns-clause-goes
returns-clause-goes g c = record {
  on = λ h. (tt, tt, omega (arith, ap length (returns-clause-steps g c)));
  keeps = tt;
  rests = λ h. tt;
}
