-- The keys of the smallest map of units are a smallest set, in which no key covers another or has its sibling beside it.
use Rattle.std.proofs.Common.{◌≡◌, ◌∙◌, ℕ, Bool, true, false, List, ap, refl, subst, sym}
use Rattle.std.proofs.lemmas.Result.{err_from_is_err_and}
use Rattle.std.specs.FinMap.{contains_key}
use Rattle.prefix_trie.specs.Terms.{needed}
use Rattle.prefix_trie_table.specs.Model.Contents.{Contents}
use Rattle.prefix_trie_ops.specs.Covered.{is_below_another}
use Rattle.prefix_trie_ops.specs.SmallestSets.{CoverMayExceedLimit, CoverSameAddresses, HasNoSiblings, IsSmallestCover}
use Rattle.prefix_trie_ops.proofs.SmallestSets.{cover_exceeds, covers_same, no_siblings, none_covered, smallest_cover}
use Rattle.prefix_trie_ops.proofs.set.optimal.aggregated.Goals as goal

abbrev limit_of : Contents (Unit {0}) → ℕ
limit_of m = m.space.limit

pub returns-clause-addresses : goal.returns-clause-addresses
returns-clause-addresses g c =
    let width = g.P.R.Key.bit_width in
    subst (λ (m : Contents (Unit {0})). CoverSameAddresses width m.entries c.args.set.now.entries) (sym c.from_map.ensures)
    (subst (λ (n : Contents (Unit {0})). CoverSameAddresses width c.in_ok-made.made.entries n.entries) c.as_map.ensures
    (covers_same width c.in_ok-made.made.entries c.as_map.result.now.entries (c.in_ok-made.ensures.values (λ x y _. refl))))

pub returns-clause-smallest : goal.returns-clause-smallest
returns-clause-smallest g c =
    let width = g.P.R.Key.bit_width in
    subst (λ (m : Contents (Unit {0})). IsSmallestCover width m.entries) (sym c.from_map.ensures)
    (smallest_cover width c.in_ok-made.made.entries (c.in_ok-made.ensures.smallest (λ x y _. refl)))

pub returns-clause-uncovered : goal.returns-clause-uncovered
returns-clause-uncovered g c =
    subst (λ (m : Contents (Unit {0})). (s : List Bool) → contains_key m.entries s ≡ true → is_below_another m.entries s ≡ false) (sym c.from_map.ensures)
    (none_covered _ (λ u. refl) c.in_ok-made.made.entries (c.in_ok-made.ensures.none_redundant (λ x y _. refl)))

pub returns-clause-no_siblings : goal.returns-clause-no_siblings
returns-clause-no_siblings g c =
    let width = g.P.R.Key.bit_width in
    subst (λ (m : Contents (Unit {0})). HasNoSiblings m.entries) (sym c.from_map.ensures)
    (no_siblings c.lookup_laws.ensures width c.in_ok-made.made.entries c.len.ensures.whole.is_map.keys_within (smallest_cover width c.in_ok-made.made.entries (c.in_ok-made.ensures.smallest (λ x y _. refl))))

pub returns-clause-nodes : goal.returns-clause-nodes
returns-clause-nodes g c = subst (λ (m : Contents (Unit {0})). m.nodes ≡ needed m.entries) (sym c.from_map.ensures) c.in_ok-made.ensures.nodes

pub returns-clause-limit : goal.returns-clause-limit
returns-clause-limit g c = ap limit_of c.from_map.ensures ∙ c.in_ok-made.ensures.limit ∙ ap limit_of c.as_map.ensures

pub returns-in_err-made-clause-range : goal.returns-in_err-made-clause-range
returns-in_err-made-clause-range g c =
    let p = err_from_is_err_and c.from_residual.result c.from_residual.ensures.1 in
    rw (p.1, p.2) (λ range. subst (λ (m : Contents (Unit {0})). CoverMayExceedLimit g.P.R.Key.bit_width m.space.limit m.entries) c.as_map.ensures
    (cover_exceeds g.P.R.Key.bit_width c.as_map.result.now.space.limit c.as_map.result.now.entries (c.in_err-made.ensures.range range (λ x y _. refl))))
