-- The clone has the same items, since numbers are their own clones, and `==` of lists is reflexive.
use Rattle.prefix_trie_tests.proofs.Prelude.{ℕ, ◌&&◌, nat_eq, List, Bool, ap, ◌∙◌, and_equiv, on_equiv, nat_eq_equiv, pointwise, lists_equiv, listing, prefix_pairs, Contents}
use Rattle.prefix_trie_tests.proofs.collecting.equals_its_copy.Goals as goal

pub returns : goal.returns
returns g c =
    let equal : g.row.P.Denot × ℕ → g.row.P.Denot × ℕ → Bool = λ x y. g.P.PartialEq.eq x.0 y.0 && nat_eq x.1 y.1 in
    let items : Contents ℕ → List (g.row.P.Denot × ℕ) = λ m. prefix_pairs g.P.Prefix.back (listing m.entries) in
    let lawful = lists_equiv (and_equiv (on_equiv (λ e. e.0) g.met.P.Eq.laws) (on_equiv (λ e. e.1) nat_eq_equiv)) in
    c.eq.ensures ∙ ap (λ m. pointwise equal (items c.args.map.now) (items m)) (c.in_ok-copy.ensures.same (λ x y e. e)) ∙ lawful.refl (items c.args.map.now)
