-- Two maps are equal if their walks are, item by item.
use Rattle.prefix_trie_map.proofs.Prelude.{◌∙◌, ◌&&◌, Bool, pointwise, lent_item}
use Rattle.prefix_trie_map.proofs.Equality.{eq_is}
use Rattle.prefix_trie_map.proofs.map.equality.PrefixMapPartialEq.eq.Goals as goal

pub returns : goal.returns
returns g c =
    let equal : g.row.P.Denot × g.row.T.Denot → g.row.P.Denot × g.row.T.Denot → Bool = λ x y. g.P.PartialEq.eq x.0 y.0 && g.T.PartialEq.eq x.1 y.1 in
    eq_is lent_item equal c.eq.result c.iter.result c.iter-2.result c.eq.ensures.ran
    ∙ (λ i. pointwise equal (c.iter.ensures.items i) (c.iter-2.ensures.items i))
