-- Two maps are equal if their walks are, item by item.
use Rattle.std.proofs.Common.{◌∙◌, ◌&&◌, Bool}
use Rattle.std.specs.Cmp.Lexicographic.{pointwise}
use Rattle.prefix_trie.specs.Terms.{lent_item}
use Rattle.prefix_trie_map.proofs.Equality.{eq_is}
use Rattle.prefix_trie_joint.specs.contracts.prefix.IpPrefixPartialEq.TheImpl.{ghosts as networks}
use Rattle.prefix_trie_joint.specs.declared.prefix.IpPrefix.{IpPrefix}
use Rattle.prefix_trie_joint.proofs.map.equality.JointPrefixMapPartialEq.eq.Goals as goal

pub returns : goal.returns
returns g c =
    let equal : IpPrefix × g.row.T.Denot → IpPrefix × g.row.T.Denot → Bool = λ x y. networks.eq x.0 y.0 && g.T.PartialEq.eq x.1 y.1 in
    eq_is lent_item equal c.eq.result c.iter.result c.iter-2.result c.eq.ensures.ran
    ∙ (λ i. pointwise equal (c.iter.ensures.items i) (c.iter-2.ensures.items i))
