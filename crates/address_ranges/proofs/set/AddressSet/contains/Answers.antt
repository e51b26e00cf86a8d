-- The rank of an address decides.
use Rattle.std.proofs.Common.{◌∙◌, ap, subst, sym}
use Rattle.prefix_trie_bits.specs.Model.Bits.{number}
use Rattle.address_ranges.specs.Breaks.{IsRank, has_address, numbers}
use Rattle.address_ranges.proofs.Breaks.{has-rank}
use Rattle.address_ranges.proofs.set.AddressSet.contains.Goals as goal

pub returns : goal.returns
returns g c =
    let n = number (g.P.R.Key.bits c.args.address) in
    sym (has-rank (numbers g.P.R.Key.bits c.self.inside.breaks.items) n c.rank.result
    (subst (λ ks. IsRank (numbers g.P.R.Key.bits ks) n c.rank.result) c.deref.ensures.value c.rank.ensures)) ∙ ap (λ ns. has_address ns n) c.self.view_is
