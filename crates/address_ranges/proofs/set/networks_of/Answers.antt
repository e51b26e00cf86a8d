-- The set has the addresses of the range, and no others.
use Rattle.std.proofs.Common.{◌∙◌, ◌||◌, ap, map}
use Rattle.std.proofs.lemmas.Result.{IfOk-weaker}
use Rattle.prefix_trie_bits.specs.Model.Bits.{number}
use Rattle.address_ranges.specs.Breaks.{has_address}
use Rattle.address_ranges.specs.Networks.{is_between}
use Rattle.address_ranges.proofs.Covering.{fewest_same}
use Rattle.address_ranges.proofs.set.networks_of.Goals as goal

pub returns-clause-fewest : goal.returns-clause-fewest
returns-clause-fewest g c =
    let bits = g.P.R.Key.bits in
    IfOk-weaker c.collect_networks.result _ _
    (λ networks are. fewest_same g.P.R.Key.bit_width _ (is_between (number (bits c.args.first)) (number (bits c.args.last))) (map g.P.Prefix.path networks.items)
    (λ n lt. c.in_ok-insert_range.ensures.added n lt ∙ ap (λ ns. has_address ns n || is_between (number (bits c.args.first)) (number (bits c.args.last)) n) c.new-range.ensures) are) c.collect_networks.ensures.fewest
