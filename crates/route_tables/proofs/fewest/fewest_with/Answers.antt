-- The fewest networks of the addresses, each with the only value, are the fewest with the same values.
use Rattle.std.proofs.Common.{map}
use Rattle.std.proofs.lemmas.Result.{IfOk-weaker}
use Rattle.prefix_trie_bits.specs.Keys.{path_within}
use Rattle.address_ranges.specs.Breaks.{has_address}
use Rattle.route_tables.proofs.OneValue.{fewest_of_one, lent_pairs, short_paths}
use Rattle.route_tables.proofs.fewest.fewest_with.Goals as goal

pub returns : goal.returns
returns g c =
    IfOk-weaker c.each_with.result _ _ (λ pairs is.
    fewest_of_one c.lookup_laws.ensures c.match_laws.ensures c.listing_laws.ensures g.P.R.Key.bit_width c.args.value.now c.args.table.now.entries c.requires
    (has_address c.in_ok-addresses_of.field-0) c.in_ok-addresses_of.ensures (map g.P.Prefix.path c.in_ok-networks.networks.items)
    (short_paths g.P.R.Key.bit_width g.P.Prefix.path g.P.Prefix.IsFitting (path_within g.met.P.Prefix.prefix_laws) c.in_ok-networks.networks.items c.in_ok-networks.ensures.fit)
    c.in_ok-networks.ensures.fewest g.P.Prefix.back _
    (lent_pairs g.P.R.Key.bit_width g.P.Prefix.path g.P.Prefix.back c.args.value c.in_ok-networks.networks.items c.in_ok-networks.ensures.bare pairs.items is)) c.each_with.ensures
