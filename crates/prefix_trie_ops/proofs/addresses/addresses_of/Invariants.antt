-- The invariant: the builder has the addresses of the networks read so far.
use Rattle.address_ranges.specs.Builders.{gathered}
use Rattle.prefix_trie_ops.proofs.Gathering.{AreRead}
use Rattle.prefix_trie_ops.proofs.addresses.addresses_of.Given as goal

abbrev pub invariant-loop-network : goal.invariant-loop-network
invariant-loop-network g l =
    (goal.iterator-loop-network g).can_next l.network-iterator
    × (goal.iterator-loop-network g).is_finite l.network-iterator
    × AreRead g.P.R.Key.bit_width g.P.Prefix.back l.map.entries l.network-iterator (gathered l.builder)
