-- The invariant: the entries so far, with those that are kept of the entries to come, are all that are kept.
use Rattle.std.proofs.Common.{map}
use Rattle.prefix_trie.specs.Terms.{lent_item}
use Rattle.address_ranges.specs.Breaks.{has_address}
use Rattle.route_tables.proofs.CoveredEntries.{has_all, KeptSoFar}
use Rattle.route_tables.proofs.address_sets.covered.Given as goal

abbrev pub invariant-loop-network : goal.invariant-loop-network
invariant-loop-network g l =
    (goal.iterator-loop-network g).can_next l.network-iterator
    × (goal.iterator-loop-network g).is_finite l.network-iterator
    × KeptSoFar g.P.R.Key.bit_width g.P.Prefix.path g.P.Prefix.back (has_all g.P.R.Key.bit_width (has_address l.set)) l.table.entries l.network-iterator (map lent_item l.entries.items)
