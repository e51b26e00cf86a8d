-- The invariant of `rank_values`: the networks so far have ranks, and with those still to come they are all.
use Rattle.std.proofs.Common.{length}
use Rattle.std.specs.FinMap.{len}
use Rattle.route_tables.specs.Fewest.{texts_of}
use Rattle.route_tables.proofs.Ranking.{Ranking}
use Rattle.route_tables.proofs.RankSlots.{HasRoom}
use Rattle.route_tables.proofs.fewest.rank_values.Given as goal

abbrev pub invariant-loop-network : goal.invariant-loop-network
invariant-loop-network g l =
    (goal.iterator-loop-network g).can_next l.network-iterator
    × (goal.iterator-loop-network g).is_finite l.network-iterator
    × Ranking g.P.Prefix.path g.P.Prefix.IsFitting l.network-iterator (texts_of l.texts.keys) l.ranks.entries l.table.entries
    × HasRoom (length l.network-iterator) (len l.table.entries) l.ranks
