-- Each network is inserted with the rank of its value, so at the end all networks have ranks.
use Rattle.std.proofs.Common.{rules, ap, subst}
use Rattle.std.proofs.lemmas.Result.{err_from_is_err_and}
use Rattle.std.specs.FinMap.{len}
use Rattle.route_tables.specs.Fewest.{texts_of, Ranks}
use Rattle.route_tables.proofs.Ranking.{ranking_fits, ranking_on, ranking_start}
use Rattle.route_tables.proofs.RankSlots.{one_less, room_full, room_on, room_start}
use Rattle.route_tables.proofs.fewest.rank_values.Goals as goal

pub loop-network-init : goal.loop-network-init
loop-network-init g c =
    let gives = c.into_iter-network-iterator.ensures.into_iter_gives in
    (tt, tt, ranking_start g.P.Prefix.path g.P.Prefix.IsFitting _ g.P.Prefix.back c.put_laws.ensures c.args.table.now.entries gives.3.is_map.keys_within _ gives.0 _ (ap texts_of c.new-texts.ensures.empty) _ (search rules), room_start _ _ _ gives.1 (search rules) (search rules))

pub set_rank-requires : goal.set_rank-requires
set_rank-requires g c =
    ranking_fits g.P.Prefix.path g.P.Prefix.IsFitting _ g.P.Prefix.back c.put_laws.ensures (c.in-Some.network, c.in-Some.value.now) _ _ _ _ c.args.table.now.entries c.in-Some.ensures.steps c.loop-network.invariant.2

pub loop-network-preserved : goal.loop-network-preserved
loop-network-preserved g c =
    let new = subst (λ text. Ranks (texts_of c.loop-network.texts.keys) (texts_of c.rank_of.new.texts.keys) text c.in_ok-rank.rank) c.as_str.ensures c.in_ok-rank.ensures in (
      tt,
      tt,
      ranking_on g.P.Prefix.path g.P.Prefix.IsFitting _ g.P.Prefix.back c.put_laws.ensures (c.in-Some.network, c.in-Some.value.now) _ _ _ _ _ _ _ c.args.table.now.entries
          c.in-Some.ensures.steps new c.in_ok-set_rank.ensures.puts.entries c.loop-network.invariant.2,
      room_on g.P.Prefix.path c.loop-network.ranks c.set_rank.new.ranks c.in-Some.network c.in_ok-rank.rank _ _ (len c.args.table.now.entries)
          (one_less c.in-Some.ensures.steps) c.in_ok-set_rank.ensures.puts c.loop-network.invariant.3,
    )

pub returns-in_err-set_rank-clause-full : goal.returns-in_err-set_rank-clause-full
returns-in_err-set_rank-clause-full g c =
    let p = err_from_is_err_and c.from_residual-in_err-set_rank.result c.from_residual-in_err-set_rank.ensures.1 in
    rw (p.1, p.2)
    (λ range. room_full g.P.Prefix.path c.loop-network.ranks c.loop-network.ranks c.in-Some.network c.in_ok-rank.rank _ _ (len c.args.table.now.entries)
    (one_less c.in-Some.ensures.steps) c.loop-network.invariant.3 (c.in_err-set_rank.ensures.full range))
