-- The walk over the ranks gives the networks in listing order, each with its rank.
use Rattle.route_tables.specs.Fewest.{texts_of}
use Rattle.route_tables.proofs.Ranks.{named_walk}
use Rattle.route_tables.proofs.fewest.named.Goals as goal

pub loop-network-init : goal.loop-network-init
loop-network-init g c =
    let walk = named_walk g.P.Prefix.back (texts_of c.args.texts.now) c.args.ranks.now.entries _ c.into_iter-network-iterator.ensures.into_iter_gives.0 in
    (tt, tt, rw c.new-networks.ensures.items walk)
