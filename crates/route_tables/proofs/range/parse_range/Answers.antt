-- Two texts are those of at most one range.
use Rattle.std.proofs.Common.{inr}
use Rattle.std.proofs.lemmas.Result.{IfErr-weaker}
use Rattle.route_tables.specs.Networks.{AreOfEnds, AreOfRange}
use Rattle.route_tables.proofs.Ranges.{none_along, one_range}
use Rattle.route_tables.proofs.range.parse_range.Goals as goal

pub returns-clause-none : goal.returns-clause-none
returns-clause-none c =
    none_along c.range_networks.result (AreOfRange c.in-Ok-Ok.first c.in-Ok-Ok.last) (AreOfEnds c.args.first.now c.args.last.now)
    (one_range c.args.first.now c.args.last.now c.in-Ok-Ok.first c.in-Ok-Ok.last c.in-Ok-Ok.ensures.value c.in-Ok-Ok.ensures'.value) c.range_networks.ensures.none

pub returns-clause-reason : goal.returns-clause-reason
returns-clause-reason c =
    IfErr-weaker c.range_networks.result _ _
    (λ error reason. inr (c.in-Ok-Ok.first, c.in-Ok-Ok.last, c.in-Ok-Ok.ensures.value, c.in-Ok-Ok.ensures'.value, reason)) c.range_networks.ensures.reason
