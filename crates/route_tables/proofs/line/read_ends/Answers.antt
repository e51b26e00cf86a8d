-- Two fields that are UTF-8 are read as texts.
use Rattle.std.proofs.Common.{inr, subst, sym}
use Rattle.std.proofs.lemmas.Result.{IfErr-weaker, IfOk-weaker}
use Rattle.route_tables.specs.Networks.{AreOfEnds, all_networks}
use Rattle.route_tables.specs.Reasons.{IsEndsReason}
use Rattle.route_tables.proofs.Reading.LineFields.{if_line}
use Rattle.route_tables.proofs.line.read_ends.Goals as goal

pub returns-clause-read : goal.returns-clause-read
returns-clause-read c =
    IfOk-weaker c.parse_range.result _ _
    (λ networks are. (
      c.in-Ok-Ok.ensures.cases.1,
      c.in-Ok-Ok.ensures'.cases.1,
      subst (λ first. AreOfEnds first c.args.last.now (all_networks networks)) c.in-Ok-Ok.ensures.cases.0
          (subst (λ last. AreOfEnds c.in-Ok-Ok.first.now last (all_networks networks)) c.in-Ok-Ok.ensures'.cases.0 are),
    )) c.parse_range.ensures.read

pub returns-clause-none : goal.returns-clause-none
returns-clause-none c =
    IfErr-weaker c.parse_range.result _ _
    (if_line _ _ (λ none is_first is_last networks are. none networks
    (subst (λ first. AreOfEnds first c.in-Ok-Ok.last.now networks) (sym c.in-Ok-Ok.ensures.cases.0)
    (subst (λ last. AreOfEnds c.args.first.now last networks) (sym c.in-Ok-Ok.ensures'.cases.0) are)))) c.parse_range.ensures.none

pub returns-clause-reason : goal.returns-clause-reason
returns-clause-reason c =
    IfErr-weaker c.parse_range.result _ _
    (λ error reason. inr (
      c.in-Ok-Ok.ensures.cases.1,
      c.in-Ok-Ok.ensures'.cases.1,
      subst (λ first. IsEndsReason first c.args.last.now error) c.in-Ok-Ok.ensures.cases.0
          (subst (λ last. IsEndsReason c.in-Ok-Ok.first.now last error) c.in-Ok-Ok.ensures'.cases.0 reason),
    )) c.parse_range.ensures.reason
