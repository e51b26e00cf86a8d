-- A field that is UTF-8 is read as a text.
use Rattle.std.proofs.Common.{inr, subst, sym}
use Rattle.std.proofs.lemmas.Result.{IfErr-weaker, IfOk-weaker}
use Rattle.route_tables.specs.Networks.{AreOfText, all_networks}
use Rattle.route_tables.specs.Reasons.{IsTextReason}
use Rattle.route_tables.proofs.Reading.LineFields.{if_line}
use Rattle.route_tables.proofs.line.read_networks.Goals as goal

pub returns-clause-read : goal.returns-clause-read
returns-clause-read c =
    IfOk-weaker c.parse_network_or_range.result _ _
    (λ networks are. (c.in-Ok.ensures.cases.1, subst (λ text. AreOfText c.args.host_bits text (all_networks networks)) c.in-Ok.ensures.cases.0 are)) c.parse_network_or_range.ensures.read

pub returns-clause-none : goal.returns-clause-none
returns-clause-none c =
    IfErr-weaker c.parse_network_or_range.result _ _
    (if_line _ _ (λ none utf8 networks are. none networks (subst (λ text. AreOfText c.args.host_bits text networks) (sym c.in-Ok.ensures.cases.0) are))) c.parse_network_or_range.ensures.none

pub returns-clause-reason : goal.returns-clause-reason
returns-clause-reason c =
    IfErr-weaker c.parse_network_or_range.result _ _
    (λ error reason. inr (c.in-Ok.ensures.cases.1, subst (λ text. IsTextReason c.args.host_bits text error) c.in-Ok.ensures.cases.0 reason)) c.parse_network_or_range.ensures.reason
