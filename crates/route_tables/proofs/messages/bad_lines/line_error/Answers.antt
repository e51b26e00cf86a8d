-- A line that is read is good, and the reason of another one is that of `read_line`.
use Rattle.std.proofs.Common.{subst}
use Rattle.route_tables.specs.Networks.{all_networks}
use Rattle.route_tables.specs.Reasons.{IsReason}
use Rattle.route_tables.specs.Routes.{IsBad}
use Rattle.route_tables.specs.declared.line.ReadError.TheVariants.{Line}
use Rattle.route_tables.proofs.Reading.FoundLines.{good_of_read}
use Rattle.route_tables.proofs.messages.bad_lines.line_error.Goals as goal
use Rattle.route_tables.proofs.messages.bad_lines.line_error.Goals.{in-Ok, in-Err-Line, in-Err-Memory}

pub returns : goal.returns
returns c =
    elim c.match-read_line.branch [
      | in-Ok w ↦ rw w.result-is (good_of_read c.args.reading c.args.line.now (λ route. all_networks route.0) (λ route. route.1.now) _ w.in-Ok.ensures.read)
      | in-Err-Line w ↦
          let bad : IsBad c.args.reading c.args.line.now = rw w.in-Err-Line.field-0-is at w.in-Err-Line.ensures.bad in
          let reason : IsReason c.args.reading c.args.line.now (Line w.in-Err-Line.error) = subst (IsReason c.args.reading c.args.line.now) w.in-Err-Line.field-0-is w.in-Err-Line.ensures.reason in
          rw w.result-is (bad, reason)
      | in-Err-Memory w ↦ rw w.result-is tt
    ]
