-- An IPv4 network stays.
use Rattle.std.proofs.Common.{◌∙◌, ap, sym}
use Rattle.route_tables.specs.Questions.{as_ipv4}
use Rattle.route_tables.proofs.questions.as_ipv4.Goals as goal

pub returns-in-V4 : goal.returns-in-V4
returns-in-V4 c = c.in-V4.is ∙ ap as_ipv4 (sym c.in-V4.is)

pub returns-in-V6 : goal.returns-in-V6
returns-in-V6 c = c.ipv4_of.ensures ∙ ap as_ipv4 (sym c.in-V6.is)
