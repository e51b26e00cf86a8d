-- Networks of IPv4 addresses are kept or read as IPv4 networks.
use Rattle.std.proofs.Common.{◌∙◌, ap, sym}
use Rattle.route_tables.specs.Questions.{as_mapped}
use Rattle.route_tables.proofs.questions.read_mapped.Goals as goal

pub returns-in-AsIpv4 : goal.returns-in-AsIpv4
returns-in-AsIpv4 c = c.as_ipv4.ensures ∙ ap (λ mapped. as_mapped mapped c.args.network) (sym c.in-AsIpv4.is)

pub returns-in-Kept : goal.returns-in-Kept
returns-in-Kept c = ap (λ mapped. as_mapped mapped c.args.network) (sym c.in-Kept.is)
