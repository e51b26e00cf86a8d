-- A network that is written has host bits, which are refused.
use Rattle.std.proofs.Common.{subst, sym}
use Rattle.std.proofs.lemmas.Result.{IfErr-weaker}
use Rattle.route_tables.specs.Reasons.{IsSlashReason}
use Rattle.route_tables.proofs.network.parse_with_length.Goals as goal

pub returns-in-Ok-clause-reason : goal.returns-in-Ok-clause-reason
returns-in-Ok-clause-reason c =
    IfErr-weaker c.without_host_bits.result _ _
    (λ error (is, refused, has). subst (IsSlashReason c.args.host_bits c.args.text.now) (sym is) (refused, (c.in-Ok.network, c.in-Ok.ensures.value.network, has))) c.without_host_bits.ensures.reason
