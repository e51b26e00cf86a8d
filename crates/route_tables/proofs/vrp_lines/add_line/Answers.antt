-- A line adds what is read from it.
use Rattle.std.proofs.Common.{inl, inr, refl}
use Rattle.std.proofs.lemmas.Result.{on_ok_weaker}
use Rattle.route_tables.specs.VrpLines.{IsBlankOrHeader, IsVrpLine}
use Rattle.route_tables.specs.declared.vrp_lines.BadVrp.{BadVrp}
use Rattle.route_tables.proofs.vrp_lines.add_line.Goals as goal

pub returns-in-Ok-None : goal.returns-in-Ok-None
returns-in-Ok-None c = let blank : IsBlankOrHeader c.args.line.now = rw c.in-Ok-None.field-0-is at c.in-Ok-None.ensures in inl (blank, refl, refl)

pub returns-in-Ok-Some : goal.returns-in-Ok-Some
returns-in-Ok-Some c =
    let is : IsVrpLine c.args.host_bits c.args.line.now c.in-Ok-Some.vrp = rw c.in-Ok-Some.field-0-is at c.in-Ok-Some.ensures in
    on_ok_weaker c.add_vrp.result (λ added. inr (inl (c.in-Ok-Some.vrp, is, added, refl))) c.add_vrp.ensures

pub returns-in-Err : goal.returns-in-Err
returns-in-Err c =
    let bad : BadVrp = record { number = c.args.number; text = c.args.line; error = c.in-Err.error } in
    on_ok_weaker c.list_bad.result (λ listed. inr (inr (bad, record { named = refl; quoted = refl; is_bad = c.in-Err.ensures }, refl, listed))) c.list_bad.ensures
