-- What one line shows is what is read from it.
use Rattle.std.proofs.Common.{◌∙◌, inr, refl}
use Rattle.route_tables.specs.Announcements.{IsRouteLine}
use Rattle.route_tables.specs.Routes.{IsBlank}
use Rattle.route_tables.specs.declared.commands.validations.Validated.{Validated}
use Rattle.route_tables.proofs.CheckSteps.{on_ok}
use Rattle.route_tables.proofs.ValidationSteps.{blank_has_none, of_none, of_route}
use Rattle.route_tables.proofs.commands.validations.validate_line.Goals as goal

pub returns-in-Ok-Some-clause-validates : goal.returns-in-Ok-Some-clause-validates
returns-in-Ok-Some-clause-validates g c =
    let mid : Validated = record { seen = c.count_one.new.self; counts = c.args.validated.now.counts } in
    let is : IsRouteLine c.args.validating.host_bits c.args.line.now c.in-Ok-Some.route = rw c.in-Ok-Some.field-0-is at c.in-Ok-Some.ensures in
    of_route c.args.validating c.args.vrps.now c.args.line.now c.in-Ok-Some.route c.args.validated.now mid c.validate_route.new.validated c.args.out.now c.validate_route.new.out
    c.validate_route.result is refl c.count_one.ensures c.validate_route.ensures.validates

pub returns-in-Ok-Some-clause-good : goal.returns-in-Ok-Some-clause-good
returns-in-Ok-Some-clause-good g c =
    let is : IsRouteLine c.args.validating.host_bits c.args.line.now c.in-Ok-Some.route = rw c.in-Ok-Some.field-0-is at c.in-Ok-Some.ensures in
    on_ok c.validate_route.result _ (λ _. inr (c.in-Ok-Some.route, is))

pub returns-in-Ok-None-clause-validates : goal.returns-in-Ok-None-clause-validates
returns-in-Ok-None-clause-validates g c =
    let after : Validated = record { seen = c.count_one.new.self; counts = c.args.validated.now.counts } in
    let blank : IsBlank c.args.line.now = rw c.in-Ok-None.field-0-is at c.in-Ok-None.ensures in
    of_none c.args.validating c.args.vrps.now c.args.line.now c.args.validated.now after c.args.out.now _ (blank_has_none c.args.validating.host_bits c.args.line.now blank) refl
    c.count_one.ensures

pub returns-in-Err-clause-validates : goal.returns-in-Err-clause-validates
returns-in-Err-clause-validates g c =
    let after : Validated = record { seen = c.skip_or_refuse.new.self; counts = c.args.validated.now.counts } in
    of_none c.args.validating c.args.vrps.now c.args.line.now c.args.validated.now after c.args.out.now c.skip_or_refuse.result c.in-Err.ensures.is_none refl
    (c.skip_or_refuse.ensures.count ∙ c.count_one.ensures)
