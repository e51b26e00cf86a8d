-- The route has a state by the VRPs, is counted, and is printed unless only counts are.
use Rattle.std.proofs.Common.{refl}
use Rattle.route_tables.specs.declared.commands.validations.Validated.{Validated}
use Rattle.route_tables.proofs.ValidationSteps.{route_counted, route_printed}
use Rattle.route_tables.proofs.commands.validations.validate_route.Goals as goal

pub returns-in-Each-clause-validates : goal.returns-in-Each-clause-validates
returns-in-Each-clause-validates g c =
    let after : Validated = record { seen = c.args.validated.now.seen; counts = c.count_state.new.counts } in
    route_printed c.args.verdicts c.args.vrps.now c.args.route.now c.validate-validity.result c.args.validated.now after c.args.out.now c.print_state.new.out c.print_state.result c.in-Each.is
    c.validate-validity.ensures c.count_state.ensures refl c.print_state.ensures.printed c.print_state.ensures.output

pub returns-in-Counts-clause-validates : goal.returns-in-Counts-clause-validates
returns-in-Counts-clause-validates g c =
    let after : Validated = record { seen = c.args.validated.now.seen; counts = c.count_state.new.counts } in
    route_counted c.args.verdicts c.args.vrps.now c.args.route.now c.validate-validity.result c.args.validated.now after c.args.out.now _ c.in-Counts.is c.validate-validity.ensures c.count_state.ensures refl
