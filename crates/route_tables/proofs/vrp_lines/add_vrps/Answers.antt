-- The loop over the lines of a text: the VRPs of the lines so far are added.
use Rattle.std.proofs.Common.{◌≡◌, ◌∙◌, true, [], ap, arith, rules, sym}
use Rattle.route_tables.specs.Lines.{lines, table_lines}
use Rattle.route_tables.proofs.Lists.{none_of}
use Rattle.route_tables.proofs.VrpSteps.{vrps_end, vrps_on}
use Rattle.route_tables.proofs.vrp_lines.add_vrps.Goals as goal

pub loop-rest-preserved : goal.loop-rest-preserved
loop-rest-preserved c = record {
  few = omega (arith, c.split_line.ensures.shorter, c.loop-rest.invariant.few);
  have =
      vrps_on c.args.host_bits (table_lines c.args.text.now) c.args.vrps.now.items (lines c.loop-rest.rest.now) (lines c.split_line.result.1.now) c.split_line.result.0.now c.loop-rest.number
      c.loop-rest.vrps.items c.add_line.new.vrps.items c.loop-rest.bad.items c.add_line.new.bad.items c.split_line.ensures.first c.in_ok-add_line.ensures c.loop-rest.invariant.have;
}

pub returns : goal.returns
returns c =
    let test : c.is_empty.result ≡ true = search rules in
    let none : lines c.loop-rest.rest.now ≡ [] = ap lines (none_of c.loop-rest.rest.now (sym c.is_empty.ensures ∙ test)) in
    vrps_end c.args.host_bits (table_lines c.args.text.now) c.args.vrps.now.items (lines c.loop-rest.rest.now) c.loop-rest.number c.loop-rest.vrps.items c.loop-rest.bad.items none c.loop-rest.invariant.have
