-- A line is blank or a header, or its fields are those of a VRP, or it is bad.
use Rattle.std.proofs.Common.{◌∙◌, sym, true≢false}
use Rattle.route_tables.proofs.VrpSteps.{bad_line, vrp_line}
use Rattle.route_tables.proofs.vrp_lines.read_vrp.Goals as goal

pub returns-then-has_bare_return : goal.returns-then-has_bare_return
returns-then-has_bare_return c = record {
  is_some = λ blank. true≢false (sym c.if-has_bare_return.true ∙ c.has_bare_return.ensures ∙ blank.1);
  is_none = λ vrp is. true≢false (sym c.if-has_bare_return.true ∙ c.has_bare_return.ensures ∙ is.1);
  reason = sym c.has_bare_return.ensures ∙ c.if-has_bare_return.true;
}

pub returns-then-is_blank_or_header : goal.returns-then-is_blank_or_header
returns-then-is_blank_or_header c = (c.is_blank_or_header.ensures.0 c.if-is_blank_or_header.true, sym c.has_bare_return.ensures ∙ c.if-has_bare_return.false)

pub returns-in-Ok : goal.returns-in-Ok
returns-in-Ok c =
    vrp_line c.args.host_bits c.args.line.now c.first_field.result.now c.second_field.result.now c.third_field.result.now c.first_field.ensures c.second_field.ensures c.third_field.ensures c.in-Ok.vrp
    (sym c.has_bare_return.ensures ∙ c.if-has_bare_return.false) c.in-Ok.ensures

pub returns-in-Err : goal.returns-in-Err
returns-in-Err c =
    bad_line c.args.host_bits c.args.line.now c.first_field.result.now c.second_field.result.now c.third_field.result.now c.first_field.ensures c.second_field.ensures c.third_field.ensures c.in-Err.error
    (λ blank. true≢false (sym (c.is_blank_or_header.ensures.1 blank.0) ∙ c.if-is_blank_or_header.false)) c.in-Err.ensures
