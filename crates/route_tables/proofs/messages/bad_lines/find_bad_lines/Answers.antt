-- The loop over the lines of a text: the bad ones so far are found.
use Rattle.std.proofs.Common.{rules, ◌≡◌, ◌∙◌, true, [], ap, arith, sym}
use Rattle.route_tables.specs.Lines.{lines, table_lines}
use Rattle.route_tables.proofs.Reading.FoundLines.{find_end, find_on}
use Rattle.route_tables.proofs.Lists.{none_of}
use Rattle.route_tables.proofs.messages.bad_lines.find_bad_lines.Goals as goal

pub loop-rest-preserved : goal.loop-rest-preserved
loop-rest-preserved c = record {
  few = omega (arith, c.split_line.ensures.shorter, c.loop-rest.invariant.few);
  finds =
      find_on c.args.reading (table_lines c.args.text.now) (lines c.loop-rest.rest.now) (lines c.split_line.result.1.now) c.split_line.result.0.now c.loop-rest.number c.loop-rest.found
      c.find_in_line.new.found c.split_line.ensures.first c.in_ok-find_in_line.ensures c.loop-rest.invariant.finds;
}

pub returns : goal.returns
returns c =
    let test : c.is_empty.result ≡ true = search rules in
    let none : lines c.loop-rest.rest.now ≡ [] = ap lines (none_of c.loop-rest.rest.now (sym c.is_empty.ensures ∙ test)) in
    find_end c.args.reading (table_lines c.args.text.now) (lines c.loop-rest.rest.now) c.loop-rest.number c.loop-rest.found none c.loop-rest.invariant.finds
