-- The loop over the lines of a text: the routes of the lines so far are added.
use Rattle.std.proofs.Common.{rules, arith, subst, sym}
use Rattle.std.proofs.lemmas.Result.{err_from_is_err_and}
use Rattle.route_tables.specs.Lines.{lines, table_lines}
use Rattle.route_tables.proofs.Reading.ReadLists.{Reads, reads_error, reads_on, reads_start}
use Rattle.route_tables.proofs.address_list.AddressList.add.Goals as goal

pub loop-rest-preserved : goal.loop-rest-preserved
loop-rest-preserved c = record {
  few = omega (arith, c.split_line.ensures.shorter, c.loop-rest.invariant.few);
  reads =
      reads_on c.args.reading (table_lines c.args.text.now) (lines c.loop-rest.rest.now) (lines c.split_line.result.1.now) c.split_line.result.0.now c.loop-rest.number
      c.args.self.now c.loop-rest.self c.add_line.new.self c.loop-rest.skipped.items c.add_line.new.skipped.items
      c.split_line.ensures.first c.in_ok-add_line.ensures.added c.in_ok-add_line.ensures.listed c.loop-rest.invariant.reads;
}

pub loop-rest-init : goal.loop-rest-init
loop-rest-init c = record {
  few = search rules;
  reads = subst (λ rest. Reads c.args.reading (table_lines c.args.text.now) (lines rest) 0 c.args.self.now c.args.self.now c.new-skipped.result.items) (sym c.skip_mark-rest.ensures)
      (reads_start c.args.reading (table_lines c.args.text.now) c.args.self.now c.new-skipped.result.items c.new-skipped.ensures.items);
}

pub returns-in_err-add_line-clause-first_bad : goal.returns-in_err-add_line-clause-first_bad
returns-in_err-add_line-clause-first_bad c =
    let p = err_from_is_err_and c.from_residual.result c.from_residual.ensures.1 in
    rw (p.1, p.2)
    (reads_error c.args.reading (table_lines c.args.text.now) (lines c.loop-rest.rest.now) (lines c.split_line.result.1.now) c.split_line.result.0.now c.loop-rest.number
    c.args.self.now c.loop-rest.self c.loop-rest.skipped.items c.in_err-add_line.field-0.0 c.split_line.ensures.first c.in_err-add_line.ensures.refused c.loop-rest.invariant.reads)
