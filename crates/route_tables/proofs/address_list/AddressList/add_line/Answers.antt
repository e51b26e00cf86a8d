-- A line that is not read is a bad line with this reason.
use Rattle.std.proofs.Common.{refl, subst}
use Rattle.route_tables.specs.Reasons.{IsReason}
use Rattle.route_tables.specs.Routes.{IsBad}
use Rattle.route_tables.specs.declared.line.ReadError.TheVariants.{Line}
use Rattle.route_tables.proofs.Loads.{lists_bad, refuses_bad}
use Rattle.route_tables.proofs.address_list.AddressList.add_line.Goals as goal

pub returns-in-Err-Line-clause-listed : goal.returns-in-Err-Line-clause-listed
returns-in-Err-Line-clause-listed c =
    let bad : IsBad c.args.reading c.args.line.now = rw c.in-Err-Line.field-0-is at c.in-Err-Line.ensures.bad in
    let reason : IsReason c.args.reading c.args.line.now (Line c.in-Err-Line.error) = subst (IsReason c.args.reading c.args.line.now) c.in-Err-Line.field-0-is c.in-Err-Line.ensures.reason in
    lists_bad c.args.reading c.args.number c.args.line.now _ c.in-Err-Line.error c.skip_line.result c.args.skipped.now.items c.skip_line.new.skipped.items c.skip_line.ensures.listed
    refl refl c.in-Err-Line.error-is bad reason

pub returns-in-Err-Line-clause-refused : goal.returns-in-Err-Line-clause-refused
returns-in-Err-Line-clause-refused c =
    let bad : IsBad c.args.reading c.args.line.now = rw c.in-Err-Line.field-0-is at c.in-Err-Line.ensures.bad in
    let reason : IsReason c.args.reading c.args.line.now (Line c.in-Err-Line.error) = subst (IsReason c.args.reading c.args.line.now) c.in-Err-Line.field-0-is c.in-Err-Line.ensures.reason in
    refuses_bad c.args.reading c.args.number c.args.line.now _ c.in-Err-Line.error c.skip_line.result c.skip_line.ensures.refused refl refl c.in-Err-Line.error-is bad reason
