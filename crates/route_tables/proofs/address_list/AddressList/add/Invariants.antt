-- The invariant of `add`: the routes of the lines so far are added, and the line number does not overflow.
use Rattle.std.proofs.Common.{◌+◌, ◌≤◌, length}
use Rattle.route_tables.specs.Lines.{lines, table_lines}
use Rattle.route_tables.proofs.Reading.ReadLists.{Reads}
use Rattle.route_tables.proofs.address_list.AddressList.add.Given as goal

abbrev pub invariant-loop-rest : goal.invariant-loop-rest
invariant-loop-rest l =
    record { few : l.number + length l.rest ≤ length l.text; reads : Reads l.reading (table_lines l.text) (lines l.rest) l.number l.fn.self l.self l.skipped.items }

abbrev pub decreases-loop-rest : goal.decreases-loop-rest
decreases-loop-rest l = length l.rest
