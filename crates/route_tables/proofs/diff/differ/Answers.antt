-- Tables differ at a network if only one has it, or if their values differ.
use Rattle.std.proofs.Common.{rules}
use Rattle.route_tables.proofs.diff.differ.Goals as goal

pub returns-in-Both : goal.returns-in-Both
returns-in-Both c = search rules
