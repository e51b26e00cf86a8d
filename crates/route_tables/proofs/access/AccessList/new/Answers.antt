-- A list without entries has rules alone.
use Rattle.std.proofs.Common.{subst, sym}
use Rattle.route_tables.specs.Rules.{HasRules}
use Rattle.route_tables.proofs.AccessLists.{no_rules}
use Rattle.route_tables.proofs.access.AccessList.new.Goals as goal

pub invariant_of-result : goal.invariant_of-result
invariant_of-result c = subst HasRules (sym c.in_ok-table.ensures.entries) no_rules
