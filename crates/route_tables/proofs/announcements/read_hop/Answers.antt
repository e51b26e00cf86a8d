-- A field that is neither a set nor an AS number is no hop.
use Rattle.std.proofs.Common.{◌∙◌, refl, sym}
use Rattle.route_tables.proofs.RouteLines.{no_hop}
use Rattle.route_tables.proofs.announcements.read_hop.Goals as goal

pub returns-in-None : goal.returns-in-None
returns-in-None c = (refl, no_hop c.args.field.now (sym c.is_of_set.ensures ∙ c.if-is_of_set.false) c.in-None.ensures)
