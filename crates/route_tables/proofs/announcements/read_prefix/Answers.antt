-- The field is a prefix if it is UTF-8 and its text is one.
use Rattle.route_tables.proofs.RouteLines.{prefix_of_text}
use Rattle.route_tables.proofs.announcements.read_prefix.Goals as goal

pub returns-in-Ok : goal.returns-in-Ok
returns-in-Ok c = prefix_of_text c.args.host_bits c.args.field.now c.in-Ok.text.now c.parse_prefix.result c.in-Ok.ensures.cases.0 c.in-Ok.ensures.cases.1 c.parse_prefix.ensures
