-- A path has a first field.
use Rattle.route_tables.specs.Lines.{fields}
use Rattle.route_tables.proofs.RouteLines.{no_fields_path, path_of}
use Rattle.route_tables.proofs.announcements.read_path.Goals as goal

pub returns-in-None : goal.returns-in-None
returns-in-None c = (c.in-None.ensures, no_fields_path (fields c.args.path.now) c.in-None.ensures)

pub returns-in-Some : goal.returns-in-Some
returns-in-Some c = path_of (fields c.args.path.now) c.in-Some.first.now (fields c.in-Some.rest.now) c.read_hops.result c.in-Some.ensures c.read_hops.ensures
