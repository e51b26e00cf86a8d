-- No key of a family is longer than its width, so the network of a key has the key as its path.
use Rattle.route_tables.proofs.Paths.{paths_stored}
use Rattle.route_tables.proofs.table.stored_paths.Goals as goal

pub returns : goal.returns
returns c = paths_stored c.family_laws.ensures c.args.table.now.ipv4.entries c.args.table.now.ipv6.entries c.len.ensures.whole.is_map.keys_within c.len-2.ensures.whole.is_map.keys_within
    c.path_laws.ensures.of_back c.path_laws-2.ensures.of_back
