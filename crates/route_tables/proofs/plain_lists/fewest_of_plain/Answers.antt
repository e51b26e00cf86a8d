-- No route has a value, and the networks of each family are the fewest that cover its addresses.
use Rattle.prefix_trie.specs.Terms.{no_entries}
use Rattle.route_tables.specs.Lines.{table_lines}
use Rattle.route_tables.specs.Loads.{with_routes}
use Rattle.route_tables.proofs.Reading.AddressLists.{paths_short}
use Rattle.route_tables.proofs.Reading.PlainLists.{fewest_of_lines}
use Rattle.route_tables.proofs.plain_lists.fewest_of_plain.Goals as goal

pub returns-clause-fewest : goal.returns-clause-fewest
returns-clause-fewest c =
    let (routes, has, adds) = c.in_ok-skipped.ensures.added in
    let set = c.in_ok-set.ensures (with_routes routes no_entries) (adds.covers no_entries c.in_ok-list.ensures.none) in
    fewest_of_lines c.lookup_laws.ensures c.match_laws.ensures c.listing_laws.ensures c.args.reading (table_lines c.args.text.now) routes c.in_ok-set.set _ has (adds.no_values c.if-list.false).1 set
    (record { short = paths_short 32 c.in_ok-collect_networks.field-0.items; bare = c.in_ok-collect_networks.ensures.bare; fewest = c.in_ok-collect_networks.ensures.fewest })
    (record { short = paths_short 128 c.in_ok-collect_networks-2.field-0.items; bare = c.in_ok-collect_networks-2.ensures.bare; fewest = c.in_ok-collect_networks-2.ensures.fewest })
