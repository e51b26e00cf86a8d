-- The set has the addresses that are gathered.
use Rattle.address_ranges.specs.Breaks.{has_address}
use Rattle.address_ranges.specs.Builders.{gathered}
use Rattle.route_tables.proofs.Reading.AddressLists.{finished}
use Rattle.route_tables.proofs.address_list.AddressList.finish.Goals as goal

pub returns : goal.returns
returns c m old =
    finished m (gathered c.args.self.ipv4) (gathered c.args.self.ipv6) (has_address c.in_ok-finish.field-0) (has_address c.in_ok-finish-2.field-0) c.in_ok-finish.ensures
    c.in_ok-finish-2.ensures old
