-- A new list covers nothing.
use Rattle.std.proofs.Common.{ℕ, List, refl}
use Rattle.prefix_trie_bits.proofs.Model.Matches.{match_laws}
use Rattle.address_ranges.specs.Builders.{gathered}
use Rattle.route_tables.proofs.Reading.AddressLists.{none_read}
use Rattle.route_tables.proofs.Reading.ReadLists.{nothing}
use Rattle.route_tables.proofs.address_list.AddressList.new.Goals as goal

pub returns-clause-none : goal.returns-clause-none
returns-clause-none c =
    none_read (match_laws (List ℕ)) (gathered c.in_ok-new.field-0) (gathered c.in_ok-new-2.field-0) (nothing gathered c.in_ok-new.field-0 c.in_ok-new.ensures (λ n. refl))
    (nothing gathered c.in_ok-new-2.field-0 c.in_ok-new-2.ensures (λ n. refl))
