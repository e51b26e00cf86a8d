-- A network adds its addresses to those of its family.
use Rattle.std.proofs.Common.{ℕ, List, subst, sym}
use Rattle.std.proofs.lemmas.Result.{on_ok_weaker}
use Rattle.prefix_trie.specs.Terms.{with_entry}
use Rattle.prefix_trie_bits.specs.Networks.{network_path}
use Rattle.prefix_trie_bits.proofs.Model.Matches.{match_laws}
use Rattle.prefix_trie_joint.specs.Networks.{ip_path}
use Rattle.address_ranges.specs.Builders.{gathered}
use Rattle.route_tables.specs.AddressLists.{AreCovered, is_in}
use Rattle.route_tables.proofs.Reading.AddressLists.{ipv4_added, ipv6_added, path_short}
use Rattle.route_tables.proofs.address_list.AddressList.add_network.Goals as goal

pub returns-in-V4-clause-covers : goal.returns-in-V4-clause-covers
returns-in-V4-clause-covers c = on_ok_weaker c.add_network.result (λ adds m value old.
    subst (λ network. AreCovered (with_entry m (ip_path network) value) (is_in (gathered c.add_network.new.self) (gathered c.args.self.now.ipv6))) (sym c.in-V4.is)
    (ipv4_added (match_laws (List ℕ)) m (network_path 32 c.in-V4.network) value (gathered c.args.self.now.ipv4) (gathered c.add_network.new.self) (gathered c.args.self.now.ipv6)
    (path_short 32 c.in-V4.network) adds old)) c.add_network.ensures.added

pub returns-in-V6-clause-covers : goal.returns-in-V6-clause-covers
returns-in-V6-clause-covers c = on_ok_weaker c.add_network-in-V6.result (λ adds m value old.
    subst (λ network. AreCovered (with_entry m (ip_path network) value) (is_in (gathered c.args.self.now.ipv4) (gathered c.add_network-in-V6.new.self))) (sym c.in-V6.is)
    (ipv6_added (match_laws (List ℕ)) m (network_path 128 c.in-V6.network) value (gathered c.args.self.now.ipv4) (gathered c.args.self.now.ipv6) (gathered c.add_network-in-V6.new.self)
    (path_short 128 c.in-V6.network) adds old)) c.add_network-in-V6.ensures.added
