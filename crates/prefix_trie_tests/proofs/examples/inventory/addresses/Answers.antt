-- The number that `address_count` returns is the number of addresses in all IPv4 networks, by `network_laws`.
use Rattle.prefix_trie_tests.proofs.Prelude.{sym, ◌∙◌}
use Rattle.prefix_trie_tests.proofs.examples.inventory.addresses.Goals as goal

pub returns : goal.returns
returns g c = sym (c.network_laws.ensures.ipv4_count c.address_count.result c.address_count.ensures.key) ∙ c.address_count.ensures.count
