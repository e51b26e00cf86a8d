-- The address is the one of the network's bits.
use Rattle.prefix_trie_bits.proofs.Prelude.{rules}
use Rattle.prefix_trie_bits.proofs.prefix.networks.Ipv6Prefix.address.Goals as goal

pub returns-clause-value : goal.returns-clause-value
returns-clause-value c = search rules
