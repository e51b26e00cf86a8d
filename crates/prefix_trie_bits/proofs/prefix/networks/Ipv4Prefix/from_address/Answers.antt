-- An IPv4 network of an address is one of its bits.
use Rattle.prefix_trie_bits.proofs.Prelude.{rules}
use Rattle.prefix_trie_bits.proofs.prefix.networks.Ipv4Prefix.from_address.Goals as goal

pub returns : goal.returns
returns c = search rules
