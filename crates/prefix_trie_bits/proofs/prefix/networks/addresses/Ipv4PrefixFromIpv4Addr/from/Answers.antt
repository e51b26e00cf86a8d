-- A network of one address has its bits and all of their length.
use Rattle.prefix_trie_bits.proofs.Prelude.{rules}
use Rattle.prefix_trie_bits.proofs.prefix.networks.addresses.Ipv4PrefixFromIpv4Addr.from.Goals as goal

pub returns : goal.returns
returns c = search rules
