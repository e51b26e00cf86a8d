-- The address is the one of the highest bits.
use Rattle.prefix_trie_bits.proofs.Prelude.{rules}
use Rattle.prefix_trie_bits.proofs.prefix.networks.Ipv6Prefix.last.Goals as goal

pub returns : goal.returns
returns c = search rules
