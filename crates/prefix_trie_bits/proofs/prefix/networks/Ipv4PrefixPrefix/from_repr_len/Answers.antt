-- The network made has the address and the length that were passed.
use Rattle.prefix_trie_bits.proofs.Prelude.{rules}
use Rattle.prefix_trie_bits.proofs.prefix.networks.Ipv4PrefixPrefix.from_repr_len.Goals as goal

pub returns : goal.returns
returns c = search rules
