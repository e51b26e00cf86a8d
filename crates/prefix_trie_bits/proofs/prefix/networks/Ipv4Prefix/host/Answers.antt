-- The path of an IPv4 host is all 32 bits of its address.
use Rattle.prefix_trie_bits.proofs.Prelude.{le_of_eq, take_all, digits, length-digits}
use Rattle.prefix_trie_bits.proofs.prefix.networks.Ipv4Prefix.host.Goals as goal

pub returns-clause-path : goal.returns-clause-path
returns-clause-path c =
    take_all 32 (digits 32 c.args.addr) (le_of_eq (length-digits 32 c.args.addr))
