-- The path of an IPv6 host is all 128 bits of its address.
use Rattle.prefix_trie_bits.proofs.Prelude.{le_of_eq, take_all, digits, length-digits}
use Rattle.prefix_trie_bits.proofs.prefix.networks.Ipv6Prefix.host.Goals as goal

pub returns-clause-path : goal.returns-clause-path
returns-clause-path c =
    take_all 128 (digits 128 c.args.addr) (le_of_eq (length-digits 128 c.args.addr))
