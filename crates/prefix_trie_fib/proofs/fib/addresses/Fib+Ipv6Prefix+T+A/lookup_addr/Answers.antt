-- The bits of an IPv6 address are those of its number.
use Rattle.std.proofs.Common.{◌∙◌, None, ap}
use Rattle.prefix_trie_bits.specs.BitStrings.{number_of_digits}
use Rattle.prefix_trie_fib.specs.Line.{value_along}
use Rattle.prefix_trie_fib.proofs.fib.addresses.Fib+Ipv6Prefix+T+A.lookup_addr.Goals as goal

pub returns : goal.returns
returns g c = c.lookup.ensures ∙ ap (value_along None c.args.self.now) (number_of_digits 128 c.to_bits.result c.to_bits.type_inv ∙ c.to_bits.ensures)
