-- The values of the numbers are those of the addresses.
use Rattle.std.proofs.Common.{◌∙◌, ◌+◌, ◌*◌, ◌^◌, ℕ, ap, map}
use Rattle.std.proofs.lemmas.Simd.{map-map}
use Rattle.prefix_trie_c.specs.Compiled.{value_at}
use Rattle.prefix_trie_c.specs.declared.entries.V6Address.{V6Address}
use Rattle.prefix_trie_c.proofs.bulk.V6AddressGroupedIpv6Prefix.look_up.Goals as goal

pub returns : goal.returns
returns c =
    let value = λ (n : ℕ). value_at 128 c.args.fib.now n in
    let number = λ (a : V6Address). a.high * 2 ^ 64 + a.low in
    c.lookup_bulk.ensures ∙ ap (map value) c.numbers_of-numbers.ensures ∙ map-map value number c.args.group.now
