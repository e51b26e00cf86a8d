-- Two times 30 bits and four more are the first 64 bits.
use Rattle.std.proofs.Common.{◌≡◌, ◌∙◌, ◌++◌, ap, arith, length, take}
use Rattle.prefix_trie_bits.specs.Model.Bits.{number, zeros}
use Rattle.prefix_trie_fib.proofs.Halves.{upper_below, upper_number}
use Rattle.prefix_trie_fib.proofs.compact.halves.upper_half.Goals as goal

pub returns : goal.returns
returns g c =
    let b = g.K.Key.bits c.args.address in
    let long : length b ≡ g.K.Key.bit_width = g.met.K.Key.key_laws.bits_length c.args.address c.is_key.ensures.key in
    upper_number b c.from-first.result c.from-second.result c.from-third.result (omega (arith, long, c.requires))
    (c.from-first.ensures ∙ c.first_bits.ensures)
    (c.from-second.ensures ∙ c.first_bits-2.ensures ∙ ap (λ s. number (take 30 (s ++ zeros 30))) c.behind.ensures.value)
    (c.from-third.ensures ∙ c.window.ensures)

pub overflow_mul-result-2 : goal.overflow_mul-result-2
overflow_mul-result-2 g c =
    let long : length (g.K.Key.bits c.args.address) ≡ g.K.Key.bit_width = g.met.K.Key.key_laws.bits_length c.args.address c.is_key.ensures.key in
    omega (arith, returns g c, upper_below (g.K.Key.bits c.args.address) (omega (arith, long, c.requires)))

pub overflow_add-result-2 : goal.overflow_add-result-2
overflow_add-result-2 g c =
    let long : length (g.K.Key.bits c.args.address) ≡ g.K.Key.bit_width = g.met.K.Key.key_laws.bits_length c.args.address c.is_key.ensures.key in
    omega (arith, returns g c, upper_below (g.K.Key.bits c.args.address) (omega (arith, long, c.requires)))
