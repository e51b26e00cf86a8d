-- A 1 and the bits of the string, from the first five of the key, are one more than the value bit, which is below 31.
use Rattle.prefix_trie_bits.proofs.Prelude.{◌≡◌, ◌+◌, ◌-◌, ◌/◌, ◌^◌, ◌≤◌, ap, arith, length, length-take-le, ◌∙◌, value_bit}
use Rattle.prefix_trie_bits.proofs.Strings.{front-small, value_bit_from_five, value_bit-small}
use Rattle.prefix_trie_bits.proofs.prefix.bit_string.BitString.value_bit.Goals as goal
use Rattle.prefix_trie_bits.proofs.prefix.bit_string.BitString.value_bit.Given.{Over}

pub overflow_add-result : goal.overflow_add-result
overflow_add-result g c =
    let h = front-small (g.K.Key.bits c.self.inside.key) 5 c.window-five.result (omega arith) c.window-five.ensures in
    omega (arith, h)

-- what is computed is one more than the value bit
bit_and_one : (g : Over) (c : goal.After-window-five g) → (32 + c.window-five.result) / 2 ^ (5 - c.self.inside.len) ≡ value_bit c.args.self.now + 1
bit_and_one g c =
    let i = c.self.inside in
    let b = g.K.Key.bits i.key in
    let long : i.len ≤ length b = omega (arith, g.met.K.Key.key_laws.bits_length i.key c.self.invariant.0, c.self.invariant.1) in
    value_bit_from_five b c.window-five.result c.window-five.ensures i.len (omega (arith, c.requires, ap length c.self.view_is, length-take-le i.len b long)) long
    ∙ ap (λ q. value_bit q + 1) c.self.view_is

pub overflow_sub-result-2 : goal.overflow_sub-result-2
overflow_sub-result-2 g c = omega (arith, bit_and_one g c)

pub returns-clause-value : goal.returns-clause-value
returns-clause-value g c = omega (arith, bit_and_one g c)

pub returns-clause-small : goal.returns-clause-small
returns-clause-small g c = omega (arith, bit_and_one g c, value_bit-small c.args.self.now (omega (arith, c.requires)))
