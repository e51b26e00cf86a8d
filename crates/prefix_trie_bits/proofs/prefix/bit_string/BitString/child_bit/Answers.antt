-- The window of five bits after `depth` is the number of a child, which is below 32.
use Rattle.prefix_trie_bits.proofs.Prelude.{◌≤◌, ap, ◌∙◌, arith, length, length-take-le, number, take}
use Rattle.prefix_trie_bits.proofs.Strings.{child_bit_from_five, front-small}
use Rattle.prefix_trie_bits.proofs.prefix.bit_string.BitString.child_bit.Goals as goal

pub returns-clause-value : goal.returns-clause-value
returns-clause-value g c =
    let i = c.self.inside in
    let b = g.K.Key.bits i.key in
    let long : i.len ≤ length b = omega (arith, g.met.K.Key.key_laws.bits_length i.key c.self.invariant.0, c.self.invariant.1) in
    let more : 5 ≤ i.len = omega (arith, c.requires, ap length c.self.view_is, length-take-le i.len b long) in
    child_bit_from_five b c.window.result c.window.ensures i.len more long ∙ ap (λ q. number (take 5 q)) c.self.view_is

pub returns-clause-small : goal.returns-clause-small
returns-clause-small g c = front-small (g.K.Key.bits c.self.inside.key) 5 c.window.result (omega arith) c.window.ensures
