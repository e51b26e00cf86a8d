-- Dropping n bits of the key and taking n from the length leaves the bits after the first n.
use Rattle.prefix_trie_bits.proofs.Prelude.{◌≤◌, length, drop, length-take-le, sym, ap, ◌∙◌, arith}
use Rattle.prefix_trie_bits.specs.Windows.{rest_string}
use Rattle.prefix_trie_bits.proofs.prefix.bit_string.BitString.after.Goals as goal

pub returns : goal.returns
returns g c =
    let i = c.self.inside in
    let b = g.K.Key.bits i.key in
    let long : i.len ≤ length b = omega (arith, g.met.K.Key.key_laws.bits_length i.key c.self.invariant.0, c.self.invariant.1) in
    let within : c.args.n ≤ i.len = omega (arith, c.requires, ap length c.self.view_is, length-take-le i.len b long) in
    sym (rest_string b (g.K.Key.bits c.behind.result) c.args.n i.len c.behind.ensures.value within long) ∙ ap (drop c.args.n) c.self.view_is
