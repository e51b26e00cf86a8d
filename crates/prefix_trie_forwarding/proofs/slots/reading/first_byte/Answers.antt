-- A byte is its two halves, and the second one is 0 past the end of the key.
use Rattle.std.proofs.Common.{◌≡◌, ◌∙◌, ◌++◌, length, sym, arith, length-append}
use Rattle.prefix_trie_bits.specs.Model.Bits.{zeros}
use Rattle.prefix_trie_forwarding.proofs.Reading.{halves, lower_half, number_small, past_end}
use Rattle.prefix_trie_forwarding.proofs.slots.reading.first_byte.Goals.{then-half-width, else-half-width}
use Rattle.prefix_trie_forwarding.proofs.slots.reading.first_byte.Goals as goal

pub overflow_mul-result : goal.overflow_mul-result
overflow_mul-result g c =
    let r = g.K.Key.bits c.args.key in
    let upper = number_small (r ++ zeros 5) 4 (let l = length-append r (zeros 5) in omega (arith, l)) in
    omega (arith, c.window-upper.ensures, upper)

pub returns-clause-byte : goal.returns-clause-byte
returns-clause-byte g c =
    let r = g.K.Key.bits c.args.key in
    let wide : length r ≡ g.K.Key.bit_width = g.met.K.Key.key_laws.bits_length c.args.key c.is_key.ensures.key in
    let joined = halves r c.window-upper.result c.if-half-width.lower c.window-upper.ensures in
    elim c.if-half-width.branch [
      | then-half-width w ↦ joined (w.lower-is ∙ w.window-lower.ensures ∙ lower_half r (omega (arith, wide, w.if-half-width.true, c.width.ensures)))
      | else-half-width w ↦ joined (w.lower-is ∙ sym (past_end r 4 4 8 (omega (arith, wide, w.if-half-width.false, c.width.ensures))))
    ]

pub returns-clause-small : goal.returns-clause-small
returns-clause-small g c =
    let r = g.K.Key.bits c.args.key in
    let e = returns-clause-byte g c in
    let small = number_small (r ++ zeros 8) 8 (let l = length-append r (zeros 8) in omega (arith, l)) in
    omega (arith, e, small)

pub overflow_add-result : goal.overflow_add-result
overflow_add-result g c = let l = returns-clause-small g c in omega (arith, l)
