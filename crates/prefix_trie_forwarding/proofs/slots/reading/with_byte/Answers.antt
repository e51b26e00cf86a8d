-- One more byte, which is 0 past the end of the address.
use Rattle.std.proofs.Common.{◌≡◌, ◌∙◌, ◌+◌, ◌≤◌, ◌^◌, ◌++◌, length, take, drop, ap, sym, arith, length-append, pow_mono}
use Rattle.prefix_trie_bits.specs.Model.Bits.{number, zeros}
use Rattle.prefix_trie_forwarding.proofs.Reading.{byte_after, number_joined, number_small, past_end}
use Rattle.prefix_trie_forwarding.proofs.slots.reading.with_byte.Goals.{then-depth-width, else-depth-width}
use Rattle.prefix_trie_forwarding.proofs.slots.reading.with_byte.Goals as goal

pub overflow_mul-result : goal.overflow_mul-result
overflow_mul-result g c =
    let b = g.K.Key.bits c.args.address in
    let d = c.args.depth in
    let size = length-append b (zeros 24) in
    let small = number_small (b ++ zeros 24) d (omega (arith, size, c.requires.few)) in
    let most : 2 ^ d ≤ 2 ^ 16 = pow_mono {i = d} {j = 16} (omega (arith, c.requires.few)) in
    omega (arith, c.requires.upper, small, most)

pub returns : goal.returns
returns g c =
    let b = g.K.Key.bits c.args.address in
    let d = c.args.depth in
    let long : length b ≡ g.K.Key.bit_width = g.met.K.Key.key_laws.bits_length c.args.address c.is_key.ensures.key in
    let size = length-append b (zeros 24) in
    let joined = number_joined (b ++ zeros 24) d 8 (omega (arith, size, c.requires.few)) in
    elim c.if-depth-width.branch [
      | then-depth-width w ↦
          let next : c.if-depth-width.next ≡ number (take 8 (drop d (b ++ zeros 24))) =
          w.next-is ∙ w.byte_at-next.ensures.byte ∙ sym (ap number (byte_after b d 24 8 (omega (arith, long, w.if-depth-width.true, c.width.ensures)) (omega arith) (omega arith))) in
          omega (arith, joined, next, c.requires.upper)
      | else-depth-width w ↦
          let next : c.if-depth-width.next ≡ number (take 8 (drop d (b ++ zeros 24))) = w.next-is ∙ sym (past_end b d 8 24 (omega (arith, long, w.if-depth-width.false, c.width.ensures))) in
          omega (arith, joined, next, c.requires.upper)
    ]

pub overflow_add-result : goal.overflow_add-result
overflow_add-result g c =
    let b = g.K.Key.bits c.args.address in
    let d = c.args.depth in
    let size = length-append b (zeros 24) in
    let small = number_small (b ++ zeros 24) (d + 8) (omega (arith, size, c.requires.few)) in
    let most : 2 ^ (d + 8) ≤ 2 ^ 24 = pow_mono {i = d + 8} {j = 24} (omega (arith, c.requires.few)) in
    let e = returns g c in
    omega (arith, e, small, most)
