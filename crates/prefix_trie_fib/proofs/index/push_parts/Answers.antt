-- One more entry, and the next part begins where this one ends.
use Rattle.std.proofs.Common.{◌≡◌, ◌∙◌, ◌+◌, ◌-◌, ◌*◌, ◌^◌, ◌<◌, ◌≤◌, ℕ, ap, arith, pow_pos, subst, sym}
use Rattle.std.proofs.Math.Nat.{add-mul, mul-le-mul_right, mul-lt-mul_of_pos_right}
use Rattle.prefix_trie_bits.specs.Model.Bits.{number}
use Rattle.prefix_trie_fib.proofs.Entries.{PartsSoFar, all_parts, if_some, next_or, no_parts, part_pushed, starts_later}
use Rattle.prefix_trie_fib.proofs.index.push_parts.Goals as goal

pub loop-part-init : goal.loop-part-init
loop-part-init g c = record {
  so_far = no_parts g.K.Key.bit_width c.args.depth c.args.line.now (number (g.K.Key.bits c.args.low)) c.args.parts.now.items;
  by = c.requires.starts;
  next = λ lt. omega arith;
}

pub chunk_at-requires-clause-up : goal.chunk_at-requires-clause-up
chunk_at-requires-clause-up g c =
    if_some c.plus-next.result _ _ (λ k. number (g.K.Key.bits c.loop-part.at) ≤ number (g.K.Key.bits k)) (λ k h. let e = h.1 in omega (arith, e)) c.plus-next.ensures

pub chunk_at-requires-clause-line : goal.chunk_at-requires-clause-line
chunk_at-requires-clause-line g c =
    let size : ℕ = 2 ^ (g.K.Key.bit_width - c.args.depth) in
    let i : ℕ = c.loop-part.part in
    let at_is : number (g.K.Key.bits c.loop-part.at) ≡ number (g.K.Key.bits c.args.low) + i * size = c.loop-part.invariant.next c.loop-part-test.true in
    let one_more : (i + 1) * size ≡ i * size + size = omega arith in
    let most : (i + 1) * size ≤ c.args.count * size = mul-le-mul_right {m = i + 1} {n = c.args.count} size (omega (arith, c.loop-part-test.true)) in
    let fits = c.requires.fits in
    omega (arith, at_is, one_more, most, fits)

pub loop-part-preserved : goal.loop-part-preserved
loop-part-preserved g c =
    let w = g.K.Key.bit_width in
    let low : ℕ = number (g.K.Key.bits c.args.low) in
    let size : ℕ = 2 ^ (w - c.args.depth) in
    let i : ℕ = c.loop-part.part in
    let step : number (g.K.Key.bits c.power-step.result) ≡ size = c.power-step.ensures.value ∙ ap (λ n. 2 ^ (n - c.args.depth)) c.width.ensures in
    let at_is : number (g.K.Key.bits c.loop-part.at) ≡ low + i * size = c.loop-part.invariant.next c.loop-part-test.true in
    let one_more : (i + 1) * size ≡ i * size + size = omega arith in
    let next = next_or (λ k. number (g.K.Key.bits k)) g.K.Key.IsKey c.plus-next.result c.loop-part.at c.unwrap_or-at.result (number (g.K.Key.bits c.power-step.result)) (2 ^ w) c.plus-next.ensures c.unwrap_or-at.ensures in
    let here = λ (q : ℕ) (is : low ≡ q * size).
    let sum : (q + i) * size ≡ q * size + i * size = add-mul q i size in
    let past : (q + i + 1) * size ≡ (q + i) * size + size = omega arith in
    c.chunk_at.ensures (q + i) (omega (arith, at_is, is, sum))
    (if_some c.plus-next.result _ _ (λ k. (q + i + 1) * size ≤ number (g.K.Key.bits k)) (λ k h. let e = h.1 in omega (arith, e, at_is, is, sum, past, step)) c.plus-next.ensures) in
    record {
      so_far = subst (λ xs. PartsSoFar w c.args.depth c.args.line.now low c.args.parts.now.items xs (i + 1)) (sym c.in_ok-push.ensures.items)
          (part_pushed w c.args.depth c.args.line.now low c.args.parts.now.items c.loop-part.parts.items i c.chunk_at.result c.loop-part.invariant.so_far here);
      by = starts_later c.args.line.now c.range_from-from.result (number (g.K.Key.bits c.loop-part.at)) (number (g.K.Key.bits c.unwrap_or-at.result)) next.0 c.range_from-from.ensures.starts;
      next = λ lt.
          let less : (i + 1) * size < c.args.count * size = mul-lt-mul_of_pos_right {m = i + 1} {n = c.args.count} {k = size} lt (pow_pos (w - c.args.depth)) in
          let is = next.1 (let fits = c.requires.fits in omega (arith, less, fits, at_is, one_more, step)) in
          omega (arith, is, at_is, one_more, step);
    }

pub returns-clause-right : goal.returns-clause-right
returns-clause-right g c = λ q is.
    all_parts g.K.Key.bit_width c.args.depth c.args.line.now (number (g.K.Key.bits c.args.low)) c.args.parts.now.items c.loop-part.parts.items c.loop-part.part q c.args.count c.loop-part-test.false is c.loop-part.invariant.so_far
