-- One more sixteenth has the range that the bits give, and the next one begins where it ends.
use Rattle.std.proofs.Common.{◌≡◌, ◌∙◌, ◌+◌, ◌*◌, ◌^◌, ◌<◌, ◌≤◌, ℕ, ap, arith, subst}
use Rattle.std.proofs.Math.Nat.{mul-lt-mul_of_pos_right}
use Rattle.prefix_trie_bits.specs.Bitmaps.{rank}
use Rattle.prefix_trie_bits.specs.Model.Bits.{number}
use Rattle.prefix_trie_fib.specs.Search.{IsRangeOf}
use Rattle.prefix_trie_fib.proofs.ChunkEntries.{next_start}
use Rattle.prefix_trie_fib.proofs.Entries.{if_some, next_or}
use Rattle.prefix_trie_fib.proofs.index.bitmap.are_starts.Goals as goal

pub loop-place-init : goal.loop-place-init
loop-place-init g c = record { right = λ p n lt from to. absurd (omega (arith, lt)); next = λ lt. omega arith }

pub is_alone-requires-clause-up : goal.is_alone-requires-clause-up
is_alone-requires-clause-up g c =
    if_some c.plus-next.result _ _ (λ k. number (g.K.Key.bits c.loop-place.at) ≤ number (g.K.Key.bits k)) (λ k h. let e = h.1 in omega (arith, e)) c.plus-next.ensures

pub loop-place-preserved : goal.loop-place-preserved
loop-place-preserved g c =
    let low : ℕ = number (g.K.Key.bits c.args.low) in
    let step : ℕ = number (g.K.Key.bits c.args.step) in
    let i : ℕ = c.loop-place.place in
    let at : ℕ = number (g.K.Key.bits c.loop-place.at) in
    let at_is : at ≡ low + i * step = c.loop-place.invariant.next c.loop-place-test.true in
    let one_more : (i + 1) * step ≡ i * step + step = omega arith in
    let next = next_or (λ k. number (g.K.Key.bits k)) g.K.Key.IsKey c.plus-next.result c.loop-place.at c.unwrap_or-at.result step (2 ^ g.K.Key.bit_width) c.plus-next.ensures c.unwrap_or-at.ensures in
    let count = c.rank.ensures ∙ ap (λ s. rank s (i + 1)) c.from.ensures in
    record {
      right = next_start c.args.line.now c.args.starts c.args.first low step i at at_is c.loop-place.invariant.right
          (λ n from to. subst (λ k. IsRangeOf c.args.line.now (c.args.first + k) n) count
          (c.is_alone.ensures c.if-not-is_alone.false n from (if_some c.plus-next.result _ _ (λ k. n < number (g.K.Key.bits k)) (λ k h. let e = h.1 in omega (arith, e, to)) c.plus-next.ensures)));
      next = λ lt.
          let less : (i + 1) * step < 16 * step = mul-lt-mul_of_pos_right {m = i + 1} {n = 16} {k = step} lt c.requires.some in
          let is = next.1 (let fits = c.requires.fits in omega (arith, less, fits, at_is, one_more)) in
          omega (arith, is, at_is, one_more);
    }

pub returns : goal.returns
returns g c = λ one p n lt from to. c.loop-place.invariant.right p n (omega (arith, lt, c.loop-place-test.false)) from to
