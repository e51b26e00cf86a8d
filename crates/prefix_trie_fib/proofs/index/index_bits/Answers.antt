-- The number of bits grows while twice as many chunks are not more than the ranges.
use Rattle.std.proofs.Common.{◌≡◌, ◌*◌, ◌^◌, ◌%◌, ◌<◌, ◌⊎◌, inl, inr, arith}
use Rattle.std.proofs.lemmas.Bool.{cases_lt}
use Rattle.std.proofs.lemmas.Nat.{shl_whole}
use Rattle.prefix_trie_fib.proofs.Sizes.{chosen_bits, twice}
use Rattle.prefix_trie_fib.proofs.index.index_bits.Goals as goal
use Rattle.prefix_trie_fib.proofs.index.index_bits.Goals.{then-loop-bits-test+else-bits-ranges, else-loop-bits-test}

pub loop-bits-init : goal.loop-bits-init
loop-bits-init c = record { least = omega arith; most = omega arith; few = inl (omega arith) }

pub loop-bits-preserved : goal.loop-bits-preserved
loop-bits-preserved c =
    let bits = c.loop-bits.bits in
    let shift : 2 * 2 ^ bits % 2 ^ 64 ≡ 2 * 2 ^ bits = shl_whole 2 2 bits 64 (omega arith) (omega (arith, c.loop-bits.invariant.most)) in
    record {
      least = omega (arith, c.loop-bits.invariant.least);
      most = omega (arith, c.loop-bits-test.true);
      few = inr (let double = twice bits in omega (arith, double, shift, c.if-bits-ranges.true));
    }

pub returns-clause-right : goal.returns-clause-right
returns-clause-right c =
    let bits = c.loop-bits.bits in
    let shift : 2 * 2 ^ bits % 2 ^ 64 ≡ 2 * 2 ^ bits = shl_whole 2 2 bits 64 (omega arith) (omega (arith, c.loop-bits.invariant.most)) in
    let many : (c.args.ranges < 2 * 2 ^ bits) ⊎ (bits ≡ 20) = elim c.loop-bits-test.branch [
      | then-loop-bits-test+else-bits-ranges w ↦ inl (omega (arith, shift, w.if-bits-ranges.false))
      | else-loop-bits-test w ↦ inr (omega (arith, c.loop-bits.invariant.most, w.loop-bits-test.false))
    ] in
    let is : (c.min.result ≡ bits) ⊎ (c.min.result ≡ c.args.width) = elim (cases_lt c.args.width bits) [
      | inl lt ↦ inr (omega (arith, lt, c.min.ensures))
      | inr le ↦ inl (omega (arith, le, c.min.ensures))
    ] in
    chosen_bits c.args.width c.args.ranges bits c.min.result c.loop-bits.invariant.least c.loop-bits.invariant.most c.loop-bits.invariant.few many (omega (arith, c.min.ensures)) (omega (arith, c.min.ensures)) is
