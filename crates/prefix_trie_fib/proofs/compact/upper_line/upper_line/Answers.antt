-- One more range by its upper 64 bits, and at the end all ranges.
use Rattle.std.proofs.Common.{◌≡◌, ◌∙◌, ◌*◌, ◌-◌, ◌^◌, ◌++◌, ◌∷◌, [], ℕ, Option, ap, ap₂, arith, sym}
use Rattle.prefix_trie_bits.specs.BitStrings.{number_of_digits}
use Rattle.prefix_trie_bits.specs.Model.Bits.{number}
use Rattle.prefix_trie_fib.specs.Layouts.{widened}
use Rattle.prefix_trie_fib.proofs.Layouts.{widened_pushed}
use Rattle.prefix_trie_fib.proofs.compact.upper_line.upper_line.Goals as goal

pub loop-i-preserved : goal.loop-i-preserved
loop-i-preserved g c =
    let w = g.K.Key.bit_width in
    let half = c.upper_half.result in
    let s = 2 ^ (w - 64) in
    let start : half * s ≡ number (g.K.Key.bits c.start-start.result) = ap (λ n. n * s) c.upper_half.ensures ∙ sym (c.is_upper.ensures c.if-not-is_upper.false) in
    let r : ℕ × Option g.row.T.Denot = (half, c.value.result) in
    ap (widened w) (c.in_ok-push.ensures.pushed ∙ ap (λ n. c.loop-i.upper ++ (n, c.value.result) ∷ []) (number_of_digits 64 half c.upper_half.type_inv))
    ∙ widened_pushed w c.args.line.now c.loop-i.upper c.loop-i.i r c.loop-i.invariant (omega (arith, c.loop-i-test.true, c.len-i-end.ensures))
    (ap₂ {A = ℕ} {B = Option g.row.T.Denot} (λ a b. (a, b)) (start ∙ c.start-start.ensures (half * s, c.value.result)) (c.value.ensures (half * s, c.value.result)))
