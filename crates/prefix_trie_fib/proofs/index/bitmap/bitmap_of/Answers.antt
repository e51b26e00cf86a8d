-- The address is in the sixteenth that its bits say, so in the range that the bitmap gives.
use Rattle.std.proofs.Common.{◌≡◌, ◌∙◌, ◌+◌, ◌-◌, ◌*◌, ◌/◌, ◌%◌, ◌^◌, ◌<◌, ◌≤◌, ap, arith, subst, sym}
use Rattle.prefix_trie_bits.specs.Model.Bits.{number}
use Rattle.prefix_trie_fib.proofs.ChunkEntries.{in_sixteenth}
use Rattle.prefix_trie_fib.proofs.Entries.{split_size}
use Rattle.prefix_trie_fib.proofs.index.bitmap.bitmap_of.Goals as goal

pub are_starts-requires-clause-fits : goal.are_starts-requires-clause-fits
are_starts-requires-clause-fits g c =
    let w = g.K.Key.bit_width in
    let depth = c.args.depth in
    let size : 16 * 2 ^ (w - (depth + 4)) ≡ 2 ^ (w - depth) = split_size w depth 4 (omega (arith, c.if-depth-width.false, c.width.ensures)) in
    let step : number (g.K.Key.bits c.power-step.result) ≡ 2 ^ (w - (depth + 4)) = c.power-step.ensures.value ∙ ap (λ n. 2 ^ (n - (depth + 4))) c.width-2.ensures in
    let fits = c.requires.line in
    omega (arith, size, step, fits)

pub returns-then-are_starts : goal.returns-then-are_starts
returns-then-are_starts g c = λ q low b long in_it. (
  omega arith,
  λ top is_top.
      let w = g.K.Key.bit_width in
      let depth = c.args.depth in
      let p = top / 2 ^ (26 - depth) % 16 in
      let within : depth + 4 ≤ w = omega (arith, c.if-depth-width.false, c.width.ensures) in
      let step : number (g.K.Key.bits c.power-step.result) ≡ 2 ^ (w - (depth + 4)) = c.power-step.ensures.value ∙ ap (λ n. 2 ^ (n - (depth + 4))) c.width-2.ensures in
      let bounds = in_sixteenth w depth q (number (g.K.Key.bits c.args.low)) b top (omega (arith, c.if-depth-gt26.false)) within long is_top in_it low in
      c.are_starts.ensures c.if-are_starts.true p (number b) (omega arith)
      (subst (λ s. number (g.K.Key.bits c.args.low) + p * s ≤ number b) (sym step) bounds.0)
      (subst (λ s. number b < number (g.K.Key.bits c.args.low) + (p + 1) * s) (sym step) bounds.1),
)
