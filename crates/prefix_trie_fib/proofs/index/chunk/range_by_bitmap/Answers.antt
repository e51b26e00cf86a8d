-- The bits up to the sixteenth are counted.
use Rattle.std.proofs.Common.{◌∙◌, ◌+◌, ◌/◌, ◌%◌, ◌^◌, ap, ap₂, arith}
use Rattle.prefix_trie_bits.specs.Bitmaps.{rank}
use Rattle.prefix_trie_fib.proofs.index.chunk.range_by_bitmap.Goals as goal

pub returns : goal.returns
returns c =
    let place = c.sixteenth_of-place.ensures.sixteenth ∙ ap (λ r. c.args.top / 2 ^ r % 16) c.from.ensures in
    let count = c.rank.ensures ∙ ap₂ (λ s n. rank s (n + 1)) c.from-2.ensures place in
    omega (arith, count)
