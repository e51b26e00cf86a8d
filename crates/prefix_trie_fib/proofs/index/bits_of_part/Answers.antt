-- One more bit is twice as many parts, which are fewer than half the ranges.
use Rattle.std.proofs.Common.{◌≡◌, ◌*◌, ◌^◌, ◌%◌, arith}
use Rattle.std.proofs.lemmas.Nat.{shl_whole}
use Rattle.prefix_trie_fib.proofs.Sizes.{twice}
use Rattle.prefix_trie_fib.proofs.index.bits_of_part.Goals as goal

pub loop-more-preserved : goal.loop-more-preserved
loop-more-preserved c =
    let more = c.loop-more.more in
    let (least, most, few) = c.loop-more.invariant in
    let shift : 4 * 2 ^ more % 2 ^ 64 ≡ 4 * 2 ^ more = shl_whole 4 3 more 64 (omega arith) (omega (arith, c.loop-more-test.true, c.saturating_sub-most.ensures, c.min.ensures)) in
    let double = twice more in
    (omega (arith, least), omega (arith, c.loop-more-test.true), omega (arith, double, shift, c.if-more-count.true))
