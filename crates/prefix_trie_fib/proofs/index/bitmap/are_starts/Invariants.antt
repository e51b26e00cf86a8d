-- The invariant: the first sixteenths have the ranges that the bits give, and `at` is the first address of the next one, if there is one.
use Rattle.std.proofs.Common.{◌≡◌, ◌+◌, ◌*◌, ◌<◌}
use Rattle.prefix_trie_bits.specs.Model.Bits.{number}
use Rattle.prefix_trie_fib.proofs.ChunkEntries.{AreStarts}
use Rattle.prefix_trie_fib.proofs.index.bitmap.are_starts.Given as goal

abbrev pub invariant-loop-place : goal.invariant-loop-place
invariant-loop-place g l = record {
  right : AreStarts l.line l.starts l.first (number (g.K.Key.bits l.fn.low)) (number (g.K.Key.bits l.step)) l.place;
  next : l.place < 16 → number (g.K.Key.bits l.at) ≡ number (g.K.Key.bits l.fn.low) + l.place * number (g.K.Key.bits l.step);
}
