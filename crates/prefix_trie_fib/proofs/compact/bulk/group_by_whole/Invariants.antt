-- The invariant: the first addresses of the group have the numbers of their first 30 bits.
use Rattle.std.proofs.Common.{◌≡◌, ◌<◌, ℕ, get_or, length}
use Rattle.prefix_trie_fib.specs.Index.{IsTop}
use Rattle.prefix_trie_fib.proofs.compact.bulk.group_by_whole.Given as goal

abbrev pub invariant-loop-i : goal.invariant-loop-i
invariant-loop-i g l = record {
  long : length l.tops ≡ 128;
  tops : (k : ℕ) (a : _) (d : ℕ) → k < l.i → IsTop (get_or l.tops k d) (g.K.Key.bits (get_or l.group k a));
}
