-- The invariant: the first addresses of the group have upper halves with their values, and the numbers of their first 30 bits.
use Rattle.std.proofs.Common.{◌≡◌, ◌+◌, ◌<◌, ℕ, None, get_or, length}
use Rattle.prefix_trie_bits.specs.Model.Bits.{digits, number}
use Rattle.prefix_trie_fib.specs.Index.{IsTop}
use Rattle.prefix_trie_fib.specs.Layouts.{widened}
use Rattle.prefix_trie_fib.specs.Line.{value_along}
use Rattle.prefix_trie_fib.proofs.compact.bulk.group_by_upper.Given as goal

abbrev pub invariant-loop-i : goal.invariant-loop-i
invariant-loop-i g l = record {
  long : length l.tops ≡ 128;
  halves : length l.halves ≡ 128;
  tops : (k a d : ℕ) → k < l.i → IsTop (get_or l.tops k d) (digits 64 (get_or l.halves k a));
  values : (k a : ℕ) (d : _) → k < l.i → value_along None l.indexed (number (digits 64 (get_or l.halves k a))) ≡ value_along None (widened g.K.Key.bit_width l.indexed) (number (g.K.Key.bits (get_or l.addresses (l.from + k) d)));
}
