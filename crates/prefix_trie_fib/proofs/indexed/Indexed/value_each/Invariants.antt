-- The invariant: the results before the group stay, and its first addresses have theirs.
use Rattle.std.proofs.Common.{◌≡◌, ◌+◌, ◌<◌, ℕ, None, get_or}
use Rattle.prefix_trie_bits.specs.Model.Bits.{number}
use Rattle.prefix_trie_fib.specs.Line.{value_along}
use Rattle.prefix_trie_fib.proofs.indexed.Indexed.value_each.Given as goal

abbrev pub invariant-loop-i : goal.invariant-loop-i
invariant-loop-i g l = record {
  kept : (k : ℕ) (v : _) → k < l.from → get_or l.out k v ≡ get_or l.fn.out k v;
  values : (k : ℕ) (a : _) (v : _) → k < l.i → get_or l.out (l.from + k) v ≡ value_along None l.self (number (g.K.Key.bits (get_or l.addresses k a)));
}
