-- The invariant: the first addresses have their entries, and the others those of their chunks.
use Rattle.std.proofs.Common.{◌<◌, ◌≤◌, ℕ, get_or, length}
use Rattle.prefix_trie_fib.specs.Index.{IsEntryAt, IsWhole}
use Rattle.prefix_trie_fib.proofs.indexed.Indexed.read_parts.Given as goal

abbrev pub invariant-loop-i : goal.invariant-loop-i
invariant-loop-i g l = record {
  first : (k : ℕ) (a : _) (d : _) → k < l.i → IsEntryAt l.self (g.K.Key.bits (get_or l.addresses k a)) (get_or l.entries k d);
  others : (k : ℕ) (a : _) (d : _) → l.i ≤ k → k < length l.addresses → IsWhole (get_or l.entries k d) → IsEntryAt l.self (g.K.Key.bits (get_or l.addresses k a)) (get_or l.entries k d);
}
