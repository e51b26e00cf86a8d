-- The invariant: the first addresses have the entries of their chunks.
use Rattle.std.proofs.Common.{◌<◌, ℕ, get_or}
use Rattle.prefix_trie_fib.specs.Index.{IsEntryAt, IsWhole}
use Rattle.prefix_trie_fib.proofs.indexed.Indexed.read_entries.Given as goal

abbrev pub invariant-loop-i : goal.invariant-loop-i
invariant-loop-i g l = (k : ℕ) (a : _) (d : _) → k < l.i → IsWhole (get_or l.entries k d) → IsEntryAt l.self (g.K.Key.bits (get_or l.addresses k a)) (get_or l.entries k d)
