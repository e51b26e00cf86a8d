-- The invariant: the ranges so far have a value.
use Rattle.std.proofs.Common.{◌≡◌, ◌<◌, ◌≤◌, ℕ, true, get_or, is_some}
use Rattle.prefix_trie_fib.proofs.index.are_valued.Given as goal

abbrev pub invariant-loop-i : goal.invariant-loop-i
invariant-loop-i g l = (k : ℕ) (d : _) → l.fn.first ≤ k → k < l.i → is_some (get_or l.line k d).1 ≡ true
