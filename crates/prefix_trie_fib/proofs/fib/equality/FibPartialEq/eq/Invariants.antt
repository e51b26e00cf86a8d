-- The invariant: the ranges so far are the same.
use Rattle.std.proofs.Common.{◌≡◌, ◌<◌, ℕ, true, get_or}
use Rattle.prefix_trie_fib.specs.Equality.{range_eq}
use Rattle.prefix_trie_fib.proofs.fib.equality.FibPartialEq.eq.Given as goal

abbrev pub invariant-loop-i : goal.invariant-loop-i
invariant-loop-i g l = (j : ℕ) (d : _) → j < l.i → range_eq g.T.PartialEq.eq (get_or l.self j d) (get_or l.other j d) ≡ true
