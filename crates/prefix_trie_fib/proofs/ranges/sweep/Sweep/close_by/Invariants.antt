-- The invariant: what was swept stays swept, and the walk is at most at the later of two addresses: where it began, and where it goes.
use Rattle.std.proofs.Common.{ℕ, ◌+◌, ◌≤◌, ◌++◌, ◌∷◌, [], Option, length}
use Rattle.std.specs.Option.{option_to_list}
use Rattle.prefix_trie_bits.specs.Model.Bits.{number}
use Rattle.prefix_trie_fib.specs.Line.{end_of}
use Rattle.prefix_trie_fib.specs.Sweep.{IsSweep}
use Rattle.prefix_trie_fib.proofs.ranges.sweep.Sweep.close_by.Given as goal

abbrev pub invariant-loop-end : goal.invariant-loop-end
invariant-loop-end g l = record {
  swept : (of : ℕ → Option g.row.T.Denot) → IsSweep g.K.Key.bit_width g.K.Key.bits g.T.PartialEq.eq of l.fn.self.line l.fn.self.at (l.fn.self.outer.items ++ l.fn.self.inner ∷ [])
      → IsSweep g.K.Key.bit_width g.K.Key.bits g.T.PartialEq.eq of l.self.line l.self.at (l.self.outer.items ++ l.self.inner ∷ []);
  not_beyond : (high : ℕ) → number (g.K.Key.bits l.fn.self.at) ≤ high → end_of g.K.Key.bit_width g.K.Key.bits l.to ≤ high → number (g.K.Key.bits l.self.at) ≤ high;
}

abbrev pub decreases-loop-end : goal.decreases-loop-end
decreases-loop-end g l = length l.self.outer.items + length (option_to_list l.self.inner.0)
