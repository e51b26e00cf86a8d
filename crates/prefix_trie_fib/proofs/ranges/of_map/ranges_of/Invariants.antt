-- The invariant: the networks read so far are swept, and none to come begins before the address that is reached.
use Rattle.std.proofs.Common.{Bool, List, [], ◌∷◌, ◌++◌}
use Rattle.prefix_trie_bits.specs.Model.Bits.{digits, number}
use Rattle.prefix_trie_fib.specs.Sweep.{IsSweep}
use Rattle.prefix_trie_fib.proofs.Sweeps.{IsReading, value_read}
use Rattle.prefix_trie_fib.proofs.ranges.of_map.ranges_of.Given as goal

abbrev pub invariant-loop-prefix : goal.invariant-loop-prefix
invariant-loop-prefix g l =
    (goal.iterator-loop-prefix g).can_next l.prefix-iterator
    × (goal.iterator-loop-prefix g).is_finite l.prefix-iterator
    × ((read : List (List Bool × g.row.T.Denot)) × (rest : List (List Bool × g.row.T.Denot))
    × IsReading g.P.R.Key.bit_width g.P.Prefix.back l.map.entries read rest l.prefix-iterator (number (g.P.R.Key.bits l.sweep.at))
    × IsSweep g.P.R.Key.bit_width g.P.R.Key.bits g.T.PartialEq.eq (λ n. value_read read (digits g.P.R.Key.bit_width n)) l.sweep.line l.sweep.at (l.sweep.outer.items ++ l.sweep.inner ∷ []))
