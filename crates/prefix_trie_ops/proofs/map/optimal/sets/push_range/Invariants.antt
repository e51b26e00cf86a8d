-- The invariant of the loop of `push_range`: the items appended so far and those still to come are the part.
use Rattle.std.proofs.Common.{◌≡◌, ◌≤◌, ◌++◌, List, length, slice_range}
use Rattle.prefix_trie_ops.proofs.map.optimal.sets.push_range.Given as goal

abbrev pub invariant-loop-i : goal.invariant-loop-i
invariant-loop-i g l =
    let old = l.fn.values.items in
    l.end ≤ length old → (found : List g.row.T.Denot) × (l.values.items ≡ old ++ found) × (found ++ slice_range old l.i l.end ≡ slice_range old l.fn.start l.end)
