-- The loop of `push_shared` ends, since each iteration goes on in one of the two sets or in both. Its invariant: the
-- values found so far, and those that the rests of the sets share, are the values that the sets share.
use Rattle.std.proofs.Common.{◌≡◌, ◌≤◌, ◌-◌, ◌+◌, ◌++◌, List, length, slice_range}
use Rattle.std.specs.List.Sorted.{IsStrictlySortedBy}
use Rattle.prefix_trie_ops.specs.Parts.{shared_values}
use Rattle.prefix_trie_ops.proofs.Smallest.JoinedLists.{Sharing}
use Rattle.prefix_trie_ops.proofs.map.optimal.sets.push_shared.Given as goal

abbrev pub decreases-loop-i : goal.decreases-loop-i
decreases-loop-i g l = (l.left.end - l.i) + (l.right.end - l.j)

abbrev pub invariant-loop-i : goal.invariant-loop-i
invariant-loop-i g l =
    let old = l.fn.values.items in
    let eq = g.T.PartialEq.eq in
    let xs = slice_range old l.left.start l.left.end in
    let ys = slice_range old l.right.start l.right.end in
    l.left.end ≤ length old → l.right.end ≤ length old → IsStrictlySortedBy g.T.Ord.cmp xs → IsStrictlySortedBy g.T.Ord.cmp ys
    → (found : List g.row.T.Denot) × (l.values.items ≡ old ++ found) × Sharing eq g.T.Ord.cmp (slice_range old l.i l.left.end) (slice_range old l.j l.right.end) found (shared_values eq xs ys)
