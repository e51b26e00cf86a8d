-- The loop of `push_all` ends, since each iteration goes on in one of the two sets. Its invariant: the values found so
-- far, and those of the rests of the sets, are the values of the sets.
use Rattle.std.proofs.Common.{◌≡◌, ◌≤◌, ◌-◌, ◌+◌, ◌++◌, true, List, [], length, slice_range}
use Rattle.std.specs.Set.{sorted_merge}
use Rattle.prefix_trie_ops.specs.Parts.{shared_values}
use Rattle.prefix_trie_ops.proofs.Smallest.JoinedLists.{Merging}
use Rattle.prefix_trie_ops.proofs.map.optimal.sets.push_all.Given as goal

abbrev pub decreases-loop-i : goal.decreases-loop-i
decreases-loop-i g l = (l.left.end - l.i) + (l.right.end - l.j)

abbrev pub invariant-loop-i : goal.invariant-loop-i
invariant-loop-i g l =
    let old = l.fn.values.items in
    let eq = g.T.PartialEq.eq in
    let xs = slice_range old l.left.start l.left.end in
    let ys = slice_range old l.right.start l.right.end in
    l.left.end ≤ length old → l.right.end ≤ length old → shared_values eq xs ys ≡ []
    → (found : List g.row.T.Denot) × (l.values.items ≡ old ++ found) × Merging eq g.T.Ord.cmp (slice_range old l.i l.left.end) (slice_range old l.j l.right.end) found (sorted_merge g.T.Ord.cmp true xs ys)
