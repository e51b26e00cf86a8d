-- The invariant of the loop of `has`: a value of the set is found exactly if it is among those still to come.
use Rattle.std.proofs.Common.{◌≡◌, slice_range}
use Rattle.std.specs.Set.{is_member}
use Rattle.prefix_trie_ops.proofs.map.optimal.sets.has.Given as goal

abbrev pub invariant-loop-i : goal.invariant-loop-i
invariant-loop-i g l = is_member g.T.PartialEq.eq (slice_range l.values l.fn.set.start l.fn.set.end) l.value ≡ is_member g.T.PartialEq.eq (slice_range l.values l.i l.fn.set.end) l.value
