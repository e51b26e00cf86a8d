-- The invariant: the slots up to here are changed.
use Rattle.std.proofs.Common.{slice_index}
use Rattle.prefix_trie_forwarding.specs.Walks.{AreChanged, changed}
use Rattle.prefix_trie_forwarding.proofs.slots.change.+change_run.Given as goal

abbrev pub invariant-loop-at : goal.invariant-loop-at
invariant-loop-at l = AreChanged l.root (changed l.change.least l.change.most l.change.to) l.left l.low l.count (slice_index l.initial.slots) (slice_index l.slots) l.at

abbrev pub decreases-change_run : goal.decreases-change_run
decreases-change_run l = l.left
