-- The loop of `validate`: the walk, and the last value that it gave.
use Rattle.prefix_trie_joint.specs.Joined.{entries_of}
use Rattle.origin_validation.proofs.Walked.{HasWalked}
use Rattle.origin_validation.proofs.vrps.Vrps.validate.Given as goal

abbrev pub invariant-loop-latest : goal.invariant-loop-latest
invariant-loop-latest g l =
    (goal.iterator-loop-latest g).can_next l.latest-iterator
    × (goal.iterator-loop-latest g).is_finite l.latest-iterator
    × HasWalked l.self-inside.vrps.items (entries_of l.self-inside.latest) l.route l.origin l.latest-iterator l.longest
