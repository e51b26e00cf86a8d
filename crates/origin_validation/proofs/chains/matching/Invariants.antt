-- The loop goes down the chain of a path.
use Rattle.std.proofs.Common.{Bool, List, Some, length}
use Rattle.origin_validation.specs.Chains.{IsLatest, paths_of}
use Rattle.origin_validation.proofs.Steps.{steps_left, GoesOnAt, IsWithin}
use Rattle.origin_validation.proofs.chains.matching.Given as goal

abbrev pub invariant-loop-next : goal.invariant-loop-next
invariant-loop-next l = IsWithin (length l.vrps) l.next
    × ((q : List Bool) → IsLatest (paths_of l.vrps) (length l.vrps) q (Some l.latest) → GoesOnAt l.vrps l.route l.origin q l.next)

abbrev pub decreases-loop-next : goal.decreases-loop-next
decreases-loop-next l = steps_left l.next
