-- The invariant of the loop: the values so far are doubled, and those still to come are unchanged.
use Rattle.prefix_trie_tests.proofs.Prelude.{◌*◌, ◌%◌, ◌^◌}
use Rattle.prefix_trie.proofs.Callers.{HasRewrittenIn, left_in}
use Rattle.prefix_trie_tests.proofs.examples.scaling.double_rest.Given as goal

abbrev pub invariant-loop-stored : goal.invariant-loop-stored
invariant-loop-stored g l = HasRewrittenIn (λ v. (v * 2) % 2 ^ 64) l.initial.walk.walk.source l.walk.walk.source

abbrev pub decreases-loop-stored : goal.decreases-loop-stored
decreases-loop-stored g l = left_in l.walk.walk.source
