-- The invariant of the loop: the entries so far are doubled, and those still to come are unchanged.
use Rattle.prefix_trie_tests.proofs.Prelude.{◌*◌, ◌%◌, ◌^◌}
use Rattle.prefix_trie.proofs.Callers.{HasRewrittenIn, left_in}
use Rattle.prefix_trie_tests.proofs.examples.scaling.double_entries.Given as goal

abbrev pub invariant-loop-prefix : goal.invariant-loop-prefix
invariant-loop-prefix g l = HasRewrittenIn (λ v. (v * 2) % 2 ^ 64) l.initial.walk.source l.walk.source

abbrev pub decreases-loop-prefix : goal.decreases-loop-prefix
decreases-loop-prefix g l = left_in l.walk.source
