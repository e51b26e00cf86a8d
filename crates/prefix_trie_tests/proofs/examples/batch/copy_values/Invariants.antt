-- The invariant of the loop: the values so far are copied.
use Rattle.prefix_trie_tests.proofs.Prelude.{◌≡◌, map, option_copied, take}
use Rattle.prefix_trie_tests.proofs.examples.batch.copy_values.Given as goal

abbrev pub invariant-loop-i : goal.invariant-loop-i
invariant-loop-i l = take l.i l.values ≡ map option_copied (take l.i l.found)
