-- The invariant of `begin`: the searches so far are at the root and have found nothing.
use Rattle.prefix_trie_table.proofs.Prelude.{EachOf, IsNew}
use Rattle.prefix_trie_table.proofs.table.bulk.begin.Given as goal

abbrev pub invariant-loop-j : goal.invariant-loop-j
invariant-loop-j l = EachOf IsNew l.j l.descents
