-- The invariant of the loop: the array begins with what was read, and the walk has the rest.
use Rattle.std.proofs.Common.{Some}
use Rattle.prefix_trie_c.proofs.Arrays.{Reads}
use Rattle.prefix_trie_c.proofs.calls.read.Given as goal

abbrev pub invariant-loop-i : goal.invariant-loop-i
invariant-loop-i g l = Reads (λ e. g.E.Entry.made (Some e)) l.initial.walk l.walk l.i l.initial.entries l.entries
