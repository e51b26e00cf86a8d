-- The invariant of `prefixes_of`: the prefixes so far fit.
use Rattle.std.proofs.Common.{All}
use Rattle.prefix_trie_rows.proofs.table.sets.prefixes_of.Given as goal

abbrev pub invariant-loop-pair : goal.invariant-loop-pair
invariant-loop-pair g l = All g.P.Prefix.IsFitting l.prefixes.items
