-- The invariant of the loop that writes the entries: each prefix still to come fits, so its covers may be looked up.
use Rattle.prefix_trie_map.proofs.Prelude.{All}
use Rattle.prefix_trie_map.proofs.fmt.write_entries.Given as goal

abbrev pub invariant-loop-prefix : goal.invariant-loop-prefix
invariant-loop-prefix g l = All (λ e. g.P.Prefix.IsFitting e.0) l.prefix-iterator
