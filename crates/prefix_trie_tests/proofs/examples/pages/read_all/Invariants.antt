-- The invariant of the loop: what is read so far begins the listing.
use Rattle.prefix_trie_tests.proofs.Prelude.{◌≡◌, ℕ, ◌++◌, ◌-◌, List, length, len}
use Rattle.prefix_trie.specs.Terms.{listing, prefix_pairs}
use Rattle.prefix_trie_tests.proofs.examples.pages.read_all.Given as goal

abbrev pub invariant-loop-read : goal.invariant-loop-read
invariant-loop-read g l = (rest : List (g.row.P.Denot × ℕ)) × (prefix_pairs g.P.Prefix.back (listing l.map.entries) ≡ l.read.items ++ rest)

abbrev pub decreases-loop-read : goal.decreases-loop-read
decreases-loop-read g l = len l.map.entries - length l.read.items
