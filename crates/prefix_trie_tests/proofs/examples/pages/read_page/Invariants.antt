-- The invariant of the loop: what is read so far and the rest of the walk are the listing.
use Rattle.prefix_trie_tests.proofs.Prelude.{◌≡◌, ◌+◌, ◌++◌, length}
use Rattle.prefix_trie.specs.Terms.{listing, prefix_pairs}
use Rattle.prefix_trie_tests.proofs.examples.pages.read_page.Given as goal

abbrev pub invariant-loop-i : goal.invariant-loop-i
invariant-loop-i g l =
    (prefix_pairs g.P.Prefix.back (listing l.map.entries) ≡ l.read.items ++ l.walk)
    × (length l.read.items ≡ length l.initial.read.items + l._i)
