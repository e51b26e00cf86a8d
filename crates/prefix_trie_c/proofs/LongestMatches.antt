-- A compiled table has the longest matches of the map that it is compiled from.
use Rattle.std.proofs.Common.{ℕ, Option, List, nat_eq, eqb-true}
use Rattle.prefix_trie.specs.Terms.{Entries, digits}
use Rattle.prefix_trie_bits.specs.BitStrings.{length-digits}
use Rattle.prefix_trie_fib.specs.Tables.{IsTableOf}
use Rattle.prefix_trie_fib.proofs.MergedRanges.{alike_exact}
use Rattle.prefix_trie_c.specs.Compiled.{HasMatches}

pub has_matches : (width : ℕ) (m : Entries ℕ) (ranges : List (ℕ × Option ℕ)) → IsTableOf width nat_eq m ranges → HasMatches width m ranges
has_matches width m ranges table address = alike_exact nat_eq eqb-true _ _ (table.values (digits width address) (length-digits width address))
