-- Keys compare as their numbers.
use Rattle.std.proofs.Common.{rules}
use Rattle.std.proofs.lemmas.List.Sorted.{IsNonDecreasingBy-from_sort_by}
use Rattle.prefix_trie_bits.specs.Model.Bits.{number}
use Rattle.address_ranges.proofs.builder.sorted.sort.Goals as goal

pub returns-clause-sorted : goal.returns-clause-sorted
returns-clause-sorted g c = IsNonDecreasingBy-from_sort_by (λ r. number (g.K.Key.bits r.0)) _ c.sort_unstable_by.ensures.sorted (λ a r q k. search rules)
