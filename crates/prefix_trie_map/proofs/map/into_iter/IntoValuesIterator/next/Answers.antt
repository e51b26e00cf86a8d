-- The next value is the second part of the next item of the walk inside.
use Rattle.prefix_trie_map.proofs.Prelude.{rules}
use Rattle.prefix_trie_map.proofs.map.into_iter.IntoValuesIterator.next.Goals as goal

pub returns-in_default-clause-steps : goal.returns-in_default-clause-steps
returns-in_default-clause-steps g c = search rules

pub returns-clause-steps : goal.returns-clause-steps
returns-clause-steps g c = search rules
