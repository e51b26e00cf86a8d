-- The test of a split rejects every entry, so it promises nothing about an accepted one.
use Rattle.prefix_trie_table.proofs.Prelude.{false≢true}
use Rattle.prefix_trie_table.proofs.table.part_moving.SeatsKeep.keeps.Goals as goal

pub returns-clause-yes : goal.returns-clause-yes
returns-clause-yes g c = λ yes. absurd (false≢true yes)
