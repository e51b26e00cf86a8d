-- The handle holds the tables whose map the items were inserted into.
use Rattle.std.proofs.Common.{rules}
use Rattle.prefix_trie_c.proofs.Held.{on_held}
use Rattle.prefix_trie_c.proofs.v6.prefix_trie_c_v6_insert_all.Goals as goal

pub returns-clause-answer : goal.returns-clause-answer
returns-clause-answer c = on_held {t = c.in-Some.tables.value} _ _ (search rules) c.close.ensures.tables (search rules) (search rules)
