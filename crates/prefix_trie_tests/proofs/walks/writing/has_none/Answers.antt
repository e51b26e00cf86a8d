-- A walk that ends at once has the whole listing to come, which is empty then.
use Rattle.prefix_trie_tests.proofs.Prelude.{rules}
use Rattle.prefix_trie_tests.proofs.Swapping.{over_at_start}
use Rattle.prefix_trie_tests.proofs.walks.writing.has_none.Goals as goal

pub returns : goal.returns
returns g c none = over_at_start _ _ c.next.result c.iter_mut-walk.ensures.starts c.next.ensures.none (search rules)
