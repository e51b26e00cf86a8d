-- The next value is the one that the walk inside lends.
use Rattle.prefix_trie_map.proofs.Prelude.{rules}
use Rattle.prefix_trie_map.proofs.map.writing.ValuesOf.next.Goals as goal

pub returns : goal.returns
returns g c = search rules
