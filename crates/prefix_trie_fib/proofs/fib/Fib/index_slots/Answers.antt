-- At most 20 bits select a chunk.
use Rattle.prefix_trie_fib.proofs.Sizes.{most_chunks}
use Rattle.prefix_trie_fib.proofs.fib.Fib.index_slots.Goals as goal

pub returns-clause-few : goal.returns-clause-few
returns-clause-few g c = most_chunks _ _ _ c.chunks.ensures
