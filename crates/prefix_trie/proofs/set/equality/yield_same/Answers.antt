-- The first items that differ, or a walk that ends early, decide as `pointwise` does.
use Rattle.prefix_trie.proofs.Prelude.{rules}
use Rattle.prefix_trie.proofs.set.equality.yield_same.Goals as goal

pub returns : goal.returns
returns g c = search rules
