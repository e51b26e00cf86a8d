-- The copied items of `cover` are the entries that the prefix's path begins with, shortest first.
use Rattle.prefix_trie.proofs.Prelude.{lent_item}
use Rattle.prefix_trie.proofs.WalkItems.{has_walk}
use Rattle.prefix_trie.proofs.replay.listings.covered.Goals as goal

pub returns : goal.returns
returns g c = has_walk lent_item (λ v. v.items) c.copied.result c.copied.ensures c.cover-2.ensures.items
