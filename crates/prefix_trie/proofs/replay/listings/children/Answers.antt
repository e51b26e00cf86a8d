-- The copied items of `children` are the entries that begin with the prefix's path.
use Rattle.prefix_trie.proofs.Prelude.{lent_item}
use Rattle.prefix_trie.proofs.WalkItems.{has_walk}
use Rattle.prefix_trie.proofs.replay.listings.children.Goals as goal

pub returns : goal.returns
returns g c = has_walk lent_item (λ v. v.items) c.copied.result c.copied.ensures c.children-2.ensures.items
