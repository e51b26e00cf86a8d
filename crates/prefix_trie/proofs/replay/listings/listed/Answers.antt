-- The copied items of `iter` are the whole listing.
use Rattle.prefix_trie.proofs.Prelude.{lent_item}
use Rattle.prefix_trie.proofs.WalkItems.{has_walk}
use Rattle.prefix_trie.proofs.replay.listings.listed.Goals as goal

pub returns : goal.returns
returns g c = has_walk lent_item (λ v. v.items) c.copied.result c.copied.ensures c.iter.ensures.items
