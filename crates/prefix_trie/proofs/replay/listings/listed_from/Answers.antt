-- The copied items of `iter_from` are the listing from the prefix on, or after it.
use Rattle.prefix_trie.proofs.Prelude.{lent_item}
use Rattle.prefix_trie.proofs.WalkItems.{has_walk}
use Rattle.prefix_trie.proofs.replay.listings.listed_from.Goals as goal

pub returns : goal.returns
returns g c = has_walk lent_item (λ v. v.items) c.copied.result c.copied.ensures c.iter_from-2.ensures.items
