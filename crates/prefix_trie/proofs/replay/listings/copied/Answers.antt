-- Extending a list by a walk that copies each item makes the copies of all its items, in order.
use Rattle.prefix_trie.proofs.Prelude.{ap, ◌∙◌, map_source, lent_item}
use Rattle.prefix_trie.proofs.WalkItems.{takes_copies}
use Rattle.prefix_trie.proofs.replay.listings.copied.Goals as goal

pub returns : goal.returns
returns g c =
    let ran = c.in_ok-extend.ensures.ran in
    takes_copies g.I.Iterator.next_gives lent_item _ (λ f x y later called. called.met) ran.1 ran.0 ran.4 (ap map_source ran.2 ∙ c.map.ensures.source) c.in_ok-entries.ensures.items ran.3.0
