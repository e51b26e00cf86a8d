-- The free blocks of a tier are the starts in its free list.
use Rattle.prefix_trie_table.proofs.Prelude.{◌<◌, length, sym, ap, ◌∙◌, get_or_default, Tier}
use Rattle.prefix_trie_table.proofs.Blocks.BySize.{free_at}
use Rattle.prefix_trie_table.proofs.allocator.blocks.Blocks.free_of.Goals as goal

pub returns : goal.returns
returns g c =
    let v = c.self.inside in
    let within : c.args.k < length v.lists.items = rw (← c.self.view_is) at c.requires in
    rw (← c.self.view_is) (c.free.ensures.count ∙ ap (λ (t : Tier). length t.starts) (c.index.ensures ∙ sym (get_or_default v.lists.items c.args.k _ c.index.result.now within)) ∙ sym (free_at v.lists.items c.args.k c.self.invariant.2 within))
