-- Freeing an empty block is pushing it to the free list of its tier, which has capacity for it.
use Rattle.prefix_trie_table.proofs.Prelude.{◌≡◌, ◌<◌, ◌∷◌, [], ◌++◌, length, length-append, refl, sym, ap, ◌∙◌, get_or_default, Tier, tier_at, block}
use Rattle.prefix_trie_table.proofs.Blocks.BySize.{size_at, sizes_up}
use Rattle.prefix_trie_table.proofs.Blocks.Turnovers.{Turnover-given}
use Rattle.prefix_trie_table.proofs.Blocks.Soundness.{Sound-given}
use Rattle.prefix_trie_table.proofs.Blocks.Tiers.{tier_turned}
use Rattle.prefix_trie_table.proofs.allocator.blocks.Blocks.give_back.Goals as goal

pub returns : goal.returns
returns g c =
    let v = c.self.inside in
    let old = c.index_mut-list.result.now in
    let t : Tier = c.push.new.self in
    let within : c.args.k < length v.lists.items = rw (← c.self.view_is) at c.requires.within in
    let at_k : old ≡ tier_at v.lists.items c.args.k = c.index_mut-list.ensures.value ∙ sym (get_or_default v.lists.items c.args.k _ old within) in
    let is : t ≡ record (tier_at v.lists.items c.args.k) { starts = (tier_at v.lists.items c.args.k).starts ++ c.args.start ∷ [] } = c.push.ensures ∙ ap (λ (u : Tier). record u { starts = u.starts ++ c.args.start ∷ [] }) at_k in
    let size : t.size ≡ (tier_at v.lists.items c.args.k).size = ap (λ (u : Tier). u.size) is in
    let made : t.made ≡ (tier_at v.lists.items c.args.k).made = ap (λ (u : Tier). u.made) is in
    let starts : t.starts ≡ (tier_at v.lists.items c.args.k).starts ++ c.args.start ∷ [] = ap (λ (u : Tier). u.starts) is in
    record {
      turnover = rw (← c.self.view_is) (Turnover-given _ c.args.k t (sizes_up v.lists.items c.self.invariant.2) within size _ (size_at v.lists.items c.args.k) made
          (ap length starts ∙ length-append (tier_at v.lists.items c.args.k).starts (c.args.start ∷ [])));
      sound = λ live n s. Sound-given g.S.Slot.vacant (block c.args.k c.args.start n []) live _ t refl size made starts (rw (← c.self.view_is) at s);
    }

pub invariant_of-self : goal.invariant_of-self
invariant_of-self g c =
    let v = c.self.inside in
    let turned = tier_turned v.lists.items c.args.k v.first _ c.push.new.self c.index_mut-list.result.now (rw (← c.self.view_is) at c.requires.within) c.index_mut-list.ensures.value (ap (λ (t : Tier). t.size) c.push.ensures) (ap (λ (t : Tier). t.made) c.push.ensures) c.self.invariant.1 c.self.invariant.2 in
    (c.self.invariant.0, turned.0, turned.1)
