-- Taking a free block of a tier is popping its free list. The block was free, so no other list has it.
use Rattle.prefix_trie_table.proofs.Prelude.{◌≡◌, ◌<◌, [], ◌∷◌, ◌++◌, length, length-append, sym, ap, ◌∙◌, arith, get_or_default, Tier, tier_at, tier_sizes, size_in, free_in}
use Rattle.prefix_trie_table.proofs.Blocks.BySize.{size_at, sizes_up, free_at}
use Rattle.prefix_trie_table.proofs.Blocks.Turnovers.{Turnover-taken}
use Rattle.prefix_trie_table.proofs.Blocks.Soundness.{Sound-taken}
use Rattle.prefix_trie_table.proofs.Blocks.Tiers.{tier_turned}
use Rattle.prefix_trie_table.proofs.allocator.blocks.Blocks.take.Goals as goal

pub pop-requires : goal.pop-requires
pop-requires g c =
    let v = c.self.inside in
    let within : c.args.k < length v.lists.items = rw (← c.self.view_is) at c.requires.within in
    let at_k : tier_at v.lists.items c.args.k ≡ c.index_mut-list.result.now = get_or_default v.lists.items c.args.k _ c.index_mut-list.result.now within ∙ sym c.index_mut-list.ensures.value in
    let some : 0 < free_in v.lists.items (size_in (tier_sizes v.lists.items) c.args.k) = rw (← c.self.view_is) at c.requires.ready in
    omega (arith, some, free_at v.lists.items c.args.k c.self.invariant.2 within, ap (λ (t : Tier). length t.starts) at_k)

pub returns : goal.returns
returns g c =
    let v = c.self.inside in
    let old = c.index_mut-list.result.now in
    let t : Tier = c.pop.new.self in
    let within : c.args.k < length v.lists.items = rw (← c.self.view_is) at c.requires.within in
    let at_k : tier_at v.lists.items c.args.k ≡ old = get_or_default v.lists.items c.args.k _ old within ∙ sym c.index_mut-list.ensures.value in
    let size : t.size ≡ (tier_at v.lists.items c.args.k).size = ap (λ (u : Tier). u.size) c.pop.ensures.rest ∙ ap (λ (u : Tier). u.size) (sym at_k) in
    let made : t.made ≡ (tier_at v.lists.items c.args.k).made = ap (λ (u : Tier). u.made) c.pop.ensures.rest ∙ ap (λ (u : Tier). u.made) (sym at_k) in
    let starts : (tier_at v.lists.items c.args.k).starts ≡ t.starts ++ c.pop.result ∷ [] = ap (λ (u : Tier). u.starts) at_k ∙ c.pop.ensures.starts in
    let one = length-append t.starts (c.pop.result ∷ []) in
    record {
      turnover = rw (← c.self.view_is) (Turnover-taken _ c.args.k t (sizes_up v.lists.items c.self.invariant.2) within size _ (size_at v.lists.items c.args.k) made (omega (arith, ap length starts, one)));
      sound = λ live s. rw (← c.self.view_is) (Sound-taken g.S.Slot.vacant live _ c.args.k t c.pop.result within size made starts (rw (← c.self.view_is) at s));
    }

pub invariant_of-self : goal.invariant_of-self
invariant_of-self g c =
    let v = c.self.inside in
    let turned = tier_turned v.lists.items c.args.k v.first _ c.pop.new.self c.index_mut-list.result.now (rw (← c.self.view_is) at c.requires.within) c.index_mut-list.ensures.value (ap (λ (t : Tier). t.size) c.pop.ensures.rest) (ap (λ (t : Tier). t.made) c.pop.ensures.rest) c.self.invariant.1 c.self.invariant.2 in
    (c.self.invariant.0, turned.0, turned.1)
