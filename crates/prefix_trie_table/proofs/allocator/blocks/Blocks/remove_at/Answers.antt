-- Removing an item from a list, in terms of the list instead of its block: what `remove_from` returns if items are
-- left, and if none is.
use Rattle.prefix_trie_table.proofs.Prelude.{◌≡◌, ◌<◌, ◌∷◌, List, Option, Some, MatchOption, is_some, remove, refl, sym, ap, ◌∙◌, subst, arith, false≢true, length-remove, BlockRef, Store, UsedBlock, Sound, tier_at, tier_sizes, block}
use Rattle.prefix_trie_table.proofs.Blocks.BySize.{first_size, tiers_long}
use Rattle.prefix_trie_table.proofs.Blocks.Losing.{left_some, none_left, left_none}
use Rattle.prefix_trie_table.proofs.Blocks.Soundness.{list_block, block_list, no_list, tier_of_block}
use Rattle.prefix_trie_table.proofs.allocator.blocks.Blocks.remove_at.Goals as goal

pub remove_from-value-requires-clause-in_use : goal.remove_from-value-requires-clause-in_use
remove_from-value-requires-clause-in_use g c =
    let u = c.requires.holds in
    record { live = u.live; size = u.size; items = u.items; is_count = u.is_count; sound = list_block g.S.Slot.vacant c.args.k c.args.start u.size u.items u.live _ (omega (arith, u.is_count, c.requires.offset)) u.sound }

-- ---- items are left

pub returns-in-Some-clause-value : goal.returns-in-Some-clause-value
returns-in-Some-clause-value g c = λ n xs live s count.
    c.remove_from-value.ensures.value n xs live (list_block g.S.Slot.vacant c.args.k c.args.start n xs live _ (omega (arith, count, c.requires.offset)) s) count

pub returns-in-Some-clause-loses : goal.returns-in-Some-clause-loses
returns-in-Some-clause-loses g c =
    let e = c.remove_from-value.ensures in
    left_some c.args.self.now c.remove_from-value.new.self c.args.k c.args.count c.remove_from-value.result.1 e.none e.loses c.in-Some.rest c.in-Some.is

-- the block of the items that are left
rest : {S : Type 0} (vacant : S) (v w : Store S) (xs : List S) (live : List (UsedBlock S)) (o : Option BlockRef) (p : BlockRef) → o ≡ Some p →
    MatchOption o (Sound vacant live w) (λ p. Sound vacant (block p.tier p.start (tier_at v.tiers p.tier).size xs ∷ live) w) → Sound vacant (block p.tier p.start (tier_at v.tiers p.tier).size xs ∷ live) w
rest {S} vacant v w xs live o p is = subst (λ (q : Option BlockRef). MatchOption q (Sound vacant live w) (λ p. Sound vacant (block p.tier p.start (tier_at v.tiers p.tier).size xs ∷ live) w)) is

pub returns-in-Some-clause-sound : goal.returns-in-Some-clause-sound
returns-in-Some-clause-sound g c = λ n xs live s count.
    let more : 1 < c.args.count = c.remove_from-value.ensures.none.0 (ap (λ o. is_some o) c.in-Some.is) in
    let all = c.remove_from-value.ensures.sound n xs live (list_block g.S.Slot.vacant c.args.k c.args.start n xs live _ (omega (arith, count, c.requires.offset)) s) count in
    block_list g.S.Slot.vacant c.in-Some.rest.tier c.in-Some.rest.start (tier_at c.args.self.now.tiers c.in-Some.rest.tier).size (remove xs c.args.offset) live _
    (omega (arith, length-remove xs c.args.offset (omega (arith, count, c.requires.offset)), count, more))
    (rest g.S.Slot.vacant c.args.self.now c.remove_from-value.new.self (remove xs c.args.offset) live c.remove_from-value.result.1 c.in-Some.rest c.in-Some.is all)

pub returns-in-Some-clause-tier : goal.returns-in-Some-clause-tier
returns-in-Some-clause-tier g c =
    let u = c.requires.holds in
    let all = c.remove_from-value.ensures.sound u.size u.items u.live (list_block g.S.Slot.vacant c.args.k c.args.start u.size u.items u.live _ (omega (arith, u.is_count, c.requires.offset)) u.sound) u.is_count in
    let one = rest g.S.Slot.vacant c.args.self.now c.remove_from-value.new.self (remove u.items c.args.offset) u.live c.remove_from-value.result.1 c.in-Some.rest c.in-Some.is all in
    let m = tiers_long c.remove_from-value.new.self.tiers (tier_sizes c.args.self.now.tiers) c.remove_from-value.ensures.loses.turnover.keeps.sizes in
    omega (arith, (tier_of_block g.S.Slot.vacant _ _ _ one).within, tiers_long c.args.self.now.tiers (tier_sizes c.args.self.now.tiers) refl, m)

-- ---- no item is left

pub returns-in-None-clause-value : goal.returns-in-None-clause-value
returns-in-None-clause-value g c = λ n xs live s count.
    c.remove_from-value.ensures.value n xs live (list_block g.S.Slot.vacant c.args.k c.args.start n xs live _ (omega (arith, count, c.requires.offset)) s) count

pub returns-in-None-clause-loses : goal.returns-in-None-clause-loses
returns-in-None-clause-loses g c =
    let e = c.remove_from-value.ensures in
    left_none c.args.self.now c.remove_from-value.new.self c.args.k c.args.count c.remove_from-value.result.1 e.none e.loses c.in-None.is (omega (arith, c.requires.offset))

pub returns-in-None-clause-tier : goal.returns-in-None-clause-tier
returns-in-None-clause-tier g c = (first_size c.args.self.now.tiers c.requires.sizes).2

pub returns-in-None-clause-stays : goal.returns-in-None-clause-stays
returns-in-None-clause-stays g c = λ more. absurd (false≢true (ap (λ o. is_some o) (sym c.in-None.is) ∙ c.remove_from-value.ensures.none.1 more))

pub returns-in-None-clause-sound : goal.returns-in-None-clause-sound
returns-in-None-clause-sound g c = λ n xs live s count.
    let w = c.remove_from-value.new.self in
    let e = c.remove_from-value.ensures in
    let one = none_left c.args.self.now c.remove_from-value.new.self c.args.k c.args.count c.remove_from-value.result.1 e.none e.loses c.in-None.is (omega (arith, c.requires.offset)) in
    let all = e.sound n xs live (list_block g.S.Slot.vacant c.args.k c.args.start n xs live _ (omega (arith, count, c.requires.offset)) s) count in
    no_list g.S.Slot.vacant 0 0 (tier_at c.args.self.now.tiers 0).size (remove xs c.args.offset) live _ (omega (arith, length-remove xs c.args.offset (omega (arith, count, c.requires.offset)), count, one))
    (subst (λ (o : Option BlockRef). MatchOption o (Sound g.S.Slot.vacant live w) (λ p. Sound g.S.Slot.vacant (block p.tier p.start (tier_at c.args.self.now.tiers p.tier).size (remove xs c.args.offset) ∷ live) w)) c.in-None.is all)
