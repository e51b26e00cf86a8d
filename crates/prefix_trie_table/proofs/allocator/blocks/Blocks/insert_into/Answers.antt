-- Inserting an item into a list that has a block: in place if the block has a free slot, and otherwise in the smallest
-- larger block.
use Rattle.prefix_trie_table.proofs.Prelude.{◌≡◌, ℕ, ◌+◌, ◌<◌, ◌∷◌, insert, Some, refl, sym, ap, ◌∙◌, arith, subst, option_or, none-some, one_of, Sound, Turnover, tier_at, tier_sizes, size_in, none_of, list_size, list_need, block}
use Rattle.prefix_trie_table.proofs.Blocks.BySize.{size_at, size_some, need_none, need_full, smallest_holds, many_here}
use Rattle.prefix_trie_table.proofs.Blocks.Soundness.{block_inside, tier_of_block}
use Rattle.prefix_trie_table.proofs.Blocks.Preparations.{how_many-needs}
use Rattle.prefix_trie_table.proofs.Blocks.Turnovers.{Turnover-shifted}
use Rattle.prefix_trie_table.proofs.allocator.blocks.Blocks.insert_into.Given as given
use Rattle.prefix_trie_table.proofs.allocator.blocks.Blocks.insert_into.Goals as goal

pub size_of-requires : goal.size_of-requires
size_of-requires g c =
    let u = c.requires.in_use in
    (tier_of_block g.S.Slot.vacant (block c.args.k c.args.start u.size u.items) u.live _ u.sound).within

-- ---- a block with a free slot

pub insert_within-requires-clause-space : goal.insert_within-requires-clause-space
insert_within-requires-clause-space g c =
    let u = c.requires.in_use in
    let b = block c.args.k c.args.start u.size u.items in
    let size = (tier_of_block g.S.Slot.vacant b u.live _ u.sound).size_is in
    omega (arith, (block_inside g.S.Slot.vacant b u.live _ u.sound).before, c.size_of.ensures, size, size_at c.args.self.now.tiers c.args.k)

stays : (g : given.Over) (c : goal.After-insert_within g) → list_size c.args.self.now.tiers c.args.k (c.args.count + 1) ≡ list_size c.args.self.now.tiers c.args.k c.args.count
stays g c =
    let size = size_in (tier_sizes c.args.self.now.tiers) c.args.k in
    size_some (c.args.count + 1) size (omega arith) ∙ sym (size_some c.args.count size c.requires.some)

pub returns-then-count-size_of-clause-is_there : goal.returns-then-count-size_of-clause-is_there
returns-then-count-size_of-clause-is_there g c =
    stays g c ∙ sym (ap (λ o. option_or o (list_size c.args.self.now.tiers c.args.k c.args.count))
    (need_none c.args.self.now.tiers c.args.k c.args.count c.requires.some (omega (arith, c.if-count-size_of.true, c.size_of.ensures))))

pub returns-then-count-size_of-clause-turnover : goal.returns-then-count-size_of-clause-turnover
returns-then-count-size_of-clause-turnover g c =
    let v = c.args.self.now in
    let w = c.insert_within.new.self in
    let u = c.requires.in_use in
    let b = block c.args.k c.args.start u.size u.items in
    let size = (tier_of_block g.S.Slot.vacant b u.live _ u.sound).size_is in
    let at = block_inside g.S.Slot.vacant b u.live _ u.sound in
    let small : c.args.count < u.size = omega (arith, c.if-count-size_of.true, c.size_of.ensures, size, size_at v.tiers c.args.k) in
    subst (λ o. Turnover v w none_of (list_size v.tiers c.args.k c.args.count) o) (sym (stays g c))
    (Turnover-shifted v w (c.args.start + c.args.count) (c.args.start + c.args.offset) c.args.value c.insert_within.ensures.slots (omega (arith, at.after)) (omega (arith, at.after))
    (omega (arith, at.before, small)) (omega (arith, at.before, small, c.requires.offset)) (list_size v.tiers c.args.k c.args.count))

pub returns-then-count-size_of-clause-sound : goal.returns-then-count-size_of-clause-sound
returns-then-count-size_of-clause-sound g c = λ n xs live sound count.
    let b = block c.args.k c.args.start n xs in
    let size : n ≡ (tier_at c.args.self.now.tiers c.args.k).size = (tier_of_block g.S.Slot.vacant b live _ sound).size_is in
    subst (λ m. Sound g.S.Slot.vacant (block c.args.k c.args.start m (insert xs c.args.offset c.args.value) ∷ live) c.insert_within.new.self) size
    (c.insert_within.ensures.sound b live sound refl count (omega (arith, size, c.if-count-size_of.true, c.size_of.ensures, size_at c.args.self.now.tiers c.args.k)))

-- ---- a full block

pub insert_moving-start-requires-clause-ready : goal.insert_moving-start-requires-clause-ready
insert_moving-start-requires-clause-ready g c =
    let ts = c.args.self.now.tiers in
    let size : ℕ = size_in (tier_sizes c.args.self.now.tiers) c.tier_holding-tier.result in
    let need : list_need ts c.args.k c.args.count ≡ Some size = need_full ts c.args.k c.args.count c.requires.some (omega (arith, c.if-count-size_of.false, c.size_of.ensures)) ∙ c.tier_holding-tier.ensures.size in
    let one : one_of (list_need ts c.args.k c.args.count) size ≡ 1 = ap (λ o. one_of o size) need ∙ many_here size 1 in
    omega (arith, c.requires.ready.1 size, how_many-needs (list_need ts c.args.k c.args.count) 0 size, one)

pub insert_moving-start-requires-clause-holds : goal.insert_moving-start-requires-clause-holds
insert_moving-start-requires-clause-holds g c = (let h = (smallest_holds (tier_sizes c.args.self.now.tiers) (c.args.count + 1) _ c.tier_holding-tier.ensures.size).1 in omega (arith, h))

moves : (g : given.Over) (c : goal.After-insert_moving-start g) → list_need c.args.self.now.tiers c.args.k c.args.count ≡ Some (size_in (tier_sizes c.args.self.now.tiers) c.tier_holding-tier.result)
moves g c = need_full c.args.self.now.tiers c.args.k c.args.count c.requires.some (omega (arith, c.if-count-size_of.false, c.size_of.ensures)) ∙ c.tier_holding-tier.ensures.size

pub returns-clause-is_there : goal.returns-clause-is_there
returns-clause-is_there g c =
    size_some (c.args.count + 1) (size_in (tier_sizes c.args.self.now.tiers) c.tier_holding-tier.result) (omega arith)
    ∙ sym (ap (λ o. option_or o (list_size c.args.self.now.tiers c.args.k c.args.count)) (moves g c))

pub returns-clause-stays : goal.returns-clause-stays
returns-clause-stays g c = λ none. absurd (none-some _ (sym none ∙ moves g c))

pub returns-clause-turnover : goal.returns-clause-turnover
returns-clause-turnover g c =
    let v = c.args.self.now in
    let w = c.insert_moving-start.new.self in
    let old = size_some c.args.count (size_in (tier_sizes v.tiers) c.args.k) c.requires.some in
    let new = size_some (c.args.count + 1) (size_in (tier_sizes v.tiers) c.tier_holding-tier.result) (omega arith) in
    subst (λ o. Turnover v w none_of o (list_size v.tiers c.tier_holding-tier.result (c.args.count + 1))) (sym old)
    (subst (λ o. Turnover v w none_of (Some (size_in (tier_sizes v.tiers) c.args.k)) o) (sym new) c.insert_moving-start.ensures.turnover)
