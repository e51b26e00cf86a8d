-- A list moves to a smaller block and frees its old one. If the smaller block is refused, the list keeps its block.
use Rattle.prefix_trie_table.proofs.Prelude.{ℕ, ◌+◌, ◌-◌, ◌<◌, ◌≤◌, ◌∷◌, [], None, Some, refl, sym, ap, ◌∙◌, subst, arith, Sound, Turnover, tier_at, tier_sizes, size_in, free_in, many_of, none_of, block}
use Rattle.prefix_trie_table.proofs.Blocks.BySize.{size_at, tiers_long, many_here, many-none}
use Rattle.prefix_trie_table.proofs.Blocks.Soundness.{Sound-exchanged, has_place}
use Rattle.prefix_trie_table.proofs.Blocks.ListMoves.{runs_within, runs_apart, second_vacant, moved_turned}
use Rattle.prefix_trie_table.proofs.Blocks.ResultCases.{told_ok, told_err}
use Rattle.prefix_trie_table.proofs.Blocks.Turnovers.{size_kept, Turnover-as, Turnover-then, Turnover-moved}
use Rattle.prefix_trie_table.proofs.allocator.blocks.Blocks.step_down.Given as given
use Rattle.prefix_trie_table.proofs.allocator.blocks.Blocks.step_down.Goals as goal

-- ---- the smaller block was refused

pub returns-then-is_err-clause-kept : goal.returns-then-is_err-clause-kept
returns-then-is_err-clause-kept g c =
    let v = c.args.self.now in
    let size : ℕ = size_in (tier_sizes c.args.self.now.tiers) c.args.to in
    let some : (m : ℕ) × (free_in v.tiers size + m < 1) × Turnover v c.obtain.new.self (many_of size m) None None = told_err c.obtain.result c.if-is_err.ensures.value c.obtain.ensures.err in
    Turnover-as v c.obtain.new.self _ none_of None None (λ n. many-none size some.0 n (let h = some.1 in omega (arith, h))) some.2

pub returns-then-is_err-clause-taken : goal.returns-then-is_err-clause-taken
returns-then-is_err-clause-taken g c = λ free.
    let v = c.args.self.now in
    let size : ℕ = size_in (tier_sizes c.args.self.now.tiers) c.args.to in
    let some : (m : ℕ) × (free_in v.tiers size + m < 1) × Turnover v c.obtain.new.self (many_of size m) None None = told_err c.obtain.result c.if-is_err.ensures.value c.obtain.ensures.err in
    absurd (omega (arith, free, some.1))

pub returns-then-is_err-clause-sound : goal.returns-then-is_err-clause-sound
returns-then-is_err-clause-sound g c = λ n xs live sound count.
    c.obtain.ensures.sound (block c.args.k c.args.start n xs ∷ live) sound

-- ---- the list moves

pub obtain-requires : goal.obtain-requires
obtain-requires g c = c.requires.within

pub take-new-requires : goal.take-new-requires
take-new-requires g c =
    let v = c.args.self.now in
    let w = c.obtain.new.self in
    let size : ℕ = size_in (tier_sizes c.args.self.now.tiers) c.args.to in
    let made : Turnover v w (many_of size (1 - free_in v.tiers size)) None None = told_ok c.obtain.result c.if-is_err.ensures.value c.obtain.ensures.made in
    record {
      within = omega (arith, tiers_long w.tiers (tier_sizes v.tiers) made.keeps.sizes, tiers_long v.tiers (tier_sizes v.tiers) refl, c.requires.within);
      ready = subst (λ n. 0 < free_in w.tiers n) (sym (ap (λ ns. size_in ns c.args.to) made.keeps.sizes)) (omega (arith, made.free_is size, many_here size (1 - free_in v.tiers size)));
    }

pub move_items-requires : goal.move_items-requires
move_items-requires g c =
    let v = c.args.self.now in
    let w = c.obtain.new.self in
    let u = c.requires.in_use in
    let a = block c.args.k c.args.start u.size u.items in
    let b = block c.args.to c.take-new.result (tier_at c.obtain.new.self.tiers c.args.to).size [] in
    let size : ℕ = size_in (tier_sizes c.args.self.now.tiers) c.args.to in
    let made : Turnover v w (many_of size (1 - free_in v.tiers size)) None None = told_ok c.obtain.result c.if-is_err.ensures.value c.obtain.ensures.made in
    let space : c.args.count ≤ (tier_at c.obtain.new.self.tiers c.args.to).size = omega (arith, c.requires.holds, size_kept v w c.args.to made.keeps.sizes, size_at v.tiers c.args.to) in
    let s = c.take-new.ensures.sound (a ∷ u.live) (c.obtain.ensures.sound (a ∷ u.live) u.sound) in
    let within = runs_within g.S.Slot.vacant a b u.live _ c.args.count s u.is_count space in
    record {
      from_within = within.0;
      to_within = within.1;
      apart = runs_apart g.S.Slot.vacant a b u.live _ c.args.count s u.is_count space;
      vacant = second_vacant g.S.Slot.vacant a b u.live _ c.args.count s u.is_count space refl;
    }

pub give_back-requires : goal.give_back-requires
give_back-requires g c =
    let v = c.args.self.now in
    let w = c.obtain.new.self in
    let u = c.requires.in_use in
    let a = block c.args.k c.args.start u.size u.items in
    let b = block c.args.to c.take-new.result (tier_at c.obtain.new.self.tiers c.args.to).size [] in
    let size : ℕ = size_in (tier_sizes c.args.self.now.tiers) c.args.to in
    let made : Turnover v w (many_of size (1 - free_in v.tiers size)) None None = told_ok c.obtain.result c.if-is_err.ensures.value c.obtain.ensures.made in
    let space : c.args.count ≤ (tier_at c.obtain.new.self.tiers c.args.to).size = omega (arith, c.requires.holds, size_kept v w c.args.to made.keeps.sizes, size_at v.tiers c.args.to) in
    let s = Sound-exchanged g.S.Slot.vacant b a u.live _ (c.take-new.ensures.sound (a ∷ u.live) (c.obtain.ensures.sound (a ∷ u.live) u.sound)) in
    let reserved = has_place g.S.Slot.vacant _ _ _ (c.move_items.ensures.sound a b u.live s refl refl u.is_count refl space) in
    record { within = reserved.0; reserved = reserved.1 }

-- the new block was obtained, and holds the list
obtained : (g : given.Over) (c : goal.After-give_back g) → Turnover c.args.self.now c.obtain.new.self (many_of (size_in (tier_sizes c.args.self.now.tiers) c.args.to)
    (1 - free_in c.args.self.now.tiers (size_in (tier_sizes c.args.self.now.tiers) c.args.to))) None None
obtained g c = told_ok c.obtain.result c.if-is_err.ensures.value c.obtain.ensures.made

space : (g : given.Over) (c : goal.After-give_back g) → c.args.count ≤ (tier_at c.obtain.new.self.tiers c.args.to).size
space g c = omega (arith, c.requires.holds, size_kept c.args.self.now c.obtain.new.self c.args.to (obtained g c).keeps.sizes, size_at c.args.self.now.tiers c.args.to)

pub returns-clause-sound : goal.returns-clause-sound
returns-clause-sound g c = λ n xs live sound count.
    let a = block c.args.k c.args.start n xs in
    let b = block c.args.to c.take-new.result (tier_at c.obtain.new.self.tiers c.args.to).size [] in
    let s = Sound-exchanged g.S.Slot.vacant b a live _ (c.take-new.ensures.sound (a ∷ live) (c.obtain.ensures.sound (a ∷ live) sound)) in
    let m = c.move_items.ensures.sound a b live s refl refl count refl (space g c) in
    subst (λ size. Sound g.S.Slot.vacant (block c.args.to c.take-new.result size xs ∷ live) c.give_back.new.self)
    (size_kept c.args.self.now c.obtain.new.self c.args.to (obtained g c).keeps.sizes) (c.give_back.ensures.sound _ n m)

pub returns-clause-turnover : goal.returns-clause-turnover
returns-clause-turnover g c =
    let v = c.args.self.now in
    let w = c.obtain.new.self in
    let t = c.take-new.new.self in
    let y = c.move_items.new.self in
    let x = c.give_back.new.self in
    let u = c.requires.in_use in
    let a = block c.args.k c.args.start u.size u.items in
    let b = block c.args.to c.take-new.result (tier_at c.obtain.new.self.tiers c.args.to).size [] in
    let first = obtained g c in
    let still = moved_turned g.S.Slot.vacant a b u.live t c.args.count (c.take-new.ensures.sound (a ∷ u.live) (c.obtain.ensures.sound (a ∷ u.live) u.sound)) u.is_count (space g c) y c.move_items.ensures.slots None in
    let entered = subst (λ ns. Turnover w t none_of None (Some (size_in ns c.args.to))) first.keeps.sizes c.take-new.ensures.turnover in
    let left = subst (λ ns. Turnover y x none_of (Some (size_in ns c.args.k)) None) (still.keeps.sizes ∙ entered.keeps.sizes ∙ first.keeps.sizes) c.give_back.ensures.turnover in
    let old = Some (size_in (tier_sizes v.tiers) c.args.k) in
    let new = Some (size_in (tier_sizes v.tiers) c.args.to) in
    Turnover-as v x _ _ old new (λ size. omega arith)
    (Turnover-then v w x _ none_of None None old new old new (λ size. omega arith) first (Turnover-moved w t y x none_of old new entered still left))
