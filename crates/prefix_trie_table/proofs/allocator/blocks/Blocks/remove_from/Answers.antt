-- Removing an item from a block: the block is freed if no item is left, or the list moves to a smaller block, or it
-- keeps its block.
use Rattle.prefix_trie_table.proofs.Prelude.{◌≡◌, ℕ, ◌+◌, ◌-◌, ◌<◌, ◌≤◌, ◌∷◌, [], List, None, Some, IsSome, IfNone, MatchOption, is_some, length, insert, remove, refl, sym, ap, ◌∙◌, subst, arith, false≢true, same_Some, nil_from_length, length-remove, smallest_size, Store, Tier, UsedBlock, Sound, Turnover, tier_at, tier_sizes, size_in, free_in, free_counts, many_of, none_of, block}
use Rattle.prefix_trie_table.proofs.Blocks.BySize.{size_at, sizes_up, sizes_rise, tiers_long, smallest_holds, smallest_there}
use Rattle.prefix_trie_table.proofs.Blocks.Losing.{none_made, same_made, one_made, steps_gone, steps_moved, steps_stayed, smallest_low}
use Rattle.prefix_trie_table.proofs.Blocks.Soundness.{block_inside, fits_block, has_place, tier_of_block}
use Rattle.prefix_trie_table.proofs.Blocks.Turnovers.{Turnover-as, Turnover-then, Turnover-same, Turnover-shifted}
use Rattle.prefix_trie_table.proofs.allocator.blocks.Blocks.remove_from.Given as given
use Rattle.prefix_trie_table.proofs.allocator.blocks.Blocks.remove_from.Goals as goal
use Rattle.prefix_trie_table.proofs.allocator.blocks.Blocks.remove_from.Goals.{then-tier-k+in_default, else-tier-k}

pub remove_within-value-requires-clause-within : goal.remove_within-value-requires-clause-within
remove_within-value-requires-clause-within g c =
    let u = c.requires.in_use in
    let b = block c.args.k c.args.start u.size u.items in
    omega (arith, u.is_count, (block_inside g.S.Slot.vacant b u.live _ u.sound).before, fits_block g.S.Slot.vacant b u.live _ u.sound)

-- the block after one item is removed from its list
cut : {S : Type 0} (vacant : S) (v w : Store S) (k start count offset size : ℕ) (xs : List S) (live : List (UsedBlock S)) (x : S) → Sound vacant (block k start size xs ∷ live) v →
    length xs ≡ count → offset < count → w ≡ record v { slots = insert (remove v.slots (start + offset)) (start + count - 1) x } → Turnover v w none_of None None
cut vacant v w k start count offset size xs live x sound is_count inside is =
    let b = block k start size xs in
    let at = block_inside vacant b live v sound in
    let fits = fits_block vacant b live v sound in
    Turnover-shifted v w (start + offset) (start + count - 1) x is (omega (arith, at.after)) (omega (arith, at.after, inside)) (omega (arith, is_count, at.before, fits, inside))
    (omega (arith, is_count, at.before, fits, inside)) None

-- ---- no item is left

pub give_back-requires-clause-within : goal.give_back-requires-clause-within
give_back-requires-clause-within g c =
    let u = c.requires.in_use in
    (has_place g.S.Slot.vacant _ _ _ (c.remove_within-value.ensures.sound (block c.args.k c.args.start u.size u.items) u.live u.sound refl u.is_count)).0

pub give_back-requires-clause-reserved : goal.give_back-requires-clause-reserved
give_back-requires-clause-reserved g c =
    let u = c.requires.in_use in
    (has_place g.S.Slot.vacant _ _ _ (c.remove_within-value.ensures.sound (block c.args.k c.args.start u.size u.items) u.live u.sound refl u.is_count)).1

pub returns-then-rest-eq0-clause-value : goal.returns-then-rest-eq0-clause-value
returns-then-rest-eq0-clause-value g c = λ n xs live sound count.
    c.remove_within-value.ensures.value (block c.args.k c.args.start n xs) live sound refl count

pub returns-then-rest-eq0-clause-sound : goal.returns-then-rest-eq0-clause-sound
returns-then-rest-eq0-clause-sound g c = λ n xs live sound count.
    let none : remove xs c.args.offset ≡ [] = nil_from_length (remove xs c.args.offset) (omega (arith, length-remove xs c.args.offset (omega (arith, c.requires.offset)), c.if-rest-eq0.true)) in
    c.give_back.ensures.sound live n (subst (λ ys. Sound g.S.Slot.vacant (block c.args.k c.args.start n ys ∷ live) c.remove_within-value.new.self) none (c.remove_within-value.ensures.sound (block c.args.k c.args.start n xs) live sound refl count))

pub returns-then-rest-eq0-clause-loses : goal.returns-then-rest-eq0-clause-loses
returns-then-rest-eq0-clause-loses g c = record {
  turnover = (
      let v = c.args.self.now in
      let w = c.remove_within-value.new.self in
      let x = c.give_back.new.self in
      let u = c.requires.in_use in
      let left = cut g.S.Slot.vacant v w c.args.k c.args.start c.args.count c.args.offset u.size u.items u.live g.S.Slot.vacant u.sound u.is_count c.requires.offset c.remove_within-value.ensures.slots in
      let old = Some (size_in (tier_sizes v.tiers) c.args.k) in
      let gave = subst (λ ns. Turnover w x none_of (Some (size_in ns c.args.k)) None) left.keeps.sizes c.give_back.ensures.turnover in
      Turnover-as v x _ _ old None (λ size. sym (none_made (tier_sizes v.tiers) (free_counts v.tiers) old size))
      (Turnover-then v w x none_of none_of None None old None old None (λ size. omega arith) left gave));
  steps = (
      steps_gone c.args.self.now.tiers c.args.k c.args.count (omega (arith, c.requires.offset)) (omega (arith, c.if-rest-eq0.true, c.requires.offset)));
}

-- ---- the items that are left move to a smaller block

pub tier_holding-tier-requires : goal.tier_holding-tier-requires
tier_holding-tier-requires g c =
    let u = c.requires.in_use in
    let b = block c.args.k c.args.start u.size u.items in
    let of = tier_of_block g.S.Slot.vacant b u.live _ u.sound in
    let tiers : c.remove_within-value.new.self.tiers ≡ c.args.self.now.tiers = ap (λ (v : Store g.row.S.Denot). v.tiers) c.remove_within-value.ensures.slots in
    let fits : c.args.count - 1 ≤ size_in (tier_sizes c.args.self.now.tiers) c.args.k = omega (arith, of.size_is, fits_block g.S.Slot.vacant b u.live _ u.sound, u.is_count, size_at c.args.self.now.tiers c.args.k) in
    subst (λ ts. IsSome (smallest_size (tier_sizes ts) (c.args.count - 1))) (sym tiers)
    (ap is_some (smallest_there c.args.self.now.tiers (c.args.count - 1) c.args.k c.requires.sizes of.within fits).found)

pub step_down-requires-clause-in_use : goal.step_down-requires-clause-in_use
step_down-requires-clause-in_use g c =
    let u = c.requires.in_use in
    record {
      live = u.live;
      size = u.size;
      items = remove u.items c.args.offset;
      is_count = omega (arith, u.is_count, length-remove u.items c.args.offset (omega (arith, c.requires.offset, u.is_count)));
      sound = c.remove_within-value.ensures.sound (block c.args.k c.args.start u.size u.items) u.live u.sound refl u.is_count;
    }

pub step_down-requires-clause-within : goal.step_down-requires-clause-within
step_down-requires-clause-within g c = c.tier_holding-tier.ensures.within

pub step_down-requires-clause-holds : goal.step_down-requires-clause-holds
step_down-requires-clause-holds g c = (smallest_holds (tier_sizes c.remove_within-value.new.self.tiers) (c.args.count - 1) _ c.tier_holding-tier.ensures.size).1

pub returns-in-Some-clause-value : goal.returns-in-Some-clause-value
returns-in-Some-clause-value g c = λ n xs live sound count.
    c.remove_within-value.ensures.value (block c.args.k c.args.start n xs) live sound refl count

pub returns-in-Some-clause-none : goal.returns-in-Some-clause-none
returns-in-Some-clause-none g c = (λ _. (let z = c.if-rest-eq0.false in omega (arith, z)), λ _. refl)

pub returns-in-Some-clause-stays : goal.returns-in-Some-clause-stays
returns-in-Some-clause-stays g c = λ e. absurd (omega (arith, e, c.if-tier-k.true))

pub returns-in-Some-clause-sound : goal.returns-in-Some-clause-sound
returns-in-Some-clause-sound g c = λ n xs live sound count.
    let w = c.remove_within-value.new.self in
    let x = c.step_down.new.self in
    let less : length (remove xs c.args.offset) ≡ c.args.count - 1 = omega (arith, length-remove xs c.args.offset (omega (arith, c.requires.offset))) in
    let removed = c.remove_within-value.ensures.sound (block c.args.k c.args.start n xs) live sound refl count in
    let size : (tier_at w.tiers c.tier_holding-tier.result).size ≡ (tier_at c.args.self.now.tiers c.tier_holding-tier.result).size = ap (λ (v : Store g.row.S.Denot). (tier_at v.tiers c.tier_holding-tier.result).size) c.remove_within-value.ensures.slots in
    subst (λ m. Sound g.S.Slot.vacant (block c.tier_holding-tier.result c.in-Some.new m (remove xs c.args.offset) ∷ live) x) size
    (subst (λ o. MatchOption o (Sound g.S.Slot.vacant (block c.args.k c.args.start n (remove xs c.args.offset) ∷ live) x)
    (λ new. Sound g.S.Slot.vacant (block c.tier_holding-tier.result new (tier_at w.tiers c.tier_holding-tier.result).size (remove xs c.args.offset) ∷ live) x))
    c.in-Some.is (c.step_down.ensures.sound n (remove xs c.args.offset) live removed less))

pub returns-in-Some-clause-loses : goal.returns-in-Some-clause-loses
returns-in-Some-clause-loses g c = record {
  turnover = (
      let v = c.args.self.now in
      let w = c.remove_within-value.new.self in
      let x = c.step_down.new.self in
      let u = c.requires.in_use in
      let to = c.tier_holding-tier.result in
      let o : ℕ = size_in (tier_sizes v.tiers) c.args.k in
      let n : ℕ = size_in (tier_sizes v.tiers) c.tier_holding-tier.result in
      let of = tier_of_block g.S.Slot.vacant (block c.args.k c.args.start u.size u.items) u.live _ u.sound in
      let tiers : c.remove_within-value.new.self.tiers ≡ c.args.self.now.tiers = ap (λ (v : Store g.row.S.Denot). v.tiers) c.remove_within-value.ensures.slots in
      let left = cut g.S.Slot.vacant v w c.args.k c.args.start c.args.count c.args.offset u.size u.items u.live g.S.Slot.vacant u.sound u.is_count c.requires.offset c.remove_within-value.ensures.slots in
      let moved : Turnover w x (many_of (size_in (tier_sizes w.tiers) to) (1 - free_in w.tiers (size_in (tier_sizes w.tiers) to))) (Some (size_in (tier_sizes w.tiers) c.args.k)) (Some (size_in (tier_sizes w.tiers) to)) = c.in-Some.ensures.turnover in
      let there = subst (λ ts. Turnover w x (many_of (size_in (tier_sizes ts) to) (1 - free_in ts (size_in (tier_sizes ts) to))) (Some (size_in (tier_sizes ts) c.args.k)) (Some (size_in (tier_sizes ts) to))) tiers moved in
      let inside : c.args.k < length (tier_sizes v.tiers) = (let l = tiers_long v.tiers (tier_sizes v.tiers) refl in let i = of.within in omega (arith, l, i)) in
      let up = sizes_rise 0 (tier_sizes v.tiers) (sizes_up v.tiers c.requires.sizes) c.tier_holding-tier.result c.args.k (omega (arith, c.if-tier-k.true)) inside in
      Turnover-as v x _ _ (Some o) (Some n) (λ size. (let z : ◌≡◌ {A = ℕ} (0 + many_of n (1 - free_in v.tiers n) size) (many_of n (1 - free_in v.tiers n) size) = omega arith in z) ∙ one_made (tier_sizes v.tiers) (free_counts v.tiers) o n size (λ e. omega (arith, e, up)))
      (Turnover-then v w x none_of (many_of n (1 - free_in v.tiers n)) None None (Some o) (Some n) (Some o) (Some n) (λ size. omega arith) left there));
  steps = (
      let tiers : c.remove_within-value.new.self.tiers ≡ c.args.self.now.tiers = ap (λ (v : Store g.row.S.Denot). v.tiers) c.remove_within-value.ensures.slots in
      steps_moved c.args.self.now.tiers c.args.k c.args.count (omega (arith, c.requires.offset)) c.tier_holding-tier.result (let z = c.if-rest-eq0.false in omega (arith, z))
      (subst (λ ts. smallest_size (tier_sizes ts) (c.args.count - 1) ≡ Some (size_in (tier_sizes ts) c.tier_holding-tier.result)) tiers c.tier_holding-tier.ensures.size));
}

-- ---- the list keeps its block

pub returns-clause-value : goal.returns-clause-value
returns-clause-value g c = λ n xs live sound count.
    c.remove_within-value.ensures.value (block c.args.k c.args.start n xs) live sound refl count

pub returns-clause-none : goal.returns-clause-none
returns-clause-none g c = (λ _. (let z = c.if-rest-eq0.false in omega (arith, z)), λ _. refl)

-- in this case no block was taken or freed
nothing_moved : (g : given.Over) (c : goal.Joined-tier-k g) → Turnover c.remove_within-value.new.self c.if-tier-k.self none_of None None
nothing_moved g c = elim c.if-tier-k.branch [
  | then-tier-k+in_default w ↦ subst (λ v. Turnover c.remove_within-value.new.self v none_of None None) (sym w.self-is)
      (subst (λ o. IfNone o (Turnover c.remove_within-value.new.self w.step_down.new.self none_of None None)) w.in_default.is w.step_down.ensures.kept)
  | else-tier-k w ↦ Turnover-same _ _ w.self-is None
]

pub returns-clause-loses : goal.returns-clause-loses
returns-clause-loses g c = record {
  turnover = (
      let v = c.args.self.now in
      let w = c.remove_within-value.new.self in
      let x = c.if-tier-k.self in
      let u = c.requires.in_use in
      let old = Some (size_in (tier_sizes v.tiers) c.args.k) in
      let left = cut g.S.Slot.vacant v w c.args.k c.args.start c.args.count c.args.offset u.size u.items u.live g.S.Slot.vacant u.sound u.is_count c.requires.offset c.remove_within-value.ensures.slots in
      Turnover-as v x _ _ old old (λ size. sym (same_made (tier_sizes v.tiers) (free_counts v.tiers) old size))
      (Turnover-then v w x none_of none_of None None None None old old (λ size. omega arith) left (nothing_moved g c)));
  steps = (
      let v = c.args.self.now in
      let u = c.requires.in_use in
      let b = block c.args.k c.args.start u.size u.items in
      let of = tier_of_block g.S.Slot.vacant b u.live _ u.sound in
      let tiers : c.remove_within-value.new.self.tiers ≡ c.args.self.now.tiers = ap (λ (v : Store g.row.S.Denot). v.tiers) c.remove_within-value.ensures.slots in
      let to : ℕ = c.tier_holding-tier.result in
      let found : smallest_size (tier_sizes v.tiers) (c.args.count - 1) ≡ Some (size_in (tier_sizes v.tiers) to) = subst (λ ts. smallest_size (tier_sizes ts) (c.args.count - 1) ≡ Some (size_in (tier_sizes ts) to)) tiers c.tier_holding-tier.ensures.size in
      let within : to < length v.tiers = subst (λ (ts : List Tier). to < length ts) tiers c.tier_holding-tier.ensures.within in
      let fits : c.args.count ≤ size_in (tier_sizes v.tiers) c.args.k = omega (arith, of.size_is, fits_block g.S.Slot.vacant b u.live _ u.sound, u.is_count, size_at v.tiers c.args.k) in
      let some : 0 < c.args.count = omega (arith, c.requires.offset) in
      steps_stayed v.tiers c.args.k c.args.count some (let z = c.if-rest-eq0.false in omega (arith, z)) (λ size is free.
      let same : size_in (tier_sizes v.tiers) to ≡ size = same_Some (size_in (tier_sizes v.tiers) to) size (sym found ∙ is) in
      elim c.if-tier-k.branch as (λ _. size_in (tier_sizes v.tiers) c.args.k ≡ size) [
        | then-tier-k+in_default w ↦
            let here : 0 < free_in v.tiers (size_in (tier_sizes v.tiers) to) = subst (λ n. 0 < free_in v.tiers n) (sym same) free in
            let there = subst (λ ts. 0 < free_in ts (size_in (tier_sizes ts) to)) (sym tiers) here in
            absurd (false≢true (ap is_some (sym w.in_default.is) ∙ w.step_down.ensures.taken there))
        | else-tier-k w ↦
            let low = smallest_low v.tiers c.args.k c.args.count some to c.requires.sizes of.within fits within found in
            ap (size_in (tier_sizes v.tiers)) (let e : c.args.k ≡ to = omega (arith, low, w.if-tier-k.false) in e) ∙ same
      ]));
}

pub returns-clause-sound : goal.returns-clause-sound
returns-clause-sound g c = λ n xs live sound count.
    let w = c.remove_within-value.new.self in
    let removed = c.remove_within-value.ensures.sound (block c.args.k c.args.start n xs) live sound refl count in
    let less : length (remove xs c.args.offset) ≡ c.args.count - 1 = omega (arith, length-remove xs c.args.offset (omega (arith, c.requires.offset))) in
    let size : n ≡ (tier_at c.args.self.now.tiers c.args.k).size = (tier_of_block g.S.Slot.vacant (block c.args.k c.args.start n xs) live _ sound).size_is in
    let still : Sound g.S.Slot.vacant (block c.args.k c.args.start n (remove xs c.args.offset) ∷ live) c.if-tier-k.self = elim c.if-tier-k.branch [
      | then-tier-k+in_default a ↦ subst (λ v. Sound g.S.Slot.vacant (block c.args.k c.args.start n (remove xs c.args.offset) ∷ live) v) (sym a.self-is)
          (subst (λ o. MatchOption o (Sound g.S.Slot.vacant (block c.args.k c.args.start n (remove xs c.args.offset) ∷ live) a.step_down.new.self)
          (λ new. Sound g.S.Slot.vacant (block c.tier_holding-tier.result new (tier_at w.tiers c.tier_holding-tier.result).size (remove xs c.args.offset) ∷ live) a.step_down.new.self))
          a.in_default.is (a.step_down.ensures.sound n (remove xs c.args.offset) live removed less))
      | else-tier-k a ↦ subst (λ v. Sound g.S.Slot.vacant (block c.args.k c.args.start n (remove xs c.args.offset) ∷ live) v) (sym a.self-is) removed
    ] in
    subst (λ m. Sound g.S.Slot.vacant (block c.args.k c.args.start m (remove xs c.args.offset) ∷ live) c.if-tier-k.self) size still
