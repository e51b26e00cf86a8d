-- A new list gets the smallest block that holds it, filled with vacant items. At most this block is made.
use Rattle.prefix_trie_table.proofs.Prelude.{◌≡◌, ℕ, ◌+◌, ◌-◌, ◌<◌, ◌≤◌, ◌++◌, [], ◌∷◌, length, replicate, None, Some, refl, sym, ap, ◌∙◌, subst, arith, Contains, err_from_is_err_and, length-replicate, IndexRange, smallest_size, packed_slots, Sound, Turnover, block, held, tier_at, tier_sizes, size_in, free_in, many_of, none_of}
use Rattle.prefix_trie_table.proofs.Blocks.BySize.{size_at, sizes_up, size_among, tiers_long, smallest_holds, many_here, many-none}
use Rattle.prefix_trie_table.proofs.Blocks.BuiltLists.{Sound-vacant, built_none_free, built_longer, packed_size}
use Rattle.prefix_trie_table.proofs.Blocks.Turnovers.{Keeps-same, Keeps-then, size_kept, space_kept}
use Rattle.prefix_trie_table.proofs.Tree.Trees.{held_some}
use Rattle.prefix_trie_table.proofs.allocator.blocks.Blocks.build_vacant.Goals as goal

pub obtain-requires : goal.obtain-requires
obtain-requires g c = c.tier_holding-tier.ensures.within

pub returns-then-count-eq0-clause-built : goal.returns-then-count-eq0-clause-built
returns-then-count-eq0-clause-built g c =
    let v = c.args.self.now in
    let zero = c.if-count-eq0.true in
    let none = length-replicate c.args.count g.S.Slot.vacant in
    record {
      tier = λ some. absurd (omega (arith, none, zero, some));
      size = λ some. absurd (omega (arith, none, zero, some));
      none = λ _. refl;
      sound = λ live s. subst (λ n. Sound g.S.Slot.vacant (held 0 0 (tier_at v.tiers 0).size (replicate n g.S.Slot.vacant) ++ live) v) (sym zero) s;
      keeps = Keeps-same v v refl;
      none_free = λ h. h;
    }

pub take-start-requires : goal.take-start-requires
take-start-requires g c =
    let v = c.args.self.now in
    let u = c.obtain.new.self in
    let size : ℕ = size_in (tier_sizes c.args.self.now.tiers) c.tier_holding-tier.result in
    let made : Turnover v u (many_of size (1 - free_in v.tiers size)) None None = c.in_ok-obtain.ensures.made in
    record {
      within = omega (arith, tiers_long u.tiers (tier_sizes v.tiers) made.keeps.sizes, tiers_long v.tiers (tier_sizes v.tiers) refl, c.tier_holding-tier.ensures.within);
      ready = subst (λ n. 0 < free_in u.tiers n) (sym (ap (λ ns. size_in ns c.tier_holding-tier.result) made.keeps.sizes)) (omega (arith, made.free_is size, many_here size (1 - free_in v.tiers size)));
    }

pub returns-clause-built : goal.returns-clause-built
returns-clause-built g c =
    let v = c.args.self.now in
    let k = c.tier_holding-tier.result in
    let u = c.obtain.new.self in
    let w = c.take-start.new.self in
    let size : ℕ = size_in (tier_sizes c.args.self.now.tiers) c.tier_holding-tier.result in
    let found : smallest_size (tier_sizes v.tiers) c.args.count ≡ Some size = c.tier_holding-tier.ensures.size in
    let made : Turnover v u (many_of size (1 - free_in v.tiers size)) None None = c.in_ok-obtain.ensures.made in
    let took = subst (λ ns. Turnover u w none_of None (Some (size_in ns k))) made.keeps.sizes c.take-start.ensures.turnover in
    let many = length-replicate c.args.count g.S.Slot.vacant in
    let fits : c.args.count ≤ (tier_at v.tiers k).size = (let h = (smallest_holds (tier_sizes v.tiers) c.args.count size found).1 in omega (arith, h, size_at v.tiers k)) in
    record {
      tier = λ _. c.tier_holding-tier.ensures.within;
      size = λ _. ap (smallest_size (tier_sizes v.tiers)) many ∙ found;
      none = λ z. absurd (let some = c.if-count-eq0.false in omega (arith, many, z, some));
      sound = λ live s.
          let taken = c.take-start.ensures.sound live (c.obtain.ensures.sound live s) in
          let sized = subst (λ n. Sound g.S.Slot.vacant (block k c.take-start.result n [] ∷ live) w) (size_kept v u k made.keeps.sizes) taken in
          subst (λ bs. Sound g.S.Slot.vacant (bs ++ live) w)
          (sym (held_some k c.take-start.result (tier_at v.tiers k).size (replicate c.args.count g.S.Slot.vacant) (let z = c.if-count-eq0.false in omega (arith, many, z))))
          (Sound-vacant g.S.Slot.vacant k c.take-start.result (tier_at v.tiers k).size c.args.count live w fits sized);
      keeps = Keeps-then v u w made.keeps took.keeps;
      none_free = built_none_free g.S.Slot.vacant v u w size made took;
    }

pub returns-clause-longer : goal.returns-clause-longer
returns-clause-longer g c =
    let v = c.args.self.now in
    let k = c.tier_holding-tier.result in
    let u = c.obtain.new.self in
    let w = c.take-start.new.self in
    let size : ℕ = size_in (tier_sizes c.args.self.now.tiers) c.tier_holding-tier.result in
    let made : Turnover v u (many_of size (1 - free_in v.tiers size)) None None = c.in_ok-obtain.ensures.made in
    let took = subst (λ ns. Turnover u w none_of None (Some (size_in ns k))) made.keeps.sizes c.take-start.ensures.turnover in
    let among : Contains (tier_sizes v.tiers) size = size_among (tier_sizes v.tiers) k (let l = tiers_long v.tiers (tier_sizes v.tiers) refl in let i = c.tier_holding-tier.ensures.within in omega (arith, l, i)) in
    let packed = packed_size v.tiers c.args.count size c.tier_holding-tier.ensures.size (let some = c.if-count-eq0.false in omega (arith, some)) in
    omega (arith, built_longer g.S.Slot.vacant v u w size made took (sizes_up v.tiers c.tier_holding-tier.ensures.sizes) among, packed)

pub returns-in_err-obtain-clause-range : goal.returns-in_err-obtain-clause-range
returns-in_err-obtain-clause-range g c =
    let v = c.args.self.now in
    let size : ℕ = size_in (tier_sizes c.args.self.now.tiers) c.tier_holding-tier.result in
    let made = c.in_err-obtain.ensures.err in
    let full : c.in_err-obtain.field-0.0 ≡ IndexRange → v.limit < length v.slots + packed_slots (tier_sizes v.tiers) c.args.count = λ is.
    let packed = packed_size v.tiers c.args.count size c.tier_holding-tier.ensures.size (let some = c.if-count-eq0.false in omega (arith, some)) in
    let space = space_kept v c.obtain.new.self _ None None (λ n. many-none size made.0 n (let h = made.1 in omega (arith, h))) made.2 in
    let l = space.0 in let m = space.2 in
    omega (arith, c.in_err-obtain.ensures.range.0 is, packed, l, m) in
    let p = err_from_is_err_and c.from_residual.result c.from_residual.ensures.1 in rw (p.1, p.2) full
