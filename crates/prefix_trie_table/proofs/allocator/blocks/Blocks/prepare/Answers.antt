-- `prepare` makes exactly the blocks that are needed and not free. If one is refused, it has made some of them, and
-- the used blocks are unchanged.
use Rattle.prefix_trie_table.proofs.Prelude.{◌≡◌, ℕ, List, UsedBlock, Sound, SameSlots, ◌+◌, ◌-◌, ◌<◌, ◌≤◌, ◌↔◌, Option, None, Some, OnOk, OnErr, IfErr, length, refl, sym, ap, ◌∙◌, subst, arith, option_map, Contains, err_from_is_err_and, IndexRange, one_of, Store, Turnover, free_in, many_of, needs, list_need, tier_sizes, size_in}
use Rattle.prefix_trie_table.proofs.Blocks.BySize.{sizes_up, size_among, tiers_long, first_size, sizes_rise, many_here}
use Rattle.prefix_trie_table.proofs.Blocks.Preparations.{LastMade, partly_made_same, partly_made_own, partly_made_first, partly_made_second, how_many-needs, obtained, obtained_part}
use Rattle.prefix_trie_table.proofs.allocator.blocks.Blocks.prepare.Given as given
use Rattle.prefix_trie_table.proofs.allocator.blocks.Blocks.prepare.Goals as goal
use Rattle.prefix_trie_table.proofs.allocator.blocks.Blocks.prepare.Goals.{in-Some+then-tier-eq0, in-Some+else-tier-eq0+in_ok-obtain, in_default}

-- the size of the block that the list needs
need_is : (g : given.Over) (c : goal.After-from_residual g) → list_need c.args.self.now.tiers c.args.k c.args.count ≡ Some (size_in (tier_sizes c.args.self.now.tiers) c.in-Some.tier)
need_is g c = c.missing_tier.ensures.size ∙ ap (option_map (size_in (tier_sizes c.args.self.now.tiers))) c.in-Some.is

-- which blocks are still to be made before the last call of `obtain`
last : (g : given.Over) (c : goal.After-obtain-2 g) → LastMade c.args.self.now c.match-missing_tier.self (needs (list_need c.args.self.now.tiers c.args.k c.args.count) c.args.lists) 1 c.match-missing_tier.singles
last g c =
    let v = c.args.self.now in
    let first = (first_size v.tiers c.requires.sizes).1 in
    let need = λ (o : Option ℕ) (e : c.missing_tier.result ≡ o). c.missing_tier.ensures.size ∙ ap (option_map (size_in (tier_sizes v.tiers))) e in
    let seen = λ (o : Option ℕ) (u : Store g.row.S.Denot) (e : list_need v.tiers c.args.k c.args.count ≡ o) (is : c.match-missing_tier.self ≡ u) (partly_made : LastMade v u (needs o c.args.lists) 1 c.match-missing_tier.singles).
    subst (λ x. LastMade v x (needs (list_need v.tiers c.args.k c.args.count) c.args.lists) 1 c.match-missing_tier.singles) (sym is)
    (subst (λ p. LastMade v u (needs p c.args.lists) 1 c.match-missing_tier.singles) (sym e) partly_made) in
    elim c.match-missing_tier.branch [
      | in-Some+then-tier-eq0 w ↦ seen (Some 1) v (need (Some 0) (w.in-Some.is ∙ ap Some w.if-tier-eq0.true) ∙ ap Some first) w.self-is (partly_made_own v c.args.lists c.match-missing_tier.singles w.singles-is)
      | in-Some+else-tier-eq0+in_ok-obtain w ↦
          let s : ℕ = size_in (tier_sizes v.tiers) w.in-Some.tier in
          let inside : w.in-Some.tier < length (tier_sizes v.tiers) = (let l = tiers_long v.tiers (tier_sizes v.tiers) refl in let i = w.in-Some.ensures.within in omega (arith, l, i)) in
          let up = sizes_rise 0 (tier_sizes v.tiers) (sizes_up v.tiers c.requires.sizes) 0 w.in-Some.tier (omega (arith, w.if-tier-eq0.false)) inside in
          seen (Some s) w.obtain.new.self (need (Some w.in-Some.tier) w.in-Some.is) w.self-is
          (subst (λ n. LastMade v w.obtain.new.self (needs (Some s) c.args.lists) 1 n) (sym w.singles-is)
          (partly_made_second v w.obtain.new.self s c.args.lists (λ e. omega (arith, e, up, first)) w.in_ok-obtain.ensures.made))
      | in_default w ↦ seen None v (need None w.in_default.is) w.self-is (partly_made_same v None c.args.lists c.match-missing_tier.singles (λ size. omega (arith, ap (λ n. many_of 1 n size) w.singles-is)))
    ]

-- the used blocks are unchanged before the last call of `obtain`
held : (g : given.Over) (c : goal.After-obtain-2 g) → SameSlots c.args.self.now c.match-missing_tier.self × ((live : List (UsedBlock g.row.S.Denot)) → Sound g.S.Slot.vacant live c.args.self.now → Sound g.S.Slot.vacant live c.match-missing_tier.self)
held g c =
    let stays = λ (u : Store g.row.S.Denot) (is : c.match-missing_tier.self ≡ u) (kept : SameSlots c.args.self.now u) (sound : (live : List (UsedBlock g.row.S.Denot)) → Sound g.S.Slot.vacant live c.args.self.now → Sound g.S.Slot.vacant live u).
    subst (λ x. SameSlots c.args.self.now x × ((live : List (UsedBlock g.row.S.Denot)) → Sound g.S.Slot.vacant live c.args.self.now → Sound g.S.Slot.vacant live x)) (sym is) (kept, sound) in
    elim c.match-missing_tier.branch [
      | in-Some+then-tier-eq0 w ↦ stays c.args.self.now w.self-is (λ i d h. refl) (λ live s. s)
      | in-Some+else-tier-eq0+in_ok-obtain w ↦ stays w.obtain.new.self w.self-is w.obtain.ensures.kept w.obtain.ensures.sound
      | in_default w ↦ stays c.args.self.now w.self-is (λ i d h. refl) (λ live s. s)
    ]

pub obtain-requires : goal.obtain-requires
obtain-requires g c = c.in-Some.ensures.within

pub returns-clause-kept : goal.returns-clause-kept
returns-clause-kept g c = λ i d h. c.obtain-2.ensures.kept i d (omega (arith, h, (last g c).partly_made.turnover.keeps.longer)) ∙ (held g c).0 i d h

pub returns-clause-sound : goal.returns-clause-sound
returns-clause-sound g c = λ live s. c.obtain-2.ensures.sound live ((held g c).1 live s)

pub returns-in_err-obtain-clause-kept : goal.returns-in_err-obtain-clause-kept
returns-in_err-obtain-clause-kept g c = c.obtain.ensures.kept

pub returns-in_err-obtain-clause-sound : goal.returns-in_err-obtain-clause-sound
returns-in_err-obtain-clause-sound g c = c.obtain.ensures.sound

pub returns-clause-obtains : goal.returns-clause-obtains
returns-clause-obtains g c =
    let v = c.args.self.now in
    let u = c.match-missing_tier.self in
    let x = c.obtain-2.new.self in
    let n = c.match-missing_tier.singles in
    let r = c.obtain-2.result in
    let partly_made = (last g c).partly_made in
    let first = first_size v.tiers c.requires.sizes in
    let one : size_in (tier_sizes c.match-missing_tier.self.tiers) 0 ≡ 1 = ap (λ ns. size_in ns 0) partly_made.turnover.keeps.sizes ∙ first.1 in
    obtained v u x (needs (list_need v.tiers c.args.k c.args.count) c.args.lists) 1 n (sizes_up v.tiers c.requires.sizes)
    (subst (Contains (tier_sizes v.tiers)) first.1 (size_among (tier_sizes v.tiers) 0 (let l = tiers_long v.tiers (tier_sizes v.tiers) refl in omega (arith, l, first.2)))) partly_made r (last g c).all
    (subst (λ s. OnOk r (Turnover u x (many_of s (n - free_in u.tiers s)) None None)) one c.obtain-2.ensures.made)
    (subst (λ s. OnErr r ((m : ℕ) × (free_in u.tiers s + m < n) × Turnover u x (many_of s m) None None)) one c.obtain-2.ensures.err)
    (subst (λ s. IfErr r (λ e. (e ≡ IndexRange) ↔ (x.limit < length x.slots + s))) one c.obtain-2.ensures.range)

-- the block that the list itself needs was refused
pub returns-in_err-obtain-clause-obtains : goal.returns-in_err-obtain-clause-obtains
returns-in_err-obtain-clause-obtains g c =
    let p = err_from_is_err_and c.from_residual.result c.from_residual.ensures.1 in
    let v = c.args.self.now in
    let s : ℕ = size_in (tier_sizes v.tiers) c.in-Some.tier in
    let need : list_need v.tiers c.args.k c.args.count ≡ Some s = need_is g c in
    let some = c.in_err-obtain.ensures.err in
    let all = obtained_part v v c.obtain.new.self (needs (Some s) c.args.lists) s 1 (sizes_up v.tiers c.requires.sizes)
    (size_among (tier_sizes v.tiers) c.in-Some.tier (let l = tiers_long v.tiers (tier_sizes v.tiers) refl in let i = c.in-Some.ensures.within in omega (arith, l, i)))
    (partly_made_first v s c.args.lists) c.in_err-obtain.field-0.0 some.0 some.1 some.2 c.in_err-obtain.ensures.range in
    rw (p.1, p.2, need) all

-- if all needed blocks are free, nothing is made
pub returns-clause-unchanged : goal.returns-clause-unchanged
returns-clause-unchanged g c = λ free.
    let v = c.args.self.now in
    let partly_made = (last g c).partly_made in
    let first = first_size v.tiers c.requires.sizes in
    let one : size_in (tier_sizes c.match-missing_tier.self.tiers) 0 ≡ 1 = ap (λ ns. size_in ns 0) partly_made.turnover.keeps.sizes ∙ first.1 in
    let same : c.match-missing_tier.self ≡ v = elim c.match-missing_tier.branch [
      | in-Some+then-tier-eq0 w ↦ w.self-is
      | in-Some+else-tier-eq0+in_ok-obtain w ↦
          let s : ℕ = size_in (tier_sizes v.tiers) w.in-Some.tier in
          let need : list_need v.tiers c.args.k c.args.count ≡ Some s = c.missing_tier.ensures.size ∙ ap (option_map (size_in (tier_sizes v.tiers))) w.in-Some.is in
          w.self-is ∙ w.obtain.ensures.unchanged (let f = free s in let h = how_many-needs (list_need v.tiers c.args.k c.args.count) c.args.lists s in
          let o : one_of (list_need v.tiers c.args.k c.args.count) s ≡ 1 = ap (λ o. one_of o s) need ∙ many_here s 1 in omega (arith, f, h, o))
      | in_default w ↦ w.self-is
    ] in
    let few : c.match-missing_tier.singles ≤ free_in c.match-missing_tier.self.tiers (size_in (tier_sizes c.match-missing_tier.self.tiers) 0) = subst (λ n. c.match-missing_tier.singles ≤ free_in c.match-missing_tier.self.tiers n) (sym one)
    (let r = partly_made.rest 1 in let f = free 1 in let h = many_here 1 (c.match-missing_tier.singles - free_in c.match-missing_tier.self.tiers 1) in omega (arith, r, f, h)) in
    c.obtain-2.ensures.unchanged few ∙ same

pub returns-in_err-obtain-clause-unchanged : goal.returns-in_err-obtain-clause-unchanged
returns-in_err-obtain-clause-unchanged g c = λ free.
    let v = c.args.self.now in
    let s : ℕ = size_in (tier_sizes v.tiers) c.in-Some.tier in
    let some = c.in_err-obtain.ensures.err in
    let o : one_of (list_need v.tiers c.args.k c.args.count) s ≡ 1 = ap (λ o. one_of o s) (need_is g c) ∙ many_here s 1 in
    absurd (omega (arith, free s, how_many-needs (list_need v.tiers c.args.k c.args.count) c.args.lists s, o, some.1))
