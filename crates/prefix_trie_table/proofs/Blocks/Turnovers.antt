-- Turnovers: which blocks a call makes, takes and frees, by size, and that everything else stays.
use Rattle.prefix_trie_table.proofs.Prelude.{◌≡◌, ◌≢◌, ℕ, ◌+◌, ◌*◌, ◌<◌, ◌≤◌, true, List, ◌++◌, length, get_or, set, insert, remove, replicate, Option, None, Some, refl, sym, ap, ◌∙◌, subst, arith, length-append, length-replicate, get_or_append_left, get_or-insert_below, get_or-remove_below, length-insert, length-remove, Contains, option_or, one_of, goes_up, Tier, Store, Turnover, Keeps, KeepsMade, MakesNone, SameMade, SameSpace, AreFree, tier_at, with_tier, tier_sizes, size_in, free_in, made_in, many_of, none_of, slots_of, missing_in}
use Rattle.std.proofs.lemmas.List.{length-set}
use Rattle.prefix_trie_table.specs.Blocks.Growth.{EachReserves}
use Rattle.prefix_trie_table.proofs.Blocks.Capacity.{EachReserves-same, EachReserves-more, EachReserves-then}
use Rattle.prefix_trie_table.proofs.Blocks.BySize.{size_at, sizes_set, has_size, number_set, many_here, many_other, many-none, slots_of-same, slots_of-add, slots_of-none, slots_of-many}

module _ {S : Type 0} where
  -- ---- what stays

  pub Keeps-same : (v w : Store S) → w ≡ v → Keeps v w
  Keeps-same v w e = subst (λ x. Keeps v x) (sym e) (record { first_is = refl; limit_is = refl; sizes = refl; before = λ i d h. refl; longer = omega arith; within = λ h. h; grown = EachReserves-same v.capacities (length v.slots + 32) })

  pub Keeps-then : (v w x : Store S) → Keeps v w → Keeps w x → Keeps v x
  Keeps-then v w x a b = record {
    first_is = b.first_is ∙ a.first_is;
    limit_is = b.limit_is ∙ a.limit_is;
    sizes = b.sizes ∙ a.sizes;
    before = λ i d h. b.before i d (let e = a.first_is in omega arith) ∙ a.before i d h;
    longer = (let p = a.longer in let q = b.longer in omega arith);
    within = λ h. b.within (a.within h);
    grown = EachReserves-then v.capacities (length w.slots + 32) w.capacities (length x.slots + 32) x.capacities a.grown b.grown (let q = b.longer in omega (arith, q));
  }

  -- a turnover loses no block
  pub made_turned : (v w : Store S) (m : ℕ → ℕ) (o p : Option ℕ) → Turnover v w m o p → KeepsMade v w
  made_turned v w m o p t = λ size. (let e = t.made_is size in omega (arith, e))

  -- if no block is made, the array keeps its length
  pub space_kept : (v w : Store S) (m : ℕ → ℕ) (o p : Option ℕ) → ((size : ℕ) → m size ≡ 0) → Turnover v w m o p → SameSpace v w
  space_kept v w m o p none t = ((let l = t.longer in let n = slots_of-none (tier_sizes v.tiers) m none in omega (arith, l, n)), t.keeps.first_is, t.keeps.limit_is)

  -- if no block is made, the array has as many of each size
  pub none_turned : (v w : Store S) (o p : Option ℕ) → Turnover v w none_of o p → MakesNone v w
  none_turned v w o p t = record { space = space_kept v w none_of o p (λ size. refl) t; made = λ size. (let e = t.made_is size in omega (arith, e)) }

  pub made_kept : (v w : Store S) → SameMade v w → KeepsMade v w
  made_kept v w same = λ size. (let e = same size in omega (arith, e))

  -- the same tiers have the same blocks
  pub made_same : (v w : Store S) → w.tiers ≡ v.tiers → KeepsMade v w
  made_same v w e = λ size. (let h : made_in w.tiers size ≡ made_in v.tiers size = ap (λ ts. made_in ts size) e in omega (arith, h))

  pub made_then : (v w x : Store S) → KeepsMade v w → KeepsMade w x → KeepsMade v x
  made_then v w x a b = λ size. (let p = a size in let q = b size in omega (arith, p, q))

  -- the tiers keep their sizes
  pub size_kept : (v w : Store S) (k : ℕ) → tier_sizes w.tiers ≡ tier_sizes v.tiers → (tier_at w.tiers k).size ≡ (tier_at v.tiers k).size
  size_kept v w k e = size_at w.tiers k ∙ ap (λ ns. size_in ns k) e ∙ sym (size_at v.tiers k)

  -- ---- turnovers

  pub Turnover-as : (v w : Store S) (m n : ℕ → ℕ) (o p : Option ℕ) → ((size : ℕ) → m size ≡ n size) → Turnover v w m o p → Turnover v w n o p
  Turnover-as v w m n o p same t = record {
    keeps = t.keeps;
    made_is = λ size. (let a = t.made_is size in let e = same size in omega (arith, a, e));
    free_is = λ size. (let a = t.free_is size in let e = same size in omega (arith, a, e));
    longer = t.longer ∙ ap (λ s. length v.slots + s) (slots_of-same (tier_sizes v.tiers) m n (λ size at. same size));
  }

  -- two turnovers one after another: the blocks that lists left and entered add up
  pub Turnover-then : (v w x : Store S) (m n : ℕ → ℕ) (a b c d o p : Option ℕ) →
      ((size : ℕ) → one_of a size + one_of c size + one_of p size ≡ one_of b size + one_of d size + one_of o size) →
      Turnover v w m a b → Turnover w x n c d → Turnover v x (λ size. m size + n size) o p
  Turnover-then v w x m n a b c d o p sum first second = record {
    keeps = Keeps-then v w x first.keeps second.keeps;
    made_is = λ size. (let f = first.made_is size in let s = second.made_is size in omega (arith, f, s));
    free_is = λ size. (let f = first.free_is size in let s = second.free_is size in let e = sum size in omega (arith, f, s, e));
    longer = (let f = first.longer in let s = second.longer in let r = slots_of-add (tier_sizes v.tiers) m n in
        let e : slots_of (tier_sizes w.tiers) n ≡ slots_of (tier_sizes v.tiers) n = ap (λ ns. slots_of ns n) first.keeps.sizes in omega (arith, f, s, r, e));
  }

  -- a list moves from a block of the size `old` to one of the size `new`
  pub Turnover-moved : (v u w x : Store S) (m : ℕ → ℕ) (old new : Option ℕ) → Turnover v u m None new → Turnover u w none_of None None → Turnover w x none_of old None → Turnover v x m old new
  Turnover-moved v u w x m old new a b c =
      Turnover-as v x _ m old new (λ size. omega arith)
      (Turnover-then v w x _ none_of None new old None old new (λ size. omega arith) (Turnover-then v u w m none_of None new None None None new (λ size. omega arith) a b) c)

  -- writing slots after the start of the first block takes and frees no block
  pub Turnover-written : (v w : Store S) (xs : List S) → w ≡ record v { slots = xs } → length xs ≡ length v.slots →
      ((i : ℕ) (d : S) → i < v.first → get_or xs i d ≡ get_or v.slots i d) → (o : Option ℕ) → Turnover v w none_of o o
  Turnover-written v w xs e len same o = subst (λ x. Turnover v x none_of o o) (sym e) (record {
    keeps = record { first_is = refl; limit_is = refl; sizes = refl; before = same; longer = omega (arith, len); within = λ h. omega (arith, len, h); grown = EachReserves-same v.capacities (length xs + 32) };
    made_is = λ size. omega arith;
    free_is = λ size. omega arith;
    longer = (let n = slots_of-none (tier_sizes v.tiers) none_of (λ j. refl) in omega (arith, len, n));
  })

  pub Turnover-same : (v w : Store S) → w ≡ v → (o : Option ℕ) → Turnover v w none_of o o
  Turnover-same v w e o = Turnover-written v w v.slots e refl (λ i d h. refl) o

  -- reserving memory makes no block
  pub Turnover-reserved : (v w : Store S) (space : List ℕ) (n : ℕ) → w ≡ record v { capacities = space } → EachReserves v.capacities (length v.slots + n) space → n ≤ 32 → Turnover v w none_of None None
  Turnover-reserved v w space n e reserves few = subst (λ x. Turnover v x none_of None None) (sym e) (record {
    keeps = record {
      first_is = refl;
      limit_is = refl;
      sizes = refl;
      before = λ i d h. refl;
      longer = omega arith;
      within = λ h. h;
      grown = EachReserves-more v.capacities (length v.slots + n) (length v.slots + 32) space reserves (omega (arith, few));
    };
    made_is = λ size. omega arith;
    free_is = λ size. omega arith;
    longer = (let none = slots_of-none (tier_sizes v.tiers) none_of (λ j. refl) in omega (arith, none));
  })

  -- removing an item and inserting another takes and frees no block
  pub Turnover-shifted : (v w : Store S) (a b : ℕ) (x : S) → w ≡ record v { slots = insert (remove v.slots a) b x } → v.first ≤ a → v.first ≤ b → a < length v.slots →
      b < length v.slots → (o : Option ℕ) → Turnover v w none_of o o
  Turnover-shifted v w a b x e behind_a behind_b in_a in_b =
      let less = length-remove v.slots a in_a in
      Turnover-written v w (insert (remove v.slots a) b x) e
      (let l = length-insert (remove v.slots a) b x (omega (arith, less, in_b)) in omega (arith, less, l))
      (λ i d h. get_or-insert_below (remove v.slots a) b x d i (omega (arith, h, behind_b)) (omega (arith, less, in_b)) ∙ get_or-remove_below v.slots a d i (omega (arith, h, behind_a)) in_a)

  -- ---- one tier is set

  module _ (v : Store S) (k : ℕ) (t : Tier) (up : goes_up 0 (tier_sizes v.tiers) ≡ true) (inside : k < length v.tiers) (same : t.size ≡ (tier_at v.tiers k).size) where
    -- m blocks of its size are made, which lengthen the array, and one of its free blocks goes to a list or comes from
    -- one
    turned : (slots : List S) (space : List ℕ) (m : ℕ) (old new : Option ℕ) → t.made ≡ (tier_at v.tiers k).made + m →
        length t.starts + one_of new t.size ≡ length (tier_at v.tiers k).starts + m + one_of old t.size → ((size : ℕ) → t.size ≢ size → one_of new size ≡ one_of old size) →
        Keeps v (record v { slots = slots; tiers = set v.tiers k t; capacities = space }) → length slots ≡ length v.slots + t.size * m →
        Turnover v (record v { slots = slots; tiers = set v.tiers k t; capacities = space }) (many_of t.size m) old new
    turned slots space m old new made starts others keeps long = record {
      keeps = keeps;
      made_is = number_set (λ (u : Tier). u.made) (λ size a b. b ≡ a + many_of t.size m size) v.tiers k t up inside same
          (let h = many_here t.size m in omega (arith, made, h)) (λ size n ne. (let h = many_other t.size m size ne in omega (arith, h)));
      free_is = number_set (λ (u : Tier). length u.starts) (λ size a b. b + one_of new size ≡ a + many_of t.size m size + one_of old size) v.tiers k t up inside same
          (let h = many_here t.size m in omega (arith, starts, h)) (λ size n ne. (let h = many_other t.size m size ne in let o = others size ne in omega (arith, h, o)));
      longer = long ∙ ap (λ s. length v.slots + s) (sym (slots_of-many 0 (tier_sizes v.tiers) up t.size m
          (subst (λ s. Contains (tier_sizes v.tiers) s) (sym same) (has_size v.tiers k inside))));
    }

    keeps_slots : Keeps v (with_tier v k t)
    keeps_slots = record { first_is = refl; limit_is = refl; sizes = sizes_set v.tiers k t same; before = λ i d h. refl; longer = omega arith; within = λ h. h; grown = EachReserves-same v.capacities (length v.slots + 32) }

    module _ (s : ℕ) (is : (tier_at v.tiers k).size ≡ s) where
      -- a free block is taken
      pub Turnover-taken : t.made ≡ (tier_at v.tiers k).made → length t.starts + 1 ≡ length (tier_at v.tiers k).starts → Turnover v (with_tier v k t) none_of None (Some s)
      Turnover-taken made starts =
          subst (λ n. Turnover v (with_tier v k t) none_of None (Some n)) (same ∙ is)
          (Turnover-as v (with_tier v k t) (many_of t.size 0) none_of None (Some t.size) (λ n. many-none t.size 0 n refl)
          (turned v.slots v.capacities 0 None (Some t.size) (omega (arith, made)) (let h = many_here t.size 1 in omega (arith, starts, h)) (λ size ne. many_other t.size 1 size ne) keeps_slots (omega arith)))

      -- a block is freed
      pub Turnover-given : t.made ≡ (tier_at v.tiers k).made → length t.starts ≡ length (tier_at v.tiers k).starts + 1 → Turnover v (with_tier v k t) none_of (Some s) None
      Turnover-given made starts =
          subst (λ n. Turnover v (with_tier v k t) none_of (Some n) None) (same ∙ is)
          (Turnover-as v (with_tier v k t) (many_of t.size 0) none_of (Some t.size) None (λ n. many-none t.size 0 n refl)
          (turned v.slots v.capacities 0 (Some t.size) None (omega (arith, made)) (let h = many_here t.size 1 in omega (arith, starts, h)) (λ size ne. sym (many_other t.size 1 size ne)) keeps_slots (omega arith)))

      -- a block is made at the end of the array
      pub Turnover-grown : (vacant : S) (slots : List S) (space : List ℕ) → slots ≡ v.slots ++ replicate s vacant → EachReserves v.capacities (length v.slots + s) space → v.first ≤ length v.slots → length v.slots + s ≤ v.limit → t.made ≡ (tier_at v.tiers k).made + 1 →
          length t.starts ≡ length (tier_at v.tiers k).starts + 1 → Turnover v (record v { slots = slots; tiers = set v.tiers k t; capacities = space }) (many_of s 1) None None
      Turnover-grown vacant slots space slots_are reserves low fits made starts =
          let long : length slots ≡ length v.slots + s = ap length slots_are ∙ length-append v.slots (replicate s vacant) ∙ ap (λ n. length v.slots + n) (length-replicate s vacant) in
          let size : t.size ≡ s = same ∙ is in
          subst (λ n. Turnover v (record v { slots = slots; tiers = set v.tiers k t; capacities = space }) (many_of n 1) None None) size (turned slots space 1 None None made (omega (arith, starts)) (λ n ne. refl) (record {
            first_is = refl;
            limit_is = refl;
            sizes = sizes_set v.tiers k t same;
            before = λ i d h. ap (λ xs. get_or xs i d) slots_are ∙ get_or_append_left v.slots (replicate s vacant) d i (omega (arith, low, h));
            longer = omega (arith, long);
            within = λ h. omega (arith, long, fits);
            grown = EachReserves-more v.capacities (length v.slots + s) (length slots + 32) space reserves (omega (arith, long));
          }) (omega (arith, long, size)))

  -- after the missing blocks were made, all needed blocks are free
  pub free_obtained : (v w : Store S) (needed : List ℕ) → Turnover v w (missing_in v needed) None None → AreFree w.tiers needed
  free_obtained v w needed t = λ size. (let e = t.free_is size in omega (arith, e))

  -- after a list took its block, the other needed blocks are still free
  pub free_entered : (v w : Store S) (need own after : Option ℕ) → after ≡ option_or need own → Turnover v w none_of own after → (size : ℕ) →
      free_in v.tiers size ≤ free_in w.tiers size + one_of need size
  free_entered v w need own after e t size =
      let o : one_of after size ≡ one_of (option_or need own) size = ap (λ x. one_of x size) e in
      omega (arith, t.free_is size, o, either need own)
    where
      either : (need own : Option ℕ) → one_of (option_or need own) size ≤ one_of need size + one_of own size
      either None own = omega arith
      either (Some n) own = omega arith

  -- writing a slot makes no block
  pub none_written : (v w u : Store S) (i : ℕ) (x : S) → MakesNone v w → u ≡ record w { slots = set w.slots i x } → MakesNone v u
  none_written v w u i x none e = subst (λ y. MakesNone v y) (sym e) (record { space = (length-set w.slots i x ∙ none.space.0, none.space.1, none.space.2); made = none.made })

  pub none_same : (v : Store S) → MakesNone v v
  none_same v = record { space = (refl, refl, refl); made = λ size. refl }
