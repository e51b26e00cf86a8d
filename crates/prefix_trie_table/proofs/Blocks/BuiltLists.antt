-- A whole list is written into a new block: for `build` and `build_vacant`.
use Rattle.prefix_trie_table.proofs.Prelude.{◌≡◌, ℕ, zero, suc, ◌+◌, ◌-◌, ◌<◌, ◌≤◌, true, List, [], ◌∷◌, ◌++◌, length, take, drop, replicate, None, Some, take-append-drop, refl, sym, ap, ◌∙◌, subst, arith, Contains, smallest_size, packed_slots, goes_up, length-replicate, drop-replicate, replicate-append-replicate, BlockRef, run, put_run, Store, Tier, UsedBlock, Sound, Turnover, block, filled, tier_at, tier_sizes, free_in, many_of, none_of, NoneFree, BuildsList}
use Rattle.prefix_trie_table.proofs.Blocks.BySize.{size_at, smallest_holds, many-le, slots_of-le, slots_of-none, slots_of-many}
use Rattle.prefix_trie_table.proofs.Blocks.RunLemmas.{length-put_run, get_or-put_run_out, put_run_part, put_run_self}
use Rattle.prefix_trie_table.proofs.Blocks.Soundness.{Sound-written, block_inside, block_slots}
use Rattle.prefix_trie_table.proofs.Blocks.Turnovers.{Keeps-then, Turnover-written}
use Rattle.prefix_trie_table.proofs.Tree.Trees.{held_some}

module _ {S : Type 0} (vacant : S) where
  -- a block filled with vacant items is a block with an empty list
  filled_vacant : (n count : ℕ) → count ≤ n → filled vacant n (replicate count vacant) ≡ filled vacant n []
  filled_vacant n count few =
      replicate-append-replicate count (n - length (replicate count vacant)) vacant
      ∙ ap (λ k. replicate k vacant) (let l = length-replicate count vacant in let e : count + (n - length (replicate count vacant)) ≡ n - 0 = omega (arith, l, few) in e)

  -- a block without items can be seen as one with vacant items
  pub Sound-vacant : (k start size count : ℕ) (live : List (UsedBlock S)) (v : Store S) → count ≤ size → Sound vacant (block k start size [] ∷ live) v →
      Sound vacant (block k start size (replicate count vacant) ∷ live) v
  Sound-vacant k start size count live v few s =
      let same : put_run v.slots start (filled vacant size (replicate count vacant)) ≡ v.slots = ap (put_run v.slots start) (filled_vacant size count few ∙ sym (block_slots vacant (block k start size []) live v s))
      ∙ put_run_self v.slots start size (block_inside vacant (block k start size []) live v s).before in
      subst (λ xs. Sound vacant (block k start size (replicate count vacant) ∷ live) (record v { slots = xs })) same
      (Sound-written vacant (block k start size []) live v (replicate count vacant) (let l = length-replicate count vacant in omega (arith, l, few)) s)

  -- after a list is written over vacant items from the first slot on, the block holds that list
  pub Sound-built : (k start size : ℕ) (items : List S) (live : List (UsedBlock S)) (v : Store S) → length items ≤ size →
      Sound vacant (block k start size (replicate (length items) vacant) ∷ live) v →
      Sound vacant (block k start size items ∷ live) (record v { slots = put_run v.slots start items })
  Sound-built k start size items live v few s =
      let b = block k start size (replicate (length items) vacant) in
      let inside = block_inside vacant b live v s in
      let rest : drop (length items) (run v.slots start size) ≡ replicate (size - length items) vacant = ap (drop (length items)) (block_slots vacant b live v s ∙ filled_vacant size (length items) few)
      ∙ drop-replicate (length items) (size - 0) vacant
      ∙ ap (λ n. replicate n vacant) (let e : size - 0 - length items ≡ size - length items = omega arith in e) in
      let slots : put_run v.slots start items ≡ put_run v.slots start (filled vacant size items) = put_run_part v.slots start size items (let i = inside.before in omega (arith, i)) few ∙ ap (λ ys. put_run v.slots start (items ++ ys)) rest in
      subst (λ ys. Sound vacant (block k start size items ∷ live) (record v { slots = ys })) (sym slots) (Sound-written vacant b live v items few s)

  -- what is left after a block is made, if none was free, and then taken
  module _ (v u w : Store S) (size : ℕ) (made : Turnover v u (many_of size (1 - free_in v.tiers size)) None None) (took : Turnover u w none_of None (Some size)) where
    pub built_none_free : NoneFree v → NoneFree w
    built_none_free none n =
        let all : many_of size (1 - free_in v.tiers size) n ≡ many_of size 1 n = ap (λ f. many_of size (1 - f) n) (none size) in
        omega (arith, made.free_is n, took.free_is n, all, none n)

    -- at most one block is made
    pub built_longer : goes_up 0 (tier_sizes v.tiers) ≡ true → Contains (tier_sizes v.tiers) size → length w.slots ≤ length v.slots + size
    built_longer up among =
        let less = slots_of-le (tier_sizes v.tiers) (many_of size (1 - free_in v.tiers size)) (many_of size 1) (λ n. many-le size (1 - free_in v.tiers size) 1 n (omega arith)) in
        omega (arith, made.longer, took.longer, slots_of-none (tier_sizes u.tiers) none_of (λ n. refl), less, slots_of-many 0 (tier_sizes v.tiers) up size 1 among)

  -- items are written over as many vacant ones
  module _ (v u : Store S) (at : BlockRef) (live : List (UsedBlock S)) (s : Sound vacant live v) where
    block_built : (items : List S) → 0 < length items → BuildsList vacant v u (replicate (length items) vacant) at →
        (live2 : List (UsedBlock S)) → Sound vacant live2 v →
        Sound vacant (block at.tier at.start (tier_at v.tiers at.tier).size (replicate (length items) vacant) ∷ live2) u
    block_built items some built live2 s2 =
        subst (λ bs. Sound vacant (bs ++ live2) u)
        (held_some at.tier at.start (tier_at v.tiers at.tier).size (replicate (length items) vacant) (let l = length-replicate (length items) vacant in omega (arith, l, some)))
        (built.sound live2 s2)

    few_built : (items : List S) → 0 < length items → BuildsList vacant v u (replicate (length items) vacant) at → length items ≤ (tier_at v.tiers at.tier).size
    few_built items some built =
        let l = length-replicate (length items) vacant in
        let h = (smallest_holds (tier_sizes v.tiers) (length items) _ (ap (smallest_size (tier_sizes v.tiers)) (sym l) ∙ built.size (omega (arith, l, some)))).1 in
        omega (arith, h, size_at v.tiers at.tier)

    pub run_inside : (items : List S) → BuildsList vacant v u (replicate (length items) vacant) at → at.start + length items ≤ length u.slots
    run_inside [] built = (let e = ap (λ (r : BlockRef). r.start) (built.none refl) in omega (arith, e))
    run_inside (x ∷ xs) built =
        let some : 0 < length (x ∷ xs) = omega arith in
        let b = block_inside vacant _ _ u (block_built (x ∷ xs) some built live s) in
        (let i = b.before in omega (arith, i, few_built (x ∷ xs) some built))

    pub items_built : (items : List S) → BuildsList vacant v u (replicate (length items) vacant) at →
        BuildsList vacant v (record u { slots = put_run u.slots at.start items }) items at
    items_built [] built = subst (λ xs. BuildsList vacant v (record u { slots = xs }) [] at) (sym (whole u.slots at.start)) built
      where
        whole : (ys : List S) (a : ℕ) → put_run ys a [] ≡ ys
        whole ys a = ap (λ n. take a ys ++ drop n ys) (let e : a + 0 ≡ a = omega arith in e) ∙ take-append-drop a ys
    items_built (x ∷ xs) built =
        let some : 0 < length (x ∷ xs) = omega arith in
        let l = length-replicate (length (x ∷ xs)) vacant in
        let inside = run_inside (x ∷ xs) built in
        let behind = (block_inside vacant _ _ u (block_built (x ∷ xs) some built live s)).after in
        record {
          tier = λ h. built.tier (omega (arith, l, h));
          size = λ h. ap (smallest_size (tier_sizes v.tiers)) (sym l) ∙ built.size (omega (arith, l, h));
          none = λ z. absurd (omega (arith, z, some));
          sound = λ live2 s2.
              Sound-built at.tier at.start (tier_at v.tiers at.tier).size (x ∷ xs) live2 u (few_built (x ∷ xs) some built) (block_built (x ∷ xs) some built live2 s2);
          keeps =
              Keeps-then v u (record u { slots = put_run u.slots at.start (x ∷ xs) }) built.keeps
              (Turnover-written u (record u { slots = put_run u.slots at.start (x ∷ xs) }) (put_run u.slots at.start (x ∷ xs)) refl
              (length-put_run u.slots at.start (x ∷ xs) inside)
              (λ i d h. get_or-put_run_out u.slots at.start (x ∷ xs) i d inside (λ _. let b = behind in omega (arith, b, h))) None).keeps;
          none_free = built.none_free;
        }

-- the smallest block for n items has the slots of a packed list
pub slots_found : (sizes : List ℕ) (n size : ℕ) → smallest_size sizes (suc n) ≡ Some size → packed_slots sizes (suc n) ≡ size
slots_found sizes n size e = ap (λ o. elim o as (λ _. ℕ) [ None ↦ 0 | Some m ↦ m ]) e

pub packed_size : (ts : List Tier) (count size : ℕ) → smallest_size (tier_sizes ts) count ≡ Some size → 0 < count → packed_slots (tier_sizes ts) count ≡ size
packed_size ts zero size found some = absurd (omega (arith, some))
packed_size ts (suc n) size found some = slots_found (tier_sizes ts) n size found
