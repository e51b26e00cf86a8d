-- `prepare` makes exactly the missing blocks, or some of them if it fails.
use Rattle.prefix_trie_table.proofs.Prelude.{◌≡◌, ◌≢◌, ℕ, zero, suc, ◌+◌, ◌-◌, ◌<◌, ◌≤◌, ◌↔◌, inl, inr, true, List, length, replicate, Option, None, Some, Result, Ok, Err, OnOk, OnErr, IfErr, refl, sym, ap, ◌∙◌, arith, cases_eq, cases_lt, length-map, Contains, Refusal, Memory, IndexRange, one_of, goes_up, above, how_many, how_many-more, Store, Turnover, Obtains, tier_sizes, free_in, free_counts, many_of, none_of, slots_of, needs, missing_in, missing_slots}
use Rattle.prefix_trie_table.proofs.Blocks.BySize.{many_here, many_other, many-none, many-sub, many-add, many-le, slots_lack, slots_of-le, slots_of-add, slots_of-many}
use Rattle.prefix_trie_table.proofs.Blocks.Turnovers.{Turnover-same, Turnover-as, Turnover-then}

how_many-ones : (n size : ℕ) → how_many size (replicate n 1) ≡ many_of 1 n size
how_many-ones zero size = sym (many-none 1 0 size refl)
how_many-ones (suc n) size =
    let e : many_of 1 (1 + n) size ≡ many_of 1 (suc n) size = ap (λ k. many_of 1 k size) (let f : 1 + n ≡ suc n = omega arith in f) in
    omega (arith, how_many-more size 1 (replicate n 1), how_many-ones n size, many-add 1 1 n size, e)

-- how many of the needed blocks have a size: the one that the list needs, and one of one slot for each new list
pub how_many-needs : (o : Option ℕ) (lists size : ℕ) → how_many size (needs o lists) ≡ one_of o size + many_of 1 lists size
how_many-needs None lists size = omega (arith, how_many-ones lists size)
how_many-needs (Some n) lists size = omega (arith, how_many-more size n (replicate lists 1), how_many-ones lists size)

module _ {S : Type 0} where
  -- the missing slots are the sum over the sizes of the missing blocks
  pub missing_slots-are : (v : Store S) (needed : List ℕ) → goes_up 0 (tier_sizes v.tiers) ≡ true → missing_slots v needed ≡ slots_of (tier_sizes v.tiers) (missing_in v needed)
  missing_slots-are v needed up = slots_lack 0 (tier_sizes v.tiers) (free_counts v.tiers) needed up (length-map v.tiers (λ t. length t.starts) ∙ sym (length-map v.tiers (λ t. t.size)))

  -- some of the missing blocks were made, and n blocks of the size s must still be free
  pub record PartlyMade (v w : Store S) (needed : List ℕ) (s n : ℕ) : Type 0 where
    pub made : ℕ → ℕ
    pub turnover : Turnover v w made None None
    pub rest : (size : ℕ) → made size + many_of s (n - free_in w.tiers s) size ≤ missing_in v needed size

  -- the same, and no other blocks are missing
  pub record LastMade (v w : Store S) (needed : List ℕ) (s n : ℕ) : Type 0 where
    pub partly_made : PartlyMade v w needed s n
    pub all : (size : ℕ) → missing_in v needed size ≤ partly_made.made size + many_of s (n - free_in w.tiers s) size

  pub partly_made_same : (v : Store S) (o : Option ℕ) (lists singles : ℕ) → ((size : ℕ) → one_of o size + many_of 1 lists size ≡ many_of 1 singles size) → LastMade v v (needs o lists) 1 singles
  partly_made_same v o lists singles need = record {
    partly_made = record { made = none_of; turnover = Turnover-same v v refl None; rest = λ size. (let e = same size in omega (arith, e)) };
    all = λ size. (let e = same size in omega (arith, e));
  }
    where
      same : (size : ℕ) → many_of 1 (singles - free_in v.tiers 1) size ≡ missing_in v (needs o lists) size
      same size = many-sub 1 singles (free_in v.tiers) size ∙ ap (λ n. n - free_in v.tiers size) (sym (how_many-needs o lists size ∙ need size))

  pub partly_made_own : (v : Store S) (lists singles : ℕ) → singles ≡ lists + 1 → LastMade v v (needs (Some 1) lists) 1 singles
  partly_made_own v lists singles e = partly_made_same v (Some 1) lists singles (λ size.
      sym (many-add 1 1 lists size) ∙ ap (λ n. many_of 1 n size) (let f : 1 + lists ≡ singles = omega (arith, e) in f))

  pub partly_made_first : (v : Store S) (s lists : ℕ) → PartlyMade v v (needs (Some s) lists) s 1
  partly_made_first v s lists = record {
    made = none_of;
    turnover = Turnover-same v v refl None;
    rest = λ size. (let a = many-sub s 1 (free_in v.tiers) size in let h = how_many-needs (Some s) lists size in omega (arith, a, h));
  }

  pub partly_made_second : (v w : Store S) (s lists : ℕ) → s ≢ 1 → Turnover v w (many_of s (1 - free_in v.tiers s)) None None → LastMade v w (needs (Some s) lists) 1 lists
  partly_made_second v w s lists other t = record {
    partly_made = record { made = many_of s (1 - free_in v.tiers s); turnover = t; rest = λ size. (let e = sum size in omega (arith, e)) };
    all = λ size. (let e = sum size in omega (arith, e));
  }
    where
      sum : (size : ℕ) → many_of s (1 - free_in v.tiers s) size + many_of 1 (lists - free_in w.tiers 1) size ≡ missing_in v (needs (Some s) lists) size
      sum size =
          let free : free_in w.tiers 1 ≡ free_in v.tiers 1 = (let f = t.free_is 1 in let none = many_other s (1 - free_in v.tiers s) 1 other in omega (arith, f, none)) in
          let later : many_of 1 (lists - free_in w.tiers 1) size ≡ many_of 1 (lists - free_in v.tiers 1) size = ap (λ n. many_of 1 (lists - n) size) free in
          let a = many-sub 1 lists (free_in v.tiers) size in
          let b = many-sub s 1 (free_in v.tiers) size in
          let h = how_many-needs (Some s) lists size in
          elim (cases_eq 1 size) as (λ _. many_of s (1 - free_in v.tiers s) size + many_of 1 (lists - free_in w.tiers 1) size ≡ missing_in v (needs (Some s) lists) size) [
            | inl e ↦ (let d = many_other s 1 size (λ z. other (z ∙ sym e)) in omega (arith, later, a, b, h, d))
            | inr ne ↦ (let d = many_other 1 lists size ne in omega (arith, later, a, b, h, d))
          ]

  module _ (v w x : Store S) (needed : List ℕ) (s n : ℕ) (up : goes_up 0 (tier_sizes v.tiers) ≡ true) (among : Contains (tier_sizes v.tiers) s) (partly_made : PartlyMade v w needed s n) where
    -- those blocks were made too, and so no block is missing
    obtained_all : ((size : ℕ) → missing_in v needed size ≤ partly_made.made size + many_of s (n - free_in w.tiers s) size) →
        Turnover w x (many_of s (n - free_in w.tiers s)) None None → Turnover v x (missing_in v needed) None None
    obtained_all all t =
        Turnover-as v x _ (missing_in v needed) None None (λ size. (let a = partly_made.rest size in let b = all size in omega (arith, a, b)))
        (Turnover-then v w x partly_made.made (many_of s (n - free_in w.tiers s)) None None None None None None (λ size. refl) partly_made.turnover t)

    -- some of the missing blocks were made, and making the next one was refused
    pub obtained_part : {X : Type 0} (e : Refusal) (m : ℕ) → free_in w.tiers s + m < n → Turnover w x (many_of s m) None None → ((e ≡ IndexRange) ↔ (x.limit < length x.slots + s)) →
        Obtains {X = X} (λ e. e ≡ IndexRange) (λ e. e ≡ Memory) (Err e) v x needed
    obtained_part e m less t range =
        let sum : ℕ → ℕ = λ size. partly_made.made size + many_of s m size in
        let turned = Turnover-then v w x partly_made.made (many_of s m) None None None None None None (λ size. refl) partly_made.turnover t in
        let few : (size : ℕ) → partly_made.made size + many_of s m size + many_of s 1 size ≤ missing_in v needed size = λ size.
        (let r = partly_made.rest size in let a = many-add s m 1 size in let l = many-le s (m + 1) (n - free_in w.tiers s) size (omega (arith, less)) in omega (arith, r, a, l)) in
        let slots = missing_slots-are v needed up in
        let most = slots_of-le (tier_sizes v.tiers) (λ size. sum size + many_of s 1 size) (missing_in v needed) few in
        let parts = slots_of-add (tier_sizes v.tiers) sum (many_of s 1) in
        let one = slots_of-many 0 (tier_sizes v.tiers) up s 1 among in
        record {
          made = (sum, λ size. (let f = few size in omega (arith, f)), turned);
          range = λ is. (let h = range.0 is in omega (arith, h, slots, most, parts, one, turned.keeps.limit_is, turned.longer));
          memory = λ is. (
            s,
            (let f = few s in let h = many_here s 1 in let free = turned.free_is s in omega (arith, f, h, free)),
            elim (cases_lt x.limit (length x.slots + s)) as (λ _. length x.slots + s ≤ x.limit) [
              | inl full ↦ absurd (other e is (range.1 full))
              | inr space ↦ space
            ],
          );
          some_missing = omega (arith, slots, most, parts, one, above 0 (tier_sizes v.tiers) up s among);
        }
      where
        other : (e : Refusal) → e ≡ Memory → e ≡ IndexRange → ⊥
        other Memory a b = absurd cc
        other IndexRange a b = absurd cc

    -- what the last call of `obtain` leaves, by its result
    pub obtained : {X : Type 0} (r : Result X Refusal) → ((size : ℕ) → missing_in v needed size ≤ partly_made.made size + many_of s (n - free_in w.tiers s) size) →
        OnOk r (Turnover w x (many_of s (n - free_in w.tiers s)) None None) → OnErr r ((m : ℕ) × (free_in w.tiers s + m < n) × Turnover w x (many_of s m) None None) →
        IfErr r (λ e. (e ≡ IndexRange) ↔ (x.limit < length x.slots + s)) → Obtains (λ e. e ≡ IndexRange) (λ e. e ≡ Memory) r v x needed
    obtained (Ok y) all done some range = record { made = obtained_all all done; range = tt; memory = tt; some_missing = tt }
    obtained (Err e) all done some range = obtained_part e some.0 some.1 some.2 range
