-- A list that loses an item: its block steps down, and the new block is made if none of its size is free.
use Rattle.prefix_trie_table.proofs.Prelude.{◌≡◌, ◌≢◌, ℕ, ◌-◌, ◌<◌, ◌≤◌, ◌↔◌, inl, inr, List, length, Option, None, Some, IsSome, is_some, refl, sym, ap, ◌∙◌, subst, arith, false≢true, cases_eq, cases_lt, same_Some, option_map, StepsDown, free_of, made_of, smallest_size, BlockRef, HasSizes, LosesOne, Tier, Store, tier_sizes, size_in, size_if_any, list_size, free_counts, free_in, many_of}
use Rattle.prefix_trie_table.proofs.Blocks.BySize.{sizes_up, sizes_rise, tiers_long, smallest_there, size_some, many_here, many_other}

-- no block is made if no item is left or the list keeps its block
pub none_made : (sizes free : List ℕ) (old : Option ℕ) (size : ℕ) → made_of sizes free old None size ≡ 0
none_made sizes free old size = omega arith

pub same_made : (sizes free : List ℕ) (old : Option ℕ) (size : ℕ) → made_of sizes free old old size ≡ 0
same_made sizes free old size = omega arith

-- one block of another size is made if none of it is free
pub one_made : (sizes free : List ℕ) (o n size : ℕ) → o ≢ n → many_of n (1 - free_of sizes free n) size ≡ made_of sizes free (Some o) (Some n) size
one_made sizes free o n size differ = elim (cases_eq n size) as (λ _. many_of n (1 - free_of sizes free n) size ≡ made_of sizes free (Some o) (Some n) size) [
  | inl e ↦ subst (λ s. many_of n (1 - free_of sizes free n) s ≡ made_of sizes free (Some o) (Some n) s) e
      (let a = many_here n (1 - free_of sizes free n) in let b = many_here n 1 in let d = many_other o 1 n differ in omega (arith, a, b, d))
  | inr ne ↦ (let a = many_other n (1 - free_of sizes free n) size ne in let b = many_other n 1 size ne in omega (arith, a, b))
]

module _ (ts : List Tier) (k count : ℕ) (some : 0 < count) where
  -- a list that lost its last item has no block
  pub steps_gone : count ≡ 1 → StepsDown (tier_sizes ts) (free_counts ts) count (count - 1) (Some (size_in (tier_sizes ts) k)) None
  steps_gone one = record {
    fewer = omega (arith, some);
    same = λ e. absurd (omega (arith, e, some));
    none = λ _. refl;
    one_of = λ less left. absurd (omega (arith, left, one));
    smallest = λ size less left is free. absurd (omega (arith, left, one));
  }

  -- the list moved to the smallest block that holds it
  pub steps_moved : (to : ℕ) → 1 < count → smallest_size (tier_sizes ts) (count - 1) ≡ Some (size_in (tier_sizes ts) to) →
      StepsDown (tier_sizes ts) (free_counts ts) count (count - 1) (Some (size_in (tier_sizes ts) k)) (Some (size_in (tier_sizes ts) to))
  steps_moved to more found = record {
    fewer = omega (arith, some);
    same = λ e. absurd (omega (arith, e, some));
    none = λ e. absurd (omega (arith, e, more));
    one_of = λ less left. inr (sym found);
    smallest = λ size less left is free. sym found ∙ is;
  }

  -- the list kept its block, because it is the smallest that holds it or no block of that size is free
  pub steps_stayed : 1 < count → ((size : ℕ) → smallest_size (tier_sizes ts) (count - 1) ≡ Some size → 0 < free_in ts size → size_in (tier_sizes ts) k ≡ size) →
      StepsDown (tier_sizes ts) (free_counts ts) count (count - 1) (Some (size_in (tier_sizes ts) k)) (Some (size_in (tier_sizes ts) k))
  steps_stayed more stays = record {
    fewer = omega (arith, some);
    same = λ _. refl;
    none = λ e. absurd (omega (arith, e, more));
    one_of = λ less left. inl refl;
    smallest = λ size less left is free. ap Some (stays size is free);
  }

  -- the smallest block that holds the rest is of the same tier or a lower one
  pub smallest_low : (to : ℕ) → HasSizes ts → k < length ts → count ≤ size_in (tier_sizes ts) k → to < length ts →
      smallest_size (tier_sizes ts) (count - 1) ≡ Some (size_in (tier_sizes ts) to) → to ≤ k
  smallest_low to has inside fits within found = elim (cases_lt k to) as (λ _. to ≤ k) [
    | inr low ↦ low
    | inl high ↦ absurd (
        let r = smallest_there ts (count - 1) k has inside (omega (arith, fits)) in
        let up = sizes_rise 0 (tier_sizes ts) (sizes_up ts has) k to high (omega (arith, tiers_long ts (tier_sizes ts) refl, within)) in
        omega (arith, same_Some (size_in (tier_sizes ts) to) r.size (sym found ∙ r.found), up, r.least))
  ]

-- ---- the list afterwards

module _ {S : Type 0} (v w : Store S) (k count : ℕ) where
  -- the other items are in a block, if any are left
  module _ (o : Option BlockRef) (none : IsSome o ↔ (1 < count)) (left : LosesOne v w count (Some (size_in (tier_sizes v.tiers) k)) (option_map (λ (p : BlockRef). size_in (tier_sizes v.tiers) p.tier) o)) where
    pub left_some : (p : BlockRef) → o ≡ Some p → LosesOne v w count (list_size v.tiers k count) (list_size v.tiers p.tier (count - 1))
    left_some p is =
        let more : 1 < count = none.0 (ap (λ q. is_some q) is) in
        let at = subst (λ (q : Option BlockRef). LosesOne v w count (Some (size_in (tier_sizes v.tiers) k)) (option_map (λ (p : BlockRef). size_in (tier_sizes v.tiers) p.tier) q)) is left in
        subst (λ o. LosesOne v w count o (list_size v.tiers p.tier (count - 1))) (sym (size_some count (size_in (tier_sizes v.tiers) k) (omega (arith, more))))
        (subst (λ n. LosesOne v w count (Some (size_in (tier_sizes v.tiers) k)) n) (sym (size_some (count - 1) (size_in (tier_sizes v.tiers) p.tier) (omega (arith, more)))) at)

    pub none_left : o ≡ None → 0 < count → count ≡ 1
    none_left is some = elim (cases_lt 1 count) as (λ _. count ≡ 1) [
      | inl more ↦ absurd (false≢true (ap (λ q. is_some q) (sym is) ∙ none.1 more))
      | inr few ↦ omega (arith, few, some)
    ]

    pub left_none : o ≡ None → 0 < count → LosesOne v w count (list_size v.tiers k count) (list_size v.tiers 0 (count - 1))
    left_none is some =
        let one = none_left is some in
        let at = subst (λ (q : Option BlockRef). LosesOne v w count (Some (size_in (tier_sizes v.tiers) k)) (option_map (λ (p : BlockRef). size_in (tier_sizes v.tiers) p.tier) q)) is left in
        subst (λ o. LosesOne v w count o (list_size v.tiers 0 (count - 1))) (sym (size_some count (size_in (tier_sizes v.tiers) k) some))
        (subst (λ n. LosesOne v w count (Some (size_in (tier_sizes v.tiers) k)) n) (sym (ap (λ c. size_if_any c (size_in (tier_sizes v.tiers) 0)) (let e : count - 1 ≡ 0 = omega (arith, one) in e))) at)
