-- A map made of two maps has no longer keys than they have, and at most their entries together: for the sizes of
-- walks.
use Rattle.std.proofs.Common.{◌≡◌, ◌∙◌, ◌+◌, ◌≤◌, ◌<◌, ℕ, Bool, true, false, true≢false, cond, List, [], ◌∷◌, length, map, filter, Option, None, Some, Ordering, Less, Equal, Greater, is_some, suc, ap, sym, subst, refl, arith}
use Rattle.std.specs.List.{cons_option, filter_map}
use Rattle.std.specs.FinMap.{get, len, len-entries, retain_keys}
use Rattle.prefix_trie_bits.specs.Model.Order.{listing_cmp}
use Rattle.prefix_trie_bits.proofs.Model.SortedListings.{entries-retained}
use Rattle.prefix_trie.specs.Terms.{AreWithin, Entries, listing}
use Rattle.prefix_trie_ops.specs.Combining.{both_values, common, with_partner}
use Rattle.prefix_trie_ops.specs.Merging.{merged, sides, union_of}
use Rattle.prefix_trie_ops.specs.declared.map.sides.Side.{Side}
use Rattle.prefix_trie_ops.specs.declared.map.sides.Side.TheVariants.{Left, Right, Both}
use Rattle.prefix_trie_ops.proofs.Combining.{retained_at}
use Rattle.prefix_trie_ops.proofs.Merging.{get_union, union_listing}
use Rattle.prefix_trie_ops.proofs.Pairs.{common_listing, get_common}

filter_fewer : {X : Type 0} (p : X → Bool) (xs : List X) → length (filter p xs) ≤ length xs
filter_fewer p [] = omega arith
filter_fewer p (x ∷ xs) =
    let rest : length (filter p xs) ≤ length xs = filter_fewer p xs in
    elim (p x) as (λ b. length (cond b (x ∷ filter p xs) (filter p xs)) ≤ length (x ∷ xs)) [
      | true ↦ omega (arith, rest)
      | false ↦ omega (arith, rest)
    ]

chosen_fewer : {X Y : Type 0} (f : X → Option Y) (xs : List X) → length (filter_map f xs) ≤ length xs
chosen_fewer f [] = omega arith
chosen_fewer f (x ∷ xs) =
    let rest : length (filter_map f xs) ≤ length xs = chosen_fewer f xs in
    elim (f x) as (λ o. length (cons_option o (filter_map f xs)) ≤ length (x ∷ xs)) [
      | None ↦ omega (arith, rest)
      | Some y ↦ omega (arith, rest)
    ]

mapped_as_many : {X Y : Type 0} (f : X → Y) (xs : List X) → length (map f xs) ≡ length xs
mapped_as_many f [] = refl
mapped_as_many f (x ∷ xs) = ap suc (mapped_as_many f xs)

module _ {X Y : Type 0} where
  merged_fewer : (xs : List (List Bool × X)) (ys : List (List Bool × Y)) → length (merged xs ys) ≤ length xs + length ys
  merged_fewer [] [] = omega arith
  merged_fewer [] (y ∷ ys) = let rest = merged_fewer [] ys in omega (arith, rest)
  merged_fewer (x ∷ xs) [] = let rest = merged_fewer xs [] in omega (arith, rest)
  merged_fewer (x ∷ xs) (y ∷ ys) =
      let l = merged_fewer xs (y ∷ ys) in
      let b = merged_fewer xs ys in
      let r = merged_fewer (x ∷ xs) ys in
      elim (listing_cmp x.0 y.0) as (λ o. length (by_order o) ≤ length (x ∷ xs) + length (y ∷ ys)) [
        | Less ↦ omega (arith, l)
        | Equal ↦ omega (arith, b)
        | Greater ↦ omega (arith, r)
      ]
    where
      by_order : Ordering → List (List Bool × Side X Y)
      by_order o = elim o [
        | Less ↦ (x.0, Left x.1) ∷ merged xs (y ∷ ys)
        | Equal ↦ (x.0, Both x.1 y.1) ∷ merged xs ys
        | Greater ↦ (y.0, Right y.1) ∷ merged (x ∷ xs) ys
      ]

module _ {X : Type 0} where
  pub retained_within : (w : ℕ) (m : Entries X) (p : List Bool → Bool) → AreWithin w m → AreWithin w (retain_keys m p)
  retained_within w m p h s there = h s (go (p s) (get m s) (sym (ap is_some (retained_at m p s)) ∙ there))
    where
      go : (b : Bool) (v : Option X) → is_some (cond b v None) ≡ true → is_some v ≡ true
      go true v h = h
      go false v bad = absurd (true≢false (sym bad))

  pub retained_fewer : (m : Entries X) (p : List Bool → Bool) → length (listing (retain_keys m p)) ≤ len m
  retained_fewer m p =
      let few = filter_fewer (λ (e : List Bool × X). p e.0) (listing m) in
      subst (λ n. n ≤ len m) (sym (ap length (entries-retained m p))) (subst (λ n. length (filter (λ e. p e.0) (listing m)) ≤ n) (sym (len-entries m)) few)

module _ {X Y : Type 0} where
  pub common_within : (w : ℕ) (m : Entries X) (n : Entries Y) → AreWithin w m → AreWithin w (common m n)
  common_within w m n h s there = h s (go (get m s) (get n s) (sym (ap is_some (get_common n m s)) ∙ there))
    where
      go : (v : Option X) (u : Option Y) → is_some (both_values v u) ≡ true → is_some v ≡ true
      go None u bad = absurd (true≢false (sym bad))
      go (Some v) u h = refl

  pub common_fewer : (m : Entries X) (n : Entries Y) → length (listing (common m n)) ≤ len m
  common_fewer m n =
      let few = chosen_fewer (with_partner n) (listing m) in
      subst (λ k. k ≤ len m) (sym (ap length (common_listing n m))) (subst (λ k. length (filter_map (with_partner n) (listing m)) ≤ k) (sym (len-entries m)) few)

  pub union_within : (w : ℕ) (m : Entries X) (n : Entries Y) → AreWithin w m → AreWithin w n → AreWithin w (union_of m n)
  union_within w m n h k s there = go (get m s) (get n s) refl refl (sym (ap is_some (get_union m n s)) ∙ there)
    where
      go : (v : Option X) (u : Option Y) → get m s ≡ v → get n s ≡ u → is_some (sides v u) ≡ true → length s ≤ w
      go None None a b bad = absurd (true≢false (sym bad))
      go (Some v) u a b _ = h s (ap is_some a)
      go None (Some u) a b _ = k s (ap is_some b)

  pub union_fewer : (m : Entries X) (n : Entries Y) → length (listing (union_of m n)) ≤ len m + len n
  union_fewer m n =
      let few = merged_fewer (listing m) (listing n) in
      subst (λ k. k ≤ len m + len n) (sym (ap length (union_listing m n)))
      (subst (λ k. length (merged (listing m) (listing n)) ≤ k + len n) (sym (len-entries m)) (subst (λ k. length (merged (listing m) (listing n)) ≤ length (listing m) + k) (sym (len-entries n)) few))

-- a walk over a listing gives fewer items than a bound that the listing is below
pub items_below : {X Y : Type 0} (bound n : ℕ) (items : List Y) (f : X → Y) (es : List X) → items ≡ map f es → length es ≤ n → n < bound → length items < bound
items_below bound n items f es is few small = subst (λ k. k < bound) (sym (ap length is ∙ mapped_as_many f es)) (omega (arith, few, small))

pub items_at_most : {X Y : Type 0} (n : ℕ) (items : List Y) (f : X → Y) (es : List X) → items ≡ map f es → length es ≤ n → length items ≤ n
items_at_most n items f es is few = subst (λ k. k ≤ n) (sym (ap length is ∙ mapped_as_many f es)) few
