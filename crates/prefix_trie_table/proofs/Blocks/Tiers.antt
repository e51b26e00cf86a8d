-- The sizes of the tiers stay the same in every call, and a table gives the tier for each number of items.
use Rattle.prefix_trie_table.proofs.Prelude.{◌≡◌, ℕ, zero, suc, ◌+◌, ◌*◌, ◌<◌, ◌≤◌, inl, inr, ⊎_elim, Bool, true, ◌&&◌, nat_lt, List, [], ◌∷◌, length, Option, None, Some, IsSome, get_or, set, map, nat_eq, eqb-true, ltb-true, refl, sym, ap, ◌∙◌, subst, arith, length-map, get_or_default, sum_by-set, get_or-le-sum_by, and_parts, smallest_size, at_below, Tier, tier_at, tier_sizes, size_in, slots_made, no_blocks, cell_sizes, node_sizes, HasSizes, TIERS}
use Rattle.prefix_trie_bits.proofs.Checks.{below}
use Rattle.prefix_trie_table.proofs.Blocks.SevenTiers.{at_seven}
use Rattle.prefix_trie_table.proofs.Blocks.BySize.{size_at, sizes_set, tiers_long, smallest_holds}

pub sizes_kept : (ts : List Tier) (k : ℕ) (t : Tier) → HasSizes ts → t.size ≡ (tier_at ts k).size → HasSizes (set ts k t)
unfolding HasSizes
sizes_kept ts k t has same = ⊎_elim (λ (e : tier_sizes ts ≡ cell_sizes). inl (sizes_set ts k t same ∙ e)) (λ (e : tier_sizes ts ≡ node_sizes). inr (sizes_set ts k t same ∙ e)) has

-- if a block of a tier is taken or freed, the slots and the sizes of the tiers stay
pub tier_turned : (ts : List Tier) (k first len : ℕ) (t old : Tier) → k < length ts → old ≡ get_or ts k old → t.size ≡ old.size → t.made ≡ old.made →
    first + slots_made ts ≡ len → HasSizes ts → (first + slots_made (set ts k t) ≡ len) × HasSizes (set ts k t)
tier_turned ts k first len t old inside read size made total has =
    let f : Tier → ℕ = λ u. u.size * u.made in
    let same : f t ≡ f (get_or ts k old) = ap (λ n. n * t.made) size ∙ ap (λ n. old.size * n) made ∙ ap f read in
    let at_k : tier_at ts k ≡ old = get_or_default ts k _ old inside ∙ sym read in
    (omega (arith, sum_by-set f ts k t old inside, same, total), sizes_kept ts k t has (size ∙ ap (λ (u : Tier). u.size) (sym at_k)))

-- dropping all blocks keeps the sizes
pub none_sizes : (ts : List Tier) → tier_sizes (map (λ t. no_blocks t.size) ts) ≡ tier_sizes ts
none_sizes [] = refl
none_sizes (t ∷ ts) = ap (λ ns. t.size ∷ ns) (none_sizes ts)

pub cell_tiers : HasSizes (map no_blocks cell_sizes)
unfolding HasSizes
cell_tiers = inl refl

pub node_tiers : HasSizes (map no_blocks node_sizes)
unfolding HasSizes
node_tiers = inr refl

pub cleared_sizes : (ts : List Tier) → HasSizes ts → HasSizes (map (λ t. no_blocks t.size) ts)
unfolding HasSizes
cleared_sizes ts has = ⊎_elim (λ (e : tier_sizes ts ≡ cell_sizes). inl (none_sizes ts ∙ e)) (λ (e : tier_sizes ts ≡ node_sizes). inr (none_sizes ts ∙ e)) has

-- what holds of each size of the two arrays holds of each tier
module _ (P : ℕ → Type 0) (cells : (k : ℕ) → k < 7 → P (size_in cell_sizes k)) (nodes : (k : ℕ) → k < 7 → P (size_in node_sizes k)) where
  pub each_size : (ts : List Tier) → HasSizes ts → (k : ℕ) → k < length ts → P (tier_at ts k).size
  unfolding HasSizes
  each_size ts has k h =
      ⊎_elim (λ (e : tier_sizes ts ≡ cell_sizes). subst P (sym (size_at ts k ∙ ap (λ ns. size_in ns k) e)) (cells k (few cell_sizes refl e)))
      (λ (e : tier_sizes ts ≡ node_sizes). subst P (sym (size_at ts k ∙ ap (λ ns. size_in ns k) e)) (nodes k (few node_sizes refl e))) has
    where
      few : (sizes : List ℕ) → length sizes ≡ 7 → tier_sizes ts ≡ sizes → k < 7
      few sizes seven e = (let n : length (tier_sizes ts) ≡ length sizes = ap (λ ns. length ns) e in omega (arith, h, n, seven, length-map ts (λ t. t.size)))

pub sizes_positive : (ts : List Tier) → HasSizes ts → (k : ℕ) → k < length ts → 0 < (tier_at ts k).size
sizes_positive =
    each_size (λ n. 0 < n) (at_seven (λ k. 0 < size_in cell_sizes k) (omega arith) (omega arith) (omega arith) (omega arith) (omega arith) (omega arith) (omega arith))
    (at_seven (λ k. 0 < size_in node_sizes k) (omega arith) (omega arith) (omega arith) (omega arith) (omega arith) (omega arith) (omega arith))

-- a tier has at most as many blocks as the tiers have slots
pub made_within : (ts : List Tier) (k : ℕ) → HasSizes ts → k < length ts → (tier_at ts k).made ≤ slots_made ts
made_within ts k has inside =
    le_times (tier_at ts k).size (tier_at ts k).made (slots_made ts) (sizes_positive ts has k inside) (get_or-le-sum_by (λ t. t.size * t.made) ts k (record { size = 0; made = 0; starts = [] }) inside)
  where
    le_times : (n m most : ℕ) → 0 < n → n * m ≤ most → m ≤ most
    le_times zero m most h le = absurd (omega arith)
    le_times (suc n) m most h le = (let e : suc n * m ≡ m + n * m = omega arith in omega arith)

pub sizes_small : (ts : List Tier) → HasSizes ts → (k : ℕ) → k < length ts → (tier_at ts k).size < 33
sizes_small =
    each_size (λ n. n < 33) (at_seven (λ k. size_in cell_sizes k < 33) (omega arith) (omega arith) (omega arith) (omega arith) (omega arith) (omega arith) (omega arith))
    (at_seven (λ k. size_in node_sizes k < 33) (omega arith) (omega arith) (omega arith) (omega arith) (omega arith) (omega arith) (omega arith))

-- the table has the right tier for n items, if some size holds them
abbrev is_size : Option ℕ → ℕ → Bool
is_size None n = true
is_size (Some k) n = nat_eq k n

size-is : (o : Option ℕ) (n : ℕ) → is_size o n ≡ true → IsSome o → o ≡ Some n
size-is None n h some = absurd cc
size-is (Some k) n h some = ap Some (eqb-true k n h)

unfoldable is_in_table : List ℕ → ℕ → Bool
is_in_table sizes n = is_size (smallest_size sizes n) (size_in sizes (get_or TIERS n 0)) && nat_lt (get_or TIERS n 0) 7

cells-right : below (is_in_table cell_sizes) 33 ≡ true
unfolding below is_in_table
cells-right = refl

nodes-right : below (is_in_table node_sizes) 33 ≡ true
unfolding below is_in_table
nodes-right = refl

-- a number of items that some size holds is below 33, so it is in the table
pub held_small : (ts : List Tier) (n : ℕ) → HasSizes ts → IsSome (smallest_size (tier_sizes ts) n) → n < 33
held_small ts n has some =
    let found = some_is (smallest_size (tier_sizes ts) n) some in
    let holds = smallest_holds (tier_sizes ts) n found.0 found.1 in
    let inside : holds.0.0 < length ts = (let i = holds.0.1 in let l = tiers_long ts (tier_sizes ts) refl in omega (arith, i, l)) in
    let is : size_in (tier_sizes ts) holds.0.0 ≡ found.0 = get_or_default (tier_sizes ts) holds.0.0 0 found.0 holds.0.1 ∙ holds.0.2 in
    omega (arith, holds.1, sizes_small ts has holds.0.0 inside, size_at ts holds.0.0, is)
  where
    some_is : (o : Option ℕ) → IsSome o → (k : ℕ) × (o ≡ Some k)
    some_is None h = absurd cc
    some_is (Some k) h = (k, refl)

-- the tier that the table gives is the right one
pub tier_in_table : (ts : List Tier) (n : ℕ) → HasSizes ts → IsSome (smallest_size (tier_sizes ts) n) →
    (get_or TIERS n 0 < length ts) × (smallest_size (tier_sizes ts) n ≡ Some (size_in (tier_sizes ts) (get_or TIERS n 0)))
unfolding is_in_table HasSizes
tier_in_table ts n has some =
    ⊎_elim (λ (e : tier_sizes ts ≡ cell_sizes). by cell_sizes e refl cells-right) (λ (e : tier_sizes ts ≡ node_sizes). by node_sizes e refl nodes-right) has
  where
    by : (sizes : List ℕ) → tier_sizes ts ≡ sizes → length sizes ≡ 7 → below (is_in_table sizes) 33 ≡ true →
        (get_or TIERS n 0 < length ts) × (smallest_size (tier_sizes ts) n ≡ Some (size_in (tier_sizes ts) (get_or TIERS n 0)))
    by sizes e seven right =
        let both = and_parts (is_size (smallest_size sizes n) (size_in sizes (get_or TIERS n 0))) (nat_lt (get_or TIERS n 0) 7) (at_below (is_in_table sizes) 33 right n (held_small ts n has some)) in (
          (let less = ltb-true (get_or TIERS n 0) 7 both.1 in let l = tiers_long ts sizes e in omega (arith, less, l, seven)),
          subst (λ ns. smallest_size ns n ≡ Some (size_in ns (get_or TIERS n 0))) (sym e)
              (size-is (smallest_size sizes n) (size_in sizes (get_or TIERS n 0)) both.0 (subst (λ ns. IsSome (smallest_size ns n)) e some)),
        )
