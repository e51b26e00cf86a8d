-- The next place of a spot of any walk: which string it is, what it weighs, and the key that its child has.
use Rattle.prefix_trie_table.proofs.Prelude.{◌≡◌, ℕ, suc, ◌+◌, ◌-◌, ◌*◌, ◌^◌, ◌<◌, ◌≤◌, Bool, not, cond, List, ◌∷◌, ◌++◌, length, take, filter, refl, sym, ap, ◌∙◌, subst, arith, inl, inr, append_assoc, add-mul, one-mul, pow_pos, shl_below, length-filter_both, cases_lt, le-ltb, take-append-le, take-take, length-take-le, number, digits, zeros, digits-number, take-extend, value_bit, place_of, strings, to_come, Places, Entries, listing_at_place, listing_at_places, count-strings, value_bit-small, Spot, still, weight, Value}
use Rattle.std.proofs.lemmas.Bool.{lt-ltb}
use Rattle.prefix_trie_bits.specs.declared.node.Place.TheVariants.{Child as ChildPlace}
use Rattle.prefix_trie_table.proofs.Tree.Subtrees.{number-small}

-- ---- the bound on steps

one-less : (n x : ℕ) → suc n * x ≡ x + n * x
one-less n x = let e : suc n ≡ 1 + n = omega arith in ap (λ k. k * x) e ∙ add-mul 1 n x ∙ ap (λ k. k + n * x) (one-mul x)

-- a child with all its places weighs less than its place did
pub weight-child : (d e : ℕ) (test : List Bool → Bool) (ss : List (List Bool)) → e ≡ d + 5 → e ≤ 128 → ss ≡ filter test (strings 5) → length ss * 2 ^ (2 * (130 - e)) + 1 < 2 ^ (2 * (130 - d))
weight-child d e test ss is fits all =
    let few : length ss ≤ 63 = omega (arith, ap length all, length-filter_both test (λ s. not (test s)) (λ s. refl) (strings 5), count-strings) in
    let level : 10 + 2 * (130 - e) ≡ 2 * (130 - d) = omega (arith, is, fits) in
    let below : suc (length ss) * 2 ^ (2 * (130 - e)) < 2 ^ (2 * (130 - d)) = subst (λ k. suc (length ss) * 2 ^ (2 * (130 - e)) < 2 ^ k) level (shl_below (suc (length ss)) 10 (2 * (130 - e)) (omega (arith, few))) in
    omega (arith, below, one-less (length ss) (2 ^ (2 * (130 - e))), pow_pos (2 * (130 - e)))

-- ---- which place it is

-- a place for a value is that of a string of less than five bits
pub place-value : (s : List Bool) (b : ℕ) → length s ≤ 5 → Value b ≡ place_of s → (length s ≤ 4) × (b ≡ value_bit s)
place-value s b h e = elim (cases_lt (length s) 5) as (λ _. (length s ≤ 4) × (b ≡ value_bit s)) [
  | inl l ↦ (omega arith, let f : Value b ≡ Value (value_bit s) = e ∙ ap (λ c. cond c (Value (value_bit s)) (ChildPlace (number s))) (lt-ltb (length s) 5 l) in cc)
  | inr g ↦ absurd (let f : Value b ≡ ChildPlace (number s) = e ∙ ap (λ c. cond c (Value (value_bit s)) (ChildPlace (number s))) (le-ltb (length s) 5 g) in cc)
]

-- a place for a child is that of a string of five
pub place-child : (s : List Bool) (b : ℕ) → length s ≤ 5 → ChildPlace b ≡ place_of s → (length s ≡ 5) × (b ≡ number s)
place-child s b h e = elim (cases_lt (length s) 5) as (λ _. (length s ≡ 5) × (b ≡ number s)) [
  | inl l ↦ absurd (let f : ChildPlace b ≡ Value (value_bit s) = e ∙ ap (λ c. cond c (Value (value_bit s)) (ChildPlace (number s))) (lt-ltb (length s) 5 l) in cc)
  | inr g ↦ (omega (arith, h), let f : ChildPlace b ≡ ChildPlace (number s) = e ∙ ap (λ c. cond c (Value (value_bit s)) (ChildPlace (number s))) (le-ltb (length s) 5 g) in cc)
]

-- the value bit of a value place is below 31
pub place-small : (s : List Bool) (b : ℕ) → length s ≤ 5 → Value b ≡ place_of s → b < 31
place-small s b h e =
    let p = place-value s b h e in let l = value_bit-small s p.0 in omega (arith, l, p.1)

-- the number of a child place is below 32
pub place-child-small : (s : List Bool) (b : ℕ) → length s ≤ 5 → ChildPlace b ≡ place_of s → b < 32
place-child-small s b h e =
    let p = place-child s b h e in let l = number-small s p.0 in omega (arith, l, p.1)

-- ---- a spot whose next place is that of a string

-- the spot afterwards
abbrev pub moved_on : Spot → Places → Spot
moved_on p later = record p { places = later }

module _ (p : Spot) (s : List Bool) (later : Places) (first : to_come p.places ≡ s ∷ to_come later) where
  pub weight_is : weight p ≡ 2 ^ (2 * (130 - p.depth)) + weight (moved_on p later)
  weight_is =
      let e = one-less (length (to_come later)) (2 ^ (2 * (130 - p.depth))) in
      let l : length (to_come p.places) * 2 ^ (2 * (130 - p.depth)) ≡ suc (length (to_come later)) * 2 ^ (2 * (130 - p.depth)) = ap (λ ss. length ss * 2 ^ (2 * (130 - p.depth))) first in
      omega (arith, e, l)

  pub lighter : weight (moved_on p later) < weight p
  lighter = omega (arith, weight_is, pow_pos (2 * (130 - p.depth)))

  pub still_is : {T : Type 0} (m : Entries T) (search_path : List Bool) → still m search_path p ≡ listing_at_place m (take p.depth search_path) s ++ still m search_path (moved_on p later)
  still_is m search_path = ap (listing_at_places m (take p.depth search_path)) first

-- ---- the keys of its steps

module _ (search_path : List Bool) (d : ℕ) (long : d ≤ length search_path) where
  -- a key that begins with the spot's path
  pub same_above : (key s rest : List Bool) → key ≡ take d search_path ++ s ++ rest → take d key ≡ take d search_path
  same_above key s rest e =
      ap (take d) (e ∙ append_assoc (take d search_path) s rest)
      ∙ take-append-le d (take d search_path) (s ++ rest) (omega (arith, length-take-le d search_path long)) ∙ take-take d d search_path (omega arith)

-- a key that was extended by the bits of a string begins with the spot's path and the string
pub extended_by : (search_path key : List Bool) (width d n x : ℕ) (s : List Bool) → length search_path ≡ width → d + n ≤ width → s ≡ digits n x →
    key ≡ take d search_path ++ digits n x ++ zeros (width - (d + n)) → take (d + n) key ≡ take d search_path ++ s
extended_by search_path key width d n x s reach fits is extended = take-extend search_path key width d n x reach fits extended ∙ ap (λ u. take d search_path ++ u) (sym is)

-- which has zeros after them
pub filled_by : (search_path key : List Bool) (width d n x : ℕ) → length search_path ≡ width → d + n ≤ width →
    key ≡ take d search_path ++ digits n x ++ zeros (width - (d + n)) → key ≡ take (d + n) key ++ zeros (width - (d + n))
filled_by search_path key width d n x reach fits extended =
    extended ∙ ap (λ u. u ++ zeros (width - (d + n))) (sym (take-extend search_path key width d n x reach fits extended))

-- a child bit writes the string of its child
pub child_digits : (s : List Bool) (b : ℕ) → length s ≡ 5 → b ≡ number s → digits 5 b ≡ s
child_digits s b five is = ap (digits 5) is ∙ ap (λ k. digits k (number s)) (sym five) ∙ digits-number s
