-- The list of a node's places, checked by computing, and the loop that brings set bits into listing order: for
-- `Places::new`.
use Rattle.prefix_trie_bits.proofs.Prelude.{◌≡◌, ℕ, ◌+◌, ◌-◌, ◌*◌, ◌%◌, ◌^◌, ◌<◌, Bool, true, false, ◌||◌, ◌&&◌, nat_eq, nat_lt, eqb-true, ltb-true, cond, List, [], length, map, Some, refl, sym, ap, ap₂, ◌∙◌, subst, inl, inr, bit_and, bit_or, mod-eq_of_lt, arith, get_or, slice_get, trailing_zeros, w64, or_lt, one_shl, pow_below, bit_at-trailing_zeros, bit_at_set_same, bit_at_set_other, cases_lt, cases_eq, lt-ltb, le-ltb, get_or-map, slice_get-get_or, get_or_from_slice_get, number, has, value_bit, heap_number, strings, place_of, places, is_in, pick, TakesPlace, LISTING, POSITION, Place}
use Rattle.prefix_trie_bits.specs.declared.node.Place.TheVariants.{Value}
use Rattle.prefix_trie_bits.proofs.Checks.{both, below, each, at_below, at_index}
use Rattle.prefix_trie_bits.proofs.Ranks.{has-from}
use Rattle.prefix_trie_bits.proofs.Bitmaps.{has-or, has-zero, or-false, or-true, has-shifted_low, has-shifted, has-above}
use Rattle.prefix_trie_bits.proofs.Picks.{pick-filter, pick-first, lowest-gone, others-stay}
use Rattle.prefix_trie_bits.proofs.Strings.{value_bit-suc, value_bit-small}

-- ---- the list of all strings

pub count-strings : length (strings 5) ≡ 63
unfolding strings
count-strings = refl

pub strings-short : each (λ s. nat_lt (length s) 6) (strings 5) ≡ true
unfolding each strings
strings-short = refl

pub string_short : (i : ℕ) → i < 63 → length (get_or (strings 5) i []) < 6
string_short i h =
    ltb-true (length (get_or (strings 5) i [])) 6 (at_index (λ s. nat_lt (length s) 6) (strings 5) strings-short i [] (rw count-strings h))

-- the heap number of the place at position p of the listing
abbrev pub heap_at : ℕ → ℕ
heap_at p = heap_number (get_or (strings 5) p [])

-- ---- the tables

listing-right : LISTING ≡ map place_of (strings 5)
unfolding strings number
listing-right = refl

pub listing-entry : (i : ℕ) (d : Place) → i < 63 → slice_get (map place_of (strings 5)) i ≡ Some (get_or LISTING i d)
listing-entry i d h =
    ap (λ xs. slice_get xs i) (sym listing-right) ∙ slice_get-get_or LISTING i d h

unfoldable position_test : ℕ → Bool
position_test n = nat_eq n 0 || nat_lt (get_or POSITION n 0) 63 && nat_eq (heap_at (get_or POSITION n 0)) n

of-positive : (n : ℕ) (x : Bool) → 0 < n → (nat_eq n 0 || x) ≡ true → x ≡ true
of-positive n x p h = go (nat_eq n 0) (λ e. let z = eqb-true n 0 e in omega arith) h
  where
    go : (b : Bool) → (b ≡ true → ⊥) → (b || x) ≡ true → x ≡ true
    go true f e = absurd (f refl)
    go false f e = e

count-heaps : length (map heap_number (strings 5)) ≡ 63
unfolding strings
count-heaps = refl

heap-listed : (q : ℕ) → q < 63 → slice_get (map heap_number (strings 5)) q ≡ Some (heap_at q)
heap-listed q h =
    slice_get-get_or (map heap_number (strings 5)) q 0 (rw count-heaps h) ∙
    ap Some (get_or-map heap_number (strings 5) q [] 0 (rw count-strings h))

pub position-entry : (n : ℕ) → 0 < n → n < 64 → (slice_get (map heap_number (strings 5)) (get_or POSITION n 0) ≡ Some n) × (get_or POSITION n 0 < 63)
unfolding below position_test strings number
position-entry n p l =
    let q = get_or POSITION n 0 in
    let b = both (nat_lt q 63) (nat_eq (heap_at q) n) (of-positive n _ p (at_below position_test 64 refl n l)) in
    let inside : q < 63 = ltb-true q 63 b.0 in (heap-listed q inside ∙ ap Some (eqb-true (heap_at q) n b.1), inside)

-- position p is what the table gives for its heap number, so two positions have two heap numbers
unfoldable back_test : ℕ → Bool
back_test p = nat_eq (get_or POSITION (heap_at p) 0) p

back : (p : ℕ) → p < 63 → get_or POSITION (heap_at p) 0 ≡ p
unfolding below back_test strings number
back p h = eqb-true (get_or POSITION (heap_at p) 0) p (at_below back_test 63 refl p h)

heap_at-injective : (p q : ℕ) → p < 63 → q < 63 → heap_at p ≡ heap_at q → p ≡ q
heap_at-injective p q h k e = sym (back p h) ∙ ap (λ n. get_or POSITION n 0) e ∙ back q k

-- ---- the first place of a walk

lowest : (m : ℕ) → (m ≡ 0 → ⊥) → m < 18446744073709551616 → (trailing_zeros w64 m < 64) × (has m (trailing_zeros w64 m) ≡ true) × ((i : ℕ) → i < trailing_zeros w64 m → has m i ≡ false)
lowest m ne fits =
    let t = bit_at-trailing_zeros w64 m (omega arith) fits in (
      t.0,
      has-from m (trailing_zeros w64 m) 1 t.1,
      λ i l. has-from m i 0 (t.2 i l),
    )

pub first_below : (m : ℕ) → (m ≡ 0 → ⊥) → m < 9223372036854775808 → trailing_zeros w64 m < 63
first_below m ne small = inside (trailing_zeros w64 m) (lowest m ne (omega arith)).1
  where
    inside : (k : ℕ) → has m k ≡ true → k < 63
    inside k h = elim (cases_lt k 63) [
      | inl l ↦ l
      | inr g ↦ let none : has m k ≡ false = has-above m 63 k small g in cc
    ]

pub takes_first : (m : ℕ) → (m ≡ 0 → ⊥) → m < 9223372036854775808 → (p : Place) → slice_get (map place_of (strings 5)) (trailing_zeros w64 m) ≡ Some p → TakesPlace (pick m (strings 5)) (pick (bit_and m (m - 1)) (strings 5)) p
takes_first m ne small p e =
    let low = lowest m ne (omega arith) in
    let t = trailing_zeros w64 m in
    let l = first_below m ne small in
    record {
      string = get_or (strings 5) t [];
      short = let h = string_short t l in omega arith;
      first =
          pick-first (strings 5) m t (bit_and m (m - 1)) [] (rw count-strings l) low.1 low.2 (lowest-gone m t low.1 low.2) (others-stay m t low.1 low.2);
      place =
          sym (get_or_from_slice_get (map place_of (strings 5)) t p (Value 0) e) ∙ get_or-map place_of (strings 5) t [] (Value 0) (rw count-strings l);
    }

-- ---- the loop: a number that is not 0, at its lowest set bit

module _ (rest : ℕ) (ne : rest ≡ 0 → ⊥) (fits : rest < 18446744073709551616) (even : has rest 0 ≡ false) where
  pub low_positive : 0 < trailing_zeros w64 rest
  low_positive = elim (cases_lt 0 (trailing_zeros w64 rest)) [
    | inl l ↦ l
    | inr g ↦ let z : trailing_zeros w64 rest ≡ 0 = omega arith in
        let f : has rest 0 ≡ true = ap (λ t. has rest t) (sym z) ∙ (lowest rest ne fits).1 in cc
  ]

  others : (i : ℕ) → (i ≡ trailing_zeros w64 rest → ⊥) → has (bit_and rest (rest - 1)) i ≡ has rest i
  others i other =
      let low = lowest rest ne fits in
      others-stay rest (trailing_zeros w64 rest) low.1 low.2 i other

  pub still_even : has (bit_and rest (rest - 1)) 0 ≡ false
  still_even = others 0 (λ e. let p = low_positive in omega arith) ∙ even

  -- the lowest bit is moved to its position q in the listing
  module _ (q : ℕ) (inside : q < 63) (place : slice_get (map heap_number (strings 5)) q ≡ Some (trailing_zeros w64 rest)) where
    heap-is : heap_at q ≡ trailing_zeros w64 rest
    heap-is =
        sym (get_or-map heap_number (strings 5) q [] 0 (rw count-strings inside)) ∙
        get_or_from_slice_get (map heap_number (strings 5)) q (trailing_zeros w64 rest) 0 place

    pub moved_fits : (listing : ℕ) → listing < 9223372036854775808 → bit_or listing (1 * 2 ^ q % 18446744073709551616) < 9223372036854775808
    moved_fits listing small =
        or_lt 63 listing _ small
        (subst (λ x. x < 9223372036854775808) (sym (one_shl q 64 (omega arith))) (pow_below q 63 inside))

    pub moved_bits : (heap listing : ℕ) → ((p : ℕ) → p < 63 → (has listing p || has rest (heap_at p)) ≡ has heap (heap_at p)) → (p : ℕ) → p < 63 → (has (bit_or listing (1 * 2 ^ q % 18446744073709551616)) p || has (bit_and rest (rest - 1)) (heap_at p)) ≡ has heap (heap_at p)
    moved_bits heap listing before p h =
        let t = trailing_zeros w64 rest in
        let within : q < 64 = omega arith in
        elim (cases_eq p q) [
          | inl e ↦
              let code : heap_at p ≡ t = ap heap_at e ∙ heap-is in
              let set : has (bit_or listing (1 * 2 ^ q % 18446744073709551616)) p ≡ true =
              ap (λ i. has (bit_or listing (1 * 2 ^ q % 18446744073709551616)) i) e ∙ has-from _ q 1 (bit_at_set_same w64 listing q within) in
              let was : has rest (heap_at p) ≡ true = ap (λ i. has rest i) code ∙ (lowest rest ne fits).1 in
              ap (λ b. b || has (bit_and rest (rest - 1)) (heap_at p)) set ∙
              sym (or-true (has listing p)) ∙ ap (λ b. has listing p || b) (sym was) ∙ before p h
          | inr other ↦
              ap₂ (λ a b. a || b)
              (ap (λ x. nat_eq x 1) (bit_at_set_other w64 listing q within p other))
              (others (heap_at p) (λ e. other (heap_at-injective p q h inside (e ∙ sym heap-is)))) ∙
              before p h
        ]

-- ---- the two bitmaps side by side

-- the word that the code makes of the two bitmaps: value bits in the lower half, child bits in the upper
abbrev pub heap : ℕ → ℕ → ℕ
heap values children = bit_or (values * 2 ^ 1 % 18446744073709551616) (children * 2 ^ 32 % 18446744073709551616)

module _ (values children : ℕ) (small : values < 2147483648) (fits : children < 4294967296) where
  in-heap : (n : ℕ) → has (heap values children) n ≡ (has (values * 2 ^ 1) n || has (children * 2 ^ 32) n)
  in-heap n =
      has-or (values * 2 ^ 1 % 18446744073709551616) (children * 2 ^ 32 % 18446744073709551616) n ∙
      ap₂ (λ a b. has a n || has b n) (mod-eq_of_lt (let l : values * 2 ^ 1 < 18446744073709551616 = omega arith in l)) (mod-eq_of_lt (let l : children * 2 ^ 32 < 18446744073709551616 = omega arith in l))

  heap-value : (b : ℕ) → b < 31 → has (heap values children) (b + 1) ≡ has values b
  heap-value b l =
      in-heap (b + 1) ∙
      ap₂ (λ x y. x || y) (has-shifted values 1 (b + 1) (omega arith) ∙ ap (λ n. has values n) (let e : b + 1 - 1 ≡ b = omega arith in e)) (has-shifted_low children 32 (b + 1) (omega arith)) ∙
      or-false (has values b)

  heap-child : (c : ℕ) → has (heap values children) (32 + c) ≡ has children c
  heap-child c =
      in-heap (32 + c) ∙
      ap₂ (λ x y. x || y) (has-above (values * 2 ^ 1) 32 (32 + c) (omega arith) (omega arith)) (has-shifted children 32 (32 + c) (omega arith) ∙ ap (λ n. has children n) (let e : 32 + c - 32 ≡ c = omega arith in e))

  heap_bits : (s : List Bool) → length s < 6 → has (heap values children) (heap_number s) ≡ is_in values children s
  heap_bits s short =
      elim (cases_lt (length s) 5) [
        | inl l ↦
            ap (λ n. has (heap values children) n) (sym (value_bit-suc s)) ∙
            heap-value (value_bit s) (value_bit-small s (omega arith)) ∙
            sym (ap (λ t. cond t (has values (value_bit s)) (has children (number s))) (lt-ltb (length s) 5 l))
        | inr g ↦
            let five : length s ≡ 5 = omega arith in
            ap (λ n. has (heap values children) (2 ^ n + number s)) five ∙
            heap-child (number s) ∙
            sym (ap (λ t. cond t (has values (value_bit s)) (has children (number s))) (le-ltb (length s) 5 g))
      ]

  -- the places picked by the moved bits are exactly the places in the two bitmaps
  pub listing_places : (listing : ℕ) → ((p : ℕ) → p < 63 → has listing p ≡ has (heap values children) (heap_at p)) → pick listing (strings 5) ≡ places values children
  listing_places listing bits =
      pick-filter (strings 5) (is_in values children) listing [] (λ i l.
      let h : i < 63 = subst (λ n. i < n) count-strings l in
      bits i h ∙ heap_bits (get_or (strings 5) i []) (string_short i h))

-- once no bit is left to move, the moved bits are the bits of the whole heap
pub all_moved : (listing rest heap : ℕ) → rest ≡ 0 → ((p : ℕ) → p < 63 → (has listing p || has rest (heap_at p)) ≡ has heap (heap_at p)) → (p : ℕ) → p < 63 → has listing p ≡ has heap (heap_at p)
all_moved listing rest heap done bits p l =
    sym (or-false (has listing p)) ∙
    ap (λ b. has listing p || b) (sym (ap (λ r. has r (heap_at p)) done ∙ has-zero (heap_at p))) ∙
    bits p l
