-- Arrays that are filled one by one, and results of one group more.
use Rattle.std.proofs.Common.{◌≡◌, ◌∙◌, ℕ, ◌+◌, ◌-◌, ◌<◌, ◌≢◌, ◌≤◌, Bool, List, length, get_or, drop, length-drop, set, slice_range, take, Option, None, Some, true, false, not, ap, arith, refl, subst, sym, inl, inr}
use Rattle.std.specs.Int.{from_bool}
use Rattle.std.specs.Option.{MatchOption, is_some}
use Rattle.std.proofs.lemmas.Bool.{cases_eq, cases_lt}
use Rattle.std.proofs.lemmas.List.{get_or-drop, get_or-set_other, get_or-set_same, get_or-take, length-take-le}
use Rattle.prefix_trie_bits.specs.Model.Bits.{number}
use Rattle.prefix_trie_fib.specs.Bulk.{AreRanges, AreSeveral, HaveResults, IsFound, IsFoundOrListed, IsListed, is_alone, value_alone}
use Rattle.prefix_trie_fib.specs.declared.index.chunk.Chunk.{Chunk}
use Rattle.prefix_trie_fib.specs.declared.index.chunk.Chunk.TheVariants.{Alone, Bitmap, Full, Many, Several, Split}
use Rattle.prefix_trie_fib.specs.Index.{IsEntryAt}
use Rattle.prefix_trie_fib.specs.Line.{IsDivision, value_along}
use Rattle.prefix_trie_fib.specs.Search.{IsRangeOf}
use Rattle.prefix_trie_fib.proofs.RangeValues.{value_of_range}

module _ {X : Type 0} (P : ℕ → X → Type 0) (xs : List X) where
  -- the first items have a property, and so has one more
  pub each_set : (i : ℕ) (x : X) → i < length xs → P i x → ((k : ℕ) (d : X) → k < i → P k (get_or xs k d)) → (k : ℕ) (d : X) → k < i + 1 → P k (get_or (set xs i x) k d)
  each_set i x inside has so_far k d lt = elim (cases_lt k i) [
    | inl old ↦ (let other : k ≢ i = omega (arith, old) in subst (P k) (sym (get_or-set_other xs i k x d other)) (so_far k d old))
    | inr at ↦
        let e : i ≡ k = omega (arith, lt, at) in
        subst (λ j. P j (get_or (set xs i x) j d)) e (subst (P i) (sym (get_or-set_same xs i x d inside)) has)
  ]

  -- the same of items from a place on
  pub each_set_from : (from i : ℕ) (x : X) → from + i < length xs → P i x → ((k : ℕ) (d : X) → k < i → P k (get_or xs (from + k) d)) → (k : ℕ) (d : X) → k < i + 1 → P k (get_or (set xs (from + i) x) (from + k) d)
  each_set_from from i x inside has so_far k d lt = elim (cases_lt k i) [
    | inl old ↦ (let other : from + k ≢ from + i = omega (arith, old) in subst (P k) (sym (get_or-set_other xs (from + i) (from + k) x d other)) (so_far k d old))
    | inr at ↦
        let e : i ≡ k = omega (arith, lt, at) in
        subst (λ j. P j (get_or (set xs (from + i) x) (from + j) d)) e (subst (P i) (sym (get_or-set_same xs (from + i) x d inside)) has)
  ]

module _ {K X : Type 0} (f : K → X) (keys : List K) (xs ys : List X) (from count : ℕ) where
  -- results so far stay, and a group more has them
  pub results_more : ((k : ℕ) (v : X) → k < from → get_or ys k v ≡ get_or xs k v) → ((k : ℕ) (d : K) (v : X) → k < count → get_or ys (from + k) v ≡ f (get_or keys (from + k) d))
      → HaveResults f keys xs from → HaveResults f keys ys (from + count)
  results_more kept new so_far k d v lt = elim (cases_lt k from) [
    | inl old ↦ kept k v old ∙ so_far k d v old
    | inr at ↦
        let e : from + (k - from) ≡ k = omega (arith, at) in
        subst (λ j. get_or ys j v ≡ f (get_or keys j d)) e (new (k - from) d v (omega (arith, lt, at)))
  ]

module _ {K : Type 0} (keys : List K) (from n : ℕ) where
  group_is : slice_range keys from (from + n) ≡ take n (drop from keys)
  group_is = let many : from + n - from ≡ n = omega arith in ap (λ k. take k (drop from keys)) many

  -- a group has the keys from a place on
  pub group_at : (k : ℕ) (d : K) → k < n → get_or (slice_range keys from (from + n)) k d ≡ get_or keys (from + k) d
  group_at k d lt = ap (λ ks. get_or ks k d) group_is ∙ get_or-take n (drop from keys) k d lt ∙ get_or-drop from keys k d

  pub group_long : from + n ≤ length keys → length (slice_range keys from (from + n)) ≡ n
  group_long space = ap length group_is ∙ length-take-le n (drop from keys) (omega (arith, length-drop from keys, space))

-- nothing was found
pub of_none : {X : Type 0} (P : Type 0) (Q : X → Type 0) (o : Option X) → is_some o ≡ false → MatchOption o P Q → P
of_none P Q None is h = h
of_none P Q (Some x) is h = absurd (let e : true ≡ false = is in cc)

-- ---- the stages of a group

module _ {T : Type 0} (rs : List (ℕ × Option T)) (b : List Bool) where
  -- a chunk with one range has the value of this range
  pub value_is : (entry : Chunk T) → IsEntryAt rs b entry → is_alone entry ≡ true → value_alone entry ≡ value_along None rs (number b)
  value_is (Alone valued v) right alone = sym right
  value_is (Bitmap rest starts first) right alone = absurd (let e : false ≡ true = alone in cc)
  value_is (Full count first) right alone = absurd (let e : false ≡ true = alone in cc)
  value_is (Several count first) right alone = absurd (let e : false ≡ true = alone in cc)
  value_is (Many first) right alone = absurd (let e : false ≡ true = alone in cc)
  value_is (Split more base) right alone = absurd right

module _ {K T : Type 0} (bits : K → List Bool) (rs : List (ℕ × Option T)) (addresses : List K) (from : ℕ) (out : List (Option T)) (i : ℕ) (x : Option T) where
  -- the value of an address is stored
  pub found_here : from + i < length out → ((a : K) → x ≡ value_along None rs (number (bits (get_or addresses i a)))) → IsFound bits rs addresses from (set out (from + i) x) i
  found_here inside is a v = get_or-set_same out (from + i) x v inside ∙ is a

  -- the results of the others stay
  pub found_still : (k : ℕ) → k ≢ i → IsFound bits rs addresses from out k → IsFound bits rs addresses from (set out (from + i) x) k
  found_still k other found a v = (let apart : from + k ≢ from + i = omega arith in get_or-set_other out (from + i) (from + k) x v apart ∙ found a v)

module _ (places : List ℕ) (count : ℕ) where
  -- a place that is listed stays so if one more is written
  pub listed_still : (i more k : ℕ) → count ≤ more → IsListed places 0 count k → IsListed (set places count i) 0 more k
  listed_still i more k le listed = record {
    at = listed.at;
    from = omega arith;
    below = let below = listed.below in omega (arith, le, below);
    is = λ d. (let other : listed.at ≢ count = (let below = listed.below in omega (arith, below)) in get_or-set_other places count listed.at i d other ∙ listed.is d);
  }

  -- and the one that is written is listed
  pub listed_here : (i more : ℕ) → count < length places → count < more → IsListed (set places count i) 0 more i
  listed_here i more inside lt = record {
    at = count;
    from = omega arith;
    below = lt;
    is = λ d. get_or-set_same places count i d inside;
  }

  -- a place that is not the first is listed after it
  pub listed_after : (j k : ℕ) → k ≢ get_or places j 0 → IsListed places j count k → IsListed places (j + 1) count k
  listed_after j k other listed = record {
    at = listed.at;
    from = elim (cases_lt j listed.at) [
      | inl lt ↦ omega (arith, lt)
      | inr le ↦ (let e : listed.at ≡ j = (let from = listed.from in omega (arith, le, from)) in absurd (other (sym (subst (λ n. get_or places n 0 ≡ k) e (listed.is 0)))))
    ];
    below = listed.below;
    is = listed.is;
  }

module _ {K T : Type 0} (bits : K → List Bool) (rs : List (ℕ × Option T)) (addresses : List K) (places : List ℕ) (count from i : ℕ) (out : List (Option T)) where
  -- one more address is found or listed
  pub alone_next : (entry : Chunk T) (x : Option T) (more : ℕ) → from + i < length out → count < length places → count ≤ more → (is_alone entry ≡ false → count < more) → x ≡ value_alone entry
      → ((a : K) → IsEntryAt rs (bits (get_or addresses i a)) entry) → (k : ℕ) → k < i + 1 → (k < i → IsFoundOrListed bits rs addresses places 0 count from out k)
      → IsFoundOrListed bits rs addresses (set places count i) 0 more from (set out (from + i) x) k
  alone_next entry x more inside in_places le grows is right k lt so_far unlisted = elim (cases_lt k i) [
    | inl old ↦ (let other : k ≢ i = omega (arith, old) in found_still bits rs addresses from out i x k other (so_far old (λ l. unlisted (listed_still places count i more k le l))))
    | inr at ↦
        let e : i ≡ k = omega (arith, lt, at) in
        by_mark e (is_alone entry) refl
  ]
    where
      by_mark : i ≡ k → (m : Bool) → is_alone entry ≡ m → IsFound bits rs addresses from (set out (from + i) x) k
      by_mark e false several = absurd (unlisted (subst (IsListed (set places count i) 0 more) e (listed_here places count i more in_places (grows several))))
      by_mark e true alone = subst (IsFound bits rs addresses from (set out (from + i) x)) e
          (found_here bits rs addresses from out i x inside (λ a. is ∙ value_is rs (bits (get_or addresses i a)) entry (right a) alone))

-- a mark that is not set counts as one, and one that is as none
pub unset_counted : (m : Bool) (n : ℕ) → n ≡ from_bool (not m) → (n ≤ 1) × (m ≡ false → n ≡ 1) × (0 < n → m ≡ false)
unset_counted false n is = (omega (arith, is), λ _. is, λ _. refl)
unset_counted true n is = (omega (arith, is), λ e. absurd (let no : true ≡ false = e in cc), λ some. absurd (omega (arith, is, some)))

-- one more place is listed, or none
pub several_next : {K T : Type 0} (addresses : List K) (entries : List (Chunk T)) (places : List ℕ) (count more i : ℕ) → count < length places → more ≤ count + 1 → i < length addresses
    → (count < more → (e : Chunk T) → is_alone (get_or entries i e) ≡ false) → AreSeveral addresses entries places count → AreSeveral addresses entries (set places count i) more
several_next addresses entries places count more i in_places le inside right listed = record {
  inside = λ j d lt. elim (cases_lt j count) [
    | inl old ↦ (let other : j ≢ count = omega (arith, old) in subst (λ p. p < length addresses) (sym (get_or-set_other places count j i d other)) (listed.inside j d old))
    | inr at ↦ (let e : count ≡ j = omega (arith, at, lt, le) in subst (λ n. get_or (set places count i) n d < length addresses) e (subst (λ p. p < length addresses) (sym (get_or-set_same places count i d in_places)) inside))
  ];
  several = λ j d e lt. elim (cases_lt j count) [
    | inl old ↦ (let other : j ≢ count = omega (arith, old) in ap (λ p. is_alone (get_or entries p e)) (get_or-set_other places count j i d other) ∙ listed.several j d e old)
    | inr at ↦
        let is : count ≡ j = omega (arith, at, lt, le) in
        ap (λ n. is_alone (get_or entries (get_or (set places count i) n d) e)) (sym is) ∙ ap (λ p. is_alone (get_or entries p e)) (get_or-set_same places count i d in_places) ∙ right (omega (arith, is, lt)) e
  ];
}

module _ {K T : Type 0} (bits : K → List Bool) (rs : List (ℕ × Option T)) (addresses : List K) (places ranges : List ℕ) where
  -- one more place has the range of its address
  pub range_next : (j range : ℕ) → j < length ranges → ((d : ℕ) (a : K) → IsRangeOf rs range (number (bits (get_or addresses (get_or places j d) a))))
      → AreRanges bits rs addresses places ranges j → AreRanges bits rs addresses places (set ranges j range) (j + 1)
  range_next j range inside right so_far i d e a lt =
      each_set (λ k r. (d : ℕ) (a : K) → IsRangeOf rs r (number (bits (get_or addresses (get_or places k d) a)))) ranges j range inside right (λ k r older d a. so_far k d r a older) i e lt d a

  -- one more place that is listed has its value
  pub stored_next : IsDivision rs → (count from j : ℕ) (out : List (Option T)) (x : Option T) → from + get_or places j 0 < length out → j < count → ((d : ℕ × Option T) → x ≡ (get_or rs (get_or ranges j 0) d).1)
      → AreRanges bits rs addresses places ranges count → (k : ℕ) → IsFoundOrListed bits rs addresses places j count from out k
      → IsFoundOrListed bits rs addresses places (j + 1) count from (set out (from + get_or places j 0) x) k
  stored_next division count from j out x inside lt is right k found unlisted = elim (cases_eq k (get_or places j 0)) [
    | inl e ↦ subst (IsFound bits rs addresses from (set out (from + get_or places j 0) x)) (sym e)
        (found_here bits rs addresses from out (get_or places j 0) x inside
        (λ a. is (0, None) ∙ sym (value_of_range rs division None (get_or ranges j 0) (number (bits (get_or addresses (get_or places j 0) a))) (0, None) (right j 0 0 a lt))))
    | inr other ↦ found_still bits rs addresses from out (get_or places j 0) x k other (found (λ l. unlisted (listed_after places count j k other l)))
  ]
