-- The ranges that a line keeps: their marks, and what one more range or one more mark changes.
use Rattle.std.proofs.Common.{◌≡◌, ◌∙◌, zero, suc, ℕ, ◌+◌, ◌*◌, ◌/◌, ◌%◌, ◌<◌, Bool, true, false, cond, List, [], ◌∷◌, ◌++◌, length, get_or, set, Option, None, Some, is_some, not, map, ap, arith, inl, inr, refl, sym}
use Rattle.std.proofs.lemmas.Bool.{cases_eq}
use Rattle.std.specs.Bool.{then_some}
use Rattle.std.specs.Option.{unwrap_or}
use Rattle.std.proofs.lemmas.List.{get_or-map, get_or-set_other, get_or-set_same, length-map, map-append}
use Rattle.prefix_trie_bits.proofs.Bitmaps.{has-zero}
use Rattle.prefix_trie_bits.specs.Places.{Sets, has}
use Rattle.prefix_trie_fib.specs.Gaps.{Marks, is_marked, with_gaps}

-- ---- marks

pub mark_is : (words : List ℕ) (i : ℕ) → is_marked words i ≡ has (get_or words (i / 32) 0) (i % 32)
unfolding is_marked
mark_is words i = refl

-- a bit that is set marks its place
pub bit_marks : (words : List ℕ) (i w : ℕ) → i < 32 * length words → Sets (get_or words (i / 32) 0) (i % 32) w → Marks words i (set words (i / 32) w)
bit_marks words i w inside sets = record {
  present = mark_is (set words (i / 32) w) i ∙ ap (λ n. has n (i % 32)) (get_or-set_same words (i / 32) w 0 (omega (arith, inside))) ∙ sets.present;
  others = λ k other. mark_is (set words (i / 32) w) k ∙ (elim (cases_eq (k / 32) (i / 32)) [
    | inl same ↦
        ap (λ j. has (get_or (set words (i / 32) w) j 0) (k % 32)) same
        ∙ ap (λ n. has n (k % 32)) (get_or-set_same words (i / 32) w 0 (omega (arith, inside)))
        ∙ sets.others (k % 32) (λ e. other (omega (arith, same, e)))
        ∙ ap (λ j. has (get_or words j 0) (k % 32)) (sym same)
    | inr apart ↦ ap (λ n. has n (k % 32)) (get_or-set_other words (i / 32) (k / 32) w 0 apart)
  ]) ∙ sym (mark_is words k);
}

pub none_marked : (i : ℕ) → is_marked [] i ≡ false
unfolding is_marked
none_marked i = has-zero (i % 32)

-- a word without a set bit marks no place
pub word_unmarked : (words : List ℕ) (k : ℕ) → is_marked (words ++ 0 ∷ []) k ≡ is_marked words k
word_unmarked words k = mark_is (words ++ 0 ∷ []) k ∙ ap (λ n. has n (k % 32)) (same_word words (k / 32)) ∙ sym (mark_is words k)
  where
    same_word : (ws : List ℕ) (j : ℕ) → get_or (ws ++ 0 ∷ []) j 0 ≡ get_or ws j 0
    same_word [] zero = refl
    same_word [] (suc j) = refl
    same_word (w ∷ ws) zero = refl
    same_word (w ∷ ws) (suc j) = same_word ws j

-- ---- ranges

module _ {V : Type 0} where
  pub length-with_gaps : (gap : ℕ → Bool) (i : ℕ) (rs : List (ℕ × V)) → length (with_gaps gap i rs) ≡ length rs
  length-with_gaps gap i [] = refl
  length-with_gaps gap i (r ∷ rs) = ap suc (length-with_gaps gap (suc i) rs)

  pub get_or-with_gaps : (gap : ℕ → Bool) (i : ℕ) (rs : List (ℕ × V)) (k : ℕ) (d : ℕ × Option V) (e : ℕ × V) → k < length rs
      → get_or (with_gaps gap i rs) k d ≡ ((get_or rs k e).0, cond (gap (i + k)) None (Some (get_or rs k e).1))
  get_or-with_gaps gap i [] k d e lt = absurd (omega (arith, lt))
  get_or-with_gaps gap i (r ∷ rs) zero d e lt = ap (λ j. (r.0, cond (gap j) None (Some r.1))) (let e : i ≡ i + 0 = omega arith in e)
  get_or-with_gaps gap i (r ∷ rs) (suc k) d e lt =
      get_or-with_gaps gap (suc i) rs k d e (omega (arith, lt))
      ∙ ap (λ j. ((get_or rs k e).0, cond (gap j) None (Some (get_or rs k e).1))) (let e : suc i + k ≡ i + suc k = omega arith in e)

  -- marks after the last range do not matter
  pub same_gaps : (gap other : ℕ → Bool) (i : ℕ) (rs : List (ℕ × V)) → ((k : ℕ) → k < i + length rs → gap k ≡ other k) → with_gaps gap i rs ≡ with_gaps other i rs
  same_gaps gap other i [] same = refl
  same_gaps gap other i (r ∷ rs) same =
      ap (λ b. (r.0, cond b None (Some r.1)) ∷ with_gaps gap (suc i) rs) (same i (omega arith))
      ∙ ap (λ xs. (r.0, cond (other i) None (Some r.1)) ∷ xs) (same_gaps gap other (suc i) rs (λ k lt. same k (omega (arith, lt))))

  gaps_pushed : (gap : ℕ → Bool) (i : ℕ) (rs : List (ℕ × V)) (r : ℕ × V) → with_gaps gap i (rs ++ r ∷ []) ≡ with_gaps gap i rs ++ (r.0, cond (gap (i + length rs)) None (Some r.1)) ∷ []
  gaps_pushed gap i [] r = ap (λ j. (r.0, cond (gap j) None (Some r.1)) ∷ []) (let e : i ≡ i + 0 = omega arith in e)
  gaps_pushed gap i (x ∷ rs) r =
      ap (λ xs. (x.0, cond (gap i) None (Some x.1)) ∷ xs) (gaps_pushed gap (suc i) rs r)
      ∙ ap (λ j. (x.0, cond (gap i) None (Some x.1)) ∷ (with_gaps gap (suc i) rs ++ (r.0, cond (gap j) None (Some r.1)) ∷ [])) (let e : suc i + length rs ≡ i + suc (length rs) = omega arith in e)

-- a value, or what is kept in its place and a mark
pub value_kept : {T : Type 0} (value : Option T) (placeholder : T) (gap : Bool) → is_some value ≡ not gap → cond gap None (Some (unwrap_or value placeholder)) ≡ value
value_kept None placeholder true h = refl
value_kept None placeholder false h = absurd (cc)
value_kept (Some v) placeholder true h = absurd (cc)
value_kept (Some v) placeholder false h = refl

module _ {K T : Type 0} (start : K → ℕ) where
  -- the ranges that pairs keep
  abbrev ranges : (ℕ → Bool) → List (K × T) → List (ℕ × Option T)
  ranges gap pairs = with_gaps gap 0 (map (λ r. (start r.0, r.1)) pairs)

  pub length-ranges : (gap : ℕ → Bool) (pairs : List (K × T)) → length (ranges gap pairs) ≡ length pairs
  length-ranges gap pairs = length-with_gaps gap 0 (map (λ r. (start r.0, r.1)) pairs) ∙ length-map {A = K × T} {B = ℕ × T} pairs (λ r. (start r.0, r.1))

  -- there is a pair for each range
  pub pair_inside : (gap : ℕ → Bool) (pairs : List (K × T)) (now : List (ℕ × Option T)) (k : ℕ) → ranges gap pairs ≡ now → k < length now → k < length pairs
  pair_inside gap pairs now k view lt = let l = sym (length-ranges gap pairs) ∙ ap length view in omega (arith, lt, l)

  -- a range starts where its pair says, and has the value of the pair if it is not marked
  pub range_at : (gap : ℕ → Bool) (pairs : List (K × T)) (now : List (ℕ × Option T)) (k : ℕ) (d : ℕ × Option T) (r : K × T) → ranges gap pairs ≡ now → k < length now → r ≡ get_or pairs k r
      → get_or now k d ≡ (start r.0, cond (gap k) None (Some r.1))
  range_at gap pairs now k d r view inside is =
      let e : ℕ × T = (start r.0, r.1) in
      let lt : k < length pairs = pair_inside gap pairs now k view inside in
      ap (λ rs. get_or rs k d) (sym view)
      ∙ get_or-with_gaps gap 0 (map (λ r. (start r.0, r.1)) pairs) k d e (let l = length-map {A = K × T} {B = ℕ × T} pairs (λ r. (start r.0, r.1)) in omega (arith, lt, l))
      ∙ ap (λ x. (x.0, cond (gap (0 + k)) None (Some x.1))) (get_or-map (λ r. (start r.0, r.1)) pairs k r e lt ∙ ap (λ x. (start x.0, x.1)) (sym is))
      ∙ ap (λ j. (start r.0, cond (gap j) None (Some r.1))) (let e : 0 + k ≡ k = omega arith in e)

  -- a range that has a value has that of its pair
  pub kept_at : (gap : ℕ → Bool) (pairs : List (K × T)) (now : List (ℕ × Option T)) (k : ℕ) (d : ℕ × Option T) (r : K × T) → ranges gap pairs ≡ now → k < length now → r ≡ get_or pairs k r
      → is_some (get_or now k d).1 ≡ true → Some r.1 ≡ (get_or now k d).1
  kept_at gap pairs now k d r view inside is valued = only_some (gap k) r.1 (get_or now k d).1 (ap {A = ℕ × Option T} (λ x. x.1) (range_at gap pairs now k d r view inside is)) valued
    where
      only_some : (b : Bool) (v : T) (o : Option T) → o ≡ cond b None (Some v) → is_some o ≡ true → Some v ≡ o
      only_some true v o e h = absurd (let f : false ≡ true = sym (ap is_some e) ∙ h in cc)
      only_some false v o e h = sym e

  -- one more range, after which the marks before it are the same
  pub range_pushed : (gap other : ℕ → Bool) (pairs more : List (K × T)) (r : K × T) (value : Option T) → more ≡ pairs ++ r ∷ [] → ((k : ℕ) → k < length pairs → other k ≡ gap k)
      → cond (other (length pairs)) None (Some r.1) ≡ value → ranges other more ≡ ranges gap pairs ++ (start r.0, value) ∷ []
  range_pushed gap other pairs more r value pushed same is =
      let rs : List (ℕ × T) = map (λ r. (start r.0, r.1)) pairs in
      let long : length rs ≡ length pairs = length-map {A = K × T} {B = ℕ × T} pairs (λ r. (start r.0, r.1)) in
      ap (λ ps. ranges other ps) pushed
      ∙ ap (λ rs. with_gaps other 0 rs) (map-append {A = K × T} {B = ℕ × T} (λ r. (start r.0, r.1)) pairs (r ∷ []))
      ∙ gaps_pushed other 0 rs (start r.0, r.1)
      ∙ ap (λ xs. xs ++ (start r.0, cond (other (0 + length rs)) None (Some r.1)) ∷ []) (same_gaps other gap 0 rs (λ k lt. same k (omega (arith, lt, long))))
      ∙ ap (λ j. with_gaps gap 0 rs ++ (start r.0, cond (other j) None (Some r.1)) ∷ []) (let e : 0 + length rs ≡ length pairs = omega (arith, long) in e)
      ∙ ap (λ v. with_gaps gap 0 rs ++ (start r.0, v) ∷ []) is

-- the value of a range that is not marked
pub select_not : {T : Type 0} (b : Bool) (v : T) → then_some (not b) v ≡ cond b None (Some v)
select_not true v = refl
select_not false v = refl
