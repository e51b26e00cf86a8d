-- Two sets are equal exactly if their walks give prefixes with the same numbers and lengths: for `==` of sets.
use Rattle.prefix_trie.proofs.Prelude.{◌≡◌, ◌≤◌, ◌&&◌, ℕ, Bool, true, List, [], ◌∷◌, length, map, take, refl, sym, ap, ◌∙◌, subst, nat_eq, eqb-true, eq-eqb, one_answer, Decides, pointwise, pointwise_decides, contains_key-keys, same_entries_map, list_any, on, PrefixLaws, path_back, same_string, Entries, AreWithin, listing, same_string-is, is-same_string, and-first, and-second, and-join, or-left, or-right, same_keys, same_parts}

-- sets with the same keys have the same entries
pub same_entries : (m n : Entries (Unit {0})) → Decides (same_keys m n) (m ≡ n)
same_entries m n =
    let lists = pointwise_decides {E = on (λ e. e.0) same_string} (λ e f. (λ h i. (same_string-is e.0 f.0 h i, tt), λ h. is-same_string e.0 f.0 (ap (λ x. x.0) h))) (listing m) (listing n) in
    (λ h. same_entries_map m n (lists.0 h), λ h. lists.1 (ap listing h))

-- the strings of some entries are at most as long as the width
abbrev AreShort : ℕ → List (List Bool × Unit {0}) → Type 0
AreShort w es = (k : List Bool) → list_any (same_string k) (map (λ e. e.0) es) ≡ true → length k ≤ w

short_first : (w : ℕ) (e : List Bool × Unit {0}) (es : List (List Bool × Unit {0})) → AreShort w (e ∷ es) → length e.0 ≤ w
short_first w e es h = h e.0 (or-left (same_string e.0 e.0) (list_any (same_string e.0) (map (λ e. e.0) es)) (is-same_string e.0 e.0 refl))

short_later : (w : ℕ) (e : List Bool × Unit {0}) (es : List (List Bool × Unit {0})) → AreShort w (e ∷ es) → AreShort w es
short_later w e es h = λ k is. h k (or-right (same_string k e.0) (list_any (same_string k) (map (λ e. e.0) es)) is)

short_keys : (w : ℕ) (m : Entries (Unit {0})) → AreWithin w m → AreShort w (listing m)
short_keys w m h = λ k is. h k (contains_key-keys m k ∙ is)

module _ {K P : Type 0} {w : ℕ} {IsKey : K → Type 0} {bits : K → List Bool} {key_of : List Bool → K} {repr_of : P → K} {len_of : P → ℕ} {path : P → List Bool} {IsFitting : P → Type 0} {from_parts : K → ℕ → P} {back : List Bool → P} (laws : PrefixLaws w IsKey bits key_of repr_of len_of path IsFitting from_parts back) (same : K → K → Bool) (itself : (a : K) → same a a ≡ true) (is : (a b : K) → same a b ≡ true → a ≡ b) where
  -- the prefixes of two strings have the same number and length exactly if the strings are equal
  same_back : (k l : List Bool) → length k ≤ w → length l ≤ w → same_parts same repr_of len_of (back k) (back l) ≡ same_string k l
  same_back k l short short' =
      let first = and-first (same (repr_of (back k)) (repr_of (back l))) (nat_eq (len_of (back k)) (len_of (back l))) in
      let second = and-second (same (repr_of (back k)) (repr_of (back l))) (nat_eq (len_of (back k)) (len_of (back l))) in
      one_answer _ _ (
        λ h.
            sym (path_back laws k short) ∙ laws.path_is (back k) ∙
            (λ i. take (eqb-true (len_of (back k)) (len_of (back l)) (second h) i) (bits (is (repr_of (back k)) (repr_of (back l)) (first h) i))) ∙
            sym (laws.path_is (back l)) ∙ path_back laws l short',
        λ e. subst (λ s. same_parts same repr_of len_of (back k) (back s) ≡ true) e
            (and-join _ _ (itself (repr_of (back k))) (eq-eqb (len_of (back k)) (len_of (back k)) refl)),
      )
      (same_string-is k l, is-same_string k l)

  -- so comparing the walks decides whether the sets are equal
  alike : (es fs : List (List Bool × Unit {0})) → AreShort w es → AreShort w fs →
      pointwise (same_parts same repr_of len_of) (map (λ e. back e.0) es) (map (λ e. back e.0) fs) ≡ pointwise (on (λ e. e.0) same_string) es fs
  alike [] [] h g = refl
  alike [] (f ∷ fs) h g = refl
  alike (e ∷ es) [] h g = refl
  alike (e ∷ es) (f ∷ fs) h g = λ i.
      same_back e.0 f.0 (short_first w e es h) (short_first w f fs g) i && alike es fs (short_later w e es h) (short_later w f fs g) i

  pub walks_alike : (m n : Entries (Unit {0})) → AreWithin w m → AreWithin w n →
      pointwise (same_parts same repr_of len_of) (map (λ e. back e.0) (listing m)) (map (λ e. back e.0) (listing n)) ≡ same_keys m n
  walks_alike m n h g = alike (listing m) (listing n) (short_keys w m h) (short_keys w n g)
