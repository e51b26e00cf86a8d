-- The keys at which two tables differ: for `changes` and `diff`.
use Rattle.std.proofs.Common.{◌≡◌, ◌≢◌, ◌↔◌, ◌==◌, ◌&&◌, ℕ, Bool, true, false, not, List, [], ◌∷◌, Option, Some, None, Contains, arith, bytes_eq, eqb-true, filter, length, map, refl, sym, ap, subst, ◌∙◌, true≢false}
use Rattle.std.proofs.lemmas.Slice.Eq.{bytes_eq-Decides}
use Rattle.std.specs.FinMap.{get}
use Rattle.prefix_trie.specs.Terms.{listing, prefix_pairs}
use Rattle.prefix_trie_bits.specs.Laws.Listings.{ListingLaws}
use Rattle.prefix_trie_bits.proofs.Model.Members.{same_entries}
use Rattle.prefix_trie_ops.specs.Laws.{CombiningLaws}
use Rattle.prefix_trie_ops.specs.Merging.{sides, union_of}
use Rattle.prefix_trie_ops.specs.declared.map.sides.Side.{Side}
use Rattle.route_tables.specs.Changes.{changes_of, differ}
use Rattle.route_tables.specs.Tables.{Values}
use Rattle.prefix_trie_ops.specs.declared.map.sides.Side.TheVariants.{Both, Left, Right}
use Rattle.route_tables.proofs.Lists.{filter_of_map, from_filter, in_filter, in_here}

-- two equal options that have an item have equal items
same_some : {X : Type 0} (x y : X) → Some x ≡ Some y → x ≡ y
same_some x y e = cc

-- two tables differ at a key exactly if lookups there return different results
differ_is : (v w : Option (List ℕ)) (d : Side (List ℕ) (List ℕ)) → sides v w ≡ Some d → (differ d ≡ true) ↔ (v ≢ w)
differ_is None None d e = absurd (cc)
differ_is None (Some w) d e = subst (λ x. (differ x ≡ true) ↔ (None ≢ Some w)) (same_some _ _ e) (λ t h. cc, λ h. refl)
differ_is (Some v) None d e = subst (λ x. (differ x ≡ true) ↔ (Some v ≢ None)) (same_some _ _ e) (λ t h. cc, λ h. refl)
differ_is (Some v) (Some w) d e =
    let decides = bytes_eq-Decides v w in
    subst (λ x. (differ x ≡ true) ↔ (Some v ≢ Some w)) (same_some _ _ e) (
      λ t h. true≢false (sym t ∙ ap not (decides.1 (same_some v w h))),
      λ h. elim (bytes_eq v w) as (λ b. bytes_eq v w ≡ b → not b ≡ true) [
        | true ↦ λ same. absurd (h (ap Some (decides.0 same)))
        | false ↦ λ same. refl
      ] refl,
    )

-- the changes are exactly at the keys where lookups return different results
pub changes_are : CombiningLaws (List ℕ) (List ℕ) → ListingLaws (Side (List ℕ) (List ℕ)) → (m n : Values) (s : List Bool) (d : Side (List ℕ) (List ℕ))
    → Contains (changes_of m n) (s, d) ↔ ((get m s ≢ get n s) × (sides (get m s) (get n s) ≡ Some d))
changes_are combining listings m n s d = (
  λ at.
      let found = from_filter (λ e. differ e.1) (listing (union_of m n)) (s, d) at in
      let here : sides (get m s) (get n s) ≡ Some d = sym (combining.union_at m n s) ∙ (listings.has_each (union_of m n) s d).1 found.0 in
      ((differ_is (get m s) (get n s) d here).0 found.1, here),
  λ h. in_filter (λ e. differ e.1) (listing (union_of m n)) (s, d) ((differ_is (get m s) (get n s) d h.1).1 h.0)
      ((listings.has_each (union_of m n) s d).0 (combining.union_at m n s ∙ h.1)),
)

-- a walk over both tables, without the networks where they agree, gives the changes
pub changes_shown : {P : Type 0} (back : List Bool → P) (m n : Values) (walk : List (P × Side (List ℕ) (List ℕ)))
    → walk ≡ prefix_pairs back (listing (union_of m n)) → filter (λ e. differ e.1) walk ≡ prefix_pairs back (changes_of m n)
changes_shown back m n walk is = ap (filter (λ e. differ e.1)) is ∙ filter_of_map (λ e. (back e.0, e.1)) (λ e. differ e.1) (listing (union_of m n))

-- what two tables have at a key is equal unless the values differ
agree : (v w : Option (List ℕ)) → ((d : Side (List ℕ) (List ℕ)) → sides v w ≡ Some d → v ≢ w → ⊥) → v ≡ w
agree None None h = refl
agree None (Some w) h = absurd (h (Right w) refl (λ e. cc))
agree (Some v) None h = absurd (h (Left v) refl (λ e. cc))
agree (Some v) (Some w) h =
    let decides = bytes_eq-Decides v w in
    elim (bytes_eq v w) as (λ b. bytes_eq v w ≡ b → Some v ≡ Some w) [
      | true ↦ λ same. ap Some (decides.0 same)
      | false ↦ λ other. absurd (h (Both v w) refl (λ e. true≢false (sym (decides.1 (same_some v w e)) ∙ other)))
    ] refl

no_element : {X : Type 0} (xs : List X) → ((x : X) → ¬ (Contains xs x)) → xs ≡ []
no_element [] none = refl
no_element (x ∷ xs) none = absurd (none x (in_here x xs x refl))

empty_as : {X Y Z : Type 0} (f : X → Z) (g : Y → Z) (xs : List X) (ys : List Y) → map f xs ≡ map g ys → (xs ≡ []) ↔ (ys ≡ [])
empty_as f g [] [] e = (λ _. refl, λ _. refl)
empty_as f g [] (y ∷ ys) e = absurd (cc)
empty_as f g (x ∷ xs) [] e = absurd (cc)
empty_as f g (x ∷ xs) (y ∷ ys) e = (λ none. absurd (cc), λ none. absurd (cc))

no_contents : (s : List Bool) (d : Side (List ℕ) (List ℕ)) → ¬ (Contains {X = List Bool × Side (List ℕ) (List ℕ)} [] (s, d))
no_contents s d (k, less, is) = omega arith

-- nothing changes exactly if the tables are equal
pub changes_none : {P X : Type 0} (back : List Bool → P) (shown : X → P × Side (List ℕ) (List ℕ)) → CombiningLaws (List ℕ) (List ℕ) → ListingLaws (Side (List ℕ) (List ℕ)) → (m n : Values) (items : List X)
    → map shown items ≡ prefix_pairs back (changes_of m n) → (items ≡ []) ↔ (m ≡ n)
changes_none back shown combining listings m n items is =
    let empty = empty_as shown (λ e. (back e.0, e.1)) items (changes_of m n) is in (
      λ none. same_entries m n (λ s. agree (get m s) (get n s) (λ d here other.
          let at = (changes_are combining listings m n s d).1 (other, here) in
          absurd (no_contents s d (subst (λ xs. Contains xs (s, d)) (empty.0 none) at)))),
      λ same. empty.1 (no_element (changes_of m n) (λ e at. ((changes_are combining listings m n e.0 e.1).0 at).0 (ap (λ x. get x e.0) same))),
    )

-- a list without elements is empty
is_empty_of : {X : Type 0} (xs : List X) → (length xs == 0) ≡ true ↔ (xs ≡ [])
is_empty_of [] = (λ _. refl, λ _. refl)
is_empty_of (x ∷ xs) = (λ e. absurd (let z = eqb-true (length (x ∷ xs)) 0 e in omega (arith, z)), λ e. cc)

-- both are the same so far exactly if they were before and nothing changes
pub same_so_far : {X : Type 0} (items : List X) (Same : Type 0) (before after is_empty : Bool) → is_empty ≡ (length items == 0) → (items ≡ []) ↔ Same → after ≡ (before && is_empty)
    → (after ≡ true) ↔ ((before ≡ true) × Same)
same_so_far items Same true after is_empty test none is = (
  λ e. (refl, none.0 ((is_empty_of items).0 (sym test ∙ sym is ∙ e))),
  λ (_, same). is ∙ test ∙ (is_empty_of items).1 (none.1 same),
)
same_so_far items Same false after is_empty test none is = (λ e. absurd (true≢false (sym e ∙ is)), λ (e, _). absurd (true≢false (sym e)))
