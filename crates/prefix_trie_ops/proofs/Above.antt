-- The longest shorter key that begins a string, and what redundant entries and covered keys are: for `aggregation_laws`.
use Rattle.std.proofs.Common.{◌≡◌, ◌≢◌, ◌∙◌, ◌⊎◌, ◌-◌, ◌<◌, ◌≤◌, eqb, eqb-true, Bool, true, false, true≢false, cond, List, length, take, Option, Some, None, is_some, inl, inr, ap, ap₂, sym, subst, refl, arith}
use Rattle.std.proofs.lemmas.Bool.{eqb-false}
use Rattle.std.proofs.lemmas.List.{length-take-le}
use Rattle.std.specs.FinMap.{contains_key, get}
use Rattle.std.specs.Option.{option_map}
use Rattle.prefix_trie_bits.specs.Begins.{begins-from-take, begins-length, begins-linear, begins-take, begins-trans}
use Rattle.prefix_trie.specs.Laws.Lookups.{LookupLaws}
use Rattle.prefix_trie.specs.Terms.{Entries, begins}
use Rattle.prefix_trie_ops.specs.Laws.{AggregationLaws, IsAbove, IsLongestAbove}
use Rattle.prefix_trie_ops.specs.Values.{are_equal, value_above, value_of}
use Rattle.prefix_trie_ops.proofs.RedundantEntries.{looked}
use Rattle.prefix_trie_ops.proofs.SmallestSets.{below_is_above}

module _ {P T' : Type 0} (laws : LookupLaws P T') (m : Entries T') (s : List Bool) where
  -- a shorter key begins the string without its last bit
  begins_rest : (p : List Bool) → IsAbove m s p → begins p (take (length s - 1) s) ≡ true
  begins_rest p above =
      let less = above.shorter in
      let long : length (take (length s - 1) s) ≡ length s - 1 = length-take-le (length s - 1) s (omega arith) in
      begins-linear p (take (length s - 1) s) s above.begins_it (begins-from-take (take (length s - 1) s) s (length s - 1) refl) (omega (arith, long, less))

  -- and conversely
  is_above : (p : List Bool) → length s ≢ 0 → contains_key m p ≡ true → begins p (take (length s - 1) s) ≡ true → IsAbove m s p
  is_above p some stored front =
      let long : length (take (length s - 1) s) ≡ length s - 1 = length-take-le (length s - 1) s (omega arith) in
      let le = begins-length p (take (length s - 1) s) front in
      record {
        stored = stored;
        begins_it = begins-trans p (take (length s - 1) s) s front (begins-from-take (take (length s - 1) s) s (length s - 1) refl);
        shorter = omega (arith, long, le, some);
      }

  -- there is no shorter key, or a longest one with its value
  abbrev Seen : Option T' → Type 0
  Seen o = ((o ≡ None) × ((p : List Bool) → IsAbove m s p → ⊥)) ⊎ ((e : List Bool × T') × (o ≡ Some e.1) × IsLongestAbove m s e.0 e.1)

  seen : Seen (value_above m s)
  seen = elim (eqb (length s) 0) as (λ b. eqb (length s) 0 ≡ b → Seen (cond b None (value_of m (take (length s - 1) s)))) [
    | true ↦ λ z. let none : length s ≡ 0 = eqb-true (length s) 0 z in inl (refl, λ p above. (let less = above.shorter in omega (arith, none, less)))
    | false ↦ λ z. elim (looked laws m (take (length s - 1) s)) [
      | inl none ↦ inl (ap (option_map (λ e. e.1)) none.0, λ p above. true≢false (sym (begins_rest p above) ∙ none.1 p above.stored))
      | inr some ↦ inr (
        some.0,
        ap (option_map (λ e. e.1)) some.1,
        record {
          above = is_above some.0.0 (eqb-false (length s) 0 z) (ap is_some some.2.matches.stored) some.2.matches.begins_it;
          value = some.2.matches.stored;
          longest = λ q above. some.2.longest q above.stored (begins_rest q above);
        },
      )
    ]
  ] refl

  -- two longest keys are the same
  same_longest : (p q : List Bool) (v w : T') → IsLongestAbove m s p v → IsLongestAbove m s q w → Some v ≡ Some w
  same_longest p q v w left right =
      let a = left.longest q right.above in
      let b = right.longest p left.above in
      let long : length p ≡ length q = omega (arith, a, b) in
      let same : p ≡ q = sym (begins-take p s left.above.begins_it) ∙ ap (λ n. take n s) long ∙ begins-take q s right.above.begins_it in
      sym left.value ∙ ap (get m) same ∙ right.value

  value_from : (v : T') → value_above m s ≡ Some v → (p : List Bool) × IsLongestAbove m s p v
  value_from v is = elim seen [
    | inl none ↦ absurd (true≢false (sym (ap is_some (sym none.0 ∙ is))))
    | inr some ↦ (some.0.0, subst (λ w. IsLongestAbove m s some.0.0 w) (let e : Some some.0.1 ≡ Some v = sym some.1 ∙ is in cc) some.2)
  ]

  value_to : (p : List Bool) (v : T') → IsLongestAbove m s p v → value_above m s ≡ Some v
  value_to p v long = elim seen [
    | inl none ↦ absurd (none.1 p long.above)
    | inr some ↦ some.1 ∙ same_longest some.0.0 p some.0.1 v some.2 long
  ]

  none_from : value_above m s ≡ None → (p : List Bool) → IsAbove m s p → ⊥
  none_from is = elim seen [ inl none ↦ none.1 | inr some ↦ absurd (true≢false (ap is_some (sym some.1 ∙ is))) ]

  none_to : ((p : List Bool) → IsAbove m s p → ⊥) → value_above m s ≡ None
  none_to none = elim seen [ inl nothing ↦ nothing.0 | inr some ↦ absurd (none some.0.0 some.2.above) ]

  redundant_from : (eq : T' → T' → Bool) (w : T') → are_equal eq (value_above m s) (Some w) ≡ true → (p : List Bool) × (v : T') × IsLongestAbove m s p v × (eq v w ≡ true)
  redundant_from eq w is = elim seen [
    | inl none ↦ absurd (true≢false (sym (sym (ap (λ o. are_equal eq o (Some w)) none.0) ∙ is)))
    | inr some ↦ (some.0.0, some.0.1, some.2, sym (ap (λ o. are_equal eq o (Some w)) some.1) ∙ is)
  ]

  covered_from : is_some (value_above m s) ≡ true → (p : List Bool) × IsAbove m s p
  covered_from is = elim seen [ inl none ↦ absurd (true≢false (sym is ∙ ap is_some none.0)) | inr some ↦ (some.0.0, some.2.above) ]

  covered_to : (p : List Bool) → IsAbove m s p → is_some (value_above m s) ≡ true
  covered_to p above = elim seen [ inl none ↦ absurd (none.1 p above) | inr some ↦ ap is_some some.1 ]

pub aggregation_laws : {P T' : Type 0} → LookupLaws P T' → AggregationLaws T'
aggregation_laws laws = record {
  value_above_is = λ m s v. (value_from laws m s v, λ h. value_to laws m s h.0 v h.1);
  none_above = λ m s. (none_from laws m s, none_to laws m s);
  redundant = λ eq m s w here. (
    λ h. redundant_from laws m s eq w (sym (ap (are_equal eq (value_above m s)) here) ∙ h),
    λ h. ap (are_equal eq (value_above m s)) here ∙ ap (λ o. are_equal eq o (Some w)) (value_to laws m s h.0 h.1 h.2) ∙ h.3,
  );
  below_another = λ m s. (
    λ h. covered_from laws m s (sym (below_is_above m s) ∙ h),
    λ h. below_is_above m s ∙ covered_to laws m s h.0 h.1,
  );
}
