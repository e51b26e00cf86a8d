-- What is stored after a key is set or removed: for `stored_laws`.
use Rattle.prefix_trie.proofs.Prelude.{◌≡◌, ◌≢◌, ◌⊎◌, inl, inr, Bool, true, false, cond, List, Some, None, is_some, refl, sym, ap, ◌∙◌, true≢false, get, get-empty, listing_cmp, same_string, Entries, with_entry, without_entry, get-with_entry, get-without_entry, is-same_string, same_string-is, same_entries, StoredLaws}

-- strings that are not the same compare as different
other_string : (s t : List Bool) → (s ≢ t) → same_string s t ≡ false
other_string s t differ = elim (same_string s t) as (λ b. same_string s t ≡ b → b ≡ false) [
  | true ↦ λ e. absurd (differ (same_string-is s t e))
  | false ↦ λ _. refl
] refl

same_or_other : (s t : List Bool) → (t ≡ s) ⊎ (t ≢ s)
same_or_other s t = elim (same_string t s) as (λ b. same_string t s ≡ b → (t ≡ s) ⊎ (t ≢ s)) [
  | true ↦ λ e. inl (same_string-is t s e)
  | false ↦ λ e. inr (λ same. true≢false (sym (is-same_string t s same) ∙ e))
] refl

pub stored_laws : (T : Type 0) → StoredLaws T
stored_laws T = record {
  nothing = λ s. get-empty listing_cmp s;
  set = λ m s v. get-with_entry m s v s ∙ ap (λ b. cond b (Some v) (get m s)) (is-same_string s s refl);
  beside_set = λ m s v t differ. get-with_entry m s v t ∙ ap (λ b. cond b (Some v) (get m t)) (other_string t s differ);
  taken = λ m s. get-without_entry m s s ∙ ap (λ b. cond b None (get m s)) (is-same_string s s refl);
  beside_taken = λ m s t differ. get-without_entry m s t ∙ ap (λ b. cond b None (get m t)) (other_string t s differ);
  same = same_entries;
}

module _ {T : Type 0} (m : Entries T) (s : List Bool) where
  -- a string that is stored after s was set is s or was stored before
  pub set_stored : (v w : T) (t : List Bool) → get (with_entry m s v) t ≡ Some w → (t ≡ s) ⊎ (get m t ≡ Some w)
  set_stored v w t stored = elim (same_or_other s t) [
    | inl same ↦ inl same
    | inr other ↦ inr (sym ((stored_laws T).beside_set m s v t other) ∙ stored)
  ]

  -- a string that is stored after s was removed is another one, and was stored before
  pub taken_stored : (w : T) (t : List Bool) → get (without_entry m s) t ≡ Some w → (t ≢ s) × (get m t ≡ Some w)
  taken_stored w t stored = elim (same_or_other s t) [
    | inl same ↦ absurd (true≢false (sym (ap is_some stored) ∙ ap is_some (ap (get (without_entry m s)) same ∙ (stored_laws T).taken m s)))
    | inr other ↦ (other, sym ((stored_laws T).beside_taken m s t other) ∙ stored)
  ]
