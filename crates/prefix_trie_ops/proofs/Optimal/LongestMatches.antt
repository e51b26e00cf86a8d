-- The longest-match value of a question, computed bit by bit from the top: for `aggregate`.
use Rattle.std.proofs.Common.{◌≡◌, ◌≢◌, ◌∙◌, ◌+◌, ◌-◌, ◌++◌, ◌&&◌, nat_lt, eqb, eqb-true, ℕ, Bool, true, false, true≢false, cond, List, [], ◌∷◌, length, take, Option, Some, None, is_some, ap, sym, refl, arith, append-nil, length-append}
use Rattle.std.proofs.lemmas.List.{append_assoc, take_at}
use Rattle.std.specs.Option.{option_map, option_or}
use Rattle.std.specs.List.{Contains}
use Rattle.std.specs.FinMap.{entries_sorted, get, get-entries}
use Rattle.prefix_trie_bits.specs.Begins.{begins-length, begins-refl}
use Rattle.prefix_trie.specs.Laws.Lookups.{LookupLaws}
use Rattle.prefix_trie.specs.Terms.{Entries, begins, last_item, listing}
use Rattle.prefix_trie_ops.specs.Optimal.{is_repeated_along, value_along}
use Rattle.prefix_trie_ops.specs.Values.{are_equal, is_redundant, value_above, value_of}
use Rattle.prefix_trie_ops.proofs.Optimal.Order.{above, is_other}
use Rattle.prefix_trie_bits.proofs.Model.SortedListings.{find-from_Contains}
use Rattle.prefix_trie_ops.proofs.Covers.{above_is_last, no_shorter}
use Rattle.prefix_trie_ops.proofs.Lists.{filter_agrees}
use Rattle.prefix_trie_ops.proofs.RedundantEntries.{same_longest}

module _ {X : Type 0} where
  -- entries that agree under a string give the same values there
  pub along_agrees : (f g : List Bool → Option X) (h : Option X) (s r : List Bool) → ((t : List Bool) → begins s t ≡ true → f t ≡ g t) → value_along f h s r ≡ value_along g h s r
  along_agrees f g h s [] same = ap (λ o. option_or o h) (same s (begins-refl s))
  along_agrees f g h s (b ∷ r) same =
      ap (λ o. value_along f (option_or o h) (s ++ b ∷ []) r) (same s (begins-refl s))
      ∙ along_agrees f g (option_or (g s) h) (s ++ b ∷ []) r (λ t at. same t (above s t b at))

  along_none : (f : List Bool → Option X) (h : Option X) (s r : List Bool) → ((t : List Bool) → begins s t ≡ true → f t ≡ None) → value_along f h s r ≡ h
  along_none f h s [] none = ap (λ o. option_or o h) (none s (begins-refl s))
  along_none f h s (b ∷ r) none =
      ap (λ o. value_along f (option_or o h) (s ++ b ∷ []) r) (none s (begins-refl s)) ∙ along_none f h (s ++ b ∷ []) r (λ t at. none t (above s t b at))

  -- if no longer key begins with the string, the value there is its own entry's, or the inherited one
  pub along_leaf : (f : List Bool → Option X) (h : Option X) (s r : List Bool) → ((t : List Bool) → begins s t ≡ true → t ≢ s → f t ≡ None) → value_along f h s r ≡ option_or (f s) h
  along_leaf f h s [] none = refl
  along_leaf f h s (b ∷ r) none = along_none f (option_or (f s) h) (s ++ b ∷ []) r (λ t at. none t (above s t b at) (is_other s t b at))

  none_equal : (eq : X → X → Bool) (o : Option X) → are_equal eq o None ≡ false
  none_equal eq None = refl
  none_equal eq (Some v) = refl

  pub repeated_agrees : (eq : X → X → Bool) (f g : List Bool → Option X) (h : Option X) (s r : List Bool) → ((t : List Bool) → begins s t ≡ true → f t ≡ g t)
      → is_repeated_along eq f h s r ≡ is_repeated_along eq g h s r
  repeated_agrees eq f g h s [] same = ap (are_equal eq h) (same s (begins-refl s))
  repeated_agrees eq f g h s (b ∷ r) same =
      ap (λ o. is_repeated_along eq f (option_or o h) (s ++ b ∷ []) r) (same s (begins-refl s))
      ∙ repeated_agrees eq f g (option_or (g s) h) (s ++ b ∷ []) r (λ t at. same t (above s t b at))

  pub repeated_none : (eq : X → X → Bool) (f : List Bool → Option X) (h : Option X) (s r : List Bool) → ((t : List Bool) → begins s t ≡ true → f t ≡ None)
      → is_repeated_along eq f h s r ≡ false
  repeated_none eq f h s [] none = ap (are_equal eq h) (none s (begins-refl s)) ∙ none_equal eq h
  repeated_none eq f h s (b ∷ r) none = repeated_none eq f (option_or (f s) h) (s ++ b ∷ []) r (λ t at. none t (above s t b at))

  -- the value of a question is that of its own entry, or else that of the shorter keys
  here : {P : Type 0} → LookupLaws P X → (m : Entries X) (s : List Bool) → value_of m s ≡ option_or (get m s) (value_above m s)
  here laws m s = elim (get m s) as (λ o. get m s ≡ o → value_of m s ≡ option_or o (value_above m s)) [
    | Some v ↦ λ h. ap (option_map (λ e. e.1)) (same_longest laws m s (s, v) (record {
      matches = record { stored = h; begins_it = begins-refl s };
      longest = λ t _ at. begins-length t s at;
    }))
    | None ↦ λ h.
        ap (λ es. option_map (λ e. e.1) (last_item es)) (filter_agrees (λ e. begins e.0 s) (λ e. begins e.0 s && nat_lt (length e.0) (length s)) (listing m) (λ e at. shorter e at h))
        ∙ sym (above_is_last m s)
  ] refl
    where
      shorter : (e : List Bool × X) → Contains (listing m) e → get m s ≡ None → begins e.0 s ≡ (begins e.0 s && nat_lt (length e.0) (length s))
      shorter e at none = elim (begins e.0 s) as (λ b. begins e.0 s ≡ b → b ≡ (b && nat_lt (length e.0) (length s))) [
        | false ↦ λ _. refl
        | true ↦ λ b. elim (nat_lt (length e.0) (length s)) as (λ n. nat_lt (length e.0) (length s) ≡ n → true ≡ n) [
          | true ↦ λ _. refl
          | false ↦ λ n.
              let bad : Some e.1 ≡ None = sym (get-entries m e.0 ∙ find-from_Contains (listing m) e (entries_sorted m) at) ∙ ap (get m) (no_shorter e.0 s b n) ∙ none in
              absurd (true≢false (ap is_some bad))
        ] refl
      ] refl

  above_push : (m : Entries X) (s : List Bool) (b : Bool) → value_above m (s ++ b ∷ []) ≡ value_of m s
  above_push m s b =
      let long : length (s ++ b ∷ []) ≡ length s + 1 = length-append s (b ∷ []) in
      let nz : eqb (length (s ++ b ∷ [])) 0 ≡ false = nonzero (length (s ++ b ∷ [])) (length s) long in
      let less : length (s ++ b ∷ []) - 1 ≡ length s = omega arith in
      ap (λ c. cond c None (value_of m (take (length (s ++ b ∷ []) - 1) (s ++ b ∷ [])))) nz
      ∙ ap (λ n. value_of m (take n (s ++ b ∷ []))) less ∙ ap (value_of m) (take_at s (b ∷ []) (length s) refl)
    where
      nonzero : (n k : ℕ) → n ≡ k + 1 → eqb n 0 ≡ false
      nonzero n k e = elim (eqb n 0) as (λ c. eqb n 0 ≡ c → c ≡ false) [ true ↦ λ z. absurd (omega (arith, eqb-true n 0 z)) | false ↦ λ _. refl ] refl

  -- from the top, the value along a question is its longest-match value
  along_value : {P : Type 0} → LookupLaws P X → (m : Entries X) (s r : List Bool) → value_along (get m) (value_above m s) s r ≡ value_of m (s ++ r)
  along_value laws m s [] = sym (here laws m s) ∙ ap (value_of m) (sym (append-nil s))
  along_value laws m s (b ∷ r) =
      ap (λ o. value_along (get m) o (s ++ b ∷ []) r) (sym (here laws m s) ∙ sym (above_push m s b))
      ∙ along_value laws m (s ++ b ∷ []) r ∙ ap (value_of m) (append_assoc s (b ∷ []) r)

  pub along_is_value : {P : Type 0} → LookupLaws P X → (m : Entries X) (q : List Bool) → value_along (get m) None [] q ≡ value_of m q
  along_is_value laws m q = along_value laws m [] q

  along_redundant : {P : Type 0} → LookupLaws P X → (eq : X → X → Bool) (m : Entries X) (s r : List Bool) → is_repeated_along eq (get m) (value_above m s) s r ≡ is_redundant eq m (s ++ r)
  along_redundant laws eq m s [] = ap (is_redundant eq m) (sym (append-nil s))
  along_redundant laws eq m s (b ∷ r) =
      ap (λ o. is_repeated_along eq (get m) o (s ++ b ∷ []) r) (sym (here laws m s) ∙ sym (above_push m s b))
      ∙ along_redundant laws eq m (s ++ b ∷ []) r ∙ ap (is_redundant eq m) (append_assoc s (b ∷ []) r)

  -- an entry repeats the value above it exactly if it is redundant
  pub along_is_redundant : {P : Type 0} → LookupLaws P X → (eq : X → X → Bool) (m : Entries X) (s : List Bool) → is_repeated_along eq (get m) None [] s ≡ is_redundant eq m s
  along_is_redundant laws eq m s = along_redundant laws eq m [] s
