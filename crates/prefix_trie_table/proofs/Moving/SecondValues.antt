-- The values of the second table by string, after all have come.
use Rattle.prefix_trie_table.proofs.Prelude.{◌≡◌, ℕ, Bool, true, false, cond, List, [], ◌∷◌, ◌++◌, Option, None, Some, refl, sym, ap, ap₂, ◌∙◌, false≢true, All-head, All-tail, get, entries, entries_sorted, get-entries, is_sorted, find, listing_cmp, same_string, Entries, same_string-is, sorted-head, sorted-tail, each-behind, not_itself, Node, node_sizes, chunks_of, bit_of, same_path, has_value, with_value, NodesHold, no_value, Store}
use Rattle.std.proofs.Common.{T as IsT}
use Rattle.std.specs.List.{All}
use Rattle.prefix_trie_table.proofs.Moving.ValueWrites.{with_values, HasPlace}
use Rattle.prefix_trie_table.proofs.Strings.Keys.{same_key}
use Rattle.prefix_trie_table.proofs.Strings.Paths.{same_path-true, snoc_inj}

module _ {T : Type 0} where
  -- the first of two if it is there
  abbrev first_of : Option T → Option T → Option T
  first_of None y = y
  first_of (Some x) y = Some x

  -- an entry is none of those after it in a sorted list
  apart : (e : List Bool × T) (es : List (List Bool × T)) → IsT (is_sorted listing_cmp (e ∷ es)) → (s : List Bool) → same_string s e.0 ≡ true →
      (o : Option T) → find listing_cmp s es ≡ o → o ≡ None
  apart e es sorted s same None is = refl
  apart e es sorted s same (Some x) is = absurd (not_itself e.0 s (each-behind e.0 es s x (sorted-head e es sorted) is) (sym (same_string-is s e.0 same)))

  module _ (v : Store Node) (reading : List ℕ → Option Node) (paths : List (List ℕ)) (hold : NodesHold node_sizes reading paths v) where
    -- each string has the value that is listed, or, if none is, the one it had
    found_value : (es : List (List Bool × T)) → IsT (is_sorted listing_cmp es) → (values : List ℕ → ℕ → Option T) (s : List Bool) →
        with_values v reading paths hold es values (chunks_of s) (bit_of s) ≡ first_of (find listing_cmp s es) (values (chunks_of s) (bit_of s))
    found_value [] sorted values s = refl
    found_value (e ∷ es) sorted values s =
        found_value es (sorted-tail e es sorted) (with_value values (chunks_of e.0) (bit_of e.0) (Some e.1)) s
        ∙ ap (λ t. first_of (find listing_cmp s es) (cond t (Some e.1) (values (chunks_of s) (bit_of s)))) (sym (same_key s e.0))
        ∙ at (same_string s e.0) refl
      where
        at : (t : Bool) → same_string s e.0 ≡ t → first_of (find listing_cmp s es) (cond (same_string s e.0) (Some e.1) (values (chunks_of s) (bit_of s)))
            ≡ first_of (cond (same_string s e.0) (Some e.1) (find listing_cmp s es)) (values (chunks_of s) (bit_of s))
        at true same =
            let none : find listing_cmp s es ≡ None = apart e es sorted s same (find listing_cmp s es) refl in
            ap₂ (λ o t. first_of o (cond t (Some e.1) (values (chunks_of s) (bit_of s)))) none same
            ∙ sym (ap (λ t. first_of (cond t (Some e.1) (find listing_cmp s es)) (values (chunks_of s) (bit_of s))) same)
        at false other =
            ap (λ t. first_of (find listing_cmp s es) (cond t (Some e.1) (values (chunks_of s) (bit_of s)))) other
            ∙ sym (ap (λ t. first_of (cond t (Some e.1) (find listing_cmp s es)) (values (chunks_of s) (bit_of s))) other)

    -- and if no node has the place, none came
    pub none_there : (es : List (List Bool × T)) → All (HasPlace v reading paths hold) es → (values : List ℕ → ℕ → Option T) (p : List ℕ) (b : ℕ) →
        has_value (reading p) b ≡ false → with_values v reading paths hold es values p b ≡ values p b
    none_there [] each values p b none = refl
    none_there (e ∷ es) each values p b none =
        none_there es (All-tail (HasPlace v reading paths hold) e es each) (with_value values (chunks_of e.0) (bit_of e.0) (Some e.1)) p b none
        ∙ at (same_path (p ++ b ∷ []) (chunks_of e.0 ++ bit_of e.0 ∷ [])) refl
      where
        at : (t : Bool) → same_path (p ++ b ∷ []) (chunks_of e.0 ++ bit_of e.0 ∷ []) ≡ t → cond t (Some e.1) (values p b) ≡ values p b
        at true same =
            let both = snoc_inj p (chunks_of e.0) b (bit_of e.0) (same_path-true (p ++ b ∷ []) (chunks_of e.0 ++ bit_of e.0 ∷ []) same) in
            absurd (false≢true (sym none ∙ ap₂ (λ q i. has_value (reading q) i) both.0 both.1
            ∙ All-head (HasPlace v reading paths hold) e es each))
        at false other = refl

    module _ (m : Entries T) where
      -- the values of these entries, and no others
      abbrev pub entry_values : List ℕ → ℕ → Option T
      entry_values = with_values v reading paths hold (entries m) no_value

      -- each is that of its string
      pub entry_there : (s : List Bool) → get m s ≡ entry_values (chunks_of s) (bit_of s)
      entry_there s = get-entries m s ∙ sym (found_value (entries m) (entries_sorted m) no_value s ∙ no_other (find listing_cmp s (entries m)))
        where
          no_other : (o : Option T) → first_of o None ≡ o
          no_other None = refl
          no_other (Some x) = refl
