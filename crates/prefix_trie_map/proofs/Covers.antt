-- The first item of a cover walk is the shortest match, and the last is the longest: for `cover_laws`.
use Rattle.prefix_trie_map.proofs.Prelude.{◌≡◌, ◌≢◌, ◌↔◌, Bool, true, List, [], ◌∷◌, is_some, refl, covers, first_item, last_item, prefix_pair, prefix_pairs, CoverLaws}

module _ {P T : Type 0} where
  last-shown : (back : List Bool → P) (es : List (List Bool × T)) → prefix_pair back (last_item es) ≡ last_item (prefix_pairs back es)
  last-shown back [] = refl
  last-shown back (e ∷ []) = refl
  last-shown back (d ∷ e ∷ es) = last-shown back (e ∷ es)

  first-shown : (back : List Bool → P) (es : List (List Bool × T)) → prefix_pair back (first_item es) ≡ first_item (prefix_pairs back es)
  first-shown back [] = refl
  first-shown back (e ∷ es) = refl

  some-shown : (back : List Bool → P) (es : List (List Bool × T)) → (is_some (first_item es) ≡ true) ↔ (prefix_pairs back es ≢ [])
  some-shown back [] = (λ e. cc, λ h. absurd (h refl))
  some-shown back (e ∷ es) = (λ _ h. cc, λ _. refl)

pub cover_laws : (P T : Type 0) → CoverLaws P T
cover_laws P T = record {
  longest_is_last = λ back m q. last-shown back (covers m q);
  shortest_is_first = λ back m q. first-shown back (covers m q);
  some_covers = λ back m q. some-shown back (covers m q);
}
