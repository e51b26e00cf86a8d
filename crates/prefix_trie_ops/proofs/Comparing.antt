-- The first call of a walk over the keys that pass a test decides whether any key passes: for `is_subset`,
-- `is_disjoint` and `intersects`.
use Rattle.std.proofs.Common.{◌≡◌, ◌∙◌, Bool, true, false, true≢false, cond, List, [], ◌∷◌, map, Option, Some, None, MatchOption, is_some, ap, sym, refl}
use Rattle.std.specs.FinMap.{contains_key, get, get-entries, retain_keys}
use Rattle.std.specs.FinMap.Entries.{find}
use Rattle.prefix_trie_bits.specs.Model.Order.{listing_cmp}
use Rattle.prefix_trie_bits.proofs.Model.SortedListings.{found_first}
use Rattle.prefix_trie.specs.Terms.{Entries, listing}
use Rattle.prefix_trie_ops.proofs.Combining.{retained_at}

module _ {P T' : Type 0} (back : List Bool → P) (m : Entries T') (p : List Bool → Bool) where
  -- the list of the keys that pass
  abbrev passing : List P
  passing = map (λ e. back e.0) (listing (retain_keys m p))

  none_left : (es : List (List Bool × T')) → map (λ e. back e.0) es ≡ [] → (k : List Bool) → find listing_cmp k es ≡ None
  none_left [] h k = refl
  none_left (e ∷ es) h k = cc

  -- if the walk gives no key, none passes
  pub none_passes : (s t : List P) (r : Option P) → s ≡ passing → MatchOption r ((s ≡ []) × (t ≡ [])) (λ x. s ≡ x ∷ t) → is_some r ≡ false
      → (k : List Bool) → contains_key m k ≡ true → p k ≡ false
  none_passes s t (Some x) items takes bad k there = absurd (true≢false bad)
  none_passes s t None items takes _ k there = go (p k) refl (get m k) refl there
    where
      none : get (retain_keys m p) k ≡ None
      none = get-entries (retain_keys m p) k ∙ none_left (listing (retain_keys m p)) (sym items ∙ takes.0) k

      go : (b : Bool) → p k ≡ b → (o : Option T') → get m k ≡ o → is_some (get m k) ≡ true → p k ≡ false
      go false h o g here = h
      go true h None g here = absurd (true≢false (sym here ∙ ap is_some g))
      go true h (Some v) g here = let bad : Some v ≡ None = sym g ∙ sym (ap (λ b. cond b (get m k) None) h) ∙ sym (retained_at m p k) ∙ none in cc

  -- if the walk gives a key, some key passes
  pub some_passes : (s t : List P) (r : Option P) → s ≡ passing → MatchOption r ((s ≡ []) × (t ≡ [])) (λ x. s ≡ x ∷ t) → is_some r ≡ true
      → (k : List Bool) × (contains_key m k ≡ true) × (p k ≡ true)
  some_passes s t None items takes bad = absurd (true≢false (sym bad))
  some_passes s t (Some x) items takes _ = go (listing (retain_keys m p)) refl (sym takes ∙ items)
    where
      passed : (e : List Bool × T') → get (retain_keys m p) e.0 ≡ Some e.1 → (k : List Bool) × (contains_key m k ≡ true) × (p k ≡ true)
      passed e has = elim (p e.0) as (λ b. p e.0 ≡ b → (k : List Bool) × (contains_key m k ≡ true) × (p k ≡ true)) [
        | true ↦ λ h. (e.0, ap is_some (sym (ap (λ b. cond b (get m e.0) None) h) ∙ sym (retained_at m p e.0) ∙ has), h)
        | false ↦ λ h. let bad : None ≡ Some e.1 = sym (ap (λ b. cond b (get m e.0) None) h) ∙ sym (retained_at m p e.0) ∙ has in cc
      ] refl

      go : (es : List (List Bool × T')) → listing (retain_keys m p) ≡ es → x ∷ t ≡ map (λ e. back e.0) es → (k : List Bool) × (contains_key m k ≡ true) × (p k ≡ true)
      go [] h is = cc
      go (e ∷ es) h is = passed e (get-entries (retain_keys m p) e.0 ∙ ap (find listing_cmp e.0) h ∙ found_first e es)
