-- The sets of a part are those of its two halves and its own, combined one: for the first two passes of `aggregate`.
use Rattle.std.proofs.Common.{◌≡◌, ◌≢◌, ◌∙◌, ◌++◌, ◌≤◌, ℕ, zero, suc, Bool, true, false, cond, List, [], ◌∷◌, length, Option, None, is_eq, ap, sym, subst, refl, arith, append-nil}
use Rattle.std.specs.declared.cmp.Ordering.{Ordering}
use Rattle.std.specs.Cmp.{IsEquivalence}
use Rattle.std.specs.List.{AllZip, slice_set}
use Rattle.std.specs.Option.{option_or}
use Rattle.std.specs.FinMap.{get}
use Rattle.std.proofs.lemmas.List.{append_assoc}
use Rattle.prefix_trie.specs.Terms.{Entries, begins, listing_after}
use Rattle.prefix_trie_ops.specs.declared.map.optimal.sets.Set.{Set}
use Rattle.prefix_trie_ops.specs.declared.map.optimal.sets.Set.TheVariants.{Missing}
use Rattle.prefix_trie_ops.specs.Choosing.{part_values, Chooses}
use Rattle.prefix_trie_ops.specs.Optimal.{is_first_below, value_along}
use Rattle.prefix_trie_ops.specs.Parts.{as_list, first_values, combined_values}
use Rattle.prefix_trie_ops.specs.ValueSets.{Appends, Holds}
use Rattle.prefix_trie_ops.proofs.Optimal.LongestMatches.{along_leaf}
use Rattle.prefix_trie_ops.proofs.Smallest.Lower.{uniform}
use Rattle.prefix_trie_ops.proofs.Smallest.StoredSets.{all_joined, all_kept, nothing_appended}

-- a number from 1 on is one more than another
pub by_more : (C : ℕ → Type 0) (n : ℕ) → 1 ≤ n → ((k : ℕ) → C (suc k)) → C n
by_more C zero some step = absurd (omega arith)
by_more C (suc n) some step = step n

module _ {X : Type 0} (eq : X → X → Bool) (cmp : X → X → Ordering) (source : Entries X) (s : List Bool) (inherited : Option X) where
  -- a part without longer keys has no set in the vector
  pub part_outer : (n : ℕ) → is_first_below (λ t. t) s (listing_after source s) ≡ false → part_values eq cmp source n s inherited ≡ []
  unfolding part_values
  part_outer zero off = refl
  part_outer (suc n) off = ap (λ b. cond b
      (first_values eq cmp (suc n) (value_along (get source) inherited s)
      ∷ (part_values eq cmp source n (s ++ false ∷ []) (option_or (get source s) inherited) ++ part_values eq cmp source n (s ++ true ∷ []) (option_or (get source s) inherited))) []) off

  -- another part has its own set, and then those of its halves
  pub part_inner : (n : ℕ) → is_first_below (λ t. t) s (listing_after source s) ≡ true → part_values eq cmp source (suc n) s inherited
      ≡ first_values eq cmp (suc n) (value_along (get source) inherited s)
      ∷ (part_values eq cmp source n (s ++ false ∷ []) (option_or (get source s) inherited) ++ part_values eq cmp source n (s ++ true ∷ []) (option_or (get source s) inherited))
  unfolding part_values
  part_inner n is = ap (λ b. cond b
      (first_values eq cmp (suc n) (value_along (get source) inherited s)
      ∷ (part_values eq cmp source n (s ++ false ∷ []) (option_or (get source s) inherited) ++ part_values eq cmp source n (s ++ true ∷ []) (option_or (get source s) inherited))) []) is

  -- the first values of a part are the combined first values of its halves
  pub first_combined : (n : ℕ) → first_values eq cmp (suc n) (value_along (get source) inherited s)
      ≡ combined_values eq cmp (first_values eq cmp n (value_along (get source) (option_or (get source s) inherited) (s ++ false ∷ []))) (first_values eq cmp n (value_along (get source) (option_or (get source s) inherited) (s ++ true ∷ [])))
  unfolding first_values
  first_combined n = refl

  module _ (equal : IsEquivalence eq) (ties : (x y : X) → eq x y ≡ is_eq (cmp x y)) (none : (t : List Bool) → begins s t ≡ true → t ≢ s → get source t ≡ None) where
    -- a part without longer keys begins with its own value
    pub first_alone : (n : ℕ) → first_values eq cmp n (value_along (get source) inherited s) ≡ as_list (option_or (get source s) inherited)
    first_alone n = uniform eq equal cmp ties n (value_along (get source) inherited s) (option_or (get source s) inherited) (λ r _. along_leaf (get source) inherited s r none)

    pub chooses_leaf : (n : ℕ) (sets : List (Set X)) (values : List X) (set : Set X) → is_first_below (λ t. t) s (listing_after source s) ≡ false
        → Holds values set (as_list (option_or (get source s) inherited)) → Chooses eq cmp source n s inherited sets sets values values set
    chooses_leaf n sets values set off h = record {
      more = [];
      listed = sym (append-nil sets);
      parts = subst (AllZip (Holds values) []) (sym (part_outer n off)) tt;
      appends = nothing_appended values set (as_list (option_or (get source s) inherited)) (first_values eq cmp n (value_along (get source) inherited s)) h (first_alone n);
    }

  -- the set of a part is put where it was left out before its halves
  put_first : (sets more : List (Set X)) (set : Set X) → slice_set ((sets ++ Missing ∷ []) ++ more) (length sets) set ≡ sets ++ set ∷ more
  put_first [] more set = refl
  put_first (x ∷ sets) more set = ap (λ ys. x ∷ ys) (put_first sets more set)

  pub chooses_both : (n : ℕ) (sets pushed between both after : List (Set X)) (v0 v1 v2 v3 : List X) (left right set : Set X)
      → is_first_below (λ t. t) s (listing_after source s) ≡ true → pushed ≡ sets ++ Missing ∷ []
      → Chooses eq cmp source n (s ++ false ∷ []) (option_or (get source s) inherited) pushed between v0 v1 left
      → Chooses eq cmp source n (s ++ true ∷ []) (option_or (get source s) inherited) between both v1 v2 right
      → Appends v2 v3 set (combined_values eq cmp (first_values eq cmp n (value_along (get source) (option_or (get source s) inherited) (s ++ false ∷ [])))
      (first_values eq cmp n (value_along (get source) (option_or (get source s) inherited) (s ++ true ∷ []))))
      → after ≡ slice_set both (length sets) set → Chooses eq cmp source (suc n) s inherited sets after v0 v3 set
  chooses_both n sets pushed between both after v0 v1 v2 v3 left right set is first l r combined put = record {
    more = set ∷ (l.more ++ r.more);
    listed = put ∙ ap (λ zs. slice_set zs (length sets) set) all ∙ put_first sets (l.more ++ r.more) set;
    parts = subst (AllZip (Holds v3) (set ∷ (l.more ++ r.more))) (sym (part_inner n is)) (
      subst (Holds v3 set) (sym (first_combined n)) combined.holds,
      all_joined v3 l.more r.more
          (part_values eq cmp source n (s ++ false ∷ []) (option_or (get source s) inherited)) (part_values eq cmp source n (s ++ true ∷ []) (option_or (get source s) inherited))
          (all_kept v2 combined.added v3 l.more (part_values eq cmp source n (s ++ false ∷ []) (option_or (get source s) inherited)) combined.grows
          (all_kept v1 r.appends.added v2 l.more (part_values eq cmp source n (s ++ false ∷ []) (option_or (get source s) inherited)) r.appends.grows l.parts))
          (all_kept v2 combined.added v3 r.more (part_values eq cmp source n (s ++ true ∷ []) (option_or (get source s) inherited)) combined.grows r.parts),
    );
    appends = record {
      added = l.appends.added ++ (r.appends.added ++ combined.added);
      grows = combined.grows ∙ ap (λ zs. zs ++ combined.added) (r.appends.grows ∙ ap (λ zs. zs ++ r.appends.added) l.appends.grows)
          ∙ append_assoc (v0 ++ l.appends.added) r.appends.added combined.added ∙ append_assoc v0 l.appends.added (r.appends.added ++ combined.added);
      holds = subst (Holds v3 set) (sym (first_combined n)) combined.holds;
    };
  }
    where
      all : both ≡ (sets ++ Missing ∷ []) ++ (l.more ++ r.more)
      all = r.listed ∙ ap (λ zs. zs ++ r.more) (l.listed ∙ ap (λ zs. zs ++ l.more) first) ∙ append_assoc (sets ++ Missing ∷ []) l.more r.more
