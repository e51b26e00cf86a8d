-- Sets of values keep their values when their vector grows, and what is appended is a set: for the sets of values.
use Rattle.std.proofs.Common.{◌≡◌, ◌∙◌, ◌+◌, ◌-◌, ◌<◌, ◌++◌, ℕ, zero, suc, Bool, true, List, [], ◌∷◌, length, take, drop, slice_range, ap, sym, subst, refl, arith, append-nil, length-append, length-drop}
use Rattle.std.specs.declared.cmp.Ordering.{Ordering}
use Rattle.std.specs.List.{AllZip}
use Rattle.std.specs.List.Sorted.{IsStrictlySortedBy}
use Rattle.std.specs.Set.{sorted_merge}
use Rattle.std.proofs.Math.Seq.{drop-append_seam}
use Rattle.std.proofs.lemmas.List.{append_assoc, length-take-le, take_all}
use Rattle.prefix_trie_ops.specs.declared.map.optimal.sets.Set.{Set}
use Rattle.prefix_trie_ops.specs.declared.map.optimal.sets.Set.TheVariants.{Missing, One, Many}
use Rattle.prefix_trie_ops.specs.declared.map.optimal.sets.Span.{Span}
use Rattle.prefix_trie_ops.specs.Parts.{combined_values, or_list, shared_values}
use Rattle.prefix_trie_ops.specs.ValueSets.{Appends, Holds, IsSpanOf}
use Rattle.prefix_trie_ops.proofs.Smallest.Ranges.{range_append}

module _ {X : Type 0} where
  pub span_kept : (old added now : List X) (span : Span) (xs : List X) → now ≡ old ++ added → IsSpanOf old span xs → IsSpanOf now span xs
  span_kept old added now span xs grown h = (
    h.0,
    (let long = ap length grown ∙ length-append old added in let within = h.1 in omega arith),
    h.2 ∙ sym (range_append old added span.start span.end h.1) ∙ ap (λ zs. slice_range zs span.start span.end) (sym grown),
  )

  pub holds_kept : (old added now : List X) (set : Set X) (xs : List X) → now ≡ old ++ added → Holds old set xs → Holds now set xs
  holds_kept old added now Missing xs grown h = h
  holds_kept old added now (One v) xs grown h = h
  holds_kept old added now (Many span) xs grown h = span_kept old added now span xs grown h

  none_short : (xs : List X) → length xs ≡ 0 → xs ≡ []
  none_short [] none = refl
  none_short (x ∷ xs) none = absurd (omega arith)

  -- items that are appended are a set
  pub appended : (old added now : List X) (start end : ℕ) → now ≡ old ++ added → (added ≡ [] → ⊥) → start ≡ length old → end ≡ length now → Appends old now (Many record { start = start; end = end }) added
  appended old added now start end grown some first last =
      let long : length now ≡ length old + length added = ap length grown ∙ length-append old added in
      let n : end - start ≡ length added = omega arith in record {
        added = added;
        grows = grown;
        holds = (
          more (length added) refl long,
          (omega arith),
          sym (ap (λ zs. slice_range zs start end) grown ∙ ap (λ k. take (end - start) (drop k (old ++ added))) first ∙ ap (take (end - start)) (drop-append_seam old added)
              ∙ ap (λ k. take k added) n ∙ take_all (length added) added (omega arith)),
        );
      }
    where
      more : (n : ℕ) → length added ≡ n → length now ≡ length old + length added → start < end
      more zero is long = absurd (some (none_short added is))
      more (suc n) is long = omega arith

  -- a set that is appended after other items is appended with them
  pub appended_after : (old added middle now : List X) (set : Set X) (xs : List X) → middle ≡ old ++ added → Appends middle now set xs → Appends old now set xs
  appended_after old added middle now set xs grown a = record {
    added = added ++ a.added;
    grows = a.grows ∙ ap (λ zs. zs ++ a.added) grown ∙ append_assoc old added a.added;
    holds = a.holds;
  }

  pub nothing_appended : (now : List X) (set : Set X) (xs ys : List X) → Holds now set xs → ys ≡ xs → Appends now now set ys
  nothing_appended now set xs ys h same = record { added = []; grows = sym (append-nil now); holds = subst (Holds now set) (sym same) h }

  pub one_sorted : (cmp : X → X → Ordering) (x : X) → IsStrictlySortedBy cmp (x ∷ [])
  unfolding IsStrictlySortedBy
  one_sorted cmp x = (tt, tt)

  module _ (eq : X → X → Bool) (cmp : X → X → Ordering) where
    -- if one list is empty, there is no combined value
    pub combined_left : (xs ys : List X) → xs ≡ [] → combined_values eq cmp xs ys ≡ []
    unfolding combined_values
    combined_left xs ys none = ap (λ zs. combined_values eq cmp zs ys) none

    pub combined_right : (xs ys : List X) → ys ≡ [] → combined_values eq cmp xs ys ≡ []
    unfolding combined_values
    combined_right [] ys none = refl
    combined_right (x ∷ xs) ys none = ap (combined_values eq cmp (x ∷ xs)) none

    pub combined_is : (xs ys : List X) → (xs ≡ [] → ⊥) → (ys ≡ [] → ⊥) → combined_values eq cmp xs ys ≡ or_list (shared_values eq xs ys) (sorted_merge cmp true xs ys)
    unfolding combined_values
    combined_is [] ys some some' = absurd (some refl)
    combined_is (x ∷ xs) [] some some' = absurd (some' refl)
    combined_is (x ∷ xs) (y ∷ ys) some some' = refl

    -- values that are shared are the combined values, and all values if none are
    pub combined_shared : (old now xs ys : List X) → (xs ≡ [] → ⊥) → (ys ≡ [] → ⊥) → now ≡ old ++ shared_values eq xs ys → (length now ≡ length old → ⊥) → now ≡ old ++ combined_values eq cmp xs ys
    combined_shared old now xs ys some some' grown longer = grown ∙ ap (λ zs. old ++ zs) (kept (shared_values eq xs ys) (λ none. longer (ap length (grown ∙ ap (λ zs. old ++ zs) none ∙ append-nil old))) ∙ sym (combined_is xs ys some some'))
      where
        kept : (zs : List X) → (zs ≡ [] → ⊥) → zs ≡ or_list zs (sorted_merge cmp true xs ys)
        kept [] bad = absurd (bad refl)
        kept (z ∷ zs) _ = refl

    pub none_shared : (old now xs ys : List X) → now ≡ old ++ shared_values eq xs ys → length now ≡ length old → shared_values eq xs ys ≡ []
    none_shared old now xs ys grown same =
        let long = length-append old (shared_values eq xs ys) in
        let all = ap length grown in
        none_short (shared_values eq xs ys) (omega (arith, long, all, same))

    pub combined_all : (old between now xs ys : List X) → (xs ≡ [] → ⊥) → (ys ≡ [] → ⊥) → between ≡ old ++ shared_values eq xs ys → shared_values eq xs ys ≡ [] → now ≡ between ++ sorted_merge cmp true xs ys
        → now ≡ old ++ combined_values eq cmp xs ys
    combined_all old between now xs ys some some' grown none all =
        all ∙ ap (λ zs. zs ++ sorted_merge cmp true xs ys) (grown ∙ ap (λ zs. old ++ zs) none ∙ append-nil old)
        ∙ ap (λ zs. old ++ zs) (sym (combined_is xs ys some some' ∙ ap (λ zs. or_list zs (sorted_merge cmp true xs ys)) none))

  pub span_some : (old : List X) (span : Span) (xs : List X) → IsSpanOf old span xs → xs ≡ [] → ⊥
  span_some old span xs h none =
      let short = length-drop span.start old in
      let long = length-take-le (span.end - span.start) (drop span.start old) (let a = h.1 in omega arith) in
      let all = ap length h.2 in
      let zero = ap length none in
      let less = h.0 in
      omega (arith, long, all, zero, less)

  -- sets keep their values when their vector grows
  pub all_kept : (old added now : List X) (sets : List (Set X)) (xss : List (List X)) → now ≡ old ++ added → AllZip (Holds old) sets xss → AllZip (Holds now) sets xss
  all_kept old added now [] [] grown h = tt
  all_kept old added now [] (xs ∷ xss) grown h = absurd h
  all_kept old added now (s ∷ sets) [] grown h = absurd h
  all_kept old added now (s ∷ sets) (xs ∷ xss) grown h = (holds_kept old added now s xs grown h.0, all_kept old added now sets xss grown h.1)

  pub all_joined : (now : List X) (sets more : List (Set X)) (xss yss : List (List X)) → AllZip (Holds now) sets xss → AllZip (Holds now) more yss → AllZip (Holds now) (sets ++ more) (xss ++ yss)
  all_joined now [] more [] yss h k = k
  all_joined now [] more (xs ∷ xss) yss h k = absurd h
  all_joined now (s ∷ sets) more [] yss h k = absurd h
  all_joined now (s ∷ sets) more (xs ∷ xss) yss h k = (h.0, all_joined now sets more xss yss h.1 k)
