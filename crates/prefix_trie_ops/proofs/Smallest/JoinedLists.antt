-- Two sorted lists are joined item by item: what they share, or all their values if they share none. For the sets of
-- values.
use Rattle.std.proofs.Common.{◌≡◌, ◌∙◌, ◌&&◌, ◌||◌, ◌++◌, Bool, true, false, true≢false, cond, List, [], ◌∷◌, Option, Less, Equal, Greater, is_eq, is_lt, ap, sym, subst, refl, append-nil}
use Rattle.std.specs.declared.cmp.Ordering.{Ordering}
use Rattle.std.specs.Cmp.{Agrees, IsEquivalence, IsTotalOrder}
use Rattle.std.specs.List.{AllByRecursion}
use Rattle.std.specs.List.Sorted.{IsStrictlySortedBy}
use Rattle.std.specs.Ordering.{is_some_and, match_ordering, ordering_reverse, partial_lt}
use Rattle.std.specs.Set.{is_member, merge_step, sorted_merge}
use Rattle.std.proofs.lemmas.List.{append_assoc}
use Rattle.prefix_trie_ops.specs.Parts.{combined_values, or_list, shared_values}
use Rattle.prefix_trie_ops.proofs.Smallest.Sets.{shared_member}

module _ {X : Type 0} (eq : X → X → Bool) (cmp : X → X → Ordering) where
  -- the values that are shared are those so far and those that the rests share
  pub record Sharing (xs ys found whole : List X) : Type 0 where
    pub left_sorted : IsStrictlySortedBy cmp xs
    pub right_sorted : IsStrictlySortedBy cmp ys
    pub is : found ++ shared_values eq xs ys ≡ whole

  -- no value is in both lists
  abbrev pub AreDisjoint : List X → List X → Type 0
  AreDisjoint xs ys = (v : X) → (is_member eq xs v && is_member eq ys v) ≡ false

  -- the values of both lists are those so far and those of the rests
  pub record Merging (xs ys found whole : List X) : Type 0 where
    pub apart : AreDisjoint xs ys
    pub is : found ++ sorted_merge cmp true xs ys ≡ whole

  module _ (laws : IsEquivalence eq) (order : IsTotalOrder cmp) (ties : (x y : X) → eq x y ≡ is_eq (cmp x y)) where
    head_before : (x : X) (xs : List X) → IsStrictlySortedBy cmp (x ∷ xs) → AllByRecursion (λ y. cmp x y ≡ Less) xs
    unfolding IsStrictlySortedBy
    head_before x xs h = h.0

    rest_sorted : (x : X) (xs : List X) → IsStrictlySortedBy cmp (x ∷ xs) → IsStrictlySortedBy cmp xs
    unfolding IsStrictlySortedBy
    rest_sorted x xs h = h.1

    turned : (x y : X) → cmp x y ≡ Greater → cmp y x ≡ Less
    turned x y l = order.antisymm y x ∙ ap ordering_reverse l

    -- a value before the first is not in the list
    before_all : (x y : X) (ys : List X) → cmp x y ≡ Less → AllByRecursion (λ z. cmp y z ≡ Less) ys → is_member eq ys x ≡ false
    before_all x y [] l all = refl
    before_all x y (z ∷ zs) l all = ap (λ b. b || is_member eq zs x) (ties x z ∙ ap is_eq (order.trans x y z l all.0)) ∙ before_all x y zs l all.1

    not_in : (x y : X) (ys : List X) → cmp x y ≡ Less → IsStrictlySortedBy cmp (y ∷ ys) → is_member eq (y ∷ ys) x ≡ false
    not_in x y ys l h = ap (λ b. b || is_member eq ys x) (ties x y ∙ ap is_eq l) ∙ before_all x y ys l (head_before y ys h)

    -- a value before a list is shared with none of the list
    skipped : (y : X) (ys es : List X) → AllByRecursion (λ e. cmp y e ≡ Less) es → shared_values eq es (y ∷ ys) ≡ shared_values eq es ys
    skipped y ys [] all = refl
    skipped y ys (e ∷ es) all =
        ap (λ b. cond (b || is_member eq ys e) (e ∷ shared_values eq es (y ∷ ys)) (shared_values eq es (y ∷ ys))) (ties e y ∙ ap is_eq (order.antisymm e y ∙ ap ordering_reverse all.0))
        ∙ ap (λ zs. cond (is_member eq ys e) (e ∷ zs) zs) (skipped y ys es all.1)

    later : (y x : X) (xs : List X) → cmp y x ≡ Less → AllByRecursion (λ e. cmp x e ≡ Less) xs → AllByRecursion (λ e. cmp y e ≡ Less) xs
    later y x [] l all = tt
    later y x (e ∷ es) l all = (order.trans y x e l all.0, later y x es l all.1)

    alike : (x y : X) (xs : List X) → cmp x y ≡ Equal → AllByRecursion (λ e. cmp x e ≡ Less) xs → AllByRecursion (λ e. cmp y e ≡ Less) xs
    alike x y [] l all = tt
    alike x y (e ∷ es) l all = (sym (order.congr x y e l) ∙ all.0, alike x y es l all.1)

    module _ (x y : X) (xs ys xs' ys' found whole : List X) (left : xs ≡ x ∷ xs') (right : ys ≡ y ∷ ys') where
      pub sharing_less : cmp x y ≡ Less → Sharing xs ys found whole → Sharing xs' ys found whole
      sharing_less l s = record {
        left_sorted = rest_sorted x xs' (subst (IsStrictlySortedBy cmp) left s.left_sorted);
        right_sorted = s.right_sorted;
        is = sym (ap (λ zs. found ++ shared_values eq zs ys) left ∙ ap (λ b. found ++ cond b (x ∷ shared_values eq xs' ys) (shared_values eq xs' ys))
            (ap (λ zs. is_member eq zs x) right ∙ not_in x y ys' l (subst (IsStrictlySortedBy cmp) right s.right_sorted))) ∙ s.is;
      }

      pub sharing_greater : cmp x y ≡ Greater → Sharing xs ys found whole → Sharing xs ys' found whole
      sharing_greater l s =
          let sorted : IsStrictlySortedBy cmp (x ∷ xs') = subst (IsStrictlySortedBy cmp) left s.left_sorted in record {
            left_sorted = s.left_sorted;
            right_sorted = rest_sorted y ys' (subst (IsStrictlySortedBy cmp) right s.right_sorted);
            is = ap (λ zs. found ++ shared_values eq zs ys') left ∙ ap (λ zs. found ++ zs) (sym (skipped y ys' (x ∷ xs') (turned x y l, later y x xs' (turned x y l) (head_before x xs' sorted))))
                ∙ sym (ap (λ zs. found ++ shared_values eq zs ys) left ∙ ap (λ zs. found ++ shared_values eq (x ∷ xs') zs) right) ∙ s.is;
          }

      pub sharing_equal : cmp x y ≡ Equal → Sharing xs ys found whole → Sharing xs' ys' (found ++ x ∷ []) whole
      sharing_equal l s =
          let sorted : IsStrictlySortedBy cmp (x ∷ xs') = subst (IsStrictlySortedBy cmp) left s.left_sorted in record {
            left_sorted = rest_sorted x xs' sorted;
            right_sorted = rest_sorted y ys' (subst (IsStrictlySortedBy cmp) right s.right_sorted);
            is = append_assoc found (x ∷ []) (shared_values eq xs' ys') ∙ ap (λ zs. found ++ x ∷ zs) (sym (skipped y ys' xs' (alike x y xs' l (head_before x xs' sorted))))
                ∙ sym (ap (λ b. found ++ cond (b || is_member eq ys' x) (x ∷ shared_values eq xs' (y ∷ ys')) (shared_values eq xs' (y ∷ ys'))) (ties x y ∙ ap is_eq l))
                ∙ sym (ap (λ zs. found ++ shared_values eq zs ys) left ∙ ap (λ zs. found ++ shared_values eq (x ∷ xs') zs) right) ∙ s.is;
          }

      pub merging_less : cmp x y ≡ Less → Merging xs ys found whole → Merging xs' ys (found ++ x ∷ []) whole
      merging_less l m = record {
        apart = λ v. fewer (eq v x) (is_member eq xs' v) (is_member eq ys v) (ap (λ zs. is_member eq zs v && is_member eq ys v) (sym left) ∙ m.apart v);
        is = append_assoc found (x ∷ []) (sorted_merge cmp true xs' ys) ∙ ap (λ zs. found ++ x ∷ sorted_merge cmp true xs' zs) right
            ∙ sym (ap (λ o. found ++ match_ordering o (x ∷ sorted_merge cmp true xs' (y ∷ ys')) (x ∷ sorted_merge cmp true xs' ys') (y ∷ merge_step cmp true x xs' (sorted_merge cmp true xs') ys')) l)
            ∙ sym (ap (λ zs. found ++ sorted_merge cmp true zs ys) left ∙ ap (λ zs. found ++ sorted_merge cmp true (x ∷ xs') zs) right) ∙ m.is;
      }
        where
          fewer : (a b c : Bool) → ((a || b) && c) ≡ false → (b && c) ≡ false
          fewer a true c h = second a c h
            where
              second : (a c : Bool) → ((a || true) && c) ≡ false → c ≡ false
              second true c h = h
              second false c h = h
          fewer a false c h = refl

      -- two values of lists that share none are not equal
      unequal : Merging xs ys found whole → cmp x y ≡ Equal → ⊥
      unequal m l =
          true≢false (sym (ap (λ b. b && true) (ap (λ b. b || is_member eq xs' x) (laws.refl x))) ∙ ap (λ b. is_member eq (x ∷ xs') x && (b || is_member eq ys' x)) (sym (ties x y ∙ ap is_eq l))
          ∙ sym (ap (λ zs. is_member eq zs x && is_member eq ys x) left ∙ ap (λ zs. is_member eq (x ∷ xs') x && is_member eq zs x) right) ∙ m.apart x)

      pub merging_other : is_lt (cmp x y) ≡ false → Merging xs ys found whole → Merging xs ys' (found ++ y ∷ []) whole
      merging_other off m = record {
        apart = λ v. fewer (is_member eq xs v) (eq v y) (is_member eq ys' v) (ap (λ zs. is_member eq xs v && is_member eq zs v) (sym right) ∙ m.apart v);
        is = append_assoc found (y ∷ []) (sorted_merge cmp true xs ys') ∙ ap (λ zs. found ++ y ∷ sorted_merge cmp true zs ys') left
            ∙ sym (ap (λ o. found ++ match_ordering o (x ∷ sorted_merge cmp true xs' (y ∷ ys')) (x ∷ sorted_merge cmp true xs' ys') (y ∷ merge_step cmp true x xs' (sorted_merge cmp true xs') ys')) greater)
            ∙ sym (ap (λ zs. found ++ sorted_merge cmp true zs ys) left ∙ ap (λ zs. found ++ sorted_merge cmp true (x ∷ xs') zs) right) ∙ m.is;
      }
        where
          greater : cmp x y ≡ Greater
          greater = elim (cmp x y) as (λ o. cmp x y ≡ o → is_lt o ≡ false → o ≡ Greater) [
            | Less ↦ λ _ bad. absurd (true≢false bad)
            | Equal ↦ λ l _. absurd (unequal m l)
            | Greater ↦ λ _ _. refl
          ] refl off

          fewer : (a b c : Bool) → (a && (b || c)) ≡ false → (a && c) ≡ false
          fewer false b c h = refl
          fewer true true c h = absurd (true≢false h)
          fewer true false c h = h

    -- lists whose shared values are none are disjoint
    pub disjoint : (xs ys : List X) → shared_values eq xs ys ≡ [] → AreDisjoint xs ys
    disjoint xs ys none v = sym (shared_member eq laws xs ys v) ∙ ap (λ s. is_member eq s v) none

  -- nothing is shared with an empty list
  pub shared_none : (xs : List X) → shared_values eq xs [] ≡ []
  shared_none [] = refl
  shared_none (x ∷ xs) = shared_none xs

  -- an empty list adds nothing
  pub merged_left : (xs ys : List X) → xs ≡ [] → sorted_merge cmp true xs ys ≡ xs ++ ys
  merged_left xs ys none = ap (λ zs. sorted_merge cmp true zs ys) none ∙ ap (λ zs. zs ++ ys) (sym none)

  pub merged_right : (xs ys : List X) → ys ≡ [] → sorted_merge cmp true xs ys ≡ xs ++ ys
  merged_right xs ys none = ap (sorted_merge cmp true xs) none ∙ alone xs ∙ sym (append-nil xs) ∙ ap (λ zs. xs ++ zs) (sym none)
    where
      alone : (xs : List X) → sorted_merge cmp true xs [] ≡ xs
      alone [] = refl
      alone (x ∷ xs) = refl

  -- `<` says what `cmp` says
  pub less_is : (C : X → X → Option Ordering) → Agrees C cmp → (x y : X) → partial_lt C x y ≡ is_lt (cmp x y)
  less_is C agrees x y = ap (is_some_and is_lt) (agrees x y)

  pub is_less : (C : X → X → Option Ordering) → Agrees C cmp → (x y : X) → partial_lt C x y ≡ true → cmp x y ≡ Less
  is_less C agrees x y is = elim (cmp x y) as (λ o. cmp x y ≡ o → is_lt o ≡ true → o ≡ Less) [
    | Less ↦ λ _ _. refl
    | Equal ↦ λ _ bad. absurd (true≢false (sym bad))
    | Greater ↦ λ _ bad. absurd (true≢false (sym bad))
  ] refl (sym (less_is C agrees x y) ∙ is)

  module _ (laws : IsEquivalence eq) (order : IsTotalOrder cmp) (ties : (x y : X) → eq x y ≡ is_eq (cmp x y)) where
    -- two values that are equal are one combined value, and others are two
    pub pair_equal : (x y : X) → cmp x y ≡ Equal → combined_values eq cmp (x ∷ []) (y ∷ []) ≡ x ∷ []
    unfolding combined_values
    pair_equal x y l = ap (λ b. or_list (cond (b || false) (x ∷ []) []) (sorted_merge cmp true (x ∷ []) (y ∷ []))) (ties x y ∙ ap is_eq l)

    pub pair_less : (x y : X) → cmp x y ≡ Less → combined_values eq cmp (x ∷ []) (y ∷ []) ≡ x ∷ y ∷ []
    unfolding combined_values
    pair_less x y l =
        ap (λ b. or_list (cond (b || false) (x ∷ []) []) (sorted_merge cmp true (x ∷ []) (y ∷ []))) (ties x y ∙ ap is_eq l)
        ∙ ap (λ o. match_ordering o (x ∷ y ∷ []) (x ∷ []) (y ∷ x ∷ [])) l

    pub pair_greater : (x y : X) → cmp x y ≡ Greater → combined_values eq cmp (x ∷ []) (y ∷ []) ≡ y ∷ x ∷ []
    unfolding combined_values
    pair_greater x y l =
        ap (λ b. or_list (cond (b || false) (x ∷ []) []) (sorted_merge cmp true (x ∷ []) (y ∷ []))) (ties x y ∙ ap is_eq l)
        ∙ ap (λ o. match_ordering o (x ∷ y ∷ []) (x ∷ []) (y ∷ x ∷ [])) l

    -- a value that a list has is the combined value of both
    pub combined_member : (x : X) (xs : List X) → is_member eq xs x ≡ true → combined_values eq cmp (x ∷ []) xs ≡ x ∷ []
    unfolding combined_values
    combined_member x [] is = absurd (true≢false (sym is))
    combined_member x (y ∷ ys) is = ap (λ b. or_list (cond b (x ∷ []) []) (sorted_merge cmp true (x ∷ []) (y ∷ ys))) is

    module _ (exact : (x y : X) → eq x y ≡ true → x ≡ y) (x : X) where
      shared_one : (ys : List X) → IsStrictlySortedBy cmp ys → shared_values eq ys (x ∷ []) ≡ cond (is_member eq ys x) (x ∷ []) []
      shared_one [] h = refl
      shared_one (y ∷ ys) h = elim (eq x y) as (λ b. eq x y ≡ b → cond (eq y x || false) (y ∷ shared_values eq ys (x ∷ [])) (shared_values eq ys (x ∷ [])) ≡ cond (b || is_member eq ys x) (x ∷ []) []) [
        | true ↦ λ is.
            let same : x ≡ y = exact x y is in
            let rest : shared_values eq ys (x ∷ []) ≡ [] = shared_one ys (rest_sorted laws order ties y ys h)
            ∙ ap (λ b. cond b (x ∷ []) []) (ap (is_member eq ys) same ∙ itself y ys (head_before laws order ties y ys h)) in
            ap (λ b. cond (b || false) (y ∷ shared_values eq ys (x ∷ [])) (shared_values eq ys (x ∷ []))) (laws.symm y x ∙ is) ∙ ap (λ zs. y ∷ zs) rest ∙ ap (λ z. z ∷ []) (sym same)
        | false ↦ λ off.
            ap (λ b. cond (b || false) (y ∷ shared_values eq ys (x ∷ [])) (shared_values eq ys (x ∷ []))) (laws.symm y x ∙ off) ∙ shared_one ys (rest_sorted laws order ties y ys h)
      ] refl
        where
          itself : (y : X) (zs : List X) → AllByRecursion (λ z. cmp y z ≡ Less) zs → is_member eq zs y ≡ false
          itself y [] all = refl
          itself y (z ∷ zs) all = ap (λ b. b || is_member eq zs y) (ties y z ∙ ap is_eq all.0) ∙ itself y zs all.1

      merged_one : (ys : List X) → is_member eq ys x ≡ false → sorted_merge cmp true (x ∷ []) ys ≡ sorted_merge cmp true ys (x ∷ [])
      merged_one [] off = refl
      merged_one (y ∷ ys) off = elim (cmp x y) as (λ o. cmp x y ≡ o
          → match_ordering o (x ∷ y ∷ ys) (x ∷ ys) (y ∷ merge_step cmp true x [] (sorted_merge cmp true []) ys)
          ≡ match_ordering (cmp y x) (y ∷ sorted_merge cmp true ys (x ∷ [])) (y ∷ sorted_merge cmp true ys []) (x ∷ y ∷ ys)) [
            | Less ↦ λ l. sym (ap (λ o. match_ordering o (y ∷ sorted_merge cmp true ys (x ∷ [])) (y ∷ sorted_merge cmp true ys []) (x ∷ y ∷ ys)) (order.antisymm y x ∙ ap ordering_reverse l))
            | Equal ↦ λ l. absurd (true≢false (sym (ap (λ b. b || is_member eq ys x) (ties x y ∙ ap is_eq l)) ∙ off))
            | Greater ↦ λ l.
                ap (λ zs. y ∷ zs) (merged_one ys (or_right (eq x y) (is_member eq ys x) off))
                ∙ sym (ap (λ o. match_ordering o (y ∷ sorted_merge cmp true ys (x ∷ [])) (y ∷ sorted_merge cmp true ys []) (x ∷ y ∷ ys)) (order.antisymm y x ∙ ap ordering_reverse l))
          ] refl
        where
          or_right : (a b : Bool) → (a || b) ≡ false → b ≡ false
          or_right true b h = absurd (true≢false h)
          or_right false b h = h

      -- one value and a list have the same combined values in both orders
      pub combined_one : (ys : List X) → IsStrictlySortedBy cmp ys → combined_values eq cmp (x ∷ []) ys ≡ combined_values eq cmp ys (x ∷ [])
      unfolding combined_values
      combined_one [] h = refl
      combined_one (y ∷ ys) h = elim (is_member eq (y ∷ ys) x) as (λ b. is_member eq (y ∷ ys) x ≡ b
          → or_list (cond b (x ∷ []) []) (sorted_merge cmp true (x ∷ []) (y ∷ ys)) ≡ or_list (shared_values eq (y ∷ ys) (x ∷ [])) (sorted_merge cmp true (y ∷ ys) (x ∷ []))) [
            | true ↦ λ is. sym (ap (λ zs. or_list zs (sorted_merge cmp true (y ∷ ys) (x ∷ []))) (shared_one (y ∷ ys) h ∙ ap (λ b. cond b (x ∷ []) []) is))
            | false ↦ λ off. merged_one (y ∷ ys) off ∙ sym (ap (λ zs. or_list zs (sorted_merge cmp true (y ∷ ys) (x ∷ []))) (shared_one (y ∷ ys) h ∙ ap (λ b. cond b (x ∷ []) []) off))
          ] refl
