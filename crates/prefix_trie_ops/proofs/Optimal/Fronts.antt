-- What the next item of a walk over a sorted listing says about the map at a string and under it: for `aggregate`.
use Rattle.std.proofs.Common.{◌≡◌, ◌≢◌, ◌∙◌, ◌&&◌, not, nat_lt, ltb-true, Bool, true, false, true≢false, cond, List, [], ◌∷◌, ◌++◌, length, filter, Some, None, Less, Equal, Greater, is_eq, is_le, is_lt, inl, inr, ap, sym, subst, refl, T}
use Rattle.std.specs.List.{Contains}
use Rattle.std.specs.FinMap.{entries_sorted, get, get-entries}
use Rattle.std.specs.FinMap.Entries.{below_all, find, is_sorted}
use Rattle.prefix_trie_bits.specs.Model.Order.{listing_cmp}
use Rattle.prefix_trie_bits.specs.Order.{listing-extension, listing_same, listing_total}
use Rattle.prefix_trie_bits.proofs.Model.SortedListings.{Contains-from_find, not_itself, sorted-head, sorted-tail}
use Rattle.prefix_trie.specs.Terms.{Entries, begins, listing, listing_after, listing_from, prefix_pairs}
use Rattle.prefix_trie_ops.specs.Optimal.{first_value_at, is_first_below, items_after, listing_past}
use Rattle.prefix_trie_ops.proofs.Covers.{behind_all, between, no_shorter}
use Rattle.prefix_trie_ops.proofs.Lists.{contains_cases, contains_here, contains_later, contains_none, filter_agrees, head_of}
use Rattle.prefix_trie_ops.proofs.Optimal.Order.{after_is_from, past_left, past_right}
use Rattle.prefix_trie_ops.proofs.Sorted.{before_all, find_before}

module _ {X : Type 0} where
  later : (s : List Bool) (x : List Bool × X) (es : List (List Bool × X)) → T (is_sorted listing_cmp (x ∷ es)) → is_le (listing_cmp s x.0) ≡ true → (e : List Bool × X) → Contains es e → listing_cmp s e.0 ≡ Less
  later s x es h le e at =
      let xe = behind_all x.0 es e (sorted-head x es h) at in
      elim (listing_cmp s x.0) as (λ o. listing_cmp s x.0 ≡ o → is_le o ≡ true → listing_cmp s e.0 ≡ Less) [
        | Less ↦ λ l _. listing_total.trans s x.0 e.0 l xe
        | Equal ↦ λ l _. subst (λ y. listing_cmp y e.0 ≡ Less) (sym (listing_same s x.0 l)) xe
        | Greater ↦ λ _ bad. absurd (true≢false (sym bad))
      ] refl le

  -- if the first item is not before the string, the later items are not at the string
  same_behind : (s : List Bool) (x : List Bool × X) (es : List (List Bool × X)) → T (is_sorted listing_cmp (x ∷ es)) → is_le (listing_cmp s x.0) ≡ true
      → filter (λ e. is_le (listing_cmp s e.0)) es ≡ filter (λ e. is_lt (listing_cmp s e.0)) es
  same_behind s x es h le = filter_agrees (λ e. is_le (listing_cmp s e.0)) (λ e. is_lt (listing_cmp s e.0)) es (λ e at. ap is_le (later s x es h le e at) ∙ sym (ap is_lt (later s x es h le e at)))

  -- the first pair that is not before a string is the string's pair, if it has one
  front : (s : List Bool) (es : List (List Bool × X)) → T (is_sorted listing_cmp es)
      → (find listing_cmp s es ≡ first_value_at (λ t. t) s (filter (λ e. is_le (listing_cmp s e.0)) es))
      × (filter (λ e. is_lt (listing_cmp s e.0)) es ≡ items_after (λ t. t) s (filter (λ e. is_le (listing_cmp s e.0)) es))
  front s [] h = (refl, refl)
  front s (x ∷ es) h = elim (listing_cmp s x.0) as (λ o. listing_cmp s x.0 ≡ o
      → (cond (is_eq o) (Some x.1) (find listing_cmp s es) ≡ first_value_at (λ t. t) s (cond (is_le o) (x ∷ filter (λ e. is_le (listing_cmp s e.0)) es) (filter (λ e. is_le (listing_cmp s e.0)) es)))
      × (cond (is_lt o) (x ∷ filter (λ e. is_lt (listing_cmp s e.0)) es) (filter (λ e. is_lt (listing_cmp s e.0)) es)
      ≡ items_after (λ t. t) s (cond (is_le o) (x ∷ filter (λ e. is_le (listing_cmp s e.0)) es) (filter (λ e. is_le (listing_cmp s e.0)) es)))) [
        | Less ↦ λ l.
            let rest = filter (λ e. is_le (listing_cmp s e.0)) es in (
              find_before s es (less_only l) ∙ sym (ap (λ o. cond (is_eq o) (Some x.1) None) l),
              ap (λ ys. x ∷ ys) (sym (same_behind s x es h (ap is_le l))) ∙ sym (ap (λ o. cond (is_eq o) rest (x ∷ rest)) l),
            )
        | Equal ↦ λ l.
            let rest = filter (λ e. is_le (listing_cmp s e.0)) es in
            (sym (ap (λ o. cond (is_eq o) (Some x.1) None) l), sym (same_behind s x es h (ap is_le l)) ∙ sym (ap (λ o. cond (is_eq o) rest (x ∷ rest)) l))
        | Greater ↦ λ l. front s es (sorted-tail x es h)
      ] refl
    where
      less_only : listing_cmp s x.0 ≡ Less → T (below_all listing_cmp s es)
      less_only l = before_all s x.0 es l (sorted-head x es h)

  -- if the first pair after a string is not under it, none is
  none_below : (s : List Bool) (es : List (List Bool × X)) → T (is_sorted listing_cmp es) → is_first_below (λ t. t) s (filter (λ e. is_lt (listing_cmp s e.0)) es) ≡ false
      → (e : List Bool × X) → Contains es e → listing_cmp s e.0 ≡ Less → begins s e.0 ≡ false
  none_below s [] h none e at less = absurd (contains_none e at)
  none_below s (x ∷ es) h none e at less = elim (listing_cmp s x.0) as (λ o. listing_cmp s x.0 ≡ o
      → is_first_below (λ t. t) s (cond (is_lt o) (x ∷ filter (λ e. is_lt (listing_cmp s e.0)) es) (filter (λ e. is_lt (listing_cmp s e.0)) es)) ≡ false → begins s e.0 ≡ false) [
        | Less ↦ λ l off.
            let first = not_begun s x.0 l off in
            elim (contains_cases x e es at) [
              | inl same ↦ ap (λ y. begins s y.0) (sym same) ∙ first
              | inr there ↦ elim (begins s e.0) as (λ b. begins s e.0 ≡ b → b ≡ false) [
                | true ↦ λ b. absurd (true≢false (sym (between s x.0 e.0 l (behind_all x.0 es e (sorted-head x es h) there) b) ∙ first))
                | false ↦ λ _. refl
              ] refl
            ]
        | Equal ↦ λ l off. elim (contains_cases x e es at) [
          | inl same ↦ absurd (true≢false (sym (ap is_lt less) ∙ ap (λ y. is_lt (listing_cmp s y.0)) (sym same) ∙ ap is_lt l))
          | inr there ↦ none_below s es (sorted-tail x es h) off e there less
        ]
        | Greater ↦ λ l off. elim (contains_cases x e es at) [
          | inl same ↦ absurd (true≢false (sym (ap is_lt less) ∙ ap (λ y. is_lt (listing_cmp s y.0)) (sym same) ∙ ap is_lt l))
          | inr there ↦ none_below s es (sorted-tail x es h) off e there less
        ]
      ] refl none
    where
      not_begun : (s t : List Bool) → listing_cmp s t ≡ Less → (nat_lt (length s) (length t) && begins s t) ≡ false → begins s t ≡ false
      not_begun s t l off = elim (begins s t) as (λ b. begins s t ≡ b → (nat_lt (length s) (length t) && b) ≡ false → b ≡ false) [
        | false ↦ λ _ _. refl
        | true ↦ λ b n. absurd (not_itself s t l (no_shorter s t b (second (nat_lt (length s) (length t)) n)))
      ] refl off
        where
          second : (b : Bool) → (b && true) ≡ false → b ≡ false
          second true h = h
          second false h = refl

-- the same for a map, and for a walk over its pairs by prefixes
module _ {P X : Type 0} (path : P → List Bool) (back : List Bool → P) (m : Entries X) (known : (e : List Bool × X) → Contains (listing m) e → path (back e.0) ≡ e.0) where
  kept : (p : List Bool × X → Bool) (es : List (List Bool × X)) (x : List Bool × X) (xs : List (List Bool × X)) → filter p es ≡ x ∷ xs → Contains es x
  kept p [] x xs is = cc
  kept p (e ∷ es) x xs is = elim (p e) as (λ b. cond b (e ∷ filter p es) (filter p es) ≡ x ∷ xs → Contains (e ∷ es) x) [
    | true ↦ λ is. subst (Contains (e ∷ es)) (ap (head_of e) is) (contains_here e es)
    | false ↦ λ is. contains_later e x es (kept p es x xs is)
  ] is

  shown_value : (s : List Bool) (p : List Bool × X → Bool) (es : List (List Bool × X)) → filter p (listing m) ≡ es → first_value_at path s (prefix_pairs back es) ≡ first_value_at (λ t. t) s es
  shown_value s p [] is = refl
  shown_value s p (x ∷ xs) is = ap (λ t. cond (is_eq (listing_cmp s t)) (Some x.1) None) (known x (kept p (listing m) x xs is))

  shown_after : (s : List Bool) (p : List Bool × X → Bool) (es : List (List Bool × X)) → filter p (listing m) ≡ es → items_after path s (prefix_pairs back es) ≡ prefix_pairs back (items_after (λ t. t) s es)
  shown_after s p [] is = refl
  shown_after s p (x ∷ xs) is = ap (λ t. cond (is_eq (listing_cmp s t)) (prefix_pairs back xs) (prefix_pairs back (x ∷ xs))) (known x (kept p (listing m) x xs is)) ∙ pull (is_eq (listing_cmp s x.0))
    where
      pull : (b : Bool) → cond b (prefix_pairs back xs) (prefix_pairs back (x ∷ xs)) ≡ prefix_pairs back (cond b xs (x ∷ xs))
      pull true = refl
      pull false = refl

  shown_below : (s : List Bool) (p : List Bool × X → Bool) (es : List (List Bool × X)) → filter p (listing m) ≡ es → is_first_below path s (prefix_pairs back es) ≡ is_first_below (λ t. t) s es
  shown_below s p [] is = refl
  shown_below s p (x ∷ xs) is = ap (λ t. nat_lt (length s) (length t) && begins s t) (known x (kept p (listing m) x xs is))

  -- whether the next item of the walk is under the string, as the map says it
  pub below_is : (s : List Bool) (walk : List (P × X)) → walk ≡ prefix_pairs back (listing_after m s) → is_first_below path s walk ≡ is_first_below (λ t. t) s (listing_after m s)
  below_is s walk is = ap (is_first_below path s) is ∙ shown_below s (λ e. is_lt (listing_cmp s e.0)) (listing_after m s) refl

  -- the next item of the walk gives the map's value at the string, and what is left comes after the string
  pub value_here : (s : List Bool) (walk : List (P × X)) → walk ≡ prefix_pairs back (listing_from m s) → first_value_at path s walk ≡ get m s
  value_here s walk is =
      ap (first_value_at path s) is ∙ shown_value s (λ e. is_le (listing_cmp s e.0)) (listing_from m s) refl ∙ sym (front s (listing m) (entries_sorted m)).0 ∙ sym (get-entries m s)

  pub left_after : (s : List Bool) (walk : List (P × X)) → walk ≡ prefix_pairs back (listing_from m s) → items_after path s walk ≡ prefix_pairs back (listing_after m s)
  left_after s walk is =
      ap (items_after path s) is ∙ shown_after s (λ e. is_le (listing_cmp s e.0)) (listing_from m s) refl ∙ ap (prefix_pairs back) (sym (front s (listing m) (entries_sorted m)).1)

  -- if the next item is not under the string, no key is
  pub no_key_below : (s : List Bool) (walk : List (P × X)) → walk ≡ prefix_pairs back (listing_after m s) → is_first_below path s walk ≡ false
      → (t : List Bool) → begins s t ≡ true → t ≢ s → get m t ≡ None
  no_key_below s walk is none t at other = elim (get m t) as (λ o. get m t ≡ o → o ≡ None) [
    | None ↦ λ _. refl
    | Some v ↦ λ there.
        let off : is_first_below (λ t. t) s (listing_after m s) ≡ false = sym (shown_below s (λ e. is_lt (listing_cmp s e.0)) (listing_after m s) refl) ∙ ap (is_first_below path s) (sym is) ∙ none in
        absurd (true≢false (sym at ∙ none_below s (listing m) (entries_sorted m) off (t, v) (Contains-from_find (listing m) t v (sym (get-entries m t) ∙ there)) (longer_behind s t at other)))
  ] refl
    where
      longer_behind : (s t : List Bool) → begins s t ≡ true → t ≢ s → listing_cmp s t ≡ Less
      longer_behind s t at other = elim (nat_lt (length s) (length t)) as (λ b. nat_lt (length s) (length t) ≡ b → listing_cmp s t ≡ Less) [
        | true ↦ λ l. listing-extension s t at (ltb-true (length s) (length t) l)
        | false ↦ λ l. absurd (other (sym (no_shorter s t at l)))
      ] refl

  -- so the walk is past the string
  pub past_leaf : (s : List Bool) (walk : List (P × X)) → walk ≡ prefix_pairs back (listing_after m s) → is_first_below path s walk ≡ false → walk ≡ prefix_pairs back (listing_past m s)
  past_leaf s walk is none = is ∙ ap (prefix_pairs back) (filter_agrees (λ e. is_lt (listing_cmp s e.0)) (λ e. is_lt (listing_cmp s e.0) && not (begins s e.0)) (listing m) (λ e at.
      elim (listing_cmp s e.0) as (λ o. listing_cmp s e.0 ≡ o → is_lt o ≡ (is_lt o && not (begins s e.0))) [
        | Less ↦ λ l. sym (ap not (none_below s (listing m) (entries_sorted m) (sym (shown_below s (λ e. is_lt (listing_cmp s e.0)) (listing_after m s) refl) ∙ ap (is_first_below path s) (sym is) ∙ none) e at l))
        | Equal ↦ λ _. refl
        | Greater ↦ λ _. refl
      ] refl))

-- a walk goes on from a string to its two extensions, and is past the string afterwards
module _ {P X : Type 0} (back : List Bool → P) (m : Entries X) (s : List Bool) where
  pub to_left : (walk : List (P × X)) → walk ≡ prefix_pairs back (listing_after m s) → walk ≡ prefix_pairs back (listing_from m (s ++ false ∷ []))
  to_left walk is = is ∙ ap (prefix_pairs back) (filter_agrees (λ e. is_lt (listing_cmp s e.0)) (λ e. is_le (listing_cmp (s ++ false ∷ []) e.0)) (listing m) (λ e _. after_is_from s e.0))

  pub to_right : (walk : List (P × X)) → walk ≡ prefix_pairs back (listing_past m (s ++ false ∷ [])) → walk ≡ prefix_pairs back (listing_from m (s ++ true ∷ []))
  to_right walk is = is ∙ ap (prefix_pairs back) (filter_agrees (λ e. is_lt (listing_cmp (s ++ false ∷ []) e.0) && not (begins (s ++ false ∷ []) e.0)) (λ e. is_le (listing_cmp (s ++ true ∷ []) e.0)) (listing m) (λ e _. past_left s e.0))

  pub to_end : (walk : List (P × X)) → walk ≡ prefix_pairs back (listing_past m (s ++ true ∷ [])) → walk ≡ prefix_pairs back (listing_past m s)
  to_end walk is = is ∙ ap (prefix_pairs back) (filter_agrees (λ e. is_lt (listing_cmp (s ++ true ∷ []) e.0) && not (begins (s ++ true ∷ []) e.0)) (λ e. is_lt (listing_cmp s e.0) && not (begins s e.0)) (listing m) (λ e _. past_right s e.0))
