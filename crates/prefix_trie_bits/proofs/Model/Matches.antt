-- The covers of a bit string in order: the first is its shortest match, the last its longest: for `match_laws`.
use Rattle.prefix_trie_bits.proofs.Prelude.{◌≡◌, ◌⊎◌, ◌≤◌, ◌<◌, Bool, true, false, cond, T, List, [], ◌∷◌, ◌++◌, length, is_some, Less, Option, Some, None, refl, sym, ap, ◌∙◌, subst, arith, inl, inr, true≢false, Contains-append_left, Contains-append_right, Contains-push, list_any, same_Some, entries, entries_sorted, get, contains_key, keys, get-entries, is_sorted, find, is_sorted-where_key, find-where_key, begins, begins-linear, begins-same-length, same_bool, listing_cmp, listing_same, same_string, Entries, first_item, last_item, covers, IsMatch, IsLongestMatch, IsShortestMatch, longest_match, shortest_match, MatchLaws}
use lib.Dec.{T as IsT}
use Rattle.std.specs.List.{Contains}
use Rattle.prefix_trie_bits.proofs.Model.Members.{some-key, some-value, of-key, same_string-is}
use Rattle.prefix_trie_bits.proofs.Model.SortedListings.{each-behind, sorted-tail, sorted-head, sorted-neighbours, shorter-first, found_first, found_later, Contains-from_find, find-from_Contains}

pub one_of_length : (q s t : List Bool) → begins s q ≡ true → begins t q ≡ true → length s ≡ length t → s ≡ t
one_of_length q s t e f l = begins-same-length s t (begins-linear s t q e f (omega (arith, l))) l

shorter-or-same : (q s t : List Bool) → begins s q ≡ true → begins t q ≡ true → (s ≡ t) ⊎ (listing_cmp s t ≡ Less) → length s ≤ length t
shorter-or-same q s t e f (inl same) = omega (arith, ap length same)
shorter-or-same q s t e f (inr less) = omega (arith, shorter-first q s t e f less)

module _ {X : Type 0} where
  -- the first item of a sorted list is found in it, and precedes each other item
  first-found : (es : List (List Bool × X)) (e : List Bool × X) → first_item es ≡ Some e → find listing_cmp e.0 es ≡ Some e.1
  first-found [] e h = absurd (true≢false (sym (ap is_some h)))
  first-found (x ∷ es) e h = subst (λ y. find listing_cmp y.0 (x ∷ es) ≡ Some y.1) (same_Some x e h) (found_first x es)

  first-before : (es : List (List Bool × X)) (e : List Bool × X) (k : List Bool) (v : X) → T (is_sorted listing_cmp es) → first_item es ≡ Some e → find listing_cmp k es ≡ Some v → (e.0 ≡ k) ⊎ (listing_cmp e.0 k ≡ Less)
  first-before [] e k v h f g = absurd (true≢false (sym (ap is_some f)))
  first-before (x ∷ es) e k v h f g =
      subst (λ y. (y.0 ≡ k) ⊎ (listing_cmp y.0 k ≡ Less)) (same_Some x e f)
      (elim (same_string k x.0) as (λ b. same_string k x.0 ≡ b → cond b (Some x.1) (find listing_cmp k es) ≡ Some v → (x.0 ≡ k) ⊎ (listing_cmp x.0 k ≡ Less)) [
        | true ↦ λ same _. inl (sym (same_string-is k x.0 same))
        | false ↦ λ _ e. inr (each-behind x.0 es k v (sorted-head x es h) e)
      ] refl g)

  -- the last item of a sorted list is found in it, and follows each other item
  last-found : (es : List (List Bool × X)) (e : List Bool × X) → T (is_sorted listing_cmp es) → last_item es ≡ Some e → find listing_cmp e.0 es ≡ Some e.1
  last-found [] e h f = absurd (true≢false (sym (ap is_some f)))
  last-found (x ∷ []) e h f = subst (λ y. find listing_cmp y.0 (x ∷ []) ≡ Some y.1) (same_Some x e f) (found_first x [])
  last-found (x ∷ y ∷ es) e h f = found_later x (y ∷ es) e.0 e.1 h (last-found (y ∷ es) e (sorted-tail x (y ∷ es) h) f)

  last-after : (es : List (List Bool × X)) (e : List Bool × X) (k : List Bool) (v : X) → T (is_sorted listing_cmp es) → last_item es ≡ Some e → find listing_cmp k es ≡ Some v → (k ≡ e.0) ⊎ (listing_cmp k e.0 ≡ Less)
  last-after [] e k v h f g = absurd (true≢false (sym (ap is_some f)))
  last-after (x ∷ []) e k v h f g =
      elim (same_string k x.0) as (λ b. same_string k x.0 ≡ b → cond b (Some x.1) None ≡ Some v → (k ≡ e.0) ⊎ (listing_cmp k e.0 ≡ Less)) [
        | true ↦ λ same _. inl (same_string-is k x.0 same ∙ ap (λ y. y.0) (same_Some x e f))
        | false ↦ λ _ none. absurd (true≢false (sym (ap is_some none)))
      ] refl g
  last-after (x ∷ y ∷ es) e k v h f g =
      elim (same_string k x.0) as (λ b. same_string k x.0 ≡ b → cond b (Some x.1) (find listing_cmp k (y ∷ es)) ≡ Some v → (k ≡ e.0) ⊎ (listing_cmp k e.0 ≡ Less)) [
        | true ↦ λ same _. inr (subst (λ z. listing_cmp z e.0 ≡ Less) (sym (same_string-is k x.0 same)) (each-behind x.0 (y ∷ es) e.0 e.1 (sorted-head x (y ∷ es) h) (last-found (y ∷ es) e (sorted-tail x (y ∷ es) h) f)))
        | false ↦ λ _ later. last-after (y ∷ es) e k v (sorted-tail x (y ∷ es) h) f later
      ] refl g

  last-none : (es : List (List Bool × X)) → last_item es ≡ None → es ≡ []
  last-none [] h = refl
  last-none (x ∷ []) h = absurd (true≢false (ap is_some h))
  last-none (x ∷ y ∷ es) h = absurd (true≢false (ap is_some (none-later y es h)))
    where
      none-later : (y : List Bool × X) (es : List (List Bool × X)) → last_item (y ∷ es) ≡ None → Some y ≡ None
      none-later y [] h = h
      none-later y (z ∷ es) h = absurd (true≢false (ap is_some (none-later z es h)))

  first-none : (es : List (List Bool × X)) → first_item es ≡ None → es ≡ []
  first-none [] h = refl
  first-none (x ∷ es) h = absurd (true≢false (ap is_some h))

module _ {T : Type 0} where
  covers-sorted : (m : Entries T) (q : List Bool) → IsT (is_sorted listing_cmp (covers m q))
  covers-sorted m q = is_sorted-where_key listing_cmp (λ s. begins s q) (entries m) (entries_sorted m)

  find-covers : (m : Entries T) (q k : List Bool) → find listing_cmp k (covers m q) ≡ cond (begins k q) (get m k) None
  find-covers m q k =
      find-where_key listing_cmp (λ s. begins s q) k (λ x e. ap (λ s. begins s q) (sym (listing_same k x e))) (entries m)
      ∙ ap (λ o. cond (begins k q) o None) (sym (get-entries m k))

  pub covers-has : (m : Entries T) (q : List Bool) (e : List Bool × T) → find listing_cmp e.0 (covers m q) ≡ Some e.1 → IsMatch m q e
  covers-has m q e f =
      elim (begins e.0 q) as (λ b. begins e.0 q ≡ b → cond b (get m e.0) None ≡ Some e.1 → IsMatch m q e) [
        | true ↦ λ b g. record { stored = g; begins_it = b }
        | false ↦ λ _ g. absurd (true≢false (sym (ap is_some g)))
      ] refl (sym (find-covers m q e.0) ∙ f)

  pub has-covers : (m : Entries T) (q k : List Bool) (v : T) → get m k ≡ Some v → begins k q ≡ true → find listing_cmp k (covers m q) ≡ Some v
  has-covers m q k v g b = find-covers m q k ∙ ap (λ x. cond x (get m k) None) b ∙ g

  last-longest : (m : Entries T) (q : List Bool) (e : List Bool × T) → longest_match m q ≡ Some e → IsLongestMatch m q e
  last-longest m q e h =
      let matches = covers-has m q e (last-found (covers m q) e (covers-sorted m q) h) in
      record {
        matches = matches;
        longest = λ s has b.
            let v = some-value (get m s) has in
            shorter-or-same q s e.0 b matches.begins_it (last-after (covers m q) e s v.0 (covers-sorted m q) h (has-covers m q s v.0 v.1 b));
      }

  first-shortest : (m : Entries T) (q : List Bool) (e : List Bool × T) → shortest_match m q ≡ Some e → IsShortestMatch m q e
  first-shortest m q e h =
      let matches = covers-has m q e (first-found (covers m q) e h) in
      record {
        matches = matches;
        shortest = λ s has b.
            let v = some-value (get m s) has in
            shorter-or-same q e.0 s matches.begins_it b (first-before (covers m q) e s v.0 (covers-sorted m q) h (has-covers m q s v.0 v.1 b));
      }

  same_match : (m : Entries T) (q : List Bool) (d e : List Bool × T) → IsMatch m q d → IsMatch m q e → length d.0 ≡ length e.0 → d ≡ e
  same_match m q d e f g l =
      let key : d.0 ≡ e.0 = one_of_length q d.0 e.0 f.begins_it g.begins_it l in
      let value : d.1 ≡ e.1 = same_Some d.1 e.1 (sym f.stored ∙ ap (get m) key ∙ g.stored) in
      λ i. (key i, value i)

  is-there : (m : Entries T) (q : List Bool) (e : List Bool × T) → IsMatch m q e → covers m q ≡ [] → ⊥
  is-there m q e f none = true≢false (sym (ap is_some (sym (ap (find listing_cmp e.0) none) ∙ has-covers m q e.0 e.1 f.stored f.begins_it)))

  stored-key : (m : Entries T) (q : List Bool) (e : List Bool × T) → IsMatch m q e → contains_key m e.0 ≡ true
  stored-key m q e f = ap is_some f.stored

  longest-last : (m : Entries T) (q : List Bool) (e : List Bool × T) → IsLongestMatch m q e → longest_match m q ≡ Some e
  longest-last m q e f =
      elim (longest_match m q) as (λ o. longest_match m q ≡ o → o ≡ Some e) [
        | None ↦ λ h. absurd (is-there m q e f.matches (last-none (covers m q) h))
        | Some d ↦ λ h.
            let g = last-longest m q d h in
            ap Some (same_match m q d e g.matches f.matches (omega (arith, f.longest d.0 (stored-key m q d g.matches) g.matches.begins_it, g.longest e.0 (stored-key m q e f.matches) f.matches.begins_it)))
      ] refl

  shortest-first : (m : Entries T) (q : List Bool) (e : List Bool × T) → IsShortestMatch m q e → shortest_match m q ≡ Some e
  shortest-first m q e f =
      elim (shortest_match m q) as (λ o. shortest_match m q ≡ o → o ≡ Some e) [
        | None ↦ λ h. absurd (is-there m q e f.matches (first-none (covers m q) h))
        | Some d ↦ λ h.
            let g = first-shortest m q d h in
            ap Some (same_match m q d e g.matches f.matches (omega (arith, f.shortest d.0 (stored-key m q d g.matches) g.matches.begins_it, g.shortest e.0 (stored-key m q e f.matches) f.matches.begins_it)))
      ] refl

  some-cover : (m : Entries T) (q : List Bool) (o : Option (List Bool × T)) → (o ≡ None → covers m q ≡ []) → ((e : List Bool × T) → o ≡ Some e → IsMatch m q e) → is_some o ≡ list_any (λ s. begins s q) (keys m)
  some-cover m q o none some =
      same_bool (is_some o) (list_any (λ s. begins s q) (keys m))
      (λ h. let v = some-value o h in of-key m (λ s. begins s q) v.0.0 (stored-key m q v.0 (some v.0 v.1)) (some v.0 v.1).begins_it)
      (λ h.
      let k = some-key m (λ s. begins s q) h in
      let v = some-value (get m k.0) k.1 in
      elim o as (λ x. o ≡ x → is_some x ≡ true) [
        | None ↦ λ e. absurd (is-there m q (k.0, v.0) (record { stored = v.1; begins_it = k.2 }) (none e))
        | Some e ↦ λ _. refl
      ] refl)

module _ {X : Type 0} where
  last_item-push : (front : List X) (e : X) → last_item (front ++ e ∷ []) ≡ Some e
  last_item-push (x ∷ y ∷ front) e = last_item-push (y ∷ front) e
  last_item-push front e = refl

  within-first : (front back : List X) (d e : X) → Contains (front ++ d ∷ e ∷ back) d
  within-first front back d e = Contains-append_right front (d ∷ e ∷ back) d (Contains-append_left (d ∷ []) (e ∷ back) d (Contains-push [] d))

  within-second : (front back : List X) (d e : X) → Contains (front ++ d ∷ e ∷ back) e
  within-second front back d e =
      Contains-append_right front (d ∷ e ∷ back) e (Contains-append_right (d ∷ []) (e ∷ back) e (Contains-append_left (e ∷ []) back e (Contains-push [] e)))

module _ {T : Type 0} where
  pub IsMatch-from_covers : (m : Entries T) (q : List Bool) (e : List Bool × T) → Contains (covers m q) e → IsMatch m q e
  IsMatch-from_covers m q e has = covers-has m q e (find-from_Contains (covers m q) e (covers-sorted m q) has)

  pub covers-from_IsMatch : (m : Entries T) (q : List Bool) (e : List Bool × T) → IsMatch m q e → Contains (covers m q) e
  covers-from_IsMatch m q e f = Contains-from_find (covers m q) e.0 e.1 (has-covers m q e.0 e.1 f.stored f.begins_it)

  by_length : (m : Entries T) (q : List Bool) (front back : List (List Bool × T)) (d e : List Bool × T) → covers m q ≡ front ++ d ∷ e ∷ back → length d.0 < length e.0
  by_length m q front back d e is =
      let first = IsMatch-from_covers m q d (subst (λ es. Contains es d) (sym is) (within-first front back d e)) in
      let second = IsMatch-from_covers m q e (subst (λ es. Contains es e) (sym is) (within-second front back d e)) in
      shorter-first q d.0 e.0 first.begins_it second.begins_it (sorted-neighbours front back d e (subst (λ es. IsT (is_sorted listing_cmp es)) is (covers-sorted m q)))

pub match_laws : (T : Type 0) → MatchLaws T
match_laws T = record {
  one_of_length = one_of_length;
  are_matches = λ m q e. (IsMatch-from_covers m q e, covers-from_IsMatch m q e);
  by_length = by_length;
  first_cover = λ m q first rest is. first-shortest m q first (ap first_item is);
  last_cover = λ m q front last is. last-longest m q last (ap last_item is ∙ last_item-push front last);
  longest_is = λ m q e. (last-longest m q e, longest-last m q e);
  shortest_is = λ m q e. (first-shortest m q e, shortest-first m q e);
  some_longest = λ m q. some-cover m q (longest_match m q) (last-none (covers m q)) (λ e h. (last-longest m q e h).matches);
  some_shortest = λ m q. some-cover m q (shortest_match m q) (first-none (covers m q)) (λ e h. (first-shortest m q e h).matches);
}
