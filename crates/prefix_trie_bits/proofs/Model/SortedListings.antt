-- Lists of entries in listing order, and the listing after each operation on entry maps.
use Rattle.prefix_trie_bits.proofs.Prelude.{◌≡◌, ◌≤◌, ◌<◌, Bool, true, false, cond, not, ◌&&◌, nat_lt, T, List, [], ◌∷◌, ◌++◌, length, filter, is_lt, Ordering, Less, Equal, Some, None, is_some, refl, sym, ap, ◌∙◌, subst, arith, true≢false, inl, inr, unwrap_or, Contains-append_left, Contains-append_right, Contains-append_cases, Contains-push, Contains-push_cases, nat_tests, ordering_reverse, FinMap, entries, entries_sorted, empty, get, remove, retain_keys, from_sorted, len-entries, len-empty, entries-from_sorted, get-from_sorted, get-retain_keys, get-remove, get-entries, same_map, find, is_sorted, below_all, where_key, is_sorted-where_key, find-where_key, begins, begins-linear, begins-same-length, listing_cmp, listing_total, listing_same, listing-refl, listing-extension, same_string}
use Rattle.std.specs.List.{Contains}
use Rattle.prefix_trie_bits.proofs.Model.Members.{and-first, and-second, same_string-is, is-same_string, turned}

pub t-true : (b : Bool) → T b → b ≡ true
t-true true h = refl
t-true false h = absurd h

pub true-t : (b : Bool) → b ≡ true → T b
true-t b e = subst T (sym e) tt

pub lt-less : (o : Ordering) → is_lt o ≡ true → o ≡ Less
lt-less Less e = refl
lt-less o e = absurd (true≢false (sym e))

pub not_less : (s t : List Bool) → listing_cmp s t ≡ Less → listing_cmp t s ≡ Less → ⊥
not_less s t e f =
    true≢false (ap is_lt (sym e ∙ listing_total.antisymm s t ∙ ap ordering_reverse f))

pub not_itself : (s t : List Bool) → listing_cmp s t ≡ Less → s ≡ t → ⊥
not_itself s t e is = true≢false (ap is_lt (sym e ∙ subst (λ x. listing_cmp s x ≡ Equal) is (listing-refl s)))

-- of two beginnings of one string, the one that is listed first is the shorter
pub shorter-first : (q s t : List Bool) → begins s q ≡ true → begins t q ≡ true → listing_cmp s t ≡ Less → length s < length t
shorter-first q s t e f l =
    elim (nat_lt (length s) (length t)) as (λ b. nat_lt (length s) (length t) ≡ b → length s < length t) [
      | true ↦ λ h. grind (arith, nat_tests)
      | false ↦ λ h.
          let short : length t ≤ length s = grind (arith, nat_tests) in
          let back : begins t s ≡ true = begins-linear t s q f e short in
          elim (nat_lt (length t) (length s)) as (λ b. nat_lt (length t) (length s) ≡ b → length s < length t) [
            | true ↦ λ k. let longer : length t < length s = grind (arith, nat_tests) in absurd (not_less s t l (listing-extension t s back longer))
            | false ↦ λ k. let same : length t ≡ length s = grind (arith, nat_tests) in absurd (not_itself s t l (sym (begins-same-length t s back same)))
          ] refl
    ] refl

module _ {X : Type 0} where
  -- if s is before all keys of a list, it is before each key found there
  pub each-behind : (s : List Bool) (es : List (List Bool × X)) (k : List Bool) (v : X) → T (below_all listing_cmp s es) → find listing_cmp k es ≡ Some v → listing_cmp s k ≡ Less
  each-behind s [] k v h e = absurd (true≢false (sym (ap is_some e)))
  each-behind s (x ∷ es) k v h e =
      let all = t-true (is_lt (listing_cmp s x.0) && below_all listing_cmp s es) h in
      elim (same_string k x.0) as (λ b. same_string k x.0 ≡ b → cond b (Some x.1) (find listing_cmp k es) ≡ Some v → listing_cmp s k ≡ Less) [
        | true ↦ λ same _. subst (λ y. listing_cmp s y ≡ Less) (sym (same_string-is k x.0 same)) (lt-less (listing_cmp s x.0) (and-first (is_lt (listing_cmp s x.0)) (below_all listing_cmp s es) all))
        | false ↦ λ _ f. each-behind s es k v (true-t (below_all listing_cmp s es) (and-second (is_lt (listing_cmp s x.0)) (below_all listing_cmp s es) all)) f
      ] refl e

  pub sorted-tail : (x : List Bool × X) (es : List (List Bool × X)) → T (is_sorted listing_cmp (x ∷ es)) → T (is_sorted listing_cmp es)
  sorted-tail x es h = true-t (is_sorted listing_cmp es) (and-second (below_all listing_cmp x.0 es) (is_sorted listing_cmp es) (t-true (below_all listing_cmp x.0 es && is_sorted listing_cmp es) h))

  pub sorted-head : (x : List Bool × X) (es : List (List Bool × X)) → T (is_sorted listing_cmp (x ∷ es)) → T (below_all listing_cmp x.0 es)
  sorted-head x es h = true-t (below_all listing_cmp x.0 es) (and-first (below_all listing_cmp x.0 es) (is_sorted listing_cmp es) (t-true (below_all listing_cmp x.0 es && is_sorted listing_cmp es) h))

  -- a lookup of the first item's key finds its value
  pub found_first : (x : List Bool × X) (es : List (List Bool × X)) → find listing_cmp x.0 (x ∷ es) ≡ Some x.1
  found_first x es = ap (λ b. cond b (Some x.1) (find listing_cmp x.0 es)) (is-same_string x.0 x.0 refl)

  -- a lookup in the rest of a sorted list never finds the first item's key
  pub found_later : (x : List Bool × X) (es : List (List Bool × X)) (k : List Bool) (v : X) → T (is_sorted listing_cmp (x ∷ es)) → find listing_cmp k es ≡ Some v → find listing_cmp k (x ∷ es) ≡ Some v
  found_later x es k v h e =
      elim (same_string k x.0) as (λ b. same_string k x.0 ≡ b → cond b (Some x.1) (find listing_cmp k es) ≡ Some v) [
        | true ↦ λ same.
            absurd (not_itself x.0 k (each-behind x.0 es k v (sorted-head x es h) e) (sym (same_string-is k x.0 same)))
        | false ↦ λ _. e
      ] refl

  -- of two neighbours in a sorted list, the first is before the second
  pub sorted-neighbours : (front back : List (List Bool × X)) (d e : List Bool × X) → T (is_sorted listing_cmp (front ++ d ∷ e ∷ back)) → listing_cmp d.0 e.0 ≡ Less
  sorted-neighbours [] back d e h =
      let all = t-true (is_lt (listing_cmp d.0 e.0) && below_all listing_cmp d.0 back) (sorted-head d (e ∷ back) h) in
      lt-less (listing_cmp d.0 e.0) (and-first (is_lt (listing_cmp d.0 e.0)) (below_all listing_cmp d.0 back) all)
  sorted-neighbours (x ∷ front) back d e h = sorted-neighbours front back d e (sorted-tail x (front ++ d ∷ e ∷ back) h)

  -- what a lookup finds is in the list
  pub Contains-from_find : (es : List (List Bool × X)) (k : List Bool) (v : X) → find listing_cmp k es ≡ Some v → Contains es (k, v)
  Contains-from_find [] k v e = absurd (true≢false (sym (ap is_some e)))
  Contains-from_find (x ∷ es) k v e =
      elim (same_string k x.0) as (λ b. same_string k x.0 ≡ b → cond b (Some x.1) (find listing_cmp k es) ≡ Some v → Contains (x ∷ es) (k, v)) [
        | true ↦ λ same f.
            let key : k ≡ x.0 = same_string-is k x.0 same in
            let value : x.1 ≡ v = ap (λ o. unwrap_or o x.1) f in
            let item : x ≡ (k, v) = λ i. (sym key i, value i) in
            subst (λ y. Contains (x ∷ es) y) item (Contains-append_left (x ∷ []) es x (Contains-push [] x))
        | false ↦ λ _ f. Contains-append_right (x ∷ []) es (k, v) (Contains-from_find es k v f)
      ] refl e

  pub find-from_Contains : (es : List (List Bool × X)) (e : List Bool × X) → T (is_sorted listing_cmp es) → Contains es e → find listing_cmp e.0 es ≡ Some e.1
  find-from_Contains [] e h has = absurd (omega (arith, has.1))
  find-from_Contains (x ∷ es) e h has =
      elim (Contains-append_cases (x ∷ []) es e has) [
        | inl here ↦ elim (Contains-push_cases [] x e here) [
          | inl none ↦ absurd (omega (arith, none.1))
          | inr is ↦ subst (λ y. find listing_cmp y.0 (x ∷ es) ≡ Some y.1) is (found_first x es)
        ]
        | inr there ↦ found_later x es e.0 e.1 h (find-from_Contains es e (sorted-tail x es h) there)
      ]

  no_items : (es : List (List Bool × X)) → length es ≡ 0 → es ≡ []
  no_items [] e = refl
  no_items (x ∷ es) e = absurd (omega (arith, e))

  -- the listing after each operation on an entry map
  pub entries-retained : (m : FinMap listing_cmp X) (p : List Bool → Bool) → entries (retain_keys m p) ≡ filter (λ e. p e.0) (entries m)
  entries-retained m p =
      let sorted = is_sorted-where_key listing_cmp p (entries m) (entries_sorted m) in
      let same : retain_keys m p ≡ from_sorted (where_key listing_cmp p (entries m)) =
      same_map listing_total listing_same (retain_keys m p) (from_sorted (where_key listing_cmp p (entries m)))
      (λ q. get-retain_keys m p q (λ x e. ap p (sym (listing_same q x e))) ∙ ap (λ o. cond (p q) o None) (get-entries m q)
      ∙ sym (find-where_key listing_cmp p q (λ x e. ap p (sym (listing_same q x e))) (entries m)) ∙ sym (get-from_sorted listing_cmp (where_key listing_cmp p (entries m)) q sorted)) in
      ap entries same ∙ entries-from_sorted listing_cmp (where_key listing_cmp p (entries m)) sorted

  pub entries-removed : (m : FinMap listing_cmp X) (k : List Bool) → entries (remove m k) ≡ filter (λ e. not (same_string e.0 k)) (entries m)
  entries-removed m k =
      ap entries (same_map listing_total listing_same (remove m k) (retain_keys m (λ s. not (same_string s k)))
      (λ q. get-remove listing_total m k q ∙ sym (turned (same_string q k) (get m q) None)
      ∙ sym (get-retain_keys m (λ s. not (same_string s k)) q (λ x e. ap (λ s. not (same_string s k)) (sym (listing_same q x e))))))
      ∙ entries-retained m (λ s. not (same_string s k))

module _ (X : Type 0) where
  pub entries-empty : ◌≡◌ {A = List (List Bool × X)} (entries (empty {X = X} {R = listing_cmp})) []
  entries-empty = no_items (entries empty) (sym (len-entries empty) ∙ len-empty listing_cmp X)
