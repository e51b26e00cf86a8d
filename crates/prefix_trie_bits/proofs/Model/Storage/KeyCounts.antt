-- How many keys pass a test after entries are added or removed, and how many blocks of a size are used: for the laws
-- of storage.
use Rattle.prefix_trie_bits.proofs.Prelude.{◌≡◌, ℕ, suc, ◌+◌, ◌-◌, ◌≤◌, ◌==◌, Bool, true, false, cond, not, ◌&&◌, List, [], ◌∷◌, ◌++◌, length, filter, map, drop, Option, None, Some, Less, Equal, Greater, is_some, refl, sym, ap, ◌∙◌, subst, arith, inl, inr, true≢false, count_by-le-length, length-filter, sum_by-cons, count_by, list_any, FinMap, get, insert, remove, retain_keys, contains_key, keys, entries, len, empty, get-empty, get-insert, len-entries, len-empty, len-insert, len-remove, entries-insert, by_order, begins-rest, begins, listing_cmp, listing_total, same_string, Sizes, used_of, one_of}
use Rattle.std.specs.FinMap.Entries.{put}
use Rattle.prefix_trie_bits.proofs.Model.Members.{from-not, is-same_string, or-cases, and-first, and-second, same_string-is, same_entries, has-retained, has-removed}
use Rattle.prefix_trie_bits.proofs.Model.SortedListings.{entries-retained}
pub use Rattle.prefix_trie_bits.proofs.Model.Members.{get-retained as get-kept}

-- ---- keys that pass a test

module _ {X : Type 0} where
  -- how many keys of a map pass a test
  abbrev pub passing : (List Bool → Bool) → FinMap listing_cmp X → ℕ
  passing test m = length (filter test (keys m))

  pub of_keys : (test : List Bool → Bool) (es : List (List Bool × X)) → length (filter test (map (λ e. e.0) es)) ≡ length (filter (λ e. test e.0) es)
  of_keys test [] = refl
  of_keys test (e ∷ es) =
      elim (test e.0) as (λ b. length (cond b (e.0 ∷ filter test (map (λ x. x.0) es)) (filter test (map (λ x. x.0) es)))
      ≡ length (cond b (e ∷ filter (λ x. test x.0) es) (filter (λ x. test x.0) es))) [
        | true ↦ ap suc (of_keys test es)
        | false ↦ of_keys test es
      ]

  -- as many as the entries of the map that keeps what passes
  pub passing-len : (test : List Bool → Bool) (m : FinMap listing_cmp X) → passing test m ≡ len (retain_keys m test)
  passing-len test m = of_keys test (entries m) ∙ ap (λ es. length es) (sym (entries-retained m test)) ∙ sym (len-entries (retain_keys m test))

  get-kept_both : (m : FinMap listing_cmp X) (p r : List Bool → Bool) (q : List Bool) → get (retain_keys (retain_keys m p) r) q ≡ cond (r q) (cond (p q) (get m q) None) None
  get-kept_both m p r q = get-kept (retain_keys m p) r q ∙ ap (λ o. cond (r q) o None) (get-kept m p q)

  either_way : (a b : Bool) (o : Option X) → cond a (cond b o None) None ≡ cond b (cond a o None) None
  either_way true true o = refl
  either_way false true o = refl
  either_way a b o = refl

  kept_fewer : (m : FinMap listing_cmp X) (r : List Bool → Bool) → len (retain_keys m r) ≤ len m
  kept_fewer m r =
      let kept : len (retain_keys m r) ≡ length (filter (λ e. r e.0) (entries m)) = len-entries (retain_keys m r) ∙ ap (λ es. length es) (entries-retained m r) in
      let counted = length-filter (λ (e : List Bool × X). r e.0) (entries m) in
      let few = count_by-le-length (λ (e : List Bool × X). r e.0) (entries m) in
      let all = len-entries m in
      omega (arith, kept, counted, few, all)

  -- removing entries does not raise the number
  pub passing-fewer : (test r : List Bool → Bool) (m : FinMap listing_cmp X) → passing test (retain_keys m r) ≤ passing test m
  passing-fewer test r m =
      let same : retain_keys (retain_keys m r) test ≡ retain_keys (retain_keys m test) r =
      same_entries (retain_keys (retain_keys m r) test) (retain_keys (retain_keys m test) r)
      (λ q. get-kept_both m r test q ∙ either_way (test q) (r q) (get m q) ∙ sym (get-kept_both m test r q)) in
      let left : passing test (retain_keys m r) ≡ len (retain_keys (retain_keys m test) r) = passing-len test (retain_keys m r) ∙ ap (λ x. len x) same in
      let few = kept_fewer (retain_keys m test) r in
      let all = passing-len test m in
      omega (arith, left, few, all)

  same_kept : (a b : Bool) (o : Option X) → (is_some o ≡ true → a ≡ true → b ≡ true) → cond a (cond b o None) None ≡ cond a o None
  same_kept true false (Some x) h = absurd (true≢false (sym (h refl refl)))
  same_kept a b o h = refl

  -- the number stays if no entry that passes is removed
  pub passing-same : (test r : List Bool → Bool) (m : FinMap listing_cmp X) → ((k : List Bool) → contains_key m k ≡ true → test k ≡ true → r k ≡ true) →
      passing test (retain_keys m r) ≡ passing test m
  passing-same test r m stay =
      passing-len test (retain_keys m r) ∙ ap (λ x. len x) (same_entries (retain_keys (retain_keys m r) test) (retain_keys m test)
      (λ q. get-kept_both m r test q ∙ same_kept (test q) (r q) (get m q) (stay q) ∙ sym (get-kept m test q))) ∙ sym (passing-len test m)

  -- a new key that passes raises the number by one
  pub passing-inserted : (test : List Bool → Bool) (m : FinMap listing_cmp X) (k : List Bool) (v : X) →
      passing test (insert m k v) ≡ passing test m + cond (test k && not (contains_key m k)) 1 0
  passing-inserted test m k v = passing-len test (insert m k v) ∙ grown (test k) refl ∙ ap (λ n. n + cond (test k && not (contains_key m k)) 1 0) (sym (passing-len test m))
    where
      moved : (a b : Bool) (o : Option X) → cond a (cond b (Some v) o) None ≡ cond b (cond a (Some v) None) (cond a o None)
      moved true true o = refl
      moved false true o = refl
      moved a b o = refl

      at : (q : List Bool) → get (retain_keys (insert m k v) test) q ≡ cond (same_string q k) (cond (test q) (Some v) None) (cond (test q) (get m q) None)
      at q = get-kept (insert m k v) test q ∙ ap (λ o. cond (test q) o None) (get-insert listing_total m k v q) ∙ moved (test q) (same_string q k) (get m q)

      here : (q : List Bool) (b : Bool) → same_string q k ≡ b → (x y : Option X) → cond b (cond (test k) x None) y ≡ cond b (cond (test q) x None) y
      here q true e x y = ap (λ s. cond (test s) x None) (sym (same_string-is q k e))
      here q false e x y = refl

      added : (b : Bool) (n : ℕ) → cond b n (n + 1) ≡ n + cond (true && not b) 1 0
      added true n = omega arith
      added false n = omega arith

      unset : (b : Bool) (x : Option X) → ◌≡◌ {A = Option X} (cond b None (cond b None x)) (cond b None x)
      unset true x = refl
      unset false x = refl

      grown : (b : Bool) → test k ≡ b → len (retain_keys (insert m k v) test) ≡ len (retain_keys m test) + cond (b && not (contains_key m k)) 1 0
      grown true e =
          ap (λ x. len x) (same_entries (retain_keys (insert m k v) test) (insert (retain_keys m test) k v)
          (λ q. at q ∙ sym (here q (same_string q k) refl (Some v) (cond (test q) (get m q) None)) ∙ ap (λ b. cond (same_string q k) (cond b (Some v) None) (cond (test q) (get m q) None)) e
          ∙ ap (cond (same_string q k) (Some v)) (sym (get-kept m test q)) ∙ sym (get-insert listing_total (retain_keys m test) k v q)))
          ∙ len-insert listing_total (retain_keys m test) k v
          ∙ ap (λ b. cond b (len (retain_keys m test)) (len (retain_keys m test) + 1)) (has-retained m test k ∙ ap (λ b. b && contains_key m k) e)
          ∙ added (contains_key m k) (len (retain_keys m test))
      grown false e =
          ap (λ x. len x) (same_entries (retain_keys (insert m k v) test) (retain_keys m test) (λ q. at q ∙ away q (same_string q k) refl ∙ sym (get-kept m test q)))
          ∙ (let n : len (retain_keys m test) ≡ len (retain_keys m test) + 0 = omega arith in n)
        where
          away : (q : List Bool) (b : Bool) → same_string q k ≡ b → cond b (cond (test q) (Some v) None) (cond (test q) (get m q) None) ≡ cond (test q) (get m q) None
          away q true s =
              let fails : test q ≡ false = ap test (same_string-is q k s) ∙ e in
              ap (λ b. cond b (Some v) None) fails ∙ sym (ap (λ b. cond b (get m q) None) fails)
          away q false s = refl

  -- a map whose keys are p followed by strings of a list has at most as many keys as the list
  pub few_behind : (p : List Bool) (rs : List (List Bool)) (m : FinMap listing_cmp X)
      → ((k : List Bool) → contains_key m k ≡ true → (begins p k ≡ true) × (list_any (same_string (drop (length p) k)) rs ≡ true)) → len m ≤ length rs
  few_behind p [] m each =
      let none : m ≡ empty = same_entries m empty (λ q. absent (get m q) (λ h. true≢false (sym (each q h).1)) ∙ sym (get-empty listing_cmp q)) in
      let zero = ap (λ x. len x) none ∙ len-empty listing_cmp X in omega (arith, zero)
    where
      absent : (o : Option X) → (is_some o ≡ true → ⊥) → o ≡ None
      absent None h = refl
      absent (Some x) h = absurd (h refl)
  few_behind p (r ∷ rs) m each =
      let rest = few_behind p rs (remove m (p ++ r)) (λ k has. left k (each k (and-second (not (same_string k (p ++ r))) (contains_key m k) (sym (has-removed m (p ++ r) k) ∙ has)))
      (and-first (not (same_string k (p ++ r))) (contains_key m k) (sym (has-removed m (p ++ r) k) ∙ has))) in
      let one = one_less (contains_key m (p ++ r)) (len m) in
      let gone = len-remove listing_total m (p ++ r) in
      omega (arith, rest, one, gone)
    where
      one_less : (b : Bool) (n : ℕ) → n ≤ cond b (n - 1) n + 1
      one_less true n = omega arith
      one_less false n = omega arith

      left : (k : List Bool) → (begins p k ≡ true) × (list_any (same_string (drop (length p) k)) (r ∷ rs) ≡ true) → not (same_string k (p ++ r)) ≡ true
          → (begins p k ≡ true) × (list_any (same_string (drop (length p) k)) rs ≡ true)
      left k (b, some) other = elim (or-cases (same_string (drop (length p) k) r) (list_any (same_string (drop (length p) k)) rs) some) [
        | inl here ↦ absurd (true≢false (sym (is-same_string k (p ++ r) (begins-rest p k b ∙ ap (λ t. p ++ t) (same_string-is (drop (length p) k) r here))) ∙ from-not (same_string k (p ++ r)) other))
        | inr there ↦ (b, there)
      ]

-- ---- blocks in use

abbrev at_values : (ℕ → Bool) → List (List Bool × ℕ) → ℕ
at_values f es = count_by f (map (λ e. e.1) es)

at_more : (f : ℕ → Bool) (e : List Bool × ℕ) (es : List (List Bool × ℕ)) → at_values f (e ∷ es) ≡ cond (f e.1) 1 0 + at_values f es
at_more f e es = sum_by-cons (λ n. cond (f n) 1 0) e.1 (map (λ x. x.1) es)

kept_values : (f : ℕ → Bool) (r : List Bool → Bool) (es : List (List Bool × ℕ)) → at_values f (filter (λ e. r e.0) es) ≤ at_values f es
kept_values f r [] = omega arith
kept_values f r (e ∷ es) =
    let rest = kept_values f r es in
    let more = at_more f e es in
    elim (r e.0) as (λ b. at_values f (cond b (e ∷ filter (λ x. r x.0) es) (filter (λ x. r x.0) es)) ≤ at_values f (e ∷ es)) [
      | true ↦ omega (arith, rest, more, at_more f e (filter (λ x. r x.0) es))
      | false ↦ omega (arith, rest, more)
    ]

put_values : (f : ℕ → Bool) (k : List Bool) (v : ℕ) (es : List (List Bool × ℕ)) → at_values f (put listing_cmp k v es) ≤ at_values f es + cond (f v) 1 0
put_values f k v [] = omega (arith, at_more f (k, v) [])
put_values f k v (e ∷ es) = let more = at_more f e es in elim (listing_cmp k e.0) as (λ o. at_values f (by_order o ((k, v) ∷ e ∷ es) ((e.0, v) ∷ es) (e ∷ put listing_cmp k v es)) ≤ at_values f (e ∷ es) + cond (f v) 1 0) [
  | Less ↦ omega (arith, at_more f (k, v) (e ∷ es))
  | Equal ↦ omega (arith, more, at_more f (e.0, v) es)
  | Greater ↦ omega (arith, more, put_values f k v es, at_more f e (put listing_cmp k v es))
]

-- removing nodes does not raise the number of used blocks of a size
pub used-kept : (m : Sizes) (r : List Bool → Bool) (size : ℕ) → used_of (retain_keys m r) size ≤ used_of m size
used-kept m r size =
    let f : ℕ → Bool = λ n. n == size in
    subst (λ es. at_values f es ≤ at_values f (entries m)) (sym (entries-retained m r)) (kept_values f r (entries m))

-- taking one block raises the number for its size by at most one
pub used-taken : (m : Sizes) (k : List Bool) (v size : ℕ) → used_of (insert m k v) size ≤ used_of m size + one_of (Some v) size
used-taken m k v size =
    let f : ℕ → Bool = λ n. n == size in
    subst (λ es. at_values f es ≤ at_values f (entries m) + cond (f v) 1 0) (sym (entries-insert listing_total m k v)) (put_values f k v (entries m))
