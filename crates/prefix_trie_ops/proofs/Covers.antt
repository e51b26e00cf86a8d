-- The covers of each entry of a listing, from those of the entry before it: for `aggregate_consistent`.
use Rattle.std.proofs.Common.{◌≡◌, ◌∙◌, ◌⊎◌, ◌-◌, ◌<◌, ◌≤◌, ◌++◌, ◌&&◌, nat_lt, eqb, eqb-true, ◌≢◌, ltb-true, lt-ltb, ℕ, Bool, true, false, true≢false, cond, List, [], ◌∷◌, length, take, drop, filter, Option, Some, None, Less, is_lt, inl, inr, ap, sym, subst, refl, arith, append-nil, T}
use Rattle.std.proofs.lemmas.List.Elements.{filter-append}
use Rattle.std.proofs.lemmas.List.{append_assoc, take-take, length-take-le}
use Rattle.std.proofs.lemmas.Bool.{eqb-false, and_parts, and_from}
use Rattle.std.specs.List.{Contains}
use Rattle.std.specs.Option.{option_map}
use Rattle.std.specs.FinMap.{entries_sorted}
use Rattle.std.specs.FinMap.Entries.{is_sorted, below_all}
use Rattle.prefix_trie_bits.specs.Begins.{begins-trans, begins-length, begins-refl, begins-same-length, begins-rest, begins-take, begins-from-take, take-begins, same_bool}
use Rattle.prefix_trie_bits.specs.Model.Order.{listing_cmp}
use Rattle.prefix_trie_bits.specs.Order.{listing-extension, listing-apart}
use Rattle.prefix_trie_bits.proofs.Model.SortedListings.{not_itself, not_less, sorted-head, sorted-tail, lt-less, t-true, true-t}
use Rattle.prefix_trie_bits.proofs.Model.Members.{and-first, and-second}
use Rattle.prefix_trie.specs.Terms.{Entries, begins, covers, last_item, listing}
use Rattle.prefix_trie_ops.specs.Values.{value_above, value_of}
use Rattle.prefix_trie_ops.proofs.Lists.{contains_cases, contains_here, contains_none, contains_parts, contains_middle, filter_agrees, filter_both, filter_none}

-- if x is between e and y in listing order and e begins y, e begins x
pub between : (e x y : List Bool) → listing_cmp e x ≡ Less → listing_cmp x y ≡ Less → begins e y ≡ true → begins e x ≡ true
between e x y ex xy b = elim (begins e x) as (λ t. begins e x ≡ t → t ≡ true) [
  | true ↦ λ _. refl
  | false ↦ λ no.
      let back : listing_cmp y x ≡ Less = subst (λ z. listing_cmp z x ≡ Less) (sym (begins-rest e y b)) (subst (λ z. listing_cmp (e ++ drop (length e) y) z ≡ Less) (append-nil x) (listing-apart e x (drop (length e) y) [] ex no)) in
      absurd (not_less x y xy back)
] refl

-- a string that begins another and is not shorter is equal to it
pub no_shorter : (e y : List Bool) → begins e y ≡ true → nat_lt (length e) (length y) ≡ false → e ≡ y
no_shorter e y b n = begins-same-length e y b (let l : length e ≤ length y = begins-length e y b in let g : length y ≤ length e = grind (arith, n) in omega arith)

module _ {T' : Type 0} where
  pub behind_all : (s : List Bool) (es : List (List Bool × T')) (e : List Bool × T') → T (below_all listing_cmp s es) → Contains es e → listing_cmp s e.0 ≡ Less
  behind_all s [] e h at = absurd (contains_none e at)
  behind_all s (x ∷ es) e h at =
      let all = t-true (is_lt (listing_cmp s x.0) && below_all listing_cmp s es) h in
      elim (contains_cases x e es at) [
        | inl same ↦ subst (λ y. listing_cmp s y.0 ≡ Less) same (lt-less (listing_cmp s x.0) (and-first (is_lt (listing_cmp s x.0)) (below_all listing_cmp s es) all))
        | inr there ↦ behind_all s es e (true-t (below_all listing_cmp s es) (and-second (is_lt (listing_cmp s x.0)) (below_all listing_cmp s es) all)) there
      ]

  -- in a sorted list, the keys before an item are less than it, and the keys after it are greater
  pub before_it : (front back : List (List Bool × T')) (d e : List Bool × T') → T (is_sorted listing_cmp (front ++ d ∷ back)) → Contains front e → listing_cmp e.0 d.0 ≡ Less
  before_it [] back d e h at = absurd (contains_none e at)
  before_it (x ∷ front) back d e h at = elim (contains_cases x e front at) [
    | inl same ↦ subst (λ y. listing_cmp y.0 d.0 ≡ Less) same (behind_all x.0 (front ++ d ∷ back) d (sorted-head x (front ++ d ∷ back) h) (contains_middle front back d))
    | inr there ↦ before_it front back d e (sorted-tail x (front ++ d ∷ back) h) there
  ]

  pub behind_it : (front back : List (List Bool × T')) (d e : List Bool × T') → T (is_sorted listing_cmp (front ++ d ∷ back)) → Contains back e → listing_cmp d.0 e.0 ≡ Less
  behind_it [] back d e h at = behind_all d.0 back e (sorted-head d back h) at
  behind_it (x ∷ front) back d e h at = behind_it front back d e (sorted-tail x (front ++ d ∷ back) h) at

  -- the entries whose keys begin y and are shorter
  abbrev pub shorter_covers : Entries T' → List Bool → List (List Bool × T')
  shorter_covers m y = filter (λ e. begins e.0 y && nat_lt (length e.0) (length y)) (listing m)

  -- the covers of a stored key are its shorter covers and its own entry
  pub covers_push : (m : Entries T') (read rest : List (List Bool × T')) (y : List Bool × T') → listing m ≡ read ++ y ∷ rest
      → (covers m y.0 ≡ shorter_covers m y.0 ++ y ∷ []) × (shorter_covers m y.0 ≡ filter (λ e. begins e.0 y.0 && nat_lt (length e.0) (length y.0)) read)
  covers_push m read rest y split =
      let sorted : T (is_sorted listing_cmp (read ++ y ∷ rest)) = subst (λ es. T (is_sorted listing_cmp es)) split (entries_sorted m) in
      let p = λ (e : List Bool × T'). begins e.0 y.0 in
      let q = λ (e : List Bool × T'). begins e.0 y.0 && nat_lt (length e.0) (length y.0) in
      let on_read : filter p read ≡ filter q read = filter_agrees p q read (λ e at. at_read e (before_it read rest y e sorted at)) in
      let on_rest : filter p rest ≡ [] = filter_agrees p (λ _. false) rest (λ e at. at_rest e (behind_it read rest y e sorted at)) ∙ filter_none rest in
      let on_rest2 : filter q rest ≡ [] = filter_agrees q (λ _. false) rest (λ e at. ap (λ b. b && nat_lt (length e.0) (length y.0)) (at_rest e (behind_it read rest y e sorted at))) ∙ filter_none rest in
      let here : p y ≡ true = begins-refl y.0 in
      let here2 : q y ≡ false = ap (λ b. b && nat_lt (length y.0) (length y.0)) here ∙ not_lt (length y.0) in
      let left : covers m y.0 ≡ filter p read ++ y ∷ [] =
      ap (filter p) split ∙ filter-append p read (y ∷ rest) ∙ ap (λ b. filter p read ++ cond b (y ∷ filter p rest) (filter p rest)) here ∙ ap (λ es. filter p read ++ y ∷ es) on_rest in
      let right : shorter_covers m y.0 ≡ filter q read =
      ap (filter q) split ∙ filter-append q read (y ∷ rest) ∙ ap (λ b. filter q read ++ cond b (y ∷ filter q rest) (filter q rest)) here2 ∙ ap (λ es. filter q read ++ es) on_rest2 ∙ append-nil (filter q read) in
      (left ∙ ap (λ es. es ++ y ∷ []) (on_read ∙ sym right), right)
    where
      not_lt : (n : ℕ) → nat_lt n n ≡ false
      not_lt n = elim (nat_lt n n) as (λ b. nat_lt n n ≡ b → b ≡ false) [ true ↦ λ h. let l : n < n = ltb-true n n h in absurd (omega arith) | false ↦ λ h. refl ] refl

      at_read : (e : List Bool × T') → listing_cmp e.0 y.0 ≡ Less → begins e.0 y.0 ≡ (begins e.0 y.0 && nat_lt (length e.0) (length y.0))
      at_read e l = elim (begins e.0 y.0) as (λ b. begins e.0 y.0 ≡ b → b ≡ (b && nat_lt (length e.0) (length y.0))) [
        | false ↦ λ _. refl
        | true ↦ λ b. elim (nat_lt (length e.0) (length y.0)) as (λ n. nat_lt (length e.0) (length y.0) ≡ n → true ≡ n) [
          | true ↦ λ _. refl
          | false ↦ λ n. absurd (not_itself e.0 y.0 l (no_shorter e.0 y.0 b n))
        ] refl
      ] refl

      at_rest : (e : List Bool × T') → listing_cmp y.0 e.0 ≡ Less → begins e.0 y.0 ≡ false
      at_rest e l = elim (begins e.0 y.0) as (λ b. begins e.0 y.0 ≡ b → b ≡ false) [
        | false ↦ λ _. refl
        | true ↦ λ b. elim (nat_lt (length e.0) (length y.0)) as (λ n. nat_lt (length e.0) (length y.0) ≡ n → true ≡ false) [
          | true ↦ λ n. absurd (not_less y.0 e.0 l (listing-extension e.0 y.0 b (ltb-true (length e.0) (length y.0) n)))
          | false ↦ λ n. absurd (not_itself y.0 e.0 l (sym (no_shorter e.0 y.0 b n)))
        ] refl
      ] refl

  -- the covers of the entry before y that begin y are the shorter covers of y
  pub covers_next : (m : Entries T') (read rest : List (List Bool × T')) (x y : List Bool × T') → listing m ≡ read ++ x ∷ y ∷ rest
      → filter (λ e. begins e.0 y.0) (covers m x.0) ≡ shorter_covers m y.0
  covers_next m read rest x y split =
      let sorted : T (is_sorted listing_cmp (read ++ x ∷ y ∷ rest)) = subst (λ es. T (is_sorted listing_cmp es)) split (entries_sorted m) in
      let split2 : listing m ≡ (read ++ x ∷ []) ++ y ∷ rest = split ∙ sym (append_assoc read (x ∷ []) (y ∷ rest)) in
      let sorted2 : T (is_sorted listing_cmp ((read ++ x ∷ []) ++ y ∷ rest)) = subst (λ es. T (is_sorted listing_cmp es)) split2 (entries_sorted m) in
      let xy : listing_cmp x.0 y.0 ≡ Less = behind_it read (y ∷ rest) x y sorted (contains_here y rest) in
      filter_both (λ e. begins e.0 x.0) (λ e. begins e.0 y.0) (listing m)
      ∙ filter_agrees (λ e. begins e.0 x.0 && begins e.0 y.0) (λ e. begins e.0 y.0 && nat_lt (length e.0) (length y.0)) (listing m)
      (λ e at. same_bool (begins e.0 x.0 && begins e.0 y.0) (begins e.0 y.0 && nat_lt (length e.0) (length y.0))
      (λ h. let b = and_parts (begins e.0 x.0) (begins e.0 y.0) h in and_from (begins e.0 y.0) (nat_lt (length e.0) (length y.0)) b.1 (is_short e xy b.0 b.1))
      (λ h. let b = and_parts (begins e.0 y.0) (nat_lt (length e.0) (length y.0)) h in
      and_from (begins e.0 x.0) (begins e.0 y.0) (begins_x e xy sorted b.0 (listing-extension e.0 y.0 b.0 (ltb-true (length e.0) (length y.0) b.1)) (contains_parts read (x ∷ y ∷ rest) e (subst (λ es. Contains es e) split at))) b.0))
    where
      is_short : (e : List Bool × T') → listing_cmp x.0 y.0 ≡ Less → begins e.0 x.0 ≡ true → begins e.0 y.0 ≡ true → nat_lt (length e.0) (length y.0) ≡ true
      is_short e xy bx by = elim (nat_lt (length e.0) (length y.0)) as (λ n. nat_lt (length e.0) (length y.0) ≡ n → n ≡ true) [
        | true ↦ λ _. refl
        | false ↦ λ n.
            let same : e.0 ≡ y.0 = no_shorter e.0 y.0 by n in
            let yx : begins y.0 x.0 ≡ true = subst (λ s. begins s x.0 ≡ true) same bx in
            elim (nat_lt (length y.0) (length x.0)) as (λ k. nat_lt (length y.0) (length x.0) ≡ k → false ≡ true) [
              | true ↦ λ k. absurd (not_less x.0 y.0 xy (listing-extension y.0 x.0 yx (ltb-true (length y.0) (length x.0) k)))
              | false ↦ λ k. absurd (not_itself x.0 y.0 xy (sym (no_shorter y.0 x.0 yx k)))
            ] refl
      ] refl

      begins_x : (e : List Bool × T') → listing_cmp x.0 y.0 ≡ Less → T (is_sorted listing_cmp (read ++ x ∷ y ∷ rest)) → begins e.0 y.0 ≡ true → listing_cmp e.0 y.0 ≡ Less
          → Contains read e ⊎ Contains (x ∷ y ∷ rest) e → begins e.0 x.0 ≡ true
      begins_x e xy sorted by ey (inl at) = between e.0 x.0 y.0 (before_it read (y ∷ rest) x e sorted at) xy by
      begins_x e xy sorted by ey (inr at) = elim (contains_cases x e (y ∷ rest) at) [
        | inl same ↦ subst (λ z. begins z.0 x.0 ≡ true) same (begins-refl x.0)
        | inr later ↦ elim (contains_cases y e rest later) [
          | inl same ↦ absurd (not_itself e.0 y.0 ey (ap (λ z. z.0) (sym same)))
          | inr there ↦ absurd (not_less e.0 y.0 ey (behind_it (x ∷ []) rest y e (sorted_end read (x ∷ y ∷ rest) sorted) there))
        ]
      ]
        where
          sorted_end : (front back : List (List Bool × T')) → T (is_sorted listing_cmp (front ++ back)) → T (is_sorted listing_cmp back)
          sorted_end [] back h = h
          sorted_end (z ∷ front) back h = sorted_end front back (sorted-tail z (front ++ back) h)

  -- the covers of an entry, or nothing if there is no entry
  abbrev pub covers_of : Entries T' → Option (List Bool × T') → List (List Bool × T')
  covers_of m None = []
  covers_of m (Some x) = covers m x.0

  pub last_split : (xs : List (List Bool × T')) → ((xs ≡ []) × (last_item xs ≡ None)) ⊎ ((front : List (List Bool × T')) × (x : List Bool × T') × (xs ≡ front ++ x ∷ []) × (last_item xs ≡ Some x))
  last_split [] = inl (refl, refl)
  last_split (x ∷ []) = inr ([], x, refl, refl)
  last_split (x ∷ y ∷ xs) = elim (last_split (y ∷ xs)) [
    | inl none ↦ absurd (true≢false (ap (λ zs. is_cons zs) none.0))
    | inr some ↦ inr (x ∷ some.0, some.1, ap (λ zs. x ∷ zs) some.2, some.3)
  ]
    where
      is_cons : List (List Bool × T') → Bool
      is_cons [] = false
      is_cons (x ∷ xs) = true

  pub next_covers : (m : Entries T') (read rest : List (List Bool × T')) (y : List Bool × T') → listing m ≡ read ++ y ∷ rest
      → filter (λ e. begins e.0 y.0) (covers_of m (last_item read)) ≡ shorter_covers m y.0
  next_covers m read rest y split = elim (last_split read) [
    | inl none ↦ ap (λ o. filter (λ e. begins e.0 y.0) (covers_of m o)) none.1 ∙ sym (ap (filter (λ e. begins e.0 y.0 && nat_lt (length e.0) (length y.0))) none.0) ∙ sym (covers_push m read rest y split).1
    | inr some ↦
        ap (λ o. filter (λ e. begins e.0 y.0) (covers_of m o)) some.3
        ∙ covers_next m some.0 rest some.1 y (split ∙ ap (λ es. es ++ y ∷ rest) some.2 ∙ append_assoc some.0 (some.1 ∷ []) (y ∷ rest))
  ]

  -- the covers of a string without its last bit are the shorter covers of the string
  pub covers_shorter : (m : Entries T') (s : List Bool) → eqb (length s) 0 ≡ false → covers m (take (length s - 1) s) ≡ shorter_covers m s
  covers_shorter m s nz = filter_agrees (λ e. begins e.0 (take (length s - 1) s)) (λ e. begins e.0 s && nat_lt (length e.0) (length s)) (listing m) (λ e _. same_test e.0 (eqb-false (length s) 0 nz))
    where
      same_test : (t : List Bool) → length s ≢ 0 → begins t (take (length s - 1) s) ≡ (begins t s && nat_lt (length t) (length s))
      same_test t nz = same_bool (begins t (take (length s - 1) s)) (begins t s && nat_lt (length t) (length s))
          (λ h.
          let l : length t ≤ length (take (length s - 1) s) = begins-length t (take (length s - 1) s) h in
          let short : length s - 1 ≤ length s = omega arith in
          let k : length (take (length s - 1) s) ≡ length s - 1 = length-take-le (length s - 1) s short in
          let less : length t < length s = omega arith in
          and_from (begins t s) (nat_lt (length t) (length s)) (begins-trans t (take (length s - 1) s) s h (take-begins (length s - 1) s)) (lt-ltb (length t) (length s) less))
          (λ h.
          let b = and_parts (begins t s) (nat_lt (length t) (length s)) h in
          let l : length t < length s = ltb-true (length t) (length s) b.1 in
          let le : length t ≤ length s - 1 = omega arith in
          begins-from-take t (take (length s - 1) s) (length t) (take-take (length t) (length s - 1) s le ∙ begins-take t s b.0))

  -- the empty string has no shorter covers
  pub covers_none : (m : Entries T') (s : List Bool) → eqb (length s) 0 ≡ true → shorter_covers m s ≡ []
  covers_none m s z =
      filter_agrees (λ e. begins e.0 s && nat_lt (length e.0) (length s)) (λ _. false) (listing m) (λ e _. not_below e.0 (eqb-true (length s) 0 z)) ∙ filter_none (listing m)
    where
      not_below : (t : List Bool) → length s ≡ 0 → (begins t s && nat_lt (length t) (length s)) ≡ false
      not_below t z = elim (begins t s && nat_lt (length t) (length s)) as (λ b. (begins t s && nat_lt (length t) (length s)) ≡ b → b ≡ false) [
        | true ↦ λ h. let l : length t < length s = ltb-true (length t) (length s) (and_parts (begins t s) (nat_lt (length t) (length s)) h).1 in absurd (omega arith)
        | false ↦ λ _. refl
      ] refl

  -- the value above a key is the value of its last shorter cover
  pub above_is_last : (m : Entries T') (s : List Bool) → value_above m s ≡ option_map (λ e. e.1) (last_item (shorter_covers m s))
  above_is_last m s = elim (eqb (length s) 0) as (λ b. eqb (length s) 0 ≡ b → cond b None (value_of m (take (length s - 1) s)) ≡ option_map (λ e. e.1) (last_item (shorter_covers m s))) [
    | true ↦ λ z. sym (ap (λ es. option_map (λ e. e.1) (last_item es)) (covers_none m s z))
    | false ↦ λ nz. ap (λ es. option_map (λ e. e.1) (last_item es)) (covers_shorter m s nz)
  ] refl
