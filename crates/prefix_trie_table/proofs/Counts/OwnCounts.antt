-- The numbers of children and values that contracts see of a node are the numbers of bits set in its bitmaps.
use Rattle.prefix_trie_table.proofs.Prelude.{◌≡◌, ℕ, zero, suc, ◌+◌, ◌-◌, ◌*◌, ◌/◌, ◌%◌, ◌<◌, ◌≤◌, inl, inr, Bool, true, false, cond, ◌&&◌, nat_lt, ◌==◌, T, List, [], ◌∷◌, ◌++◌, length, length-append, length-drop, drop, map, filter, Option, None, Some, is_some, refl, sym, ap, ap₂, ◌∙◌, subst, arith, eqb-true, eq-eqb, ltb-true, ◌^◌, drop_at, false≢true, cases_Bool, cases_lt, cases_eq, false_from_ne_true, FinMap, empty, get, contains_key, keys, len, entries, entries_sorted, retain_keys, find, is_sorted, get-entries, len-empty, len-insert, len-remove, get-retain_keys, empty_of_len, begins, number, digits, digits-number, length-digits, number-lt, number-bits, same_bool, begins-append, begins-rest, listing_cmp, listing_total, listing_same, same_string, value_bit, child_count, own_entries, Entries, Nodes, has_node, is_node_depth, same_members, same_string-is, is-same_string, has-empty, has-inserted, get-without_entry, and-first, and-second, and-join, or-cases, or-left, or-right, entries-retained, sorted-tail, sorted-head, each-behind, not_itself, value_bit-injective, Node, has_bit, rank, chunks_of, bit_of, Store, NodesHold, CellsHold, has_child, has_value}
use Rattle.std.proofs.lemmas.Bool.{lt-ltb}
use Rattle.std.specs.FinMap.{insert, remove}
use Rattle.prefix_trie_table.proofs.Strings.SmallFacts.{five_times}
use Rattle.prefix_trie_table.proofs.Strings.Bits.{has_bit-below}
use Rattle.prefix_trie_table.proofs.Strings.BitLists.{rank-zero, rank-more}
use Rattle.prefix_trie_table.proofs.Strings.ChunkPlaces.{below_node, step_below, string_at}

-- ---- lists of entries and sets with the same keys

none-find : (n : Nodes) → ((q : List Bool) → has_node n q ≡ false) → len n ≡ 0
none-find n none = ap (λ m. len m) (same_members n empty (λ q. none q ∙ sym (has-empty q))) ∙ len-empty listing_cmp (Unit {0})

some-len : (n : Nodes) (q : List Bool) → has_node n q ≡ true → 0 < len n
some-len n q has = elim (cases_eq (len n) 0) as (λ _. 0 < len n) [
  | inl e ↦ absurd (false≢true (sym (has-empty q) ∙ ap (λ m. has_node m q) (sym (empty_of_len n e)) ∙ has))
  | inr ne ↦ omega arith
]

module _ {X : Type 0} where
  -- a sorted list of entries has as many items as a set with the same keys
  same-number : (es : List (List Bool × X)) (n : Nodes) → T (is_sorted listing_cmp es) → ((q : List Bool) → has_node n q ≡ is_some (find listing_cmp q es)) →
      len n ≡ length es
  same-number [] n sorted same = none-find n same
  same-number (x ∷ es) n sorted same =
      let here : has_node n x.0 ≡ true = same x.0 ∙ ap (λ b. is_some (cond b (Some x.1) (find listing_cmp x.0 es))) (is-same_string x.0 x.0 refl) in
      let rest : len (remove n x.0) ≡ length es = same-number es (remove n x.0) (sorted-tail x es sorted) (λ q. ap is_some (get-without_entry n x.0 q) ∙ other q (same_string q x.0) refl) in
      let gone : len (remove n x.0) ≡ len n - 1 = len-remove listing_total n x.0 ∙ ap (λ b. cond b (len n - 1) (len n)) here in
      let some : 0 < len n = some-len n x.0 here in
      omega (arith, rest, gone, some)
    where
      not_first : (q : List Bool) → same_string q x.0 ≡ true → (o : Option X) → find listing_cmp q es ≡ o → is_some o ≡ false
      not_first q same None e = refl
      not_first q same (Some v) e = absurd (not_itself x.0 q (each-behind x.0 es q v (sorted-head x es sorted) e) (sym (same_string-is q x.0 same)))

      other : (q : List Bool) (b : Bool) → same_string q x.0 ≡ b → is_some (cond (same_string q x.0) None (get n q)) ≡ is_some (find listing_cmp q es)
      other q true e = ap (λ b. is_some (cond b None (get n q))) e ∙ sym (not_first q e (find listing_cmp q es) refl)
      other q false e = ap (λ b. is_some (cond b None (get n q))) e ∙ same q ∙ ap (λ b. is_some (cond b (Some x.1) (find listing_cmp q es))) e

  get-kept : (m : FinMap listing_cmp X) (test : List Bool → Bool) (q : List Bool) → get (retain_keys m test) q ≡ cond (test q) (get m q) None
  get-kept m test q = get-retain_keys m test q (λ x e. ap test (sym (listing_same q x e)))

  filter-keys : (test : List Bool → Bool) (es : List (List Bool × X)) → length (filter test (map (λ e. e.0) es)) ≡ length (filter (λ e. test e.0) es)
  filter-keys test [] = refl
  filter-keys test (e ∷ es) =
      elim (test e.0) as (λ b. length (cond b (e.0 ∷ filter test (map (λ x. x.0) es)) (filter test (map (λ x. x.0) es))) ≡ length (cond b (e ∷ filter (λ x. test x.0) es) (filter (λ x. test x.0) es))) [
        | true ↦ ap suc (filter-keys test es)
        | false ↦ filter-keys test es
      ]

-- the items at the set bits of a bitmap, each different
module _ (f : ℕ → List Bool) (bitmap : ℕ) (apart : (i j : ℕ) → has_bit bitmap i ≡ true → has_bit bitmap j ≡ true → f i ≡ f j → i ≡ j) where
  abbrev at_bits : ℕ → Nodes
  at_bits zero = empty
  at_bits (suc n) = cond (has_bit bitmap n) (insert (at_bits n) (f n) tt) (at_bits n)

  at_bits-from : (n : ℕ) (q : List Bool) → has_node (at_bits n) q ≡ true → (i : ℕ) × (i < n) × (has_bit bitmap i ≡ true) × (q ≡ f i)
  at_bits-from zero q h = absurd (false≢true (sym (has-empty q) ∙ h))
  at_bits-from (suc n) q h = elim (cases_Bool (has_bit bitmap n)) as (λ _. (i : ℕ) × (i < suc n) × (has_bit bitmap i ≡ true) × (q ≡ f i)) [
    | inl set ↦ elim (or-cases (same_string q (f n)) (has_node (at_bits n) q) (sym (has-inserted (at_bits n) (f n) tt q)
        ∙ ap (λ b. has_node (cond b (insert (at_bits n) (f n) tt) (at_bits n)) q) (sym set) ∙ h)) [
          | inl here ↦ (n, omega arith, set, same_string-is q (f n) here)
          | inr there ↦ let r = at_bits-from n q there in (r.0, (let less = r.1 in omega arith), r.2, r.3)
        ]
    | inr clear ↦
        let r = at_bits-from n q (ap (λ b. has_node (cond b (insert (at_bits n) (f n) tt) (at_bits n)) q) (sym clear) ∙ h) in
        (r.0, (let less = r.1 in omega arith), r.2, r.3)
  ]

  at_bits-into : (n i : ℕ) → i < n → has_bit bitmap i ≡ true → has_node (at_bits n) (f i) ≡ true
  at_bits-into zero i less set = absurd (omega arith)
  at_bits-into (suc n) i less set = elim (cases_eq i n) as (λ _. has_node (at_bits (suc n)) (f i) ≡ true) [
    | inl e ↦
        ap (λ b. has_node (cond b (insert (at_bits n) (f n) tt) (at_bits n)) (f i)) (ap (has_bit bitmap) (sym e) ∙ set)
        ∙ has-inserted (at_bits n) (f n) tt (f i) ∙ or-left (same_string (f i) (f n)) (has_node (at_bits n) (f i)) (is-same_string (f i) (f n) (ap f e))
    | inr ne ↦
        let before : has_node (at_bits n) (f i) ≡ true = at_bits-into n i (omega arith) set in
        elim (has_bit bitmap n) as (λ b. has_node (cond b (insert (at_bits n) (f n) tt) (at_bits n)) (f i) ≡ true) [
          | true ↦ has-inserted (at_bits n) (f n) tt (f i) ∙ or-right (same_string (f i) (f n)) (has_node (at_bits n) (f i)) before
          | false ↦ before
        ]
  ]

  len-at_bits : (n : ℕ) → len (at_bits n) ≡ rank bitmap n
  len-at_bits zero = len-empty listing_cmp (Unit {0}) ∙ sym (rank-zero bitmap)
  len-at_bits (suc n) =
      let up : rank bitmap (suc n) ≡ rank bitmap n + cond (has_bit bitmap n) 1 0 = ap (rank bitmap) (let e : suc n ≡ n + 1 = omega arith in e) ∙ rank-more bitmap n in
      let ih : len (at_bits n) ≡ rank bitmap n = len-at_bits n in
      more (has_bit bitmap n) refl ih ∙ sym up
    where
      more : (b : Bool) → has_bit bitmap n ≡ b → len (at_bits n) ≡ rank bitmap n → len (cond b (insert (at_bits n) (f n) tt) (at_bits n)) ≡ rank bitmap n + cond b 1 0
      more true set ih =
          let new : has_node (at_bits n) (f n) ≡ false = false_from_ne_true (has_node (at_bits n) (f n)) (λ h.
          let r = at_bits-from n (f n) h in
          let e : n ≡ r.0 = apart n r.0 set r.2 r.3 in
          let less = r.1 in absurd (omega arith)) in
          len-insert listing_total (at_bits n) (f n) tt ∙ ap (λ b. cond b (len (at_bits n)) (len (at_bits n) + 1)) new ∙ ap (λ k. k + 1) ih
      more false clear ih = omega (arith, ih)

  -- if the keys that pass a test are the items at the set bits, there are as many as bits
  counted : {X : Type 0} (m : FinMap listing_cmp X) (test : List Bool → Bool)
      → ((i : ℕ) → has_bit bitmap i ≡ true → (contains_key m (f i) ≡ true) × (test (f i) ≡ true))
      → ((s : List Bool) → contains_key m s ≡ true → test s ≡ true → (i : ℕ) × (has_bit bitmap i ≡ true) × (s ≡ f i))
      → length (filter test (keys m)) ≡ rank bitmap 32
  counted m test into from =
      filter-keys test (entries m) ∙ ap (λ es. length es) (sym (entries-retained m test))
      ∙ sym (same-number (entries (retain_keys m test)) (at_bits 32) (entries_sorted (retain_keys m test))
      (λ q. same_bool _ _ (λ h.
      let r = at_bits-from 32 q h in
      let has = into r.0 r.2 in
      ap is_some (sym (get-entries (retain_keys m test) q)) ∙ ap is_some (get-kept m test q)
      ∙ ap (λ x. is_some (cond (test x) (get m x) None)) r.3 ∙ ap (λ b. is_some (cond b (get m (f r.0)) None)) has.1 ∙ has.0)
      (λ h.
      let kept : is_some (cond (test q) (get m q) None) ≡ true = ap is_some (sym (get-kept m test q)) ∙ ap is_some (get-entries (retain_keys m test) q) ∙ h in
      let both = passed (test q) (get m q) kept in
      let r = from q both.1 both.0 in
      ap (has_node (at_bits 32)) r.2 ∙ at_bits-into 32 r.0 (has_bit-below bitmap r.0 r.1) r.1)))
      ∙ len-at_bits 32
    where
      passed : {Y : Type 0} (b : Bool) (o : Option Y) → is_some (cond b o None) ≡ true → (b ≡ true) × (is_some o ≡ true)
      passed true o e = (refl, e)
      passed false o e = absurd (false≢true e)

five_more : (l k : ℕ) → k ≡ 5 * (l / 5) → l ≡ k → (l + 5) % 5 ≡ 0
five_more l k e f = omega (arith, e, f)

cancel : (p s t : List Bool) → p ++ s ≡ p ++ t → s ≡ t
cancel p s t e = sym (drop_at p s (length p) refl) ∙ ap (drop (length p)) e ∙ drop_at p t (length p) refl

-- a string that begins with p is p and the rest
behind : (p s : List Bool) (n : ℕ) → begins p s ≡ true → length s ≡ length p + n → (s ≡ p ++ drop (length p) s) × (length (drop (length p) s) ≡ n)
behind p s n b l = (begins-rest p s b, (let e = length-drop (length p) s in omega arith))

-- each value bit is that of a string
named : (b : ℕ) → (r : List Bool) × (b < 31 → (length r ≤ 4) × (value_bit r ≡ b))
named b = elim (cases_lt b 31) as (λ _. (r : List Bool) × (b < 31 → (length r ≤ 4) × (value_bit r ≡ b))) [
  | inl small ↦ let r = string_at b small in (r.0, λ _. (r.1, r.2))
  | inr big ↦ ([], λ small. absurd (omega arith))
]

-- p is the string of a node in a tree
module _ (sizes : List ℕ) (nodes : List ℕ → Option Node) (paths : List (List ℕ)) (v : Store Node) (hold : NodesHold sizes nodes paths v)
    (p : List Bool) (depth : is_node_depth p ≡ true) where
  long : length p ≡ 5 * (length p / 5)
  long = five_times (length p) (length p / 5) (eqb-true (length p % 5) 0 depth) refl

  module _ (n : Nodes) (are : (s : List Bool) → has_node n s ≡ (is_node_depth s && is_some (nodes (chunks_of s)))) where
    -- p has as many children as bits are set in its node's bitmap of children
    pub children_counted : (bitmap : ℕ) → ((c : ℕ) → has_child (nodes (chunks_of p)) c ≡ has_bit bitmap c) → child_count n p ≡ rank bitmap 32
    children_counted bitmap bits_are =
        counted (λ c. p ++ digits 5 c) bitmap apart n (λ s. begins p s && (length s == length p + 5)) into from
      where
        apart : (i j : ℕ) → has_bit bitmap i ≡ true → has_bit bitmap j ≡ true → p ++ digits 5 i ≡ p ++ digits 5 j → i ≡ j
        apart i j a b e =
            sym (number-bits 5 i (has_bit-below bitmap i a)) ∙ ap number (cancel p (digits 5 i) (digits 5 j) e)
            ∙ number-bits 5 j (has_bit-below bitmap j b)

        into : (c : ℕ) → has_bit bitmap c ≡ true →
            (has_node n (p ++ digits 5 c) ≡ true) × ((begins p (p ++ digits 5 c) && (length (p ++ digits 5 c) == length p + 5)) ≡ true)
        into c set =
            let length_is : length (p ++ digits 5 c) ≡ length p + 5 = length-append p (digits 5 c) ∙ ap (λ k. length p + k) (length-digits 5 c) in
            let path : chunks_of (p ++ digits 5 c) ≡ chunks_of p ++ c ∷ [] = step_below (length p / 5) p c long (has_bit-below bitmap c set) in (
              are (p ++ digits 5 c) ∙ and-join (is_node_depth (p ++ digits 5 c)) (is_some (nodes (chunks_of (p ++ digits 5 c))))
                  (eq-eqb (length (p ++ digits 5 c) % 5) 0 (ap (λ k. k % 5) length_is ∙ five_more (length p) (5 * (length p / 5)) refl long))
                  (ap (λ q. is_some (nodes q)) path ∙ hold.linked (chunks_of p) c ∙ bits_are c ∙ set),
              and-join (begins p (p ++ digits 5 c)) (length (p ++ digits 5 c) == length p + 5) (begins-append p (digits 5 c))
                  (eq-eqb (length (p ++ digits 5 c)) (length p + 5) length_is),
            )

        from : (s : List Bool) → has_node n s ≡ true → (begins p s && (length s == length p + 5)) ≡ true → (c : ℕ) × (has_bit bitmap c ≡ true) × (s ≡ p ++ digits 5 c)
        from s has test =
            let r = behind p s 5 (and-first (begins p s) (length s == length p + 5) test)
            (eqb-true (length s) (length p + 5) (and-second (begins p s) (length s == length p + 5) test)) in
            let c : ℕ = number (drop (length p) s) in
            let small : number (drop (length p) s) < 32 = subst (λ k. number (drop (length p) s) < 2 ^ k) r.1 (number-lt (drop (length p) s)) in
            let same : s ≡ p ++ digits 5 (number (drop (length p) s)) = r.0 ∙ ap (λ t. p ++ t) (sym (digits-number (drop (length p) s)) ∙ ap (λ k. digits k (number (drop (length p) s))) r.1) in
            let path : chunks_of s ≡ chunks_of p ++ number (drop (length p) s) ∷ [] = ap chunks_of same ∙ step_below (length p / 5) p c long small in (
              c,
              sym (bits_are c) ∙ sym (hold.linked (chunks_of p) c) ∙ ap (λ q. is_some (nodes q)) (sym path)
                  ∙ and-second (is_node_depth s) (is_some (nodes (chunks_of s))) (sym (are s) ∙ has),
              same,
            )

  module _ {T : Type 0} (values : List ℕ → ℕ → Option T) (w : Store (Option T)) (of : List ℕ) (cells : CellsHold of nodes values paths w) (m : Entries T)
      (are : (s : List Bool) → get m s ≡ values (chunks_of s) (bit_of s)) where
    -- p has as many values as bits are set in its node's bitmap of values
    pub values_counted : (bitmap : ℕ) → ((b : ℕ) → has_value (nodes (chunks_of p)) b ≡ has_bit bitmap b) → own_entries m p ≡ rank bitmap 32
    values_counted bitmap bits_are =
        counted (λ b. p ++ (named b).0) bitmap apart m (λ s. begins p s && nat_lt (length s) (length p + 5)) into from
      where
        small : (b : ℕ) → has_bit bitmap b ≡ true → b < 31
        small b set = cells.within (chunks_of p) b (cells.set_where (chunks_of p) b ∙ bits_are b ∙ set)

        apart : (i j : ℕ) → has_bit bitmap i ≡ true → has_bit bitmap j ≡ true → p ++ (named i).0 ≡ p ++ (named j).0 → i ≡ j
        apart i j a b e =
            sym ((named i).1 (small i a)).1 ∙ ap value_bit (cancel p (named i).0 (named j).0 e) ∙ ((named j).1 (small j b)).1

        into : (b : ℕ) → has_bit bitmap b ≡ true →
            (contains_key m (p ++ (named b).0) ≡ true) × ((begins p (p ++ (named b).0) && nat_lt (length (p ++ (named b).0)) (length p + 5)) ≡ true)
        into b set =
            let r = (named b).1 (small b set) in
            let at = below_node (length p / 5) p (named b).0 long r.0 in (
              ap is_some (are (p ++ (named b).0)) ∙ ap₂ (λ q i. is_some (values q i)) at.0 (ap value_bit at.1 ∙ r.1)
                  ∙ cells.set_where (chunks_of p) b ∙ bits_are b ∙ set,
              and-join (begins p (p ++ (named b).0)) (nat_lt (length (p ++ (named b).0)) (length p + 5)) (begins-append p (named b).0)
                  (lt-ltb (length (p ++ (named b).0)) (length p + 5) (let l = r.0 in omega (arith, length-append p (named b).0))),
            )

        from : (s : List Bool) → contains_key m s ≡ true → (begins p s && nat_lt (length s) (length p + 5)) ≡ true →
            (b : ℕ) × (has_bit bitmap b ≡ true) × (s ≡ p ++ (named b).0)
        from s has test =
            let short : length s < length p + 5 = ltb-true (length s) (length p + 5) (and-second (begins p s) (nat_lt (length s) (length p + 5)) test) in
            let rest : s ≡ p ++ drop (length p) s = begins-rest p s (and-first (begins p s) (nat_lt (length s) (length p + 5)) test) in
            let few : length (drop (length p) s) ≤ 4 = omega (arith, length-drop (length p) s) in
            let at = below_node (length p / 5) p (drop (length p) s) long few in
            let b : ℕ = value_bit (drop (length p) s) in
            let set : has_bit bitmap (value_bit (drop (length p) s)) ≡ true = sym (bits_are (value_bit (drop (length p) s))) ∙ sym (cells.set_where (chunks_of p) (value_bit (drop (length p) s)))
            ∙ ap₂ (λ q i. is_some (values q i)) (sym (ap chunks_of rest ∙ at.0)) (sym (ap bit_of rest ∙ ap value_bit at.1))
            ∙ ap is_some (sym (are s)) ∙ has in (
              b,
              set,
              rest ∙ ap (λ t. p ++ t) (value_bit-injective (drop (length p) s) (named b).0 (sym ((named b).1 (small b set)).1)),
            )
