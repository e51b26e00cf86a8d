-- The keys of either of two maps, as a map: its listing is the two listings merged, and its values are those of both:
-- for `union`.
use Rattle.std.proofs.Common.{◌≡◌, ◌∙◌, Bool, true, false, cond, List, [], ◌∷◌, Option, Some, None, Ordering, Less, Equal, Greater, ap, sym, subst, refl, T}
use Rattle.std.specs.Ordering.{is_lt}
use Rattle.std.specs.FinMap.{entries_sorted, entries-from_sorted, get, get-entries, get-from_sorted}
use Rattle.std.specs.FinMap.Entries.{below_all, find, is_sorted}
use Rattle.prefix_trie_bits.specs.Model.Order.{listing_cmp, same_string}
use Rattle.prefix_trie_bits.specs.Order.{listing_same}
use Rattle.prefix_trie.specs.Terms.{Entries, listing}
use Rattle.prefix_trie_ops.specs.Merging.{merged, sides, union_of}
use Rattle.prefix_trie_ops.specs.declared.map.sides.Side.{Side}
use Rattle.prefix_trie_ops.specs.declared.map.sides.Side.TheVariants.{Left, Right, Both}
use Rattle.prefix_trie_ops.proofs.Sorted.{find_before, less_before, same_is, t_both, t_first, t_second, turned}

module _ {X Y : Type 0} where
  -- two lists of entries, merged into one
  abbrev both : List (List Bool × X) → List (List Bool × Y) → List (List Bool × Side X Y)
  both xs ys = merged xs ys

  -- two merged lists that are not empty, by the order of their first keys
  abbrev by_heads : Ordering → List Bool × X → List (List Bool × X) → List Bool × Y → List (List Bool × Y) → List (List Bool × Side X Y)
  by_heads o x xs y ys = elim o [
    | Less ↦ (x.0, Left x.1) ∷ both xs (y ∷ ys)
    | Equal ↦ (x.0, Both x.1 y.1) ∷ both xs ys
    | Greater ↦ (y.0, Right y.1) ∷ both (x ∷ xs) ys
  ]

  below_both : (q : List Bool) (xs : List (List Bool × X)) (ys : List (List Bool × Y)) → T (below_all listing_cmp q xs) → T (below_all listing_cmp q ys) → T (below_all listing_cmp q (both xs ys))
  below_both q [] [] h k = tt
  below_both q [] (y ∷ ys) h k =
      t_both (is_lt (listing_cmp q y.0)) (below_all listing_cmp q (both [] ys)) (t_first (is_lt (listing_cmp q y.0)) (below_all listing_cmp q ys) k) (below_both q [] ys h (t_second (is_lt (listing_cmp q y.0)) (below_all listing_cmp q ys) k))
  below_both q (x ∷ xs) [] h k =
      t_both (is_lt (listing_cmp q x.0)) (below_all listing_cmp q (both xs [])) (t_first (is_lt (listing_cmp q x.0)) (below_all listing_cmp q xs) h) (below_both q xs [] (t_second (is_lt (listing_cmp q x.0)) (below_all listing_cmp q xs) h) k)
  below_both q (x ∷ xs) (y ∷ ys) h k =
      let hx = t_first (is_lt (listing_cmp q x.0)) (below_all listing_cmp q xs) h in
      let hs = t_second (is_lt (listing_cmp q x.0)) (below_all listing_cmp q xs) h in
      let ky = t_first (is_lt (listing_cmp q y.0)) (below_all listing_cmp q ys) k in
      let ks = t_second (is_lt (listing_cmp q y.0)) (below_all listing_cmp q ys) k in
      elim (listing_cmp x.0 y.0) as (λ o. T (below_all listing_cmp q (by_heads o x xs y ys))) [
        | Less ↦ t_both (is_lt (listing_cmp q x.0)) (below_all listing_cmp q (both xs (y ∷ ys))) hx (below_both q xs (y ∷ ys) hs k)
        | Equal ↦ t_both (is_lt (listing_cmp q x.0)) (below_all listing_cmp q (both xs ys)) hx (below_both q xs ys hs ks)
        | Greater ↦ t_both (is_lt (listing_cmp q y.0)) (below_all listing_cmp q (both (x ∷ xs) ys)) ky (below_both q (x ∷ xs) ys h ks)
      ]

  sorted_both : (xs : List (List Bool × X)) (ys : List (List Bool × Y)) → T (is_sorted listing_cmp xs) → T (is_sorted listing_cmp ys) → T (is_sorted listing_cmp (both xs ys))
  sorted_both [] [] h k = tt
  sorted_both [] (y ∷ ys) h k =
      t_both (below_all listing_cmp y.0 (both [] ys)) (is_sorted listing_cmp (both [] ys)) (below_both y.0 [] ys tt (t_first (below_all listing_cmp y.0 ys) (is_sorted listing_cmp ys) k)) (sorted_both [] ys tt (t_second (below_all listing_cmp y.0 ys) (is_sorted listing_cmp ys) k))
  sorted_both (x ∷ xs) [] h k =
      t_both (below_all listing_cmp x.0 (both xs [])) (is_sorted listing_cmp (both xs [])) (below_both x.0 xs [] (t_first (below_all listing_cmp x.0 xs) (is_sorted listing_cmp xs) h) tt) (sorted_both xs [] (t_second (below_all listing_cmp x.0 xs) (is_sorted listing_cmp xs) h) tt)
  sorted_both (x ∷ xs) (y ∷ ys) h k =
      let hx = t_first (below_all listing_cmp x.0 xs) (is_sorted listing_cmp xs) h in
      let hs = t_second (below_all listing_cmp x.0 xs) (is_sorted listing_cmp xs) h in
      let ky = t_first (below_all listing_cmp y.0 ys) (is_sorted listing_cmp ys) k in
      let ks = t_second (below_all listing_cmp y.0 ys) (is_sorted listing_cmp ys) k in
      elim (listing_cmp x.0 y.0) as (λ o. listing_cmp x.0 y.0 ≡ o → T (is_sorted listing_cmp (by_heads o x xs y ys))) [
        | Less ↦ λ o. t_both (below_all listing_cmp x.0 (both xs (y ∷ ys))) (is_sorted listing_cmp (both xs (y ∷ ys))) (below_both x.0 xs (y ∷ ys) hx (less_before x.0 y ys o ky)) (sorted_both xs (y ∷ ys) hs k)
        | Equal ↦ λ o.
            let same : y.0 ≡ x.0 = sym (listing_same x.0 y.0 o) in
            t_both (below_all listing_cmp x.0 (both xs ys)) (is_sorted listing_cmp (both xs ys)) (below_both x.0 xs ys hx (subst (λ s. T (below_all listing_cmp s ys)) same ky)) (sorted_both xs ys hs ks)
        | Greater ↦ λ o. t_both (below_all listing_cmp y.0 (both (x ∷ xs) ys)) (is_sorted listing_cmp (both (x ∷ xs) ys)) (below_both y.0 (x ∷ xs) ys (less_before y.0 x xs (turned x.0 y.0 o) hx) ky) (sorted_both (x ∷ xs) ys h ks)
      ] refl

  no_left : (w : Option Y) (b : Bool) (y : Y) → cond b (Some (Right y)) (sides {T = X} None w) ≡ sides None (cond b (Some y) w)
  no_left w true y = refl
  no_left w false y = refl

  no_right : (v : Option X) (b : Bool) (x : X) → cond b (Some (Left x)) (sides {U = Y} v None) ≡ sides (cond b (Some x) v) None
  no_right v true x = refl
  no_right v false x = refl

  find_both : (q : List Bool) (xs : List (List Bool × X)) (ys : List (List Bool × Y)) → T (is_sorted listing_cmp xs) → T (is_sorted listing_cmp ys)
      → find listing_cmp q (both xs ys) ≡ sides (find listing_cmp q xs) (find listing_cmp q ys)
  find_both q [] [] h k = refl
  find_both q [] (y ∷ ys) h k =
      ap (cond (same_string q y.0) (Some (Right y.1))) (find_both q [] ys tt (t_second (below_all listing_cmp y.0 ys) (is_sorted listing_cmp ys) k)) ∙ no_left (find listing_cmp q ys) (same_string q y.0) y.1
  find_both q (x ∷ xs) [] h k =
      ap (cond (same_string q x.0) (Some (Left x.1))) (find_both q xs [] (t_second (below_all listing_cmp x.0 xs) (is_sorted listing_cmp xs) h) tt) ∙ no_right (find listing_cmp q xs) (same_string q x.0) x.1
  find_both q (x ∷ xs) (y ∷ ys) h k =
      let hx = t_first (below_all listing_cmp x.0 xs) (is_sorted listing_cmp xs) h in
      let hs = t_second (below_all listing_cmp x.0 xs) (is_sorted listing_cmp xs) h in
      let ky = t_first (below_all listing_cmp y.0 ys) (is_sorted listing_cmp ys) k in
      let ks = t_second (below_all listing_cmp y.0 ys) (is_sorted listing_cmp ys) k in
      elim (listing_cmp x.0 y.0) as (λ o. listing_cmp x.0 y.0 ≡ o → find listing_cmp q (by_heads o x xs y ys) ≡ sides (find listing_cmp q (x ∷ xs)) (find listing_cmp q (y ∷ ys))) [
        | Less ↦ λ o. left_first (find_both q xs (y ∷ ys) hs k) ky o
        | Equal ↦ λ o. both_first (find_both q xs ys hs ks) o
        | Greater ↦ λ o. right_first (find_both q (x ∷ xs) ys h ks) hx o
      ] refl
    where
      left_first : find listing_cmp q (both xs (y ∷ ys)) ≡ sides (find listing_cmp q xs) (find listing_cmp q (y ∷ ys)) → T (below_all listing_cmp y.0 ys) → listing_cmp x.0 y.0 ≡ Less
          → find listing_cmp q ((x.0, Left x.1) ∷ both xs (y ∷ ys)) ≡ sides (find listing_cmp q (x ∷ xs)) (find listing_cmp q (y ∷ ys))
      left_first rest ky o = elim (same_string q x.0) as (λ b. same_string q x.0 ≡ b → cond b (Some (Left x.1)) (find listing_cmp q (both xs (y ∷ ys))) ≡ sides (cond b (Some x.1) (find listing_cmp q xs)) (find listing_cmp q (y ∷ ys))) [
        | true ↦ λ s. sym (ap (sides (Some x.1)) (ap (λ t. find listing_cmp t (y ∷ ys)) (same_is q x.0 s) ∙ find_before x.0 (y ∷ ys) (less_before x.0 y ys o ky)))
        | false ↦ λ s. rest
      ] refl

      both_first : find listing_cmp q (both xs ys) ≡ sides (find listing_cmp q xs) (find listing_cmp q ys) → listing_cmp x.0 y.0 ≡ Equal
          → find listing_cmp q ((x.0, Both x.1 y.1) ∷ both xs ys) ≡ sides (find listing_cmp q (x ∷ xs)) (find listing_cmp q (y ∷ ys))
      both_first rest o =
          ap (cond (same_string q x.0) (Some (Both x.1 y.1))) rest
          ∙ (elim (same_string q x.0) as (λ b. cond b (Some (Both x.1 y.1)) (sides (find listing_cmp q xs) (find listing_cmp q ys)) ≡ sides (cond b (Some x.1) (find listing_cmp q xs)) (cond b (Some y.1) (find listing_cmp q ys))) [ true ↦ refl | false ↦ refl ])
          ∙ ap (λ t. sides (find listing_cmp q (x ∷ xs)) (cond (same_string q t) (Some y.1) (find listing_cmp q ys))) (listing_same x.0 y.0 o)

      right_first : find listing_cmp q (both (x ∷ xs) ys) ≡ sides (find listing_cmp q (x ∷ xs)) (find listing_cmp q ys) → T (below_all listing_cmp x.0 xs) → listing_cmp x.0 y.0 ≡ Greater
          → find listing_cmp q ((y.0, Right y.1) ∷ both (x ∷ xs) ys) ≡ sides (find listing_cmp q (x ∷ xs)) (find listing_cmp q (y ∷ ys))
      right_first rest hx o = elim (same_string q y.0) as (λ b. same_string q y.0 ≡ b → cond b (Some (Right y.1)) (find listing_cmp q (both (x ∷ xs) ys)) ≡ sides (find listing_cmp q (x ∷ xs)) (cond b (Some y.1) (find listing_cmp q ys))) [
        | true ↦ λ s. sym (ap (λ v. sides v (Some y.1)) (ap (λ t. find listing_cmp t (x ∷ xs)) (same_is q y.0 s) ∙ find_before y.0 (x ∷ xs) (less_before y.0 x xs (turned x.0 y.0 o) hx)))
        | false ↦ λ s. rest
      ] refl

  pub union_listing : (m : Entries X) (n : Entries Y) → listing (union_of m n) ≡ both (listing m) (listing n)
  unfolding union_of
  union_listing m n = entries-from_sorted listing_cmp (both (listing m) (listing n)) (sorted_both (listing m) (listing n) (entries_sorted m) (entries_sorted n))

  pub get_union : (m : Entries X) (n : Entries Y) (q : List Bool) → get (union_of m n) q ≡ sides (get m q) (get n q)
  unfolding union_of
  get_union m n q =
      get-from_sorted listing_cmp (both (listing m) (listing n)) q (sorted_both (listing m) (listing n) (entries_sorted m) (entries_sorted n))
      ∙ find_both q (listing m) (listing n) (entries_sorted m) (entries_sorted n)
      ∙ ap (λ v. sides v (find listing_cmp q (listing n))) (sym (get-entries m q)) ∙ ap (sides (get m q)) (sym (get-entries n q))
