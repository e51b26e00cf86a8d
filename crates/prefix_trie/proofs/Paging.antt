-- Reading a listing in pages reads all of it: for `page_laws` and for callers.
use Rattle.prefix_trie.proofs.Prelude.{◌≡◌, ℕ, ◌+◌, ◌-◌, ◌<◌, ◌≤◌, Bool, List, [], ◌∷◌, ◌++◌, Some, length, take, drop, min, get_or, sym, ap, ◌∙◌, arith, suc, append_assoc, append-nil, length-append, len, len-entries, slice_get_within, slice_get-get_or, length-map, length-take, nil_from_length, take_all, take-append-drop, All-head, All-same, drop-cons, take-append_seam, drop_of_length-le, PrefixLaws, Entries, listing, prefix_pairs, All-append_right, listed_fit, resume_laws, PageLaws}
use Rattle.std.specs.List.{slice_get}
use Rattle.std.specs.Option.{unwrap_or}

module _ {X : Type 0} (xs : List X) (x : X) (found : slice_get xs (length xs - 1) ≡ Some x) where
  -- a list is all its items except the last, and then the last
  ends_so : xs ≡ take (length xs - 1) xs ++ x ∷ []
  ends_so =
      let within = slice_get_within xs (length xs - 1) x found in
      let is : get_or xs (length xs - 1) x ≡ x = some_is (sym (slice_get-get_or xs (length xs - 1) x within) ∙ found) in
      let none : drop (suc (length xs - 1)) xs ≡ [] = drop_of_length-le xs {i = suc (length xs - 1)} (omega arith) in
      sym (take-append-drop (length xs - 1) xs) ∙ ap (λ ys. take (length xs - 1) xs ++ ys) (drop-cons xs (length xs - 1) x within ∙ (λ i. is i ∷ none i))
    where
      some_is : {a b : X} → Some a ≡ Some b → a ≡ b
      some_is e = ap (λ o. unwrap_or o x) e

  -- so a longer list that begins with it is those items, the last one, and the rest
  begins_so : (whole rest : List X) → whole ≡ xs ++ rest → whole ≡ take (length xs - 1) xs ++ x ∷ rest
  begins_so whole rest is = is ∙ ap (λ ys. ys ++ rest) ends_so ∙ append_assoc (take (length xs - 1) xs) (x ∷ []) rest

-- a list of which a beginning was read
module _ {X : Type 0} (whole read rest : List X) (begins : whole ≡ read ++ rest) where
  -- reading one item more
  pub read_more : (item : X) (left now : List X) → rest ≡ item ∷ left → now ≡ read ++ item ∷ [] → whole ≡ now ++ left
  read_more item left now steps is =
      begins ∙ ap (λ xs. read ++ xs) steps ∙ sym (append_assoc read (item ∷ []) left) ∙ ap (λ xs. xs ++ left) (sym is)

  -- n items were read, so they are the first n
  pub read_so_far : (n : ℕ) → length read ≡ n → read ≡ take n whole
  read_so_far n many = sym (take-append_seam read rest) ∙ ap (λ k. take k (read ++ rest)) many ∙ ap (take n) (sym begins)

  -- everything was read, and that is at most n items
  pub read_to_end : (n : ℕ) → rest ≡ [] → length read ≤ n → read ≡ take n whole
  read_to_end n none far = sym (take_all n read far) ∙ ap (take n) (sym (begins ∙ ap (λ xs. read ++ xs) none ∙ append-nil read))

module _ {X : Type 0} (whole now : List X) (n : ℕ) (page : now ≡ take n whole) where
  -- what was read in pages is a beginning of the list
  pub page_begins : whole ≡ now ++ drop n whole
  page_begins = sym (take-append-drop n whole) ∙ ap (λ xs. xs ++ drop n whole) (sym page)

-- a map of which a beginning was read
module _ {P T : Type 0} (back : List Bool → P) (m : Entries T) where
  as_many : length (prefix_pairs back (listing m)) ≡ len m
  as_many = length-map (listing m) (λ (e : List Bool × T). (back e.0, e.1)) ∙ sym (len-entries m)

  -- after a page there is less to read
  pub page_goes_on : (read now : List (P × T)) (size : ℕ) → now ≡ take (length read + size) (prefix_pairs back (listing m)) → 0 < size → length read < len m
      → len m - length now < len m - length read
  page_goes_on read now size page some short =
      let many : length now ≡ min (length read + size) (length (prefix_pairs back (listing m))) = ap length page ∙ length-take (length read + size) (prefix_pairs back (listing m)) in
      omega (arith, some, short, many, as_many)

  -- if as many items were read as the map has entries, all were read
  pub all_read : (read rest : List (P × T)) → prefix_pairs back (listing m) ≡ read ++ rest → len m ≤ length read → read ≡ prefix_pairs back (listing m)
  all_read read rest begins far =
      let none : rest ≡ [] = nil_from_length rest (omega (arith, far, as_many, ap length begins, length-append read rest)) in
      sym (begins ∙ ap (λ xs. read ++ xs) none ∙ append-nil read)

module _ {K P : Type 0} {w : ℕ} {IsKey : K → Type 0} {bits : K → List Bool} {key_of : List Bool → K} {repr_of : P → K} {len_of : P → ℕ} {path : P → List Bool} {IsFitting : P → Type 0} {from_parts : K → ℕ → P} {back : List Bool → P} (laws : PrefixLaws w IsKey bits key_of repr_of len_of path IsFitting from_parts back) where
  pub page_laws : (T : Type 0) → PageLaws T w path IsFitting back
  page_laws T = record {
    last_fits = λ m within read rest last is found.
        let front = take (length read - 1) read in
        let listed = All-same (λ e. IsFitting e.0) (front ++ last ∷ rest) (prefix_pairs back (listing m)) (sym (begins_so read last found (prefix_pairs back (listing m)) rest is)) (listed_fit laws m within) in
        All-head (λ e. IsFitting e.0) last rest (All-append_right (λ e. IsFitting e.0) front (last ∷ rest) listed);
    behind_last = λ m within read rest last is found.
        (resume_laws laws T).after_iter m within (take (length read - 1) read) last rest (begins_so read last found (prefix_pairs back (listing m)) rest is);
    as_many = as_many back;
  }
