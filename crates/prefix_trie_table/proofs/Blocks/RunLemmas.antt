-- Runs of consecutive items in a list: writing one run leaves each run that is apart from it.
use Rattle.prefix_trie_table.proofs.Prelude.{set, ◌≡◌, ◌≢◌, ℕ, zero, suc, ◌+◌, ◌-◌, ◌<◌, ◌≤◌, ◌⊎◌, inl, inr, ⊎_elim, List, [], ◌∷◌, ◌++◌, length, get_or, take, drop, insert, remove, swap, refl, sym, ap, ◌∙◌, subst, arith, append_assoc, length-append, length-take, length-drop, take-append-drop, drop-drop, replicate, take_at, drop_at, take-append-le, drop-append-le, set-append_left, set-append_right, drop-set-lt, get_or-take, get_or-drop, ext_get_or, length-replicate, get_or-set_other, insert-append_left, insert-append_right, remove-append_left, remove-append_right, length-insert, length-remove, length-swap, Swapped, swapped_from_swap, get_or-insert_below, get_or-insert_at, get_or-insert_above, cases_lt, cases_eq, drop-append-drop, run, put_run, swap_runs, get_or-replicate}
use Rattle.std.proofs.lemmas.List.{length-take-le, length-set, take_all, get_or-set_same}
use Rattle.std.proofs.lemmas.List.Edits.{swap_is}

-- the m places from a on and the n places from b on have none in common
abbrev pub Apart : ℕ → ℕ → ℕ → ℕ → Type 0
Apart a m b n = b < a + m → b + n ≤ a

-- a place is in a run or outside it
within : (a n k : ℕ) → ((a ≤ k) × (k < a + n)) ⊎ (k < a + n → k < a)
within a n k = elim (cases_lt k a) as (λ _. ((a ≤ k) × (k < a + n)) ⊎ (k < a + n → k < a)) [
  | inl h ↦ inr (λ _. h)
  | inr h ↦ ⊎_elim (λ (q : k < a + n). inl (h, q)) (λ (q : a + n ≤ k). inr (λ p. absurd (omega arith))) (cases_lt k (a + n))
]

module _ {X : Type 0} where
  pub length-run : (xs : List X) (a n : ℕ) → a + n ≤ length xs → length (run xs a n) ≡ n
  length-run xs a n inside = length-take-le n (drop a xs) (omega (arith, length-drop a xs))

  pub length-put_run : (xs : List X) (a : ℕ) (ys : List X) → a + length ys ≤ length xs → length (put_run xs a ys) ≡ length xs
  length-put_run xs a ys inside = omega (arith, length-append (take a xs) (ys ++ drop (a + length ys) xs), length-append ys (drop (a + length ys) xs), length-take a xs, length-drop (a + length ys) xs)

  -- a run within the first of two appended lists is a run of that list
  pub run-append_left : (xs ys : List X) (a n : ℕ) → a + n ≤ length xs → run (xs ++ ys) a n ≡ run xs a n
  run-append_left xs ys a n inside = rw (drop-append-le a xs ys (omega arith)) (take-append-le n (drop a xs) ys (omega (arith, length-drop a xs)))

  pub run-append_right : (xs ys : List X) (n : ℕ) → n ≡ length ys → run (xs ++ ys) (length xs) n ≡ ys
  run-append_right xs ys n e = rw (drop_at xs ys (length xs) refl) (ap (λ m. take m ys) e ∙ take_all (length ys) ys (omega arith))

  -- a list is what is before a run, the run, and what is after it
  pub round_run : (xs : List X) (a n : ℕ) → xs ≡ take a xs ++ (run xs a n ++ drop (a + n) xs)
  round_run xs a n = sym (take-append-drop a xs) ∙ ap (λ ys. take a xs ++ ys) (sym (take-append-drop n (drop a xs)) ∙ ap (λ ys. run xs a n ++ ys) (drop-drop n a xs))

  -- writing a run over itself changes nothing
  pub put_run_self : (xs : List X) (a n : ℕ) → a + n ≤ length xs → put_run xs a (run xs a n) ≡ xs
  put_run_self xs a n inside = ap (λ k. take a xs ++ (run xs a n ++ drop (a + k) xs)) (length-run xs a n inside) ∙ sym (round_run xs a n)

  pub run-put_run_same : (xs : List X) (a : ℕ) (ys : List X) → a + length ys ≤ length xs → run (put_run xs a ys) a (length ys) ≡ ys
  run-put_run_same xs a ys inside = rw (drop_at (take a xs) (ys ++ drop (a + length ys) xs) a (length-take-le a xs (omega arith))) (take_at ys (drop (a + length ys) xs) (length ys) refl)

  pub run-put_run_other : (xs : List X) (a : ℕ) (ys : List X) (b n : ℕ) → a + length ys ≤ length xs → Apart a (length ys) b n → run (put_run xs a ys) b n ≡ run xs b n
  run-put_run_other xs a ys b n inside apart = elim (cases_lt b (a + length ys)) as (λ _. run (put_run xs a ys) b n ≡ run xs b n) [
    | inr after ↦
        let gone : drop b (put_run xs a ys) ≡ drop b xs = ap (λ zs. drop b zs) (sym (append_assoc (take a xs) ys (drop (a + length ys) xs))) ∙ drop-append-drop (a + length ys) xs (take a xs ++ ys) b after (let e : length (take a xs) ≡ a = length-take-le a xs (omega arith) in omega (arith, length-append (take a xs) ys)) in
        ap (λ zs. take n zs) gone
    | inl h ↦
        let front : b + n ≤ length (take a xs) = (let e : length (take a xs) ≡ a = length-take-le a xs (omega arith) in let q = apart h in omega arith) in
        run-append_left (take a xs) (ys ++ drop (a + length ys) xs) b n front ∙ sym (run-append_left (take a xs) (drop a xs) b n front) ∙ ap (λ zs. run zs b n) (take-append-drop a xs)
  ]

  pub length-moved : (ys : List X) (i j : ℕ) (x : X) → i < length ys → j < length ys → length (insert (remove ys i) j x) ≡ length ys
  length-moved ys i j x hi hj =
      let less : length (remove ys i) + 1 ≡ length ys = length-remove ys i hi in
      omega (arith, length-insert (remove ys i) j x (omega arith))

  -- removing an item of a run and inserting another in it leaves the rest of the list
  pub moved_in_run : (xs : List X) (a n i j : ℕ) (x : X) → a + n ≤ length xs → i < n → j < n → insert (remove xs (a + i)) (a + j) x ≡ put_run xs a (insert (remove (run xs a n) i) j x)
  moved_in_run xs a n i j x inside hi hj =
      let mid : length (run xs a n) ≡ n = length-run xs a n inside in
      let front : length (take a xs) ≡ a = length-take-le a xs (omega arith) in
      let less : length (remove (run xs a n) i) + 1 ≡ n = length-remove (run xs a n) i (omega arith) ∙ mid in
      let out : remove xs (a + i) ≡ take a xs ++ (remove (run xs a n) i ++ drop (a + n) xs) = ap (λ zs. remove zs (a + i)) (round_run xs a n) ∙ remove-append_right (take a xs) (run xs a n ++ drop (a + n) xs) a (a + i) front (omega arith) ∙ ap (λ zs. take a xs ++ zs) (ap (λ k. remove (run xs a n ++ drop (a + n) xs) k) (let e : a + i - a ≡ i = omega arith in e) ∙ remove-append_left (run xs a n) (drop (a + n) xs) i (omega arith)) in
      let back : insert (take a xs ++ (remove (run xs a n) i ++ drop (a + n) xs)) (a + j) x ≡ take a xs ++ (insert (remove (run xs a n) i) j x ++ drop (a + n) xs) = insert-append_right (take a xs) (remove (run xs a n) i ++ drop (a + n) xs) a (a + j) x front (omega arith) ∙ ap (λ zs. take a xs ++ zs) (ap (λ k. insert (remove (run xs a n) i ++ drop (a + n) xs) k x) (let e : a + j - a ≡ j = omega arith in e) ∙ insert-append_left (remove (run xs a n) i) (drop (a + n) xs) j x (omega arith)) in
      ap (λ zs. insert zs (a + j) x) out ∙ back ∙ ap (λ k. take a xs ++ (insert (remove (run xs a n) i) j x ++ drop (a + k) xs)) (sym (length-moved (run xs a n) i j x (omega arith) (omega arith) ∙ mid))

  -- writing the front of a run is writing the whole run with its old tail
  pub put_run_part : (xs : List X) (a n : ℕ) (ys : List X) → a + n ≤ length xs → length ys ≤ n → put_run xs a ys ≡ put_run xs a (ys ++ drop (length ys) (run xs a n))
  put_run_part xs a n ys inside fits =
      let whole : length (ys ++ drop (length ys) (run xs a n)) ≡ n = (let r = length-run xs a n inside in omega (arith, length-append ys (drop (length ys) (run xs a n)), length-drop (length ys) (run xs a n))) in
      let rest : drop (length ys) (run xs a n) ++ drop (a + n) xs ≡ drop (a + length ys) xs = sym (drop-append-le (length ys) (run xs a n) (drop (a + n) xs) (let r = length-run xs a n inside in omega arith)) ∙ ap (λ zs. drop (length ys) (run xs a n ++ zs)) (sym (drop-drop n a xs)) ∙ ap (λ zs. drop (length ys) zs) (take-append-drop n (drop a xs)) ∙ drop-drop (length ys) a xs in
      ap (λ zs. take a xs ++ zs) (ap (λ zs. ys ++ zs) (sym rest) ∙ sym (append_assoc ys (drop (length ys) (run xs a n)) (drop (a + n) xs)) ∙ ap (λ k. (ys ++ drop (length ys) (run xs a n)) ++ drop (a + k) xs) (sym whole))

  -- an item of a run is an item of the list
  pub get_or-run : (xs : List X) (a n i : ℕ) (d : X) → i < n → get_or (run xs a n) i d ≡ get_or xs (a + i) d
  get_or-run xs a n i d h = get_or-take n (drop a xs) i d h ∙ get_or-drop a xs i d

  pub get_or-put_run_in : (xs : List X) (a : ℕ) (ys : List X) (i : ℕ) (d : X) → a + length ys ≤ length xs → i < length ys → get_or (put_run xs a ys) (a + i) d ≡ get_or ys i d
  get_or-put_run_in xs a ys i d inside h = sym (get_or-run (put_run xs a ys) a (length ys) i d h) ∙ ap (λ zs. get_or zs i d) (run-put_run_same xs a ys inside)

  pub get_or-put_run_out : (xs : List X) (a : ℕ) (ys : List X) (k : ℕ) (d : X) → a + length ys ≤ length xs → (k < a + length ys → k < a) → get_or (put_run xs a ys) k d ≡ get_or xs k d
  get_or-put_run_out xs a ys k d inside out =
      let one : (zs : List X) → get_or zs k d ≡ get_or (run zs k 1) 0 d = λ zs. ap (λ m. get_or zs m d) (let e : k ≡ k + 0 = omega arith in e) ∙ sym (get_or-run zs k 1 0 d (omega arith)) in
      one (put_run xs a ys) ∙ ap (λ zs. get_or zs 0 d) (run-put_run_other xs a ys k 1 inside (λ h. let q = out h in omega arith)) ∙ sym (one xs)

  -- two different slots can be written in either order
  pub set-comm : (xs : List X) (i j : ℕ) (x y : X) → i ≢ j → set (set xs i x) j y ≡ set (set xs j y) i x
  set-comm [] i j x y ne = refl
  set-comm (z ∷ xs) zero zero x y ne = absurd (ne refl)
  set-comm (z ∷ xs) zero (suc j) x y ne = refl
  set-comm (z ∷ xs) (suc i) zero x y ne = refl
  set-comm (z ∷ xs) (suc i) (suc j) x y ne = ap (λ ys. z ∷ ys) (set-comm xs i j x y (λ e. ne (ap suc e)))

  -- moving an item to a vacant slot exchanges the two slots
  pub moved_is : (xs : List X) (a b : ℕ) (v : X) → a < length xs → b < length xs → a ≢ b → get_or xs b v ≡ v → set (set xs b (get_or xs a v)) a v ≡ swap xs a b
  moved_is xs a b v in_a in_b ne none =
      set-comm xs b a (get_or xs a v) v (λ e. ne (sym e)) ∙ ap (λ w. set (set xs a w) b (get_or xs a v)) (sym none) ∙ swap_is xs a b v in_a in_b

  -- each slot of a vacant run is vacant
  pub vacant_at : (xs : List X) (b n : ℕ) (v : X) → run xs b n ≡ replicate n v → (k : ℕ) → k < n → get_or xs (b + k) v ≡ v
  vacant_at xs b n v empty k h = sym (get_or-run xs b n k v h) ∙ ap (λ zs. get_or zs k v) empty ∙ get_or-replicate n k v v h

  -- where each item is after two runs were exchanged
  pub record Exchanged (xs zs : List X) (a b n : ℕ) (d : X) : Type 0 where
    pub at_a : (i : ℕ) → i < n → get_or zs (a + i) d ≡ get_or xs (b + i) d
    pub at_b : (i : ℕ) → i < n → get_or zs (b + i) d ≡ get_or xs (a + i) d
    pub elsewhere : (k : ℕ) → (k < a + n → k < a) → (k < b + n → k < b) → get_or zs k d ≡ get_or xs k d

  pub length-swap_runs : (xs : List X) (a b n : ℕ) → length (swap_runs xs a b n) ≡ length xs
  length-swap_runs xs a b zero = refl
  length-swap_runs xs a b (suc n) = length-swap (swap_runs xs a b n) (a + n) (b + n) ∙ length-swap_runs xs a b n

  pub exchanged : (xs : List X) (a b n : ℕ) (d : X) → a + n ≤ length xs → b + n ≤ length xs → Apart a n b n → Exchanged xs (swap_runs xs a b n) a b n d
  exchanged xs a b zero d ha hb apart =
      record { at_a = λ i h. absurd (omega arith); at_b = λ i h. absurd (omega arith); elsewhere = λ k h j. refl }
  exchanged xs a b (suc n) d ha hb apart =
      let len : length (swap_runs xs a b n) ≡ length xs = length-swap_runs xs a b n in
      let before : Exchanged xs (swap_runs xs a b n) a b n d = exchanged xs a b n d (omega arith) (omega arith) (λ h. omega arith) in
      let step : Swapped (λ i. get_or (swap_runs xs a b n) i d) (λ i. get_or (swap (swap_runs xs a b n) (a + n) (b + n)) i d) (a + n) (b + n) = swapped_from_swap (swap_runs xs a b n) (swap (swap_runs xs a b n) (a + n) (b + n)) (a + n) (b + n) d (omega arith) (omega arith) refl in
      let had_a : get_or (swap_runs xs a b n) (a + n) d ≡ get_or xs (a + n) d = before.elsewhere (a + n) (λ h. omega arith) (λ h. grind arith) in
      let had_b : get_or (swap_runs xs a b n) (b + n) d ≡ get_or xs (b + n) d = before.elsewhere (b + n) (λ h. grind arith) (λ h. omega arith) in
      record {
        at_a = λ i h. elim (cases_eq i n) as (λ _. get_or (swap (swap_runs xs a b n) (a + n) (b + n)) (a + i) d ≡ get_or xs (b + i) d) [
          | inl e ↦ subst (λ j. get_or (swap (swap_runs xs a b n) (a + n) (b + n)) (a + j) d ≡ get_or xs (b + j) d) (sym e) (step.0 ∙ had_b)
          | inr ne ↦ step.2 (a + i) (λ e. omega arith) (λ e. grind arith) ∙ before.at_a i (omega arith)
        ];
        at_b = λ i h. elim (cases_eq i n) as (λ _. get_or (swap (swap_runs xs a b n) (a + n) (b + n)) (b + i) d ≡ get_or xs (a + i) d) [
          | inl e ↦ subst (λ j. get_or (swap (swap_runs xs a b n) (a + n) (b + n)) (b + j) d ≡ get_or xs (a + j) d) (sym e) (step.1 ∙ had_a)
          | inr ne ↦ step.2 (b + i) (λ e. grind arith) (λ e. omega arith) ∙ before.at_b i (omega arith)
        ];
        elsewhere = λ k out_a out_b. step.2 k (λ e. grind arith) (λ e. grind arith) ∙ before.elsewhere k (λ h. grind arith) (λ h. grind arith);
      }

  -- two lists are equal if they have the same items in two runs and everywhere else
  pub same_zones : (xs ys : List X) (d : X) (a m b n : ℕ) → length xs ≡ length ys → ((j : ℕ) → j < m → get_or xs (a + j) d ≡ get_or ys (a + j) d) →
      ((j : ℕ) → j < n → get_or xs (b + j) d ≡ get_or ys (b + j) d) →
      ((k : ℕ) → (k < a + m → k < a) → (k < b + n → k < b) → get_or xs k d ≡ get_or ys k d) → xs ≡ ys
  same_zones xs ys d a m b n long in_a in_b off = ext_get_or d xs ys long (λ k h. elim (within a m k) as (λ _. get_or xs k d ≡ get_or ys k d) [
    | inl in_it ↦ subst (λ j. get_or xs j d ≡ get_or ys j d) (let e : a + (k - a) ≡ k = omega (arith, in_it.0) in e) (in_a (k - a) (omega (arith, in_it.0, in_it.1)))
    | inr out_a ↦ elim (within b n k) as (λ _. get_or xs k d ≡ get_or ys k d) [
      | inl in_it ↦ subst (λ j. get_or xs j d ≡ get_or ys j d) (let e : b + (k - b) ≡ k = omega (arith, in_it.0) in e) (in_b (k - b) (omega (arith, in_it.0, in_it.1)))
      | inr out_b ↦ off k out_a out_b
    ]
  ])

  -- exchanging two runs that are apart gives each the items of the other, and leaves the rest
  pub swap_runs_is : (xs : List X) (a b n : ℕ) (d : X) → a + n ≤ length xs → b + n ≤ length xs → Apart a n b n → swap_runs xs a b n ≡ put_run (put_run xs a (run xs b n)) b (run xs a n)
  swap_runs_is xs a b n d ha hb apart =
      let na : length (run xs a n) ≡ n = length-run xs a n ha in
      let nb : length (run xs b n) ≡ n = length-run xs b n hb in
      let ys : List X = put_run xs a (run xs b n) in
      let ny : length (put_run xs a (run xs b n)) ≡ length xs = length-put_run xs a (run xs b n) (omega arith) in
      let m : Exchanged xs (swap_runs xs a b n) a b n d = exchanged xs a b n d ha hb apart in
      let out_b : (k : ℕ) → (k < b + n → k < b) → get_or (put_run ys b (run xs a n)) k d ≡ get_or ys k d = λ k o. get_or-put_run_out ys b (run xs a n) k d (omega arith) (λ h. o (omega arith)) in
      same_zones (swap_runs xs a b n) (put_run ys b (run xs a n)) d a n b n (length-swap_runs xs a b n ∙ sym (length-put_run ys b (run xs a n) (omega arith) ∙ ny))
      (λ i h. m.at_a i h ∙ sym (out_b (a + i) (λ q. grind (arith, apart)) ∙ get_or-put_run_in xs a (run xs b n) i d (omega arith) (omega arith) ∙ get_or-run xs b n i d h))
      (λ i h. m.at_b i h ∙ sym (get_or-put_run_in ys b (run xs a n) i d (omega arith) (omega arith) ∙ get_or-run xs a n i d h))
      (λ k oa ob. m.elsewhere k oa ob ∙ sym (out_b k ob ∙ get_or-put_run_out xs a (run xs b n) k d (omega arith) (λ h. oa (omega arith))))

  -- writing one slot of a run
  pub set_in_run : (xs : List X) (a n i : ℕ) (x : X) → a + n ≤ length xs → i < n → set xs (a + i) x ≡ put_run xs a (set (run xs a n) i x)
  set_in_run xs a n i x inside h =
      let mid : length (run xs a n) ≡ n = length-run xs a n inside in
      let front : length (take a xs) ≡ a = length-take-le a xs (omega arith) in
      let whole : length (set (run xs a n) i x) ≡ n = length-set (run xs a n) i x ∙ mid in
      ap (λ zs. set zs (a + i) x) (round_run xs a n) ∙ set-append_right (take a xs) (run xs a n ++ drop (a + n) xs) a (a + i) x front (omega arith) ∙ ap (λ zs. take a xs ++ zs) (ap (λ k. set (run xs a n ++ drop (a + n) xs) k x) (let e : a + i - a ≡ i = omega arith in e) ∙ set-append_left (run xs a n) (drop (a + n) xs) i x (omega arith)) ∙ ap (λ k. take a xs ++ (set (run xs a n) i x ++ drop (a + k) xs)) (sym whole)

  -- writing a slot before a run leaves the run
  pub run-set_before : (xs : List X) (a n i : ℕ) (x : X) → i < a → run (set xs i x) a n ≡ run xs a n
  run-set_before xs a n i x h = ap (λ zs. take n zs) (drop-set-lt a xs i x h)

-- ---- the items of a run that are moved to an unused run, with one inserted among them: first
-- those before it, then those after it

module _ {X : Type 0} (vacant x : X) (xs : List X) (a b n i : ℕ) (from_within : a + n ≤ length xs) (to_within : b + n < length xs)
    (apart : b < a + n → b + n < a) (offset : i ≤ n) (empty : run xs b (n + 1) ≡ replicate (n + 1) vacant) where
  -- the list after both parts were moved
  abbrev both_parts : List X
  both_parts = swap_runs (set (swap_runs xs a b i) (b + i) x) (a + i) (b + i + 1) (n - i)

  none : (j : ℕ) → j ≤ n → get_or xs (b + j) vacant ≡ vacant
  none j h = sym (get_or-run xs b (n + 1) j vacant (omega arith)) ∙ ap (λ zs. get_or zs j vacant) empty ∙ get_or-replicate (n + 1) j vacant vacant (omega arith)

  item : (j : ℕ) → j < n → get_or xs (a + j) vacant ≡ get_or (run xs a n) j vacant
  item j h = sym (get_or-run xs a n j vacant h)

  long : length (run xs a n) ≡ n
  long = length-run xs a n from_within

  long_first : length (swap_runs xs a b i) ≡ length xs
  long_first = length-swap_runs xs a b i

  long_item : length (set (swap_runs xs a b i) (b + i) x) ≡ length xs
  long_item = length-set (swap_runs xs a b i) (b + i) x ∙ long_first

  one : Exchanged xs (swap_runs xs a b i) a b i vacant
  one = exchanged xs a b i vacant (omega (arith, from_within, offset)) (omega (arith, to_within, offset)) (λ h. grind (arith, apart, offset))

  two : Exchanged (set (swap_runs xs a b i) (b + i) x) both_parts (a + i) (b + i + 1) (n - i) vacant
  two = exchanged (set (swap_runs xs a b i) (b + i) x) (a + i) (b + i + 1) (n - i) vacant (omega (arith, from_within, offset, long_item))
      (omega (arith, to_within, offset, long_item)) (λ h. grind (arith, apart, offset))

  wrote : (k : ℕ) → k ≢ b + i → get_or (set (swap_runs xs a b i) (b + i) x) k vacant ≡ get_or (swap_runs xs a b i) k vacant
  wrote k ne = get_or-set_other (swap_runs xs a b i) (b + i) k x vacant ne

  -- the slots for the items after the inserted one are vacant until those items move there
  pub still_none : (k : ℕ) → k < n - i → get_or (set (swap_runs xs a b i) (b + i) x) (b + i + 1 + k) vacant ≡ vacant
  still_none k h =
      wrote (b + i + 1 + k) (λ e. omega arith) ∙ one.elsewhere (b + i + 1 + k) (λ p. grind (arith, apart, offset)) (λ p. omega arith)
      ∙ ap (λ m. get_or xs m vacant) (let e : b + i + 1 + k ≡ b + (i + 1 + k) = omega arith in e) ∙ none (i + 1 + k) (omega (arith, h, offset))

  -- the old run is vacant
  left : (j : ℕ) → j < n → get_or both_parts (a + j) vacant ≡ vacant
  left j h = elim (cases_lt j i) as (λ _. get_or both_parts (a + j) vacant ≡ vacant) [
    | inl q ↦
        two.elsewhere (a + j) (λ p. omega arith) (λ p. grind (arith, apart, offset)) ∙ wrote (a + j) (λ e. grind (arith, apart, offset)) ∙ one.at_a j q ∙ none j (omega arith)
    | inr q ↦
        subst (λ m. get_or both_parts m vacant ≡ vacant) (let e : a + i + (j - i) ≡ a + j = omega arith in e)
        (two.at_a (j - i) (omega arith) ∙ wrote (b + i + 1 + (j - i)) (λ e. omega arith)
        ∙ one.elsewhere (b + i + 1 + (j - i)) (λ p. grind (arith, apart, offset)) (λ p. omega arith)
        ∙ ap (λ m. get_or xs m vacant) (let e : b + i + 1 + (j - i) ≡ b + (j + 1) = omega arith in e) ∙ none (j + 1) (omega arith))
  ]

  -- the new run has the old items around the inserted one
  moved : (j : ℕ) → j < n + 1 → get_or both_parts (b + j) vacant ≡ get_or (insert (run xs a n) i x) j vacant
  moved j h = elim (cases_lt j i) as (λ _. get_or both_parts (b + j) vacant ≡ get_or (insert (run xs a n) i x) j vacant) [
    | inl q ↦
        two.elsewhere (b + j) (λ p. grind (arith, apart, offset)) (λ p. omega arith) ∙ wrote (b + j) (λ e. omega arith) ∙ one.at_b j q ∙ item j (omega (arith, offset))
        ∙ sym (get_or-insert_below (run xs a n) i x vacant j q (omega (arith, offset, long)))
    | inr q ↦ elim (cases_eq j i) as (λ _. get_or both_parts (b + j) vacant ≡ get_or (insert (run xs a n) i x) j vacant) [
      | inl e ↦
          subst (λ m. get_or both_parts (b + m) vacant ≡ get_or (insert (run xs a n) i x) m vacant) (sym e)
          (two.elsewhere (b + i) (λ p. grind (arith, apart, offset)) (λ p. omega arith)
          ∙ get_or-set_same (swap_runs xs a b i) (b + i) x vacant (omega (arith, long_first, to_within, offset))
          ∙ sym (get_or-insert_at (run xs a n) i x vacant (omega (arith, offset, long))))
      | inr other ↦
          subst (λ m. get_or both_parts m vacant ≡ get_or (insert (run xs a n) i x) j vacant) (let e : b + i + 1 + (j - i - 1) ≡ b + j = omega arith in e)
          (two.at_b (j - i - 1) (omega arith) ∙ wrote (a + i + (j - i - 1)) (λ e. grind (arith, apart, offset))
          ∙ one.elsewhere (a + i + (j - i - 1)) (λ p. omega arith) (λ p. grind (arith, apart, offset))
          ∙ ap (λ m. get_or xs m vacant) (let e : a + i + (j - i - 1) ≡ a + (j - 1) = omega arith in e) ∙ item (j - 1) (omega arith)
          ∙ sym (get_or-insert_above (run xs a n) i x vacant (j - 1) (omega arith) (omega (arith, offset, long)))
          ∙ ap (λ m. get_or (insert (run xs a n) i x) m vacant) (let e : j - 1 + 1 ≡ j = omega arith in e))
    ]
  ]

  pub moved_in : swap_runs (set (swap_runs xs a b i) (b + i) x) (a + i) (b + i + 1) (n - i) ≡ put_run (put_run xs a (replicate n vacant)) b (insert (run xs a n) i x)
  moved_in =
      let nb : length (replicate n vacant) ≡ n = length-replicate n vacant in
      let ny : length (insert (run xs a n) i x) ≡ n + 1 = (let e = length-insert (run xs a n) i x (omega (arith, offset, long)) in omega (arith, long)) in
      let ys : List X = put_run xs a (replicate n vacant) in
      let ni : length (put_run xs a (replicate n vacant)) ≡ length xs = length-put_run xs a (replicate n vacant) (omega (arith, from_within)) in
      let out_b : (k : ℕ) → (k < b + (n + 1) → k < b) → get_or (put_run ys b (insert (run xs a n) i x)) k vacant ≡ get_or ys k vacant = λ k o. get_or-put_run_out ys b (insert (run xs a n) i x) k vacant (omega (arith, to_within)) (λ h. o (omega arith)) in
      same_zones both_parts (put_run ys b (insert (run xs a n) i x)) vacant a n b (n + 1)
      (length-swap_runs (set (swap_runs xs a b i) (b + i) x) (a + i) (b + i + 1) (n - i) ∙ long_item ∙ sym (length-put_run ys b (insert (run xs a n) i x) (omega (arith, to_within)) ∙ ni))
      (λ j q. left j q ∙ sym (out_b (a + j) (λ h. grind (arith, apart)) ∙ get_or-put_run_in xs a (replicate n vacant) j vacant (omega (arith, from_within)) (omega arith) ∙ get_or-replicate n j vacant vacant q))
      (λ j q. moved j q ∙ sym (get_or-put_run_in ys b (insert (run xs a n) i x) j vacant (omega (arith, to_within)) (omega arith)))
      (λ m oa ob. two.elsewhere m (λ h. grind (arith, offset)) (λ h. grind (arith, offset)) ∙ wrote m (λ e. grind (arith, offset)) ∙ one.elsewhere m (λ h. grind (arith, offset)) (λ h. grind (arith, offset))
      ∙ sym (out_b m ob ∙ get_or-put_run_out xs a (replicate n vacant) m vacant (omega (arith, from_within)) (λ h. oa (omega arith))))
