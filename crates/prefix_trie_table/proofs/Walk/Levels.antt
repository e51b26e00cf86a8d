-- Spots of any kind, each a level below the one before, read from the end.
use Rattle.prefix_trie_table.proofs.Prelude.{◌≡◌, ℕ, ◌+◌, ◌*◌, ◌-◌, ◌<◌, ◌≤◌, Bool, List, [], ◌∷◌, ◌++◌, length, sum_by, take, get_or, set, refl, ap, ap₂, sym, ◌∙◌, subst, arith, append_assoc, append-nil, length-append, sum_by_push, length-set, take_all, take_more, take_more_set, take-append_seam, AreLevels, from_last}

module _ {S E : Type 0} (f : S → List E) where
  pub from_last-push : (ps : List S) (p : S) → from_last f (ps ++ p ∷ []) ≡ f p ++ from_last f ps
  from_last-push [] p = sym (append-nil (f p))
  from_last-push (q ∷ ps) p = ap (λ xs. xs ++ f q) (from_last-push ps p) ∙ append_assoc (f p) (from_last f ps) (f q)

  module _ (all below : List S) (p : S) (popped : all ≡ below ++ p ∷ []) where
    pub from_last-popped : from_last f all ≡ f p ++ from_last f below
    from_last-popped = ap (from_last f) popped ∙ from_last-push below p

    pub from_last-entry : (q : S) (e : E) → f p ≡ e ∷ f q → from_last f all ≡ e ∷ from_last f (below ++ q ∷ [])
    from_last-entry q e h = from_last-popped ∙ ap (λ xs. xs ++ from_last f below) h ∙ ap (λ xs. e ∷ xs) (sym (from_last-push below q))

    pub from_last-done : f p ≡ [] → from_last f below ≡ from_last f all
    from_last-done h = sym (from_last-popped ∙ ap (λ xs. xs ++ from_last f below) h)

module _ {S : Type 0} (weight : S → ℕ) (all below : List S) (p : S) (popped : all ≡ below ++ p ∷ []) where
  pub weight-popped : sum_by weight all ≡ sum_by weight below + weight p
  weight-popped = ap (sum_by weight) popped ∙ sum_by_push weight below p

  -- the last spot has become q, and c is above it
  pub weight-deeper : (q c : S) → weight c + weight q < weight p → sum_by weight ((below ++ q ∷ []) ++ c ∷ []) < sum_by weight all
  weight-deeper q c h = omega (arith, h, sum_by_push weight (below ++ q ∷ []) c, sum_by_push weight below q, weight-popped)

module _ {X : Type 0} (xs : List X) (n : ℕ) (counts : n ≡ length xs) (some : 0 < length xs) where
  -- what is before the last item, and the item
  pub ends_in : (x : X) → x ≡ get_or xs (n - 1) x → xs ≡ take (n - 1) xs ++ x ∷ []
  ends_in x is =
      sym (take_all (n - 1 + 1) xs (omega (arith, counts)))
      ∙ take_more xs (n - 1) x (omega (arith, counts, some))
      ∙ ap (λ y. take (n - 1) xs ++ y ∷ []) (sym is)

  -- the same once another item is written there
  pub written : (y : X) → set xs (n - 1) y ≡ take (n - 1) xs ++ y ∷ []
  written y =
      sym (take_all (n - 1 + 1) (set xs (n - 1) y) (omega (arith, counts, length-set xs (n - 1) y)))
      ∙ take_more_set xs (n - 1) y (omega (arith, counts, some))

-- what is left once the last spot is taken off
pub left_is : {S : Type 0} (all put left below : List S) (p q : S) → all ≡ below ++ p ∷ [] → put ≡ below ++ q ∷ [] → left ≡ take (length put - 1) put → left ≡ below
left_is all put left below p q is moved rest =
    rest ∙
    ap₂ take (let long : length put - 1 ≡ length below = omega (arith, ap length moved, length-append below (q ∷ [])) in long) moved ∙
    take-append_seam below (q ∷ [])

-- the spots once the last has moved on and its child is pushed
pub pushed : {S : Type 0} (all put below : List S) (q c : S) → put ≡ below ++ q ∷ [] → all ≡ put ++ c ∷ [] → all ≡ (below ++ q ∷ []) ++ c ∷ []
pushed all put below q c e f = f ∙ ap (λ ps. ps ++ c ∷ []) e

module _ {S : Type 0} (depth : S → ℕ) (Is : S → Type 0) where
  pub levels-push : (n : ℕ) (ps : List S) (p : S) → AreLevels depth Is n ps → depth p ≡ n + 5 * length ps → Is p → AreLevels depth Is n (ps ++ p ∷ [])
  levels-push n [] p h d i = (omega (arith, d), i, tt)
  levels-push n (q ∷ ps) p h d i = (h.0, h.1, levels-push (n + 5) ps p h.2 (omega (arith, d)) i)

  -- what holds of the spots below the last one, and of it
  pub levels-pop : (n : ℕ) (ps : List S) (p : S) → AreLevels depth Is n (ps ++ p ∷ []) → AreLevels depth Is n ps × (depth p ≡ n + 5 * length ps) × Is p
  levels-pop n [] p h = (tt, omega (arith, h.0), h.1)
  levels-pop n (q ∷ ps) p h =
      let deeper = levels-pop (n + 5) ps p h.2 in
      ((h.0, h.1, deeper.0), omega (arith, deeper.1), deeper.2)

  module _ (n : ℕ) (all below : List S) (p : S) (popped : all ≡ below ++ p ∷ []) (stack : AreLevels depth Is n all) where
    pub levels-at : AreLevels depth Is n below × (depth p ≡ n + 5 * length below) × Is p
    levels-at = levels-pop n below p (subst (AreLevels depth Is n) popped stack)

    -- the spot is put back as q
    pub levels-put : (q : S) → depth q ≡ depth p → Is q → AreLevels depth Is n (below ++ q ∷ [])
    levels-put q d i = levels-push n below q levels-at.0 (d ∙ levels-at.1) i

-- a key that has the same bits as far as the deepest spot goes serves as well
module _ {S : Type 0} (depth : S → ℕ) (Is : List Bool → S → Type 0)
    (moves : (key other : List Bool) (p : S) → Is key p → depth p ≤ length other → take (depth p) other ≡ take (depth p) key → Is other p)
    (take-take : (k d : ℕ) (q : List Bool) → k ≤ d → take k (take d q) ≡ take k q) (key other : List Bool) where
  module _ (d : ℕ) (reach : d ≤ length other) (same : take d other ≡ take d key) where
    same_path : (k : ℕ) → k ≤ d → take k other ≡ take k key
    same_path k h = sym (take-take k d other h) ∙ ap (take k) same ∙ take-take k d key h

    levels-moved : (n : ℕ) (ps : List S) → n + 5 * length ps ≤ d + 5 → AreLevels depth (Is key) n ps → AreLevels depth (Is other) n ps
    levels-moved n [] h t = tt
    levels-moved n (p ∷ ps) h t = (
      t.0,
      moves key other p t.1 (omega (arith, h, t.0, reach)) (same_path (depth p) (omega (arith, h, t.0))),
      levels-moved (n + 5) ps (omega (arith, h)) t.2,
    )

    module _ {E : Type 0} (f : List Bool → S → List E) (f-same : (p : S) → take (depth p) other ≡ take (depth p) key → f other p ≡ f key p) where
      pub from_last-moved : (n : ℕ) (ps : List S) → n + 5 * length ps ≤ d + 5 → AreLevels depth (Is key) n ps → from_last (f other) ps ≡ from_last (f key) ps
      from_last-moved n [] h t = refl
      from_last-moved n (p ∷ ps) h t =
          ap (λ es. es ++ f other p) (from_last-moved (n + 5) ps (omega (arith, h)) t.2)
          ∙ ap (λ es. from_last (f key) ps ++ es) (f-same p (same_path (depth p) (omega (arith, h, t.0))))

  -- the last spot p of these has become q, and c, with a key of its own, is above it
  module _ (n : ℕ) (all below : List S) (p q c : S) (popped : all ≡ below ++ p ∷ [])
      (stack : AreLevels depth (Is key) n all) (same_depth : depth q ≡ depth p) (is_q : Is key q)
      (deeper : depth c ≡ depth p + 5) (is_c : Is other c) (reach : depth p ≤ length other) (same : take (depth p) other ≡ take (depth p) key) where
    cursor : AreLevels depth (Is key) n (below ++ q ∷ [])
    cursor = levels-put depth (Is key) n all below p popped stack q same_depth is_q

    pub long : n + 5 * length (below ++ q ∷ []) ≡ depth p + 5
    long = let at = (levels-at depth (Is key) n all below p popped stack).1 in omega (arith, at, length-append below (q ∷ []))

    pub levels-child : AreLevels depth (Is other) n ((below ++ q ∷ []) ++ c ∷ [])
    levels-child =
        levels-push depth (Is other) n (below ++ q ∷ []) c
        (levels-moved (depth p) reach same n (below ++ q ∷ []) (omega (arith, long)) cursor) (omega (arith, deeper, long)) is_c

    pub from_last-child : {E : Type 0} (f : List Bool → S → List E) → ((s : S) → take (depth s) other ≡ take (depth s) key → f other s ≡ f key s) → f key p ≡ f other c ++ f key q →
        from_last (f other) ((below ++ q ∷ []) ++ c ∷ []) ≡ from_last (f key) all
    from_last-child f f-same h =
        from_last-push (f other) (below ++ q ∷ []) c
        ∙ ap (λ es. f other c ++ es)
        (from_last-moved (depth p) reach same f f-same n (below ++ q ∷ []) (omega (arith, long)) cursor ∙ from_last-push (f key) below q)
        ∙ sym (append_assoc (f other c) (f key q) (from_last (f key) below)) ∙ sym (ap (λ xs. xs ++ from_last (f key) below) h)
        ∙ sym (from_last-popped (f key) all below p popped)
