-- The keys of a map under a string are the string and those under its two extensions: for the least number of entries.
use Rattle.std.proofs.Common.{◌≡◌, ◌∙◌, ◌+◌, ◌≤◌, ◌++◌, ℕ, suc, Bool, true, false, cond, List, [], ◌∷◌, length, filter, Some, is_eq, ap, sym, subst, refl, arith}
use Rattle.std.specs.FinMap.{contains_key, get, get-entries, len, len-entries, len-insert}
use Rattle.std.specs.FinMap.Entries.{find}
use Rattle.prefix_trie_bits.specs.Model.Bits.{begins}
use Rattle.prefix_trie_bits.specs.Model.Order.{listing_cmp}
use Rattle.prefix_trie_bits.specs.Order.{listing_total}
use Rattle.prefix_trie.specs.Terms.{Entries, listing, with_entry}
use Rattle.prefix_trie_ops.proofs.Smallest.Lower.{entries_at}

-- 1 for true
one : Bool → ℕ
one true = 1
one false = 0

-- a string under another one is this one, or under one of its extensions
one_place : (s t : List Bool) → one (is_eq (listing_cmp s t)) + (one (begins (s ++ false ∷ []) t) + one (begins (s ++ true ∷ []) t)) ≡ one (begins s t)
unfolding begins one
one_place [] [] = refl
one_place [] (true ∷ t) = refl
one_place [] (false ∷ t) = refl
one_place (a ∷ s) [] = refl
one_place (true ∷ s) (true ∷ t) = one_place s t
one_place (false ∷ s) (false ∷ t) = one_place s t
one_place (true ∷ s) (false ∷ t) = refl
one_place (false ∷ s) (true ∷ t) = refl

module _ {X : Type 0} where
  -- how many keys begin with a string
  pub keys_under : Entries X → List Bool → ℕ
  keys_under m s = length (filter (λ e. begins s e.0) (listing m))

  count_step : (p : List Bool × X → Bool) (e : List Bool × X) (es : List (List Bool × X)) → length (filter p (e ∷ es)) ≡ one (p e) + length (filter p es)
  unfolding one
  count_step p e es = elim (p e) as (λ b. length (cond b (e ∷ filter p es) (filter p es)) ≡ one b + length (filter p es)) [ true ↦ omega arith | false ↦ omega arith ]

  found_step : (s : List Bool) (e : List Bool × X) (es : List (List Bool × X)) → entries_at (find listing_cmp s (e ∷ es)) ≤ one (is_eq (listing_cmp s e.0)) + entries_at (find listing_cmp s es)
  unfolding one
  found_step s e es = elim (is_eq (listing_cmp s e.0)) as (λ b. entries_at (cond b (Some e.1) (find listing_cmp s es)) ≤ one b + entries_at (find listing_cmp s es)) [ true ↦ omega arith | false ↦ omega arith ]

  split : (s : List Bool) (es : List (List Bool × X)) → entries_at (find listing_cmp s es) + (length (filter (λ e. begins (s ++ false ∷ []) e.0) es) + length (filter (λ e. begins (s ++ true ∷ []) e.0) es))
      ≤ length (filter (λ e. begins s e.0) es)
  split s [] = omega arith
  split s (e ∷ es) =
      let f = found_step s e es in
      let l = count_step (λ e. begins (s ++ false ∷ []) e.0) e es in
      let r = count_step (λ e. begins (s ++ true ∷ []) e.0) e es in
      let a = count_step (λ e. begins s e.0) e es in
      let o = one_place s e.0 in
      let rest = split s es in
      omega (arith, f, l, r, a, o, rest)

  pub keys_split : (m : Entries X) (s : List Bool) → entries_at (get m s) + (keys_under m (s ++ false ∷ []) + keys_under m (s ++ true ∷ [])) ≤ keys_under m s
  unfolding keys_under
  keys_split m s = subst (λ o. entries_at o + (keys_under m (s ++ false ∷ []) + keys_under m (s ++ true ∷ [])) ≤ keys_under m s) (sym (get-entries m s)) (split s (listing m))

  -- all keys begin with the empty string
  pub keys_all : (m : Entries X) → keys_under m [] ≡ len m
  unfolding keys_under begins
  keys_all m = all (listing m) ∙ sym (len-entries m)
    where
      all : (es : List (List Bool × X)) → length (filter (λ e. begins [] e.0) es) ≡ length es
      all [] = refl
      all (e ∷ es) = ap suc (all es)

  -- setting a key adds at most one
  pub one_more : (m : Entries X) (s : List Bool) (v : X) → len (with_entry m s v) ≤ len m + 1
  one_more m s v = let e = len-insert listing_total m s v in
      subst (λ n. n ≤ len m + 1) (sym e) (elim (contains_key m s) as (λ b. cond b (len m) (len m + 1) ≤ len m + 1) [ true ↦ omega arith | false ↦ omega arith ])
