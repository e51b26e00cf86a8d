-- Smallest tables of parts of the tree of prefixes: the values with which one can begin, and its number of entries.
use Rattle.std.specs.Prelude.{ℕ, zero, suc, ◌+◌, Bool, true, false, cond, List, [], ◌∷◌, filter, Option, Some, None}
use Rattle.std.specs.declared.cmp.Ordering.{Ordering}
use Rattle.std.specs.Set.{is_member, sorted_merge}

module _ {T : Type 0} where
  -- the value as a list
  abbrev pub as_list : Option T → List T
  as_list None = []
  as_list (Some v) = v ∷ []

  -- the first list if it has values, otherwise the second
  abbrev pub or_list : List T → List T → List T
  or_list [] ys = ys
  or_list (x ∷ xs) ys = x ∷ xs

  -- 1 if the list is empty
  abbrev pub one_if_none : List T → ℕ
  one_if_none [] = 1
  one_if_none (x ∷ xs) = 0

  module _ (eq : T → T → Bool) where
    -- the values of the first list that the second has too
    abbrev pub shared_values : List T → List T → List T
    shared_values xs ys = filter (is_member eq ys) xs

    -- Entries that a part needs in addition if shorter keys give it a value, or none: none if the part can begin with the
    -- value, otherwise one. A part that can begin with no value has a question without one.
    abbrev pub opening_cost : List T → Option T → ℕ
    opening_cost [] h = 0
    opening_cost (x ∷ xs) None = 1
    opening_cost (x ∷ xs) (Some v) = cond (is_member eq (x ∷ xs) v) 0 1

    -- entries that two halves need in addition because their part begins both with one value, or with none
    abbrev pub combined_cost : List T → List T → ℕ
    combined_cost [] ys = opening_cost ys None
    combined_cost (x ∷ xs) [] = 1
    combined_cost (x ∷ xs) (y ∷ ys) = one_if_none (shared_values (x ∷ xs) (y ∷ ys))

    -- 1 if a value is wanted that shorter keys do not give
    abbrev pub stored : Option T → Option T → ℕ
    stored h None = 0
    stored None (Some w) = 1
    stored (Some v) (Some w) = cond (eq v w) 0 1

    -- the given value if the list has it, otherwise the first of the list
    abbrev pub best_value : List T → Option T → Option T
    best_value [] h = None
    best_value (x ∷ xs) None = Some x
    best_value (x ∷ xs) (Some v) = Some (cond (is_member eq (x ∷ xs) v) v x)

    module _ (cmp : T → T → Ordering) where
      -- the values that two halves share, or all values if they share none; no value if one half has none
      unfoldable pub combined_values : List T → List T → List T
      combined_values [] ys = []
      combined_values (x ∷ xs) [] = []
      combined_values (x ∷ xs) (y ∷ ys) = or_list (shared_values (x ∷ xs) (y ∷ ys)) (sorted_merge cmp true (x ∷ xs) (y ∷ ys))

      -- The values with which a smallest table of a part can begin: n bits are left, and `answer` is the value of the
      -- question with these bits. No value if some question has none.
      unfoldable pub first_values : ℕ → (List Bool → Option T) → List T
      first_values zero answer = as_list (answer [])
      first_values (suc n) answer = combined_values (first_values n (λ r. answer (false ∷ r))) (first_values n (λ r. answer (true ∷ r)))

      -- the fewest entries of a part that shorter keys give a value with which it can begin
      unfoldable pub least_inside : ℕ → (List Bool → Option T) → ℕ
      least_inside zero answer = 0
      least_inside (suc n) answer = least_inside n (λ r. answer (false ∷ r)) + least_inside n (λ r. answer (true ∷ r))
          + combined_cost (first_values n (λ r. answer (false ∷ r))) (first_values n (λ r. answer (true ∷ r)))

      -- the fewest entries of a part that shorter keys give the value, or none
      abbrev pub least : ℕ → (List Bool → Option T) → Option T → ℕ
      least n answer h = least_inside n answer + opening_cost (first_values n answer) h
