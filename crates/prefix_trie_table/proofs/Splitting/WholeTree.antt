-- A sum over a node and all nodes under it, as a sum over paths.
use Rattle.prefix_trie_table.proofs.Prelude.{◌≡◌, ◌≢◌, ℕ, zero, suc, ◌+◌, ◌<◌, ◌≤◌, inl, inr, Bool, true, false, cond, List, [], ◌∷◌, ◌++◌, length, sum_by, Option, None, Some, is_some, refl, sym, ap, ◌∙◌, subst, arith, append_assoc, append-nil, cases_Bool, false≢true, append_cancel_left, take_at, sum_by-cons, sum_by-le-sum_by, Node, has_bit, node_at, node_sizes, child_slot, has_child, is_start, one_if, same_path, times, NodesHold, sum_to, slots_below, Store}
use Rattle.prefix_trie_table.proofs.Splitting.Space.{sum_to_none}
use Rattle.prefix_trie_table.proofs.Strings.Paths.{same_path-itself, same_path-true}
use Rattle.prefix_trie_table.proofs.Strings.PathSums.{sum_out}
use Rattle.prefix_trie_table.proofs.Strings.SmallFacts.{no_or_yes}
use Rattle.prefix_trie_table.proofs.Strings.Beginnings.{is_start-is, is_start_take}
use Rattle.prefix_trie_table.proofs.Tree.Children.{number_or}
use Rattle.prefix_trie_table.proofs.Tree.Trees.{child_is_there, is_some-Some}

-- ---- sums of the first numbers

sum_to_less : (f g : ℕ → ℕ) (n : ℕ) → ((c : ℕ) → f c ≤ g c) → sum_to f n ≤ sum_to g n
unfolding sum_to
sum_to_less f g zero less = omega arith
sum_to_less f g (suc n) less = omega (arith, sum_to_less f g n less, less n)

sum_to_both : (f g : ℕ → ℕ) (n : ℕ) → sum_to (λ c. f c + g c) n ≡ sum_to f n + sum_to g n
unfolding sum_to
sum_to_both f g zero = refl
sum_to_both f g (suc n) = omega (arith, sum_to_both f g n)

-- if at most one of them is not 0
sum_to_one : (f : ℕ → ℕ) (d n : ℕ) → ((c : ℕ) → c ≢ d → f c ≡ 0) → sum_to f n ≤ f d
unfolding sum_to
sum_to_one f d zero others = omega arith
sum_to_one f d (suc n) others = elim (number_or n d) as (λ _. sum_to f n + f n ≤ f d) [
  | inl e ↦
      let before : sum_to f n ≡ 0 = none n (λ c less. others c (λ same. absurd (omega (arith, same, less, e)))) in
      let last : f n ≡ f d = ap f e in omega (arith, before, last)
  | inr ne ↦ omega (arith, sum_to_one f d n others, others n ne)
]
  where
    none : (k : ℕ) → ((c : ℕ) → c < k → f c ≡ 0) → sum_to f k ≡ 0
    none zero zeros = refl
    none (suc k) zeros = omega (arith, none k (λ c less. zeros c (omega (arith, less))), zeros k (omega arith))

-- ---- beginnings

pub begins_its_rest : (p r : List ℕ) → is_start p (p ++ r) ≡ true
begins_its_rest p r = subst (λ q. is_start q (p ++ r) ≡ true) (take_at p r (length p) refl) (is_start_take (length p) (p ++ r))

-- what goes on by the child c
goes_on : (p x : List ℕ) (c : ℕ) → is_start (p ++ c ∷ []) x ≡ true → (r : List ℕ) × (x ≡ p ++ c ∷ r)
goes_on p x c h = let s = is_start-is (p ++ c ∷ []) x h in (s.0, s.1 ∙ append_assoc p (c ∷ []) s.0)

module _ (g : List ℕ → ℕ) (p : List ℕ) where
  abbrev at_path : List ℕ → ℕ
  at_path x = cond (same_path p x) (g x) 0

  abbrev under_child : ℕ → List ℕ → ℕ
  under_child c x = cond (is_start (p ++ c ∷ []) x) (g x) 0

  abbrev under_path : List ℕ → ℕ
  under_path x = cond (is_start p x) (g x) 0

  clear_child : (x : List ℕ) (c : ℕ) → (is_start (p ++ c ∷ []) x ≡ true → ⊥) → under_child c x ≡ 0
  clear_child x c h = ap (λ b. cond b (g x) 0) (no_or_yes (is_start (p ++ c ∷ []) x) h)

  -- a path is the node's, or goes on by one child at most
  one_path : (x : List ℕ) → at_path x + sum_to (λ c. under_child c x) 32 ≤ under_path x
  one_path x = elim (cases_Bool (is_start p x)) as (λ _. at_path x + sum_to (λ c. under_child c x) 32 ≤ under_path x) [
    | inl begun ↦
        let s = is_start-is p x begun in
        let whole : under_path x ≡ g x = ap (λ b. cond b (g x) 0) begun in
        by s.0 s.1 whole
    | inr not_begun ↦
        let off : at_path x ≡ 0 = ap (λ b. cond b (g x) 0) (no_or_yes (same_path p x) (λ e.
        false≢true (sym not_begun ∙ ap (is_start p) (sym (same_path-true p x e) ∙ sym (append-nil p)) ∙ begins_its_rest p []))) in
        let none : sum_to (λ c. under_child c x) 32 ≡ 0 = sum_to_none (λ c. under_child c x) 32 (λ c. clear_child x c (λ h.
        let r = goes_on p x c h in false≢true (sym not_begun ∙ ap (is_start p) r.1 ∙ begins_its_rest p (c ∷ r.0)))) in
        omega (arith, off, none)
  ]
    where
      by : (r : List ℕ) → x ≡ p ++ r → under_path x ≡ g x → at_path x + sum_to (λ c. under_child c x) 32 ≤ under_path x
      by [] e whole =
          let none : sum_to (λ c. under_child c x) 32 ≡ 0 = sum_to_none (λ c. under_child c x) 32 (λ c. clear_child x c (λ h.
          let r = goes_on p x c h in
          let same : p ++ [] ≡ p ++ c ∷ r.0 = sym e ∙ r.1 in absurd (omega (arith, ap length (append_cancel_left p [] (c ∷ r.0) same))))) in
          let most : at_path x ≤ g x = (elim (same_path p x) as (λ b. cond b (g x) 0 ≤ g x) [ true ↦ omega arith | false ↦ omega arith ]) in
          omega (arith, none, most, whole)
      by (d ∷ r) e whole =
          let off : at_path x ≡ 0 = ap (λ b. cond b (g x) 0) (no_or_yes (same_path p x) (λ h.
          let same : p ++ d ∷ r ≡ p ++ [] = sym e ∙ sym (same_path-true p x h) ∙ sym (append-nil p) in
          absurd (omega (arith, ap length (append_cancel_left p (d ∷ r) [] same))))) in
          let one = sum_to_one (λ c. under_child c x) d 32 (λ c ne. clear_child x c (λ h.
          let s = goes_on p x c h in
          let same : d ∷ r ≡ c ∷ s.0 = append_cancel_left p (d ∷ r) (c ∷ s.0) (sym e ∙ s.1) in ne (sym (first_same d c r s.0 same)))) in
          let most : under_child d x ≤ g x = (elim (is_start (p ++ d ∷ []) x) as (λ b. cond b (g x) 0 ≤ g x) [ true ↦ omega arith | false ↦ omega arith ]) in
          omega (arith, off, one, most, whole)
        where
          first_same : (a b : ℕ) (xs ys : List ℕ) → a ∷ xs ≡ b ∷ ys → a ≡ b
          first_same a b xs ys same = cc

  -- and so are they all
  all_paths : (xs : List (List ℕ)) → sum_by at_path xs + sum_to (λ c. sum_by (under_child c) xs) 32 ≤ sum_by under_path xs
  all_paths [] = let none = sum_to_none (λ c. sum_by (under_child c) []) 32 (λ c. refl) in omega (arith, none)
  all_paths (x ∷ xs) =
      let split : sum_to (λ c. sum_by (under_child c) (x ∷ xs)) 32 ≡ sum_to (λ c. under_child c x + sum_by (under_child c) xs) 32 =
      same_sums (λ c. sum_by (under_child c) (x ∷ xs)) (λ c. under_child c x + sum_by (under_child c) xs) 32 (λ c. sum_by-cons (under_child c) x xs) in
      let both = sum_to_both (λ c. under_child c x) (λ c. sum_by (under_child c) xs) 32 in
      omega (arith, split, both, sum_by-cons at_path x xs, sum_by-cons under_path x xs, one_path x, all_paths xs)
    where
      same_sums : (a b : ℕ → ℕ) (n : ℕ) → ((c : ℕ) → a c ≡ b c) → sum_to a n ≡ sum_to b n
      same_sums a b n same = ap (λ f. sum_to f n) (λ i c. same c i)

-- ---- the nodes in an array

module _ (own : Node → ℕ) (reading : List ℕ → Option Node) (paths : List (List ℕ)) (v : Store Node) (hold : NodesHold node_sizes reading paths v) where
  abbrev pub own_of : Option Node → ℕ
  own_of None = 0
  own_of (Some n) = own n

  abbrev pub own_at : List ℕ → ℕ
  own_at x = own_of (reading x)

  abbrev all_under : List ℕ → ℕ
  all_under p = sum_by (under_path own_at p) paths

  own_counted : (p : List ℕ) (n : Node) → reading p ≡ Some n → own n + sum_to (λ c. sum_by (under_child own_at p c) paths) 32 ≤ all_under p
  own_counted p n is =
      let there : times p paths ≡ 1 = hold.listed p ∙ ap (λ o. one_if (is_some o)) is in
      let here : at_path own_at p p ≡ own n = ap (λ b. cond b (own_at p) 0) (same_path-itself p) ∙ ap own_of is in
      let all = all_paths own_at p paths in omega (arith, sum_out (at_path own_at p) p paths (omega (arith, there)), here, all)

  abbrev at_child : ℕ → Node → ℕ → ℕ
  at_child levels n c = cond (has_bit n.child_bitmap c) (slots_below own v.slots levels (node_at v.slots (child_slot n c))) 0

  child_within : (levels : ℕ) (p : List ℕ) (n : Node) → reading p ≡ Some n →
      ((q : List ℕ) (m : Node) → reading q ≡ Some m → slots_below own v.slots levels m ≤ all_under q) → (c : ℕ) → at_child levels n c ≤ all_under (p ++ c ∷ [])
  child_within levels p n is ih c = elim (cases_Bool (has_bit n.child_bitmap c)) as (λ _. at_child levels n c ≤ all_under (p ++ c ∷ [])) [
    | inl set ↦
        let child_is : reading (p ++ c ∷ []) ≡ Some (node_at v.slots (child_slot n c)) = is_some-Some (reading (p ++ c ∷ [])) (hold.linked p c ∙ ap (λ o. has_child o c) is ∙ set)
        ∙ ap Some (sym (child_is_there node_sizes reading paths v hold p n c is set).1) in
        subst (λ b. cond b (slots_below own v.slots levels (node_at v.slots (child_slot n c))) 0 ≤ all_under (p ++ c ∷ [])) (sym set)
        (ih (p ++ c ∷ []) (node_at v.slots (child_slot n c)) child_is)
    | inr clear ↦ subst (λ b. cond b (slots_below own v.slots levels (node_at v.slots (child_slot n c))) 0 ≤ all_under (p ++ c ∷ [])) (sym clear) (omega arith)
  ]

  within_paths : (levels : ℕ) (p : List ℕ) (n : Node) → reading p ≡ Some n → slots_below own v.slots levels n ≤ all_under p
  within_paths zero p n is = let c = own_counted p n is in omega (arith, c)
  within_paths (suc levels) p n is = omega (arith, own_counted p n is, sum_to_less (at_child levels n) (λ c. all_under (p ++ c ∷ [])) 32 (child_within levels p n is (within_paths levels)))

  -- all that the root has below it is what all nodes have
  pub whole_tree : (levels : ℕ) (n : Node) → reading [] ≡ Some n → slots_below own v.slots levels n ≤ sum_by own_at paths
  whole_tree levels n is =
      let all = within_paths levels [] n is in omega (arith, sum_by-le-sum_by (under_path own_at []) own_at paths (λ x. part (is_start [] x) (own_at x)), all)
    where
      part : (b : Bool) (k : ℕ) → cond b k 0 ≤ k
      part true k = omega arith
      part false k = omega arith
