-- The nodes on a search path, one for each five bits, and the first of them that is missing: for visits and
-- insertions.
use Rattle.prefix_trie_bits.proofs.Prelude.{◌≡◌, ℕ, zero, suc, ◌+◌, ◌*◌, ◌/◌, ◌%◌, ◌<◌, ◌≤◌, ◌==◌, ◌⊎◌, inl, inr, Bool, true, false, cond, ◌&&◌, List, [], ◌∷◌, length, take, filter, nat_lt, refl, sym, ap, ◌∙◌, subst, arith, true≢false, length-take-le, cases_Bool, cases_eq, list_any, contains_key-keys, keys, take-begins, begins-linear, begins, same_string, child_count, own_entries, Entries, Nodes, has_node, AreNodes}
use Rattle.prefix_trie_bits.proofs.Model.Members.{or-left, or-right, is-same_string, needs}

-- either all nodes of the path exist, or those down to some level exist and none under it does
module _ (there : ℕ → Bool) where
  pub split_at : (k : ℕ) → ((i j : ℕ) → i ≤ j → j ≤ k → there j ≡ true → there i ≡ true) → there 0 ≡ true →
      ((i : ℕ) → i ≤ k → there i ≡ true)
      ⊎ ((level : ℕ) × (level < k) × ((i : ℕ) → i ≤ level → there i ≡ true) × ((i : ℕ) → level < i → i ≤ k → there i ≡ false))
  split_at zero closed root = inl (λ i h. closed i 0 h (omega arith) root)
  split_at (suc k) closed root = elim (cases_Bool (there (suc k))) [
    | inl last ↦ inl (λ i h. closed i (suc k) h (omega arith) last)
    | inr missing ↦ elim (split_at k (λ i j h in_k. closed i j h (omega (arith, in_k))) root) [
      | inl all ↦ inr (k, omega arith, all, λ i more h. subst (λ j. there j ≡ false) (let e : suc k ≡ i = omega (arith, more, h) in e) missing)
      | inr some ↦ inr (
        some.0,
        (let less = some.1 in omega (arith, less)),
        some.2,
        λ i more h. elim (cases_eq i (suc k)) as (λ _. there i ≡ false) [
          | inl e ↦ subst (λ j. there j ≡ false) (sym e) missing
          | inr other ↦ some.3 i more (let less : i ≤ k = grind (arith, h, other) in less)
        ],
      )
    ]
  ]

-- if no string of the list passes a test, the number that pass is 0
pub none_pass : (test : List Bool → Bool) (ks : List (List Bool)) → ((k : List Bool) → list_any (same_string k) ks ≡ true → test k ≡ false) → length (filter test ks) ≡ 0
none_pass test [] h = refl
none_pass test (k ∷ ks) h =
    ap (λ b. length (cond b (k ∷ filter test ks) (filter test ks))) (h k (or-left (same_string k k) (list_any (same_string k) ks) (is-same_string k k refl)))
    ∙ none_pass test ks (λ j at. h j (or-right (same_string j k) (list_any (same_string j) ks) at))

pub five_times : (i k l : ℕ) → i ≤ k → k ≡ l / 5 → 5 * i ≤ l
five_times i k l h e = omega (arith, h, e)

pub depth_of : (i l : ℕ) → l ≡ 5 * i → l % 5 ≡ 0
depth_of i l e = omega (arith, e)

-- the first 5 * i bits of q, which are the string of the node at level i of q's search path
abbrev pub at_level : List Bool → ℕ → List Bool
at_level q i = take (5 * i) q

pub level-length : (q : List Bool) (i : ℕ) → i ≤ length q / 5 → length (at_level q i) ≡ 5 * i
level-length q i h = length-take-le (5 * i) q (five_times i (length q / 5) (length q) h refl)

module _ {T : Type 0} (width : ℕ) (m : Entries T) (n : Nodes) (are : AreNodes width m n) where
  -- a missing node has no children and no entries
  pub no_children : (p : List Bool) → length p % 5 ≡ 0 → has_node n p ≡ false → child_count n p ≡ 0
  no_children p depth missing = none_pass (λ t. begins p t && (length t == length p + 5)) (keys n) (λ t listed.
      elim (cases_Bool (begins p t)) as (λ _. (begins p t && (length t == length p + 5)) ≡ false) [
        | inl below ↦ absurd (true≢false (sym (are.closed p t (contains_key-keys n t ∙ listed) below depth) ∙ missing))
        | inr other ↦ ap (λ b. b && (length t == length p + 5)) other
      ])

  pub no_entries : (p : List Bool) → length p % 5 ≡ 0 → has_node n p ≡ false → own_entries m p ≡ 0
  no_entries p depth missing = none_pass (λ t. begins p t && nat_lt (length t) (length p + 5)) (keys m) (λ t listed.
      elim (cases_Bool (begins p t)) as (λ _. (begins p t && nat_lt (length t) (length p + 5)) ≡ false) [
        | inl below ↦ absurd (true≢false (sym (are.hold_needed p (needs m p t depth (contains_key-keys m t ∙ listed) below)) ∙ missing))
        | inr other ↦ ap (λ b. b && nat_lt (length t) (length p + 5)) other
      ])

  -- if a node of q's search path exists, so do those above it
  module _ (q : List Bool) where
    pub closed : (i j : ℕ) → i ≤ j → j ≤ length q / 5 → has_node n (at_level q j) ≡ true → has_node n (at_level q i) ≡ true
    closed i j h inside there =
        let a = level-length q i (omega (arith, h, inside)) in
        let b = level-length q j inside in
        are.closed (at_level q i) (at_level q j) there
        (begins-linear (at_level q i) (at_level q j) q (take-begins (5 * i) q) (take-begins (5 * j) q) (omega (arith, a, b, h)))
        (depth_of i (length (at_level q i)) a)

    pub no_children_at : (i : ℕ) → i ≤ length q / 5 → has_node n (at_level q i) ≡ false → child_count n (at_level q i) ≡ 0
    no_children_at i inside = no_children (at_level q i) (depth_of i (length (at_level q i)) (level-length q i inside))
