-- The blocks that an insertion needs at the nodes of its search path.
use Rattle.prefix_trie_bits.proofs.Prelude.{◌≡◌, ℕ, zero, suc, ◌+◌, ◌-◌, ◌*◌, ◌/◌, ◌%◌, ◌<◌, ◌≤◌, ◌==◌, Bool, true, false, cond, not, ◌&&◌, nat_lt, List, [], ◌∷◌, ◌++◌, length, take, map, filter, replicate, Option, None, Some, refl, sym, ap, ap₂, ◌∙◌, arith, eq-eqb, length-take-le, lt-ltb, le-ltb, filter_map, option_to_list, cons_option, get, take-begins, Nodes, has_node, is_node_depth, beginnings, nodes_above, home, Sizes, child_block_sizes, child_count, block_needed, gains_child, child_block_needed, and-false}
use Rattle.prefix_trie_bits.proofs.Model.Homes.{home-length}
use Rattle.prefix_trie_bits.proofs.Model.Levels.{five_times, depth_of}

five_next : (k l : ℕ) → k ≡ suc (suc (suc (suc (suc l)))) / 5 → k ≡ suc (l / 5)
five_next k l e = omega (arith, e)

take_five : (i : ℕ) (a b c d e : Bool) (s : List Bool) → take (5 * suc i) (a ∷ b ∷ c ∷ d ∷ e ∷ s) ≡ a ∷ b ∷ c ∷ d ∷ e ∷ take (5 * i) s
take_five i a b c d e s = ap (λ k. take k (a ∷ b ∷ c ∷ d ∷ e ∷ s)) (let five : 5 * suc i ≡ suc (suc (suc (suc (suc (5 * i))))) = omega arith in five)

module _ {X : Type 0} where
  behind_five : (h : List Bool → Option X) (a b c d e : Bool) (ss : List (List Bool)) →
      filter_map h (filter is_node_depth (map (λ t. a ∷ t) (map (λ t. b ∷ t) (map (λ t. c ∷ t) (map (λ t. d ∷ t) (map (λ t. e ∷ t) ss))))))
      ≡ filter_map (λ t. h (a ∷ b ∷ c ∷ d ∷ e ∷ t)) (filter is_node_depth ss)
  behind_five h a b c d e [] = refl
  behind_five h a b c d e (s ∷ ss) =
      let rest = behind_five h a b c d e ss in
      let long : List Bool = a ∷ b ∷ c ∷ d ∷ e ∷ s in
      ap (λ x. filter_map h (cond (x == 0) (long ∷ filter is_node_depth (map (λ t. a ∷ t) (map (λ t. b ∷ t) (map (λ t. c ∷ t) (map (λ t. d ∷ t) (map (λ t. e ∷ t) ss)))))) (filter is_node_depth (map (λ t. a ∷ t) (map (λ t. b ∷ t) (map (λ t. c ∷ t) (map (λ t. d ∷ t) (map (λ t. e ∷ t) ss)))))))) (let e : suc (suc (suc (suc (suc (length s))))) % 5 ≡ length s % 5 = omega arith in e)
      ∙ elim (is_node_depth s) as (λ x. filter_map h (cond x (long ∷ filter is_node_depth (map (λ t. a ∷ t) (map (λ t. b ∷ t) (map (λ t. c ∷ t) (map (λ t. d ∷ t) (map (λ t. e ∷ t) ss)))))) (filter is_node_depth (map (λ t. a ∷ t) (map (λ t. b ∷ t) (map (λ t. c ∷ t) (map (λ t. d ∷ t) (map (λ t. e ∷ t) ss)))))))
      ≡ filter_map (λ t. h (a ∷ b ∷ c ∷ d ∷ e ∷ t)) (cond x (s ∷ filter is_node_depth ss) (filter is_node_depth ss))) [
        | true ↦ ap (cons_option (h long)) rest
        | false ↦ rest
      ]

  -- what is collected along a search path is what the root gives, and then what the rest of the path gives
  first_five : (h : List Bool → Option X) (a b c d e : Bool) (s : List Bool) →
      filter_map h (nodes_above (a ∷ b ∷ c ∷ d ∷ e ∷ s)) ≡ cons_option (h []) (filter_map (λ t. h (a ∷ b ∷ c ∷ d ∷ e ∷ t)) (nodes_above s))
  first_five h a b c d e s = ap (cons_option (h [])) (behind_five h a b c d e (beginnings s))

  each_short : (x : X) (s : List Bool) (h : List Bool → Option X) (k : ℕ) → nodes_above s ≡ [] ∷ [] → k ≡ 0 → h (take (5 * k) s) ≡ None →
      filter_map h (nodes_above s) ≡ replicate k x
  each_short x s h k short is last =
      ap (filter_map h) short ∙ ap (λ o. cons_option o []) (ap (λ n. h (take (5 * n) s)) (sym is) ∙ last) ∙ ap (λ n. replicate n x) (sym is)

  -- if each node except the string's own gives x, the collected list has x once for each of these nodes
  each_but_last : (x : X) (s : List Bool) (h : List Bool → Option X) (k : ℕ) → k ≡ length s / 5
      → ((i : ℕ) → i < k → h (take (5 * i) s) ≡ Some x) → h (take (5 * k) s) ≡ None → filter_map h (nodes_above s) ≡ replicate k x
  each_but_last x (a ∷ b ∷ c ∷ d ∷ e ∷ s) h zero is each last = absurd (let n = five_next 0 (length s) is in omega arith)
  each_but_last x (a ∷ b ∷ c ∷ d ∷ e ∷ s) h (suc k) is each last =
      let rest = each_but_last x s (λ t. h (a ∷ b ∷ c ∷ d ∷ e ∷ t)) k (let n = five_next (suc k) (length s) is in omega arith)
      (λ i less. ap h (sym (take_five i a b c d e s)) ∙ each (suc i) (omega arith)) (ap h (sym (take_five k a b c d e s)) ∙ last) in
      first_five h a b c d e s ∙ ap₂ (λ o xs. cons_option o xs) (each 0 (omega arith)) rest
  each_but_last x s h k is each last = each_short x s h k refl is last

  one_short : (x : X) (s : List Bool) (h : List Bool → Option X) (k level : ℕ) (o : Option X) → nodes_above s ≡ [] ∷ [] → k ≡ 0 → level ≤ k → h (take (5 * level) s) ≡ o →
      filter_map h (nodes_above s) ≡ option_to_list o ++ replicate (k - (level + 1)) x
  one_short x s h k level o short is within here =
      let first : level ≡ 0 = omega arith in
      let none : k - (level + 1) ≡ 0 = omega arith in
      ap (filter_map h) short ∙ ap (λ y. cons_option y []) (ap (λ n. h (take (5 * n) s)) (sym first) ∙ here) ∙ alone o
      ∙ ap (λ n. option_to_list o ++ replicate n x) (sym none)
    where
      alone : (y : Option X) → cons_option y [] ≡ option_to_list y ++ []
      alone None = refl
      alone (Some z) = refl

  cons_list : (o : Option X) (xs : List X) → cons_option o xs ≡ option_to_list o ++ xs
  cons_list None xs = refl
  cons_list (Some x) xs = refl

  -- if the nodes above a level give nothing, the one at it gives o, and those under it give x, except the string's
  -- own, the list is o and then x for each of them
  pub from_level : (x : X) (s : List Bool) (h : List Bool → Option X) (k level : ℕ) (o : Option X) → k ≡ length s / 5 → level ≤ k
      → ((i : ℕ) → i < level → h (take (5 * i) s) ≡ None) → h (take (5 * level) s) ≡ o
      → ((i : ℕ) → level < i → i < k → h (take (5 * i) s) ≡ Some x) → (level < k → h (take (5 * k) s) ≡ None)
      → filter_map h (nodes_above s) ≡ option_to_list o ++ replicate (k - (level + 1)) x
  from_level x (a ∷ b ∷ c ∷ d ∷ e ∷ s) h zero level o is within none here each last = absurd (let n = five_next 0 (length s) is in omega arith)
  from_level x (a ∷ b ∷ c ∷ d ∷ e ∷ s) h (suc k) zero o is within none here each last =
      let rest = each_but_last x s (λ t. h (a ∷ b ∷ c ∷ d ∷ e ∷ t)) k (let n = five_next (suc k) (length s) is in omega arith)
      (λ i less. ap h (sym (take_five i a b c d e s)) ∙ each (suc i) (omega arith) (omega arith)) (ap h (sym (take_five k a b c d e s)) ∙ last (omega arith)) in
      first_five h a b c d e s ∙ ap₂ (λ y xs. cons_option y xs) here rest ∙ cons_list o (replicate k x)
      ∙ ap (λ n. option_to_list o ++ replicate n x) (let f : k ≡ suc k - (0 + 1) = omega arith in f)
  from_level x (a ∷ b ∷ c ∷ d ∷ e ∷ s) h (suc k) (suc level) o is within none here each last =
      let rest = from_level x s (λ t. h (a ∷ b ∷ c ∷ d ∷ e ∷ t)) k level o (let n = five_next (suc k) (length s) is in omega arith) (omega arith)
      (λ i less. ap h (sym (take_five i a b c d e s)) ∙ none (suc i) (omega arith)) (ap h (sym (take_five level a b c d e s)) ∙ here)
      (λ i more less. ap h (sym (take_five i a b c d e s)) ∙ each (suc i) (omega arith) (omega arith))
      (λ less. ap h (sym (take_five k a b c d e s)) ∙ last (omega arith)) in
      first_five h a b c d e s ∙ ap₂ (λ y xs. cons_option y xs) (none 0 (omega arith)) rest
      ∙ ap (λ n. option_to_list o ++ replicate n x) (let f : k - (level + 1) ≡ suc k - (suc level + 1) = omega arith in f)
  from_level x s h k level o is within none here each last = one_short x s h k level o refl is within here

-- ---- the child blocks that an insertion needs

module _ (n : Nodes) (blocks : Sizes) (q : List Bool) (k : ℕ) (is : k ≡ length q / 5) where
  long : (i : ℕ) → i ≤ k → length (take (5 * i) q) ≡ 5 * i
  long i h = length-take-le (5 * i) q (five_times i k (length q) h is)

  -- a node on the search path of q gets a child exactly if it is not q's own node and the next node is missing
  pub gains_at : (i : ℕ) → i ≤ k → gains_child n q (take (5 * i) q) ≡ (nat_lt (5 * i) (5 * k) && not (has_node n (take (5 * (i + 1)) q)))
  gains_at i h =
      ap₂ (λ a b. (a && b) && (nat_lt (length (take (5 * i) q)) (length (home q)) && not (has_node n (take (length (take (5 * i) q) + 5) q))))
      (eq-eqb (length (take (5 * i) q) % 5) 0 (depth_of i (length (take (5 * i) q)) (long i h))) (take-begins (5 * i) q)
      ∙ ap₂ (λ a b. nat_lt a b && not (has_node n (take (a + 5) q))) (long i h) (home-length q ∙ ap (λ x. 5 * x) (sym is))
      ∙ ap (λ x. nat_lt (5 * i) (5 * k) && not (has_node n (take x q))) (let e : 5 * i + 5 ≡ 5 * (i + 1) = omega arith in e)

  needed_at : (i : ℕ) (b : Bool) → gains_child n q (take (5 * i) q) ≡ b →
      child_block_needed n blocks q (take (5 * i) q) ≡ cond b (block_needed child_block_sizes (get blocks (take (5 * i) q)) (child_count n (take (5 * i) q))) None
  needed_at i b e = ap (λ x. cond x (block_needed child_block_sizes (get blocks (take (5 * i) q)) (child_count n (take (5 * i) q))) None) e

  gains_not : (i : ℕ) → i ≤ k → has_node n (take (5 * (i + 1)) q) ≡ true → gains_child n q (take (5 * i) q) ≡ false
  gains_not i h there = gains_at i h ∙ ap (λ b. nat_lt (5 * i) (5 * k) && not b) there ∙ and-false (nat_lt (5 * i) (5 * k))

  gains_last : gains_child n q (take (5 * k) q) ≡ false
  gains_last = gains_at k (omega arith) ∙ ap (λ b. b && not (has_node n (take (5 * (k + 1)) q))) (le-ltb (5 * k) (5 * k) (omega arith))

  gains_next : (i : ℕ) → i < k → has_node n (take (5 * (i + 1)) q) ≡ false → gains_child n q (take (5 * i) q) ≡ true
  gains_next i h missing = gains_at i (omega arith) ∙ ap₂ (λ a b. a && not b) (lt-ltb (5 * i) (5 * k) (omega arith)) missing

  -- no child block is needed if q's own node exists
  pub none_needed : ((i : ℕ) → i ≤ k → has_node n (take (5 * i) q) ≡ true) → filter_map (child_block_needed n blocks q) (nodes_above q) ≡ []
  none_needed there =
      from_level 1 q (child_block_needed n blocks q) k k None is (omega arith)
      (λ i less. needed_at i false (gains_not i (omega arith) (there (i + 1) (omega arith)))) (needed_at k false gains_last)
      (λ i more less. absurd (omega arith)) (λ less. absurd (omega arith)) ∙ ap (λ m. replicate m 1) (let e : k - (k + 1) ≡ 0 = omega arith in e)

  -- otherwise the deepest node that exists needs a block if its own is full, and each missing node except q's own
  -- needs a block of one slot
  pub blocks_needed : (level : ℕ) → level < k → ((i : ℕ) → i ≤ level → has_node n (take (5 * i) q) ≡ true)
      → ((i : ℕ) → level < i → i ≤ k → has_node n (take (5 * i) q) ≡ false)
      → ((i : ℕ) → level < i → i ≤ k → (get blocks (take (5 * i) q) ≡ None) × (child_count n (take (5 * i) q) ≡ 0))
      → filter_map (child_block_needed n blocks q) (nodes_above q)
      ≡ option_to_list (block_needed child_block_sizes (get blocks (take (5 * level) q)) (child_count n (take (5 * level) q))) ++ replicate (k - (level + 1)) 1
  blocks_needed level inside there missing bare =
      from_level 1 q (child_block_needed n blocks q) k level
      (block_needed child_block_sizes (get blocks (take (5 * level) q)) (child_count n (take (5 * level) q))) is (omega arith)
      (λ i less. needed_at i false (gains_not i (omega arith) (there (i + 1) (omega arith))))
      (needed_at level true (gains_next level inside (missing (level + 1) (omega arith) (omega arith))))
      (λ i more less. let e = bare i more (omega arith) in needed_at i true (gains_next i less (missing (i + 1) (omega arith) (omega arith)))
      ∙ ap₂ (block_needed child_block_sizes) e.0 e.1) (λ less. needed_at k false gains_last)
