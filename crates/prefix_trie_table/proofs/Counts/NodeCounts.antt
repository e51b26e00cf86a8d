-- The number of nodes is one for the root, and the number of child bits in all slots: for `node_count`.
use Rattle.prefix_trie_table.proofs.Prelude.{◌≡◌, ℕ, ◌+◌, ◌^◌, ◌<◌, ◌≤◌, List, [], ◌∷◌, length, take, flat_map, sum_by, All, Option, None, Some, refl, sym, ap, ◌∙◌, arith, All-nil, All-cons, length-flat_map, sum_by-cons, sum_by_more, sum_by_more_le, sum_by-le, sum_by-IsPermutation, length_permutation, Node, bits, rank, blank_node, node_at, Store, held, size_in, node_or_blank, child_items, child_blocks, child_blocks_of, NodesHold}
use Rattle.prefix_trie_table.proofs.Strings.BitLists.{rank-all, rank-le, rank-zero-all}
use Rattle.prefix_trie_table.proofs.Blocks.Soundness.{first_place}
use Rattle.prefix_trie_table.proofs.Blocks.SlotSums.{sum_by-flat_map, sum_by-same, sum_by-mapped, items_sum, slots_sum}
use Rattle.prefix_trie_table.proofs.Strings.PathLists.{step, children_of, children, listed_below}

-- the number of children of a node
abbrev pub child_count : Node → ℕ
child_count n = rank n.child_bitmap 32

module _ (f : Node → ℕ) (none : f blank_node ≡ 0) (sizes : List ℕ) (nodes : List ℕ → Option Node) where
  -- the number that the node at a path counts
  abbrev pub weight : List ℕ → ℕ
  weight q = f (node_or_blank (nodes q))

  held_sum : (k start size : ℕ) (xs : List Node) → sum_by (items_sum f) (held k start size xs) ≡ sum_by f xs
  held_sum k start size [] = refl
  held_sum k start size (x ∷ xs) = omega arith

  own_sum : (p : List ℕ) (o : Option Node) → sum_by (items_sum f) (child_blocks_of sizes nodes p o) ≡ sum_by weight (children_of p o)
  own_sum p None = refl
  own_sum p (Some n) =
      held_sum n.child_tier n.child_block (size_in sizes n.child_tier) (child_items nodes p n.child_bitmap)
      ∙ sum_by-mapped f (λ c. node_or_blank (nodes (step p c))) (bits n.child_bitmap)
      ∙ sym (sum_by-mapped weight (step p) (bits n.child_bitmap))

  -- the used blocks hold all children
  blocks_sum : (paths : List (List ℕ)) → sum_by (items_sum f) (flat_map (child_blocks sizes nodes) paths) ≡ sum_by weight (children nodes paths)
  blocks_sum paths =
      sum_by-flat_map (items_sum f) (child_blocks sizes nodes) paths
      ∙ sum_by-same (λ p. sum_by weight (children_of p (nodes p))) (λ p. sum_by (items_sum f) (child_blocks sizes nodes p)) paths
      (λ p. own_sum p (nodes p))
      ∙ sym (sum_by-flat_map weight (λ p. children_of p (nodes p)) paths)

  module _ (paths : List (List ℕ)) (v : Store Node) (hold : NodesHold sizes nodes paths v) where
    root_sum : sum_by f (take v.first v.slots) ≡ weight []
    root_sum =
        let some : 0 < length v.slots = (let w = first_place blank_node _ v hold.sound in let h = hold.first_is in omega arith) in
        let one : sum_by f (take 1 v.slots) ≡ f (node_at v.slots 0) = (let e = sum_by_more f v.slots 0 blank_node some in omega (arith, e)) in
        ap (λ n. sum_by f (take n v.slots)) hold.first_is ∙ one ∙ ap (λ o. f (node_or_blank o)) (sym hold.rooted)

    -- the sum over all slots is the sum over all nodes, if a vacant slot counts 0
    pub slots_by_path : sum_by f v.slots ≡ sum_by weight paths
    slots_by_path =
        let slots = slots_sum f blank_node none (flat_map (child_blocks sizes nodes) paths) v hold.sound in
        omega (arith, slots, root_sum, blocks_sum paths)
        ∙ sym (sum_by-cons weight [] (children nodes paths))
        ∙ sum_by-IsPermutation weight paths ([] ∷ children nodes paths) (listed_below nodes sizes paths v hold)

module _ (sizes : List ℕ) (nodes : List ℕ → Option Node) (paths : List (List ℕ)) (v : Store Node) (hold : NodesHold sizes nodes paths v) where
  own_number : (p : List ℕ) (o : Option Node) → length (children_of p o) ≡ child_count (node_or_blank o)
  own_number p None = sym rank-zero-all
  own_number p (Some n) = rank-all (step p) n.child_bitmap

  -- the number of nodes is one more than the sum of the children in all slots
  pub nodes_counted : length paths ≡ 1 + sum_by child_count v.slots
  nodes_counted =
      let same = listed_below nodes sizes paths v hold in
      let all = slots_by_path child_count rank-zero-all sizes nodes paths v hold in
      let number : length (children nodes paths) ≡ sum_by (weight child_count rank-zero-all sizes nodes) paths = length-flat_map (λ p. children_of p (nodes p)) paths
      ∙ sum_by-same (weight child_count rank-zero-all sizes nodes) (λ p. length (children_of p (nodes p))) paths (λ p. own_number p (nodes p)) in
      omega (arith, length_permutation paths ([] ∷ children nodes paths) same, number, all)

-- the loop over the slots: the number so far, and the children in the next slot
module _ (slots : List Node) (i number n : ℕ) (m : Node) (inside : i < length slots) (so_far : number ≡ 1 + sum_by child_count (take i slots))
    (is : m ≡ node_at slots i) (ones : n ≡ rank m.child_bitmap 32) where
  next_count : n ≡ child_count (node_at slots i)
  next_count = ones ∙ ap child_count is

  pub children_more : number + n ≡ 1 + sum_by child_count (take (i + 1) slots)
  children_more = omega (arith, sum_by_more child_count slots i blank_node inside, so_far, next_count)

  -- a node has at most 32 children, so the number does not overflow
  pub children_few : length slots < 2 ^ 32 → number + n < 2 ^ 64
  children_few narrow =
      omega (arith, sum_by_more_le child_count slots i blank_node inside, sum_by-le child_count 32 slots (each slots), so_far, next_count, narrow)
    where
      each : (xs : List Node) → All (λ x. child_count x ≤ 32) xs
      each [] = All-nil (λ x. child_count x ≤ 32)
      each (x ∷ xs) = All-cons (λ x. child_count x ≤ 32) x xs (rank-le x.child_bitmap 32) (each xs)
