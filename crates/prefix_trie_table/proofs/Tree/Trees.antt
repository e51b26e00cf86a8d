-- The nodes of an array, read by paths: each block of children holds the children of its node.
use Rattle.prefix_trie_table.proofs.Prelude.{◌≡◌, ◌≢◌, ℕ, ◌<◌, ◌≤◌, inl, inr, true, false, cond, List, [], ◌∷◌, ◌++◌, length, set, flat_map, Option, None, Some, is_some, IsPermutation, refl, sym, ap, ◌∙◌, subst, arith, false≢true, cases_Bool, IsPermutation-sym, IsPermutation-trans, IsPermutation-append_right, Node, has_bit, rank, Store, UsedBlock, Sound, block, child_slot, child, below, read_from, read, same_path, one_if, times, without, node_or_blank, has_child, child_items, child_blocks_of, child_blocks, IsSlot, at_root, at_child, NodesHold, blank_node, node_at}
use Rattle.prefix_trie_table.specs.Forest.{held, size_in}
use Rattle.prefix_trie_table.proofs.Blocks.Soundness.{Sound-permuted, first_place, Sound-set, Sound-set_before, slot_of_block, block_inside, fits_block}
use Rattle.prefix_trie_table.proofs.Strings.Bits.{has_bit-below}
use Rattle.std.proofs.lemmas.List.{length-set}
use Rattle.prefix_trie_table.proofs.Strings.BitLists.{map_get, map_set, map_same}
use Rattle.prefix_trie_table.proofs.Strings.Paths.{same_path-itself, same_path-not, snoc_ind, snoc_inj, snoc_not_nil, times_without, swap_fronts, flat_map_out, flat_map_same}

-- a list with items is held in one block
pub held_some : {S : Type 0} (k start size : ℕ) (xs : List S) → 0 < length xs → held k start size xs ≡ block k start size xs ∷ []
held_some k start size [] h = absurd (omega arith)
held_some k start size (x ∷ xs) h = refl

read_from-snoc : (nodes : List Node) (at : Option Node) (p : List ℕ) (c : ℕ) → read_from nodes at (p ++ c ∷ []) ≡ below nodes (read_from nodes at p) c
read_from-snoc nodes at [] c = refl
read_from-snoc nodes at (x ∷ p) c = read_from-snoc nodes (below nodes at x) p c

module _ (nodes : List Node) where
  -- the empty path leads to the root
  pub read-nil : read nodes [] ≡ Some (node_at nodes 0)
  unfolding read
  read-nil = refl

  -- one more step leads to a child
  pub read-snoc : (p : List ℕ) (c : ℕ) → read nodes (p ++ c ∷ []) ≡ below nodes (read nodes p) c
  unfolding read
  read-snoc p c = read_from-snoc nodes (Some (node_at nodes 0)) p c

  pub child-there : (n : Node) (c : ℕ) → has_bit n.child_bitmap c ≡ true → child nodes n c ≡ Some (node_at nodes (child_slot n c))
  unfolding child
  child-there n c h = ap (λ b. cond b (Some (node_at nodes (child_slot n c))) None) h

  pub child-missing : (n : Node) (c : ℕ) → has_bit n.child_bitmap c ≡ false → child nodes n c ≡ None
  unfolding child
  child-missing n c h = ap (λ b. cond b (Some (node_at nodes (child_slot n c))) None) h

pub is_none-None : {X : Type 0} (o : Option X) → is_some o ≡ false → o ≡ None
is_none-None None h = refl
is_none-None (Some x) h = absurd (false≢true (sym h))

pub is_some-Some : (o : Option Node) → is_some o ≡ true → o ≡ Some (node_or_blank o)
is_some-Some None h = absurd (false≢true h)
is_some-Some (Some x) h = refl

-- the blocks of all nodes, with those of one node first
module _ (sizes : List ℕ) (nodes : List ℕ → Option Node) (paths : List (List ℕ)) where
  -- the blocks of one node can be listed first
  pub node_first : {S : Type 0} (vacant : S) (f : List ℕ → List (UsedBlock S)) (v : Store S) (p : List ℕ) → 0 < times p paths →
      Sound vacant (flat_map f paths) v → Sound vacant (f p ++ flat_map f (without p paths)) v
  node_first vacant f v p h s = Sound-permuted vacant (flat_map f paths) (f p ++ flat_map f (without p paths)) v (flat_map_out f p paths h) s

  -- and back in their place
  pub node_back : {S : Type 0} (vacant : S) (f : List ℕ → List (UsedBlock S)) (v : Store S) (p : List ℕ) → 0 < times p paths →
      Sound vacant (f p ++ flat_map f (without p paths)) v → Sound vacant (flat_map f paths) v
  node_back vacant f v p h s = Sound-permuted vacant (f p ++ flat_map f (without p paths)) (flat_map f paths) v
      (IsPermutation-sym (flat_map f paths) (f p ++ flat_map f (without p paths)) (flat_map_out f p paths h)) s

module _ (sizes : List ℕ) (nodes : List ℕ → Option Node) (paths : List (List ℕ)) (v : Store Node) (hold : NodesHold sizes nodes paths v) where
  -- the path of a node is listed once
  pub listed_once : (p : List ℕ) (n : Node) → nodes p ≡ Some n → times p paths ≡ 1
  listed_once p n e = hold.listed p ∙ ap (λ o. one_if (is_some o)) e

  -- the block of the children of a node
  abbrev block_of : List ℕ → Node → UsedBlock Node
  block_of p n = block n.child_tier n.child_block (size_in sizes n.child_tier) (child_items nodes p n.child_bitmap)

  -- the blocks of one node are listed first
  pub own_first : (p : List ℕ) (n : Node) → nodes p ≡ Some n →
      Sound blank_node (held n.child_tier n.child_block (size_in sizes n.child_tier) (child_items nodes p n.child_bitmap) ++ flat_map
      (child_blocks sizes nodes) (without p paths)) v
  own_first p n e =
      let h : 0 < times p paths = (let t = listed_once p n e in omega arith) in
      subst (λ o. Sound blank_node (child_blocks_of sizes nodes p o ++ flat_map (child_blocks sizes nodes) (without p paths)) v) e
      (node_first sizes nodes paths blank_node (child_blocks sizes nodes) v p h hold.sound)

  -- the block of the children of one node is listed first
  pub block_first : (p : List ℕ) (n : Node) → nodes p ≡ Some n → 0 < length (child_items nodes p n.child_bitmap) →
      Sound blank_node (block_of p n ∷ flat_map (child_blocks sizes nodes) (without p paths)) v
  block_first p n e h =
      subst (λ bs. Sound blank_node (bs ++ flat_map (child_blocks sizes nodes) (without p paths)) v)
      (held_some n.child_tier n.child_block (size_in sizes n.child_tier) (child_items nodes p n.child_bitmap) h) (own_first p n e)

  -- in which slot a child is
  pub child_is_there : (p : List ℕ) (n : Node) (c : ℕ) → nodes p ≡ Some n → has_bit n.child_bitmap c ≡ true
      → (rank n.child_bitmap c < length (child_items nodes p n.child_bitmap)) ×
      (node_at v.slots (child_slot n c) ≡ node_or_blank (nodes (p ++ c ∷ []))) × (child_slot n c < length v.slots) × (0 < child_slot n c)
  child_is_there p n c e bit =
      let f : ℕ → Node = λ d. node_or_blank (nodes (p ++ d ∷ [])) in
      let g = map_get f n.child_bitmap c blank_node (has_bit-below n.child_bitmap c bit) bit in
      let s : Sound blank_node (block_of p n ∷ flat_map (child_blocks sizes nodes) (without p paths)) v = block_first p n e (let x = g.0 in omega arith) in
      let w = block_inside blank_node (block_of p n) (flat_map (child_blocks sizes nodes) (without p paths)) v s in
      let fits : length (child_items nodes p n.child_bitmap) ≤ size_in sizes n.child_tier = fits_block blank_node (block_of p n) (flat_map (child_blocks sizes nodes) (without p paths)) v s in (
        g.0,
        slot_of_block blank_node (block_of p n) (flat_map (child_blocks sizes nodes) (without p paths)) v (rank n.child_bitmap c) blank_node g.0 s
            ∙ g.1,
        (let x = g.0 in let y = w.before in omega arith),
        (let x = w.after in let y = hold.first_is in omega arith),
      )

  reads_below : (q : List ℕ) (c : ℕ) (o : Option Node) → nodes q ≡ o → below v.slots o c ≡ nodes (q ++ c ∷ [])
  reads_below q c None e = sym (is_none-None (nodes (q ++ c ∷ [])) (hold.linked q c ∙ ap (λ o. has_child o c) e))
  reads_below q c (Some n) e = elim (cases_Bool (has_bit n.child_bitmap c)) as (λ _. child v.slots n c ≡ nodes (q ++ c ∷ [])) [
    | inl hit ↦ child-there v.slots n c hit ∙ ap Some (child_is_there q n c e hit).1
        ∙ sym (is_some-Some (nodes (q ++ c ∷ [])) (hold.linked q c ∙ ap (λ o. has_child o c) e ∙ hit))
    | inr miss ↦ child-missing v.slots n c miss ∙ sym (is_none-None (nodes (q ++ c ∷ [])) (hold.linked q c ∙ ap (λ o. has_child o c) e ∙ miss))
  ]

  -- each path leads through the array to its node
  pub reads : (q : List ℕ) → read v.slots q ≡ nodes q
  reads = snoc_ind (λ q. read v.slots q ≡ nodes q) (read-nil v.slots ∙ sym hold.rooted)
      (λ q c ih. read-snoc v.slots q c ∙ ap (λ o. below v.slots o c) ih ∙ reads_below q c (nodes q) refl)

  -- what the slot of a node holds
  pub slot_holds : (p : List ℕ) (s : ℕ) (n : Node) → IsSlot nodes p s → nodes p ≡ Some n → (node_at v.slots s ≡ n) × (s < length v.slots)
  slot_holds p s n (at_root) e =
      let z : Some (node_at v.slots 0) ≡ Some n = sym hold.rooted ∙ e in
      (ap node_or_blank z, (let w = first_place blank_node _ v hold.sound in let f = hold.first_is in omega arith))
  slot_holds p s n (at_child q c m is bit) e = let w = child_is_there q m c is bit in (w.1 ∙ ap node_or_blank e, w.2)

-- a node with the same children has the same block of children
child_blocks_of-same : (sizes : List ℕ) (nodes later : List ℕ → Option Node) (q : List ℕ) (o : Option Node) →
    ((c : ℕ) → later (q ++ c ∷ []) ≡ nodes (q ++ c ∷ [])) → child_blocks_of sizes later q o ≡ child_blocks_of sizes nodes q o
child_blocks_of-same sizes nodes later q None below = refl
child_blocks_of-same sizes nodes later q (Some n) below =
    ap (held n.child_tier n.child_block (size_in sizes n.child_tier))
    (map_same (λ c. node_or_blank (nodes (q ++ c ∷ []))) (λ c. node_or_blank (later (q ++ c ∷ []))) n.child_bitmap n.child_bitmap (λ i. refl)
    (λ c. ap node_or_blank (below c)))

-- the same node with the same children has the same block
pub child_blocks-same : (sizes : List ℕ) (nodes later : List ℕ → Option Node) (q : List ℕ) → later q ≡ nodes q →
    ((c : ℕ) → later (q ++ c ∷ []) ≡ nodes (q ++ c ∷ [])) → child_blocks sizes later q ≡ child_blocks sizes nodes q
child_blocks-same sizes nodes later q here below = ap (child_blocks_of sizes later q) here ∙ child_blocks_of-same sizes nodes later q (nodes q) below

-- removing p from a list of paths leaves the other paths
pub times_out : (p q : List ℕ) (paths : List (List ℕ)) → 0 < times p paths → q ≢ p → times q (without p paths) ≡ times q paths
times_out p q paths h other =
    let e = times_without p q paths h in
    let z : one_if (same_path q p) ≡ 0 = ap one_if (same_path-not q p other) in omega arith

pub times_out_same : (p : List ℕ) (paths : List (List ℕ)) → times p paths ≡ 1 → times p (without p paths) ≡ 0
times_out_same p paths h =
    let e = times_without p p paths (omega arith) in
    let z : one_if (same_path p p) ≡ 1 = ap one_if (same_path-itself p) in omega arith

module _ (sizes : List ℕ) (nodes : List ℕ → Option Node) (paths : List (List ℕ)) (v : Store Node) (hold : NodesHold sizes nodes paths v) where
  -- the node at p becomes m, in the block of its parent or, for the root, before the first block
  pub node_set : (rest : List (List ℕ)) (p : List ℕ) (s : ℕ) (n m : Node) (later : List ℕ → Option Node) (own : List (UsedBlock Node)) (u : Store Node)
      → ((q : List ℕ) (c : ℕ) → q ++ c ∷ [] ≡ p → times q rest ≡ 1)
      → IsSlot nodes p s → nodes p ≡ Some n → u.first ≡ 1
      → ((q : List ℕ) → 0 < times q rest → later q ≡ nodes q)
      → ((q : List ℕ) (c : ℕ) → 0 < times q rest → q ++ c ∷ [] ≢ p → later (q ++ c ∷ []) ≡ nodes (q ++ c ∷ []))
      → later p ≡ Some m
      → Sound blank_node (own ++ flat_map (child_blocks sizes nodes) rest) u
      → Sound blank_node (own ++ flat_map (child_blocks sizes later) rest) (record u { slots = set u.slots s m })
  node_set rest p s n m later own u parents (at_root) is first kept under here sound =
      let same : flat_map (child_blocks sizes later) rest ≡ flat_map (child_blocks sizes nodes) rest = flat_map_same (child_blocks sizes nodes) (child_blocks sizes later) rest
      (λ q h. child_blocks-same sizes nodes later q (kept q h) (λ c. under q c h (snoc_not_nil q c))) in
      subst (λ bs. Sound blank_node (own ++ bs) (record u { slots = set u.slots 0 m })) (sym same)
      (Sound-set_before blank_node (own ++ flat_map (child_blocks sizes nodes) rest) u 0 m (omega arith) sound)
  node_set rest p s n m later own u parents (at_child q c k parent bit) is first kept under here sound =
      let twice : List (List ℕ) = without q rest in
      let in_rest : times q rest ≡ 1 = parents q c refl in
      let there : 0 < times q rest = omega arith in
      let start = child_is_there sizes nodes paths v hold q k c parent bit in
      let b : UsedBlock Node = block k.child_tier k.child_block (size_in sizes k.child_tier) (child_items nodes q k.child_bitmap) in
      let b' : UsedBlock Node = block k.child_tier k.child_block (size_in sizes k.child_tier)
      (set (child_items nodes q k.child_bitmap) (rank k.child_bitmap c) m) in
      let f_is : child_blocks sizes nodes q ≡ b ∷ [] = ap (child_blocks_of sizes nodes q) parent
      ∙ held_some k.child_tier k.child_block (size_in sizes k.child_tier) (child_items nodes q k.child_bitmap) (let x = start.0 in omega arith) in
      let items_are : child_items later q k.child_bitmap ≡ set (child_items nodes q k.child_bitmap) (rank k.child_bitmap c) m = map_set (λ d. node_or_blank (nodes (q ++ d ∷ []))) (λ d. node_or_blank (later (q ++ d ∷ []))) k.child_bitmap c
      (has_bit-below k.child_bitmap c bit) bit (λ i ne. ap node_or_blank (under q i there (λ e. ne (snoc_inj q q i c e).1)))
      ∙ ap (λ y. set (child_items nodes q k.child_bitmap) (rank k.child_bitmap c) (node_or_blank y)) here in
      let g_is : child_blocks sizes later q ≡ b' ∷ [] = ap (child_blocks_of sizes later q) (kept q there ∙ parent)
      ∙ ap (held k.child_tier k.child_block (size_in sizes k.child_tier)) items_are
      ∙ held_some k.child_tier k.child_block (size_in sizes k.child_tier) (set (child_items nodes q k.child_bitmap) (rank k.child_bitmap c) m)
      (let x = start.0 in let l = length-set (child_items nodes q k.child_bitmap) (rank k.child_bitmap c) m in omega arith) in
      let tail_is : flat_map (child_blocks sizes later) twice ≡ flat_map (child_blocks sizes nodes) twice = flat_map_same (child_blocks sizes nodes) (child_blocks sizes later) twice (λ x h.
      let in_rest_x : 0 < times x rest = (let e = times_without q x rest there in omega arith) in
      child_blocks-same sizes nodes later x (kept x in_rest_x)
      (λ d. under x d in_rest_x (λ e. let z : times x twice ≡ 0 = ap (λ y. times y twice) (snoc_inj x q d c e).0
      ∙ times_out_same q rest in_rest in absurd (omega arith)))) in
      let out : (f : List ℕ → List (UsedBlock Node)) →
      IsPermutation (own ++ flat_map f rest) (f q ++ (own ++ flat_map f twice)) =
      λ f. IsPermutation-trans (own ++ flat_map f rest) (own ++ (f q ++ flat_map f twice)) (f q ++ (own ++ flat_map f twice))
      (IsPermutation-append_right own (flat_map f rest) (f q ++ flat_map f twice) (flat_map_out f q rest there))
      (swap_fronts own (f q) (flat_map f twice)) in
      let front : Sound blank_node (b ∷ (own ++ flat_map (child_blocks sizes nodes) twice)) u = subst (λ bs. Sound blank_node (bs ++ (own ++ flat_map (child_blocks sizes nodes) twice)) u) f_is
      (Sound-permuted blank_node (own ++ flat_map (child_blocks sizes nodes) rest)
      (child_blocks sizes nodes q ++ (own ++ flat_map (child_blocks sizes nodes) twice)) u (out (child_blocks sizes nodes)) sound) in
      let w : Store Node = record u { slots = set u.slots (child_slot k c) m } in
      let written : Sound blank_node (b' ∷ (own ++ flat_map (child_blocks sizes nodes) twice)) w = Sound-set blank_node b (own ++ flat_map (child_blocks sizes nodes) twice) u (rank k.child_bitmap c) m start.0 front in
      let renamed : Sound blank_node (child_blocks sizes later q ++ (own ++ flat_map (child_blocks sizes later) twice)) w = subst (λ bs. Sound blank_node (bs ++ (own ++ flat_map (child_blocks sizes later) twice)) w) (sym g_is)
      (subst (λ bs. Sound blank_node (b' ∷ (own ++ bs)) w) (sym tail_is) written) in
      Sound-permuted blank_node (child_blocks sizes later q ++ (own ++ flat_map (child_blocks sizes later) twice))
      (own ++ flat_map (child_blocks sizes later) rest) w
      (IsPermutation-sym (own ++ flat_map (child_blocks sizes later) rest)
      (child_blocks sizes later q ++ (own ++ flat_map (child_blocks sizes later) twice)) (out (child_blocks sizes later))) renamed
