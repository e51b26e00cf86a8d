-- The nodes of a tree after one of them gets a child, loses one, or changes.
use Rattle.prefix_trie_table.proofs.Prelude.{◌≡◌, ◌≢◌, ℕ, ◌+◌, ◌<◌, ◌⊎◌, inl, inr, ⊎_elim, true, false, cond, ◌||◌, nat_eq, List, [], ◌∷◌, ◌++◌, length, set, insert, remove, map, flat_map, Option, None, Some, is_some, IsPermutation, refl, sym, ap, ◌∙◌, subst, arith, length-append, false≢true, cases_Bool, eqb_tells, get_or-set_other, length-insert, Node, has_bit, bits, rank, Store, UsedBlock, Sound, block, child_slot, same_path, one_if, times, without, node_or_blank, has_child, child_items, child_blocks_of, child_blocks, IsSlot, at_root, at_child, NodesHold, with_child, with_child_removed, with_node, blank_node, node_at, IsPermutation-append_right}
use Rattle.std.proofs.lemmas.List.{get_or-set_same}
use Rattle.prefix_trie_table.specs.Forest.{held, size_in, tier_sizes}
use Rattle.prefix_trie_table.proofs.Strings.SmallFacts.{needs_node}
use Rattle.prefix_trie_table.proofs.Strings.Bits.{has_bit-zero}
use Rattle.prefix_trie_table.proofs.Strings.BitLists.{map_same, map_insert, map_remove, bits_below-none}
use Rattle.prefix_trie_table.proofs.Strings.Paths.{same_path-true, same_path-equal, same_path-not, snoc_inj, snoc_not_nil, snoc_not_same, flat_map_out}
use Rattle.prefix_trie_table.proofs.Blocks.Soundness.{Sound-permuted, first_place}
use Rattle.prefix_trie_table.proofs.Tree.Trees.{is_none-None, held_some, node_back, listed_once, own_first, child_is_there, times_out, times_out_same, node_set}

pub bits-none : (bitmap : ℕ) → ((i : ℕ) → has_bit bitmap i ≡ false) → bits bitmap ≡ []
unfolding bits
bits-none bitmap none = bits_below-none bitmap 32 none

pub bits-zero : bits 0 ≡ []
bits-zero = bits-none 0 has_bit-zero

-- a blank node has no block of children
pub blank_blocks : (sizes : List ℕ) (nodes : List ℕ → Option Node) (q : List ℕ) → nodes q ≡ Some blank_node → child_blocks sizes nodes q ≡ []
blank_blocks sizes nodes q e = ap (child_blocks_of sizes nodes q) e ∙ ap (λ cs. held 0 0 (size_in sizes 0) (map (λ c. node_or_blank (nodes (q ++ c ∷ []))) cs)) bits-zero

module _ (nodes : List ℕ → Option Node) (p : List ℕ) (m : Node) (c : ℕ) (o : Option Node) where
  -- the nodes after two of them changed
  abbrev pub changed : List ℕ → Option Node
  changed q = cond (same_path q (p ++ c ∷ [])) o (cond (same_path q p) (Some m) (nodes q))

  -- the changed nodes, at the child, at its parent p, and elsewhere
  pub changed_below : (q : List ℕ) → q ≡ p ++ c ∷ [] → changed q ≡ o
  changed_below q e = ap (λ b. cond b o (cond (same_path q p) (Some m) (nodes q))) (same_path-equal q (p ++ c ∷ []) e)

  pub changed_here : (q : List ℕ) → q ≡ p → changed q ≡ Some m
  changed_here q e =
      ap (λ b. cond b o (cond (same_path q p) (Some m) (nodes q))) (same_path-not q (p ++ c ∷ []) (λ f. snoc_not_same p c (sym f ∙ e)))
      ∙ ap (λ b. cond b (Some m) (nodes q)) (same_path-equal q p e)

  pub changed_other : (q : List ℕ) → q ≢ p → q ≢ p ++ c ∷ [] → changed q ≡ nodes q
  changed_other q ne nf =
      ap (λ b. cond b o (cond (same_path q p) (Some m) (nodes q))) (same_path-not q (p ++ c ∷ []) nf)
      ∙ ap (λ b. cond b (Some m) (nodes q)) (same_path-not q p ne)

pub same_number : (i : ℕ) → nat_eq i i ≡ true
same_number i = elim (eqb_tells i i) as (λ _. nat_eq i i ≡ true) [ inl t ↦ t.0 | inr t ↦ absurd (t.1 refl) ]

pub other_number : (i j : ℕ) → i ≢ j → nat_eq i j ≡ false
other_number i j ne = elim (eqb_tells i j) as (λ _. nat_eq i j ≡ false) [ inl t ↦ absurd (ne t.1) | inr t ↦ t.0 ]

pub same_or : (q k : List ℕ) → (q ≡ k) ⊎ (q ≢ k)
same_or q k = elim (cases_Bool (same_path q k)) as (λ _. (q ≡ k) ⊎ (q ≢ k)) [
  | inl hit ↦ inl (same_path-true q k hit)
  | inr miss ↦ inr (λ e. false≢true (sym miss ∙ same_path-equal q k e))
]

pub number_or : (i j : ℕ) → (i ≡ j) ⊎ (i ≢ j)
number_or i j = elim (eqb_tells i j) as (λ _. (i ≡ j) ⊎ (i ≢ j)) [ inl t ↦ inl t.1 | inr t ↦ inr t.1 ]

-- every other path leads to a node exactly if it did before
pub some_stays : (nodes : List ℕ → Option Node) (p : List ℕ) (n m : Node) (c : ℕ) (o : Option Node) → nodes p ≡ Some n → (q : List ℕ) →
    q ≢ p ++ c ∷ [] → is_some (changed nodes p m c o q) ≡ is_some (nodes q)
some_stays nodes p n m c o is q nr = ⊎_elim
    (λ (e : q ≡ p). ap is_some (changed_here nodes p m c o q e) ∙ sym (ap is_some (ap nodes e ∙ is)))
    (λ (ne : q ≢ p). ap is_some (changed_other nodes p m c o q ne nr)) (same_or q p)

module _ (sizes : List ℕ) (nodes : List ℕ → Option Node) (paths : List (List ℕ)) (v : Store Node) (hold : NodesHold sizes nodes paths v) where
  -- each node still has exactly the children of its bitmap
  linked_changed : (p : List ℕ) (n m : Node) (c : ℕ) (o : Option Node) → nodes p ≡ Some n → has_bit m.child_bitmap c ≡ is_some o →
      ((i : ℕ) → i ≢ c → has_bit m.child_bitmap i ≡ has_bit n.child_bitmap i) → ((d : ℕ) → is_some (nodes ((p ++ c ∷ []) ++ d ∷ [])) ≡ has_child o d)
      → (q : List ℕ) (d : ℕ) → is_some (changed nodes p m c o (q ++ d ∷ [])) ≡ has_child (changed nodes p m c o q) d
  linked_changed p n m c o is bit bits_stay below q d = by_p (same_or q p)
    where
      at_p : q ≡ p → (d ≡ c) ⊎ (d ≢ c) → is_some (changed nodes p m c o (q ++ d ∷ [])) ≡ has_bit m.child_bitmap d
      at_p e (inl f) = ap is_some (changed_below nodes p m c o (q ++ d ∷ []) (λ i. e i ++ f i ∷ [])) ∙ sym bit ∙ ap (has_bit m.child_bitmap) (sym f)
      at_p e (inr nf) =
          ap is_some (changed_other nodes p m c o (q ++ d ∷ []) (λ f. snoc_not_same q d (f ∙ sym e)) (λ f. nf (snoc_inj q p d c f).1))
          ∙ hold.linked q d ∙ ap (λ x. has_child x d) (ap nodes e ∙ is) ∙ sym (bits_stay d nf)

      by_r : (q ≡ p ++ c ∷ []) ⊎ (q ≢ p ++ c ∷ []) → q ≢ p → is_some (nodes (q ++ d ∷ [])) ≡ has_child (changed nodes p m c o q) d
      by_r (inl e) ne = ap (λ y. is_some (nodes (y ++ d ∷ []))) e ∙ below d ∙ sym (ap (λ x. has_child x d) (changed_below nodes p m c o q e))
      by_r (inr nr) ne = hold.linked q d ∙ sym (ap (λ x. has_child x d) (changed_other nodes p m c o q ne nr))

      by_p : (q ≡ p) ⊎ (q ≢ p) → is_some (changed nodes p m c o (q ++ d ∷ [])) ≡ has_child (changed nodes p m c o q) d
      by_p (inl e) = at_p e (number_or d c) ∙ sym (ap (λ x. has_child x d) (changed_here nodes p m c o q e))
      by_p (inr ne) =
          some_stays nodes p n m c o is (q ++ d ∷ []) (λ f. ne (snoc_inj q p d c f).0) ∙ by_r (same_or q (p ++ c ∷ [])) ne

  -- if the path of a node is removed from the list, its parent is still listed
  pub parents : (p : List ℕ) (n : Node) → nodes p ≡ Some n → (q : List ℕ) (c : ℕ) → q ++ c ∷ [] ≡ p → times q (without p paths) ≡ 1
  parents p n is q c e =
      let once : times p paths ≡ 1 = listed_once sizes nodes paths v hold p n is in
      let there : has_child (nodes q) c ≡ true = sym (hold.linked q c) ∙ ap (λ y. is_some (nodes y)) e ∙ ap is_some is in
      let some : is_some (nodes q) ≡ true = needs_node (nodes q) c there in
      times_out p q paths (omega arith) (λ f. snoc_not_same q c (e ∙ sym f)) ∙ hold.listed q ∙ ap one_if some

-- a path that is listed differs from one that is not
pub not_listed : (p : List ℕ) (paths : List (List ℕ)) → times p paths ≡ 0 → (q : List ℕ) → 0 < times q paths → q ≢ p
not_listed p paths none q some e = (let same = ap (λ y. times y paths) e in omega arith)

module _ (sizes : List ℕ) (nodes : List ℕ → Option Node) (paths : List (List ℕ)) (v : Store Node) (hold : NodesHold sizes nodes paths v) where
  -- the root after a write to the slot of a node
  pub root_after : (p : List ℕ) (s : ℕ) (m : Node) (later : List ℕ → Option Node) (u : Store Node) → IsSlot nodes p s → 0 < length u.slots →
      node_at u.slots 0 ≡ node_at v.slots 0
      → later p ≡ Some m → ([] ≢ p → later [] ≡ nodes []) → later [] ≡ Some (node_at (set u.slots s m) 0)
  root_after p s m later u (at_root) some kept here other = here ∙ ap Some (sym (get_or-set_same u.slots 0 m blank_node some))
  root_after p s m later u (at_child q c n is bit) some kept here other =
      let away : 0 < child_slot n c = (child_is_there sizes nodes paths v hold q n c is bit).3 in
      other (λ e. snoc_not_nil q c (sym e)) ∙ hold.rooted
      ∙ ap Some (sym kept ∙ sym (get_or-set_other u.slots (child_slot n c) 0 m blank_node (λ e. omega arith)))

  -- the node n at p becomes m, and its child c becomes o: the block of p's children changes, and the blocks of other
  -- nodes stay
  pub child_changed : (p : List ℕ) (s : ℕ) (n m : Node) (c : ℕ) (o : Option Node) (u : Store Node) (own : List (UsedBlock Node)) (rest after : List (List ℕ))
      → IsSlot nodes p s → nodes p ≡ Some n → has_bit m.child_bitmap c ≡ is_some o →
      ((i : ℕ) → i ≢ c → has_bit m.child_bitmap i ≡ has_bit n.child_bitmap i) → ((d : ℕ) → is_some (nodes ((p ++ c ∷ []) ++ d ∷ [])) ≡ has_child o d)
      → u.first ≡ 1 → tier_sizes u.tiers ≡ sizes → node_at u.slots 0 ≡ node_at v.slots 0
      → times p rest ≡ 0 → times (p ++ c ∷ []) rest ≡ 0 → ((q : List ℕ) (d : ℕ) → q ++ d ∷ [] ≡ p → times q rest ≡ 1)
      → ((q : List ℕ) → times q after ≡ one_if (is_some (changed nodes p m c o q)))
      → held m.child_tier m.child_block (size_in sizes m.child_tier) (child_items (changed nodes p m c o) p m.child_bitmap) ≡ own
      → ((w : Store Node) → Sound blank_node (child_blocks sizes (changed nodes p m c o) p ++ flat_map (child_blocks sizes (changed nodes p m c o)) rest) w →
      Sound blank_node (flat_map (child_blocks sizes (changed nodes p m c o)) after) w)
      → Sound blank_node (own ++ flat_map (child_blocks sizes nodes) rest) u
      → NodesHold sizes (changed nodes p m c o) after (record u { slots = set u.slots s m })
  child_changed p s n m c o u own rest after is_there is bit bits_stay below first sizes_are kept none_p none_r parents listed own_is gather sound =
      let later : List ℕ → Option Node = changed nodes p m c o in
      let w : Store Node = record u { slots = set u.slots s m } in
      let here : later p ≡ Some m = changed_here nodes p m c o p refl in
      let written : Sound blank_node (own ++ flat_map (child_blocks sizes later) rest) w = node_set sizes nodes paths v hold rest p s n m later own u parents is_there is first
      (λ q h. changed_other nodes p m c o q (not_listed p rest none_p q h) (not_listed (p ++ c ∷ []) rest none_r q h))
      (λ q d h not_p. changed_other nodes p m c o (q ++ d ∷ []) not_p (λ e. not_listed p rest none_p q h (snoc_inj q p d c e).0)) here sound in
      record {
        rooted = root_after p s m later u is_there (let x = first_place blank_node _ u sound in omega arith) kept here
            (λ ne. changed_other nodes p m c o [] ne (λ e. snoc_not_nil p c (sym e)));
        linked = linked_changed sizes nodes paths v hold p n m c o is bit bits_stay below;
        listed = listed;
        sound = gather w (subst (λ bs. Sound blank_node (bs ++ flat_map (child_blocks sizes later) rest) w) (sym (ap (child_blocks_of sizes later p) here ∙ own_is)) written);
        first_is = first;
        sizes_are = sizes_are;
      }

  -- the node n at p becomes m, which has one more child c, a blank node
  pub child_added : (p : List ℕ) (s : ℕ) (n m : Node) (c : ℕ) (u : Store Node)
      → IsSlot nodes p s → nodes p ≡ Some n → c < 32 → has_bit n.child_bitmap c ≡ false →
      ((i : ℕ) → has_bit m.child_bitmap i ≡ (nat_eq i c || has_bit n.child_bitmap i))
      → u.first ≡ 1 → tier_sizes u.tiers ≡ sizes → node_at u.slots 0 ≡ node_at v.slots 0
      → Sound blank_node (block m.child_tier m.child_block (size_in sizes m.child_tier)
      (insert (child_items nodes p n.child_bitmap) (rank n.child_bitmap c) blank_node) ∷ flat_map (child_blocks sizes nodes) (without p paths)) u
      → NodesHold sizes (with_child nodes p m c) ((p ++ c ∷ []) ∷ paths) (record u { slots = set u.slots s m })
  child_added p s n m c u is_there is digit missing more first sizes_are kept sound =
      let later : List ℕ → Option Node = with_child nodes p m c in
      let gone : nodes (p ++ c ∷ []) ≡ None = is_none-None (nodes (p ++ c ∷ [])) (hold.linked p c ∙ ap (λ o. has_child o c) is ∙ missing) in
      let once : times p paths ≡ 1 = listed_once sizes nodes paths v hold p n is in
      let none_r : times (p ++ c ∷ []) paths ≡ 0 = hold.listed (p ++ c ∷ []) ∙ ap (λ o. one_if (is_some o)) gone in
      let bit_c : has_bit m.child_bitmap c ≡ true = more c ∙ ap (λ b. b || has_bit n.child_bitmap c) (same_number c) in
      let bit_i : (i : ℕ) → i ≢ c → has_bit m.child_bitmap i ≡ has_bit n.child_bitmap i = λ i ne. more i
      ∙ ap (λ b. b || has_bit n.child_bitmap i) (other_number i c ne) in
      let put : List Node = insert (child_items nodes p n.child_bitmap) (rank n.child_bitmap c) blank_node in
      let grown = map_insert (λ d. node_or_blank (nodes (p ++ d ∷ []))) (λ d. node_or_blank (later (p ++ d ∷ []))) n.child_bitmap m.child_bitmap c
      digit missing bit_c bit_i (λ i ne. ap node_or_blank
      (changed_other nodes p m c (Some blank_node) (p ++ i ∷ []) (snoc_not_same p i) (λ e. ne (snoc_inj p p i c e).1))) in
      let items : child_items later p m.child_bitmap ≡ put = grown.1
      ∙ ap (λ y. insert (child_items nodes p n.child_bitmap) (rank n.child_bitmap c) (node_or_blank y))
      (changed_below nodes p m c (Some blank_node) (p ++ c ∷ []) refl) in
      let none : child_blocks sizes later (p ++ c ∷ []) ≡ [] = blank_blocks sizes later (p ++ c ∷ []) (changed_below nodes p m c (Some blank_node) (p ++ c ∷ []) refl) in
      child_changed p s n m c (Some blank_node) u (block m.child_tier m.child_block (size_in sizes m.child_tier) put ∷ []) (without p paths) ((p ++ c ∷ []) ∷ paths)
      is_there is bit_c bit_i (λ d. hold.linked (p ++ c ∷ []) d ∙ ap (λ o. has_child o d) gone ∙ sym (has_bit-zero d)) first sizes_are kept
      (times_out_same p paths once) (times_out p (p ++ c ∷ []) paths (omega arith) (snoc_not_same p c) ∙ none_r) (parents sizes nodes paths v hold p n is)
      (λ q. list q (same_or q (p ++ c ∷ [])))
      (ap (held m.child_tier m.child_block (size_in sizes m.child_tier)) items ∙ held_some m.child_tier m.child_block (size_in sizes m.child_tier) put
      (let l = length-insert (child_items nodes p n.child_bitmap) (rank n.child_bitmap c) blank_node grown.0 in omega arith))
      (λ w whole. subst (λ bs. Sound blank_node (bs ++ flat_map (child_blocks sizes later) paths) w) (sym none)
      (node_back sizes later paths blank_node (child_blocks sizes later) w p (omega arith) whole)) sound
    where
      list : (q : List ℕ) → (q ≡ p ++ c ∷ []) ⊎ (q ≢ p ++ c ∷ []) →
          one_if (same_path q (p ++ c ∷ [])) + times q paths ≡ one_if (is_some (with_child nodes p m c q))
      list q (inl e) =
          let gone : is_some (nodes (p ++ c ∷ [])) ≡ false = hold.linked p c ∙ ap (λ o. has_child o c) is ∙ missing in
          let a : one_if (same_path q (p ++ c ∷ [])) ≡ 1 = ap one_if (same_path-equal q (p ++ c ∷ []) e) in
          let b : times q paths ≡ 0 = hold.listed q ∙ ap (λ y. one_if (is_some (nodes y))) e ∙ ap one_if gone in
          let d : one_if (is_some (with_child nodes p m c q)) ≡ 1 = ap (λ o. one_if (is_some o)) (changed_below nodes p m c (Some blank_node) q e) in
          omega arith
      list q (inr ne) =
          let a : one_if (same_path q (p ++ c ∷ [])) ≡ 0 = ap one_if (same_path-not q (p ++ c ∷ []) ne) in
          let d : one_if (is_some (with_child nodes p m c q)) ≡ one_if (is_some (nodes q)) = ap one_if (some_stays nodes p n m c (Some blank_node) is q ne) in
          let b = hold.listed q in omega arith

module _ (nodes : List ℕ → Option Node) (p : List ℕ) (m : Node) where
  -- the node that was replaced, and the other nodes
  pub with_here : (q : List ℕ) → q ≡ p → with_node nodes p m q ≡ Some m
  with_here q e = ap (λ b. cond b (Some m) (nodes q)) (same_path-equal q p e)

  pub with_other : (q : List ℕ) → q ≢ p → with_node nodes p m q ≡ nodes q
  with_other q ne = ap (λ b. cond b (Some m) (nodes q)) (same_path-not q p ne)

-- removing two paths from a list in either order gives the same list
pub without_both : (p r : List ℕ) (paths : List (List ℕ)) → p ≢ r → without p (without r paths) ≡ without r (without p paths)
without_both p r [] ne = refl
without_both p r (x ∷ paths) ne = by_p (without_both p r paths ne) (same_or p x) (same_or r x)
  where
    by_p : without p (without r paths) ≡ without r (without p paths) → (p ≡ x) ⊎ (p ≢ x) → (r ≡ x) ⊎ (r ≢ x) →
        without p (cond (same_path r x) paths (x ∷ without r paths)) ≡ without r (cond (same_path p x) paths (x ∷ without p paths))
    by_p ih (inl e) (inl f) = absurd (ne (e ∙ sym f))
    by_p ih (inl e) (inr nf) =
        let a = same_path-equal p x e in let b = same_path-not r x nf in rw (a, b) (ap (λ t. cond t (without r paths) (x ∷ without p (without r paths))) a)
    by_p ih (inr n) (inl f) =
        let a = same_path-not p x n in let b = same_path-equal r x f in rw (a, b) refl
    by_p ih (inr n) (inr nf) =
        let a = same_path-not p x n in let b = same_path-not r x nf in
        rw (a, b) (ap (λ t. cond t (without r paths) (x ∷ without p (without r paths))) a ∙ ap (λ ys. x ∷ ys) ih)

module _ (sizes : List ℕ) (nodes : List ℕ → Option Node) (paths : List (List ℕ)) (v : Store Node) (hold : NodesHold sizes nodes paths v) where
  -- the node n at p becomes m, which has the same children
  pub node_changed : (p : List ℕ) (s : ℕ) (n m : Node) → IsSlot nodes p s → nodes p ≡ Some n → m.child_bitmap ≡ n.child_bitmap →
      m.child_block ≡ n.child_block → m.child_tier ≡ n.child_tier
      → NodesHold sizes (with_node nodes p m) paths (record v { slots = set v.slots s m })
  node_changed p s n m is_there is same_bits same_block same_tier =
      let later : List ℕ → Option Node = with_node nodes p m in
      let w : Store Node = record v { slots = set v.slots s m } in
      let once : times p paths ≡ 1 = listed_once sizes nodes paths v hold p n is in
      let not_p = not_listed p (without p paths) (times_out_same p paths once) in
      let own : List (UsedBlock Node) = held n.child_tier n.child_block (size_in sizes n.child_tier) (child_items nodes p n.child_bitmap) in
      let here : later p ≡ Some m = with_here nodes p m p refl in
      let written : Sound blank_node (own ++ flat_map (child_blocks sizes later) (without p paths)) w = node_set sizes nodes paths v hold (without p paths) p s n m later own v (parents sizes nodes paths v hold p n is) is_there is hold.first_is
      (λ q h. with_other nodes p m q (not_p q h)) (λ q d h other. with_other nodes p m (q ++ d ∷ []) other) here
      (own_first sizes nodes paths v hold p n is) in
      let items : child_items later p m.child_bitmap ≡ child_items nodes p n.child_bitmap = map_same (λ d. node_or_blank (nodes (p ++ d ∷ []))) (λ d. node_or_blank (later (p ++ d ∷ []))) n.child_bitmap m.child_bitmap
      (λ i. ap (λ b. has_bit b i) same_bits) (λ d. ap node_or_blank (with_other nodes p m (p ++ d ∷ []) (snoc_not_same p d))) in
      let own_is : child_blocks sizes later p ≡ own = ap (child_blocks_of sizes later p) here
      ∙ (λ i. held (same_tier i) (same_block i) (size_in sizes (same_tier i)) (items i)) in
      record {
        rooted = root_after sizes nodes paths v hold p s m later v is_there
            (let x = first_place blank_node _ v hold.sound in let y = hold.first_is in omega arith) refl here (λ ne. with_other nodes p m [] ne);
        linked = λ q d. ap is_some refl ∙ link q d (same_or (q ++ d ∷ []) p) (same_or q p);
        listed = λ q. hold.listed q ∙ ap one_if (sym (some_same q (same_or q p)));
        sound = node_back sizes later paths blank_node (child_blocks sizes later) w p (omega arith)
            (subst (λ bs. Sound blank_node (bs ++ flat_map (child_blocks sizes later) (without p paths)) w) (sym own_is) written);
        first_is = hold.first_is;
        sizes_are = hold.sizes_are;
      }
    where
      some_same : (q : List ℕ) → (q ≡ p) ⊎ (q ≢ p) → is_some (with_node nodes p m q) ≡ is_some (nodes q)
      some_same q (inl e) = ap is_some (with_here nodes p m q e) ∙ sym (ap is_some (ap nodes e ∙ is))
      some_same q (inr ne) = ap is_some (with_other nodes p m q ne)

      has_same : (q : List ℕ) (d : ℕ) → (q ≡ p) ⊎ (q ≢ p) → has_child (with_node nodes p m q) d ≡ has_child (nodes q) d
      has_same q d (inl e) = ap (λ x. has_child x d) (with_here nodes p m q e) ∙ ap (λ b. has_bit b d) same_bits
          ∙ sym (ap (λ x. has_child x d) (ap nodes e ∙ is))
      has_same q d (inr ne) = ap (λ x. has_child x d) (with_other nodes p m q ne)

      link : (q : List ℕ) (d : ℕ) → (q ++ d ∷ [] ≡ p) ⊎ (q ++ d ∷ [] ≢ p) → (q ≡ p) ⊎ (q ≢ p) →
          is_some (with_node nodes p m (q ++ d ∷ [])) ≡ has_child (with_node nodes p m q) d
      link q d below at = some_same (q ++ d ∷ []) below ∙ hold.linked q d ∙ sym (has_same q d at)

  -- the node n at p becomes m, which has lost its child c, a node without children
  pub child_removed : (p : List ℕ) (s : ℕ) (n m leaf : Node) (c : ℕ) (u : Store Node)
      → IsSlot nodes p s → nodes p ≡ Some n → c < 32 → nodes (p ++ c ∷ []) ≡ Some leaf → ((i : ℕ) → has_bit leaf.child_bitmap i ≡ false)
      → has_bit m.child_bitmap c ≡ false → ((i : ℕ) → i ≢ c → has_bit m.child_bitmap i ≡ has_bit n.child_bitmap i)
      → u.first ≡ 1 → tier_sizes u.tiers ≡ sizes → node_at u.slots 0 ≡ node_at v.slots 0
      → Sound blank_node (held m.child_tier m.child_block (size_in sizes m.child_tier)
      (remove (child_items nodes p n.child_bitmap) (rank n.child_bitmap c)) ++ flat_map (child_blocks sizes nodes) (without p paths)) u
      → NodesHold sizes (with_child_removed nodes p m c) (without (p ++ c ∷ []) paths) (record u { slots = set u.slots s m })
  child_removed p s n m leaf c u is_there is digit there bare cleared bit_i first sizes_are kept sound =
      let later : List ℕ → Option Node = with_child_removed nodes p m c in
      let rest : List (List ℕ) = without (p ++ c ∷ []) (without p paths) in
      let once : times p paths ≡ 1 = listed_once sizes nodes paths v hold p n is in
      let once_r : times (p ++ c ∷ []) paths ≡ 1 = listed_once sizes nodes paths v hold (p ++ c ∷ []) leaf there in
      let in_p : times (p ++ c ∷ []) (without p paths) ≡ 1 = times_out p (p ++ c ∷ []) paths (omega arith) (snoc_not_same p c) ∙ once_r in
      let apart : p ≢ p ++ c ∷ [] = λ e. snoc_not_same p c (sym e) in
      let none_p : times p (without (p ++ c ∷ []) (without p paths)) ≡ 0 = times_out (p ++ c ∷ []) p (without p paths) (omega arith) apart ∙ times_out_same p paths once in
      let had : has_bit n.child_bitmap c ≡ true = sym (hold.linked p c ∙ ap (λ o. has_child o c) is) ∙ ap is_some there in
      let own : List (UsedBlock Node) = held m.child_tier m.child_block (size_in sizes m.child_tier)
      (remove (child_items nodes p n.child_bitmap) (rank n.child_bitmap c)) in
      let leaf_blocks : child_blocks sizes nodes (p ++ c ∷ []) ≡ [] = ap (child_blocks_of sizes nodes (p ++ c ∷ [])) there
      ∙ ap (λ cs. held leaf.child_tier leaf.child_block (size_in sizes leaf.child_tier)
      (map (λ d. node_or_blank (nodes ((p ++ c ∷ []) ++ d ∷ []))) cs)) (bits-none leaf.child_bitmap bare) in
      let dropped : Sound blank_node (own ++ flat_map (child_blocks sizes nodes) rest) u = Sound-permuted blank_node (own ++ flat_map (child_blocks sizes nodes) (without p paths)) (own ++ flat_map (child_blocks sizes nodes) rest) u
      (IsPermutation-append_right own (flat_map (child_blocks sizes nodes) (without p paths)) (flat_map (child_blocks sizes nodes) rest)
      (subst (λ bs. IsPermutation (flat_map (child_blocks sizes nodes) (without p paths)) (bs ++ flat_map (child_blocks sizes nodes) rest)) leaf_blocks
      (flat_map_out (child_blocks sizes nodes) (p ++ c ∷ []) (without p paths) (omega arith)))) sound in
      let items : child_items later p m.child_bitmap ≡ remove (child_items nodes p n.child_bitmap) (rank n.child_bitmap c) =
      map_remove (λ d. node_or_blank (nodes (p ++ d ∷ []))) (λ d. node_or_blank (later (p ++ d ∷ []))) n.child_bitmap m.child_bitmap c digit had
      cleared bit_i (λ i ne. ap node_or_blank
      (changed_other nodes p m c None (p ++ i ∷ []) (snoc_not_same p i) (λ e. ne (snoc_inj p p i c e).1))) in
      let still = times_out (p ++ c ∷ []) p paths (omega arith) apart in
      child_changed sizes nodes paths v hold p s n m c None u own rest (without (p ++ c ∷ []) paths) is_there is cleared bit_i
      (λ d. hold.linked (p ++ c ∷ []) d ∙ ap (λ o. has_child o d) there ∙ bare d) first sizes_are kept
      none_p (times_out_same (p ++ c ∷ []) (without p paths) in_p)
      (λ q d e. times_out (p ++ c ∷ []) q (without p paths) (omega arith) (λ f. longer q d e f) ∙ parents sizes nodes paths v hold p n is q d e)
      (λ q. list q once_r (same_or q (p ++ c ∷ []))) (ap (held m.child_tier m.child_block (size_in sizes m.child_tier)) items)
      (λ w whole. node_back sizes later (without (p ++ c ∷ []) paths) blank_node (child_blocks sizes later) w p (omega arith)
      (subst (λ qs. Sound blank_node (child_blocks sizes later p ++ flat_map (child_blocks sizes later) qs) w)
      (sym (without_both p (p ++ c ∷ []) paths apart)) whole)) dropped
    where
      longer : (q : List ℕ) (d : ℕ) → q ++ d ∷ [] ≡ p → q ≡ p ++ c ∷ [] → ⊥
      longer q d e f = (let a : length q + 1 ≡ length p = sym (length-append q (d ∷ []))
          ∙ ap (λ (xs : List ℕ). length xs) e in let b : length q ≡ length p + 1 = ap (λ (xs : List ℕ). length xs) f
          ∙ length-append p (c ∷ []) in omega arith)

      list : (q : List ℕ) → times (p ++ c ∷ []) paths ≡ 1 → (q ≡ p ++ c ∷ []) ⊎ (q ≢ p ++ c ∷ []) →
          times q (without (p ++ c ∷ []) paths) ≡ one_if (is_some (with_child_removed nodes p m c q))
      list q once (inl e) = ap (λ y. times y (without (p ++ c ∷ []) paths)) e ∙ times_out_same (p ++ c ∷ []) paths once
          ∙ sym (ap (λ o. one_if (is_some o)) (changed_below nodes p m c None q e))
      list q once (inr ne) = times_out (p ++ c ∷ []) q paths (omega arith) ne ∙ hold.listed q ∙ sym (ap one_if (some_stays nodes p n m c None is q ne))
