-- A node that is built with everything under it: the start, each child in order, and the end.
use Rattle.prefix_trie_table.proofs.Prelude.{◌≡◌, ◌≢◌, ℕ, zero, suc, ◌+◌, ◌<◌, ◌≤◌, inl, inr, ⊎_elim, Bool, true, false, ◌&&◌, List, [], ◌∷◌, drop, ◌++◌, length, map, flat_map, replicate, Option, None, Some, is_some, refl, sym, ap, ap₂, ◌∙◌, subst, arith, append_assoc, append-nil, false≢true, length-map, length-replicate, flat_map-append, packed_block, Node, BlockRef, has_bit, bits, rank, blank_node, node_sizes, cell_sizes, one_if, times, has_child, has_value, node_or_blank, child_items, child_blocks, value_blocks_of, in_part, in_child, SomeValue, child_slots, value_slots, sum_to, slots_below, slots_at_child, IsPackedNode, no_value, IsBuilt, IsSubtree, NothingBuilt, BuildsList, Builds, chunks_of, bit_of, begins, number, number-lt, value_bit, IsBare, IsStocked, Store, UsedBlock, Sound, held, size_in, tier_sizes, size_if_any, smallest_size}
use Rattle.prefix_trie_table.proofs.Splitting.FreshArrays.{Builds-none, Builds-then, Builds-list}
use Rattle.prefix_trie_table.proofs.Splitting.Space.{sum_to_next, slots_split}
use Rattle.prefix_trie_table.proofs.Blocks.Soundness.{Sound-permuted}
use Rattle.prefix_trie_table.proofs.Splitting.AttachedSubtrees.{attached, attach_here, attach_other, attach_nodes_from, branch_blocks, cells_of, branch_cells, rest_same, none_below, no_rest}
use Rattle.prefix_trie_table.proofs.Splitting.LongerLists.{map-pushed, map-nothing}
use Rattle.prefix_trie_table.proofs.Strings.BareBitmaps.{no_bit, some_bit}
use Rattle.prefix_trie_table.proofs.Strings.Bits.{has_bit-zero}
use Rattle.prefix_trie_table.proofs.Strings.BitLists.{rank-all}
use Rattle.prefix_trie_table.proofs.Strings.Paths.{swap_fronts}
use Rattle.prefix_trie_table.proofs.Tree.Children.{number_or, bits-none, bits-zero}
use Rattle.prefix_trie_table.proofs.Tree.Trees.{child_blocks-same}

-- ---- a subtree

-- a node alone
abbrev pub alone : Node → List ℕ → Option Node
alone n [] = Some n
alone n (c ∷ p) = None

-- the block of a list that was built has the smallest size that holds it
built_packed : {S : Type 0} (vacant : S) (v w : Store S) (sizes : List ℕ) (items : List S) (at : BlockRef) → tier_sizes v.tiers ≡ sizes →
    BuildsList vacant v w items at → (count : ℕ) → length items ≡ count → size_if_any count (size_in sizes at.tier) ≡ packed_block sizes count
built_packed vacant v w sizes items at are built zero e = refl
built_packed vacant v w sizes items at are built (suc n) e =
    sym (subst (λ ns. smallest_size ns (suc n) ≡ Some (size_in ns at.tier)) are (ap (smallest_size (tier_sizes v.tiers)) (sym e) ∙ built.size (omega (arith, e))))

-- the nodes with another first one
abbrev pub topped : Node → (List ℕ → Option Node) → List ℕ → Option Node
topped m sub [] = Some m
topped m sub (c ∷ p) = sub (c ∷ p)

-- a node with these values, which have their block, and no children
abbrev pub first : ℕ → BlockRef → Node
first values at = record { value_bitmap = values; child_bitmap = 0; value_block = at.start; child_block = 0; value_tier = at.tier; child_tier = 0 }

-- the slots of the children before i, and of a node's values with those
abbrev of_nodes : List Node → ℕ → Node → ℕ → ℕ
of_nodes array levels n = sum_to (slots_at_child child_slots array levels n)

abbrev of_cells : List Node → ℕ → Node → ℕ → ℕ
of_cells array levels n i = value_slots n + sum_to (slots_at_child value_slots array levels n) i

module _ {T : Type 0} {array : List Node} {levels : ℕ} {n : Node} {t : List Bool} {v : Store Node} {w : Store (Option T)} where
  -- its values have their block
  pub subtree_start : (values : ℕ) (at : BlockRef) (w2 : Store (Option T)) →
      ((s : List Bool) → length s ≤ 4 → has_bit values (value_bit s) ≡ (begins t s && has_bit n.value_bitmap (value_bit s))) →
      ((b : ℕ) → has_bit values b ≡ true → b < 31) → tier_sizes w.tiers ≡ cell_sizes → BuildsList None w w2 (replicate (rank values 32) None) at →
      length w2.slots ≤ length w.slots + value_slots n → IsSubtree array levels n t v w 0 (first values at) [] v w2
  subtree_start values at w2 own small are built longer = record {
    sub = alone (first values at);
    rest = [];
    nodes_from = record { top = refl; linked = linked; listed = listed };
    own_block = built_packed None w w2 cell_sizes (replicate (rank values 32) None) at are built (rank values 32) (length-replicate (rank values 32) None);
    own = own;
    values = λ u s long h. absurd (omega (arith, h));
    within = within;
    packed = λ c p m e. absurd (false≢true (ap is_some e));
    later = λ c p h. refl;
    needed = λ c p e. absurd (false≢true e);
    kept = λ c set. absurd (false≢true (sym (has_bit-zero c) ∙ set));
    children = sym (ap (λ cs. map (λ c. node_or_blank (alone (first values at) ([] ++ c ∷ []))) cs) bits-zero);
    nodes = Builds-none blank_node v (of_nodes array levels n 0);
    cells = subst (λ bs. Builds None bs (of_cells array levels n 0) w w2) same
        (Builds-list None w w2 cell_sizes (replicate (rank values 32) None) at (of_cells array levels n 0) are built (omega (arith, longer)));
  }
    where
      linked : (p : List ℕ) (c : ℕ) → is_some (alone (first values at) (p ++ c ∷ [])) ≡ has_child (alone (first values at) p) c
      linked [] c = sym (has_bit-zero c)
      linked (d ∷ p) c = refl

      listed : (q : List ℕ) → times q ([] ∷ []) ≡ one_if (is_some (alone (first values at) q))
      listed [] = refl
      listed (c ∷ p) = refl

      within : (p : List ℕ) (b : ℕ) → has_value (alone (first values at) p) b ≡ true → b < 31
      within [] b set = small b set
      within (c ∷ p) b set = absurd (false≢true set)

      same : held {S = Option T} at.tier at.start (size_in cell_sizes at.tier) (replicate (rank values 32) None) ≡ flat_map (cells_of (alone (first values at))) ([] ∷ [])
      same =
          ap (held at.tier at.start (size_in cell_sizes at.tier))
          (ap (λ n. replicate n None) (sym (rank-all (λ (b : ℕ). b) values) ∙ length-map (bits values) (λ b. b)) ∙ sym (map-nothing (bits values)))
          ∙ sym (append-nil (held at.tier at.start (size_in cell_sizes at.tier) (map (no_value []) (bits values))))

  module _ {i : ℕ} {m : Node} {below : List Node} {v2 : Store Node} {w2 : Store (Option T)} (b : IsSubtree array levels n t v w i m below v2 w2) where
    -- the slots so far, and those of the next child
    nodes_next : of_nodes array levels n i + slots_at_child child_slots array levels n i ≤ of_nodes array levels n (i + 1)
    nodes_next = let e = sum_to_next (slots_at_child child_slots array levels n) i in omega (arith, e)

    cells_next : of_cells array levels n i + slots_at_child value_slots array levels n i ≤ of_cells array levels n (i + 1)
    cells_next = let e = sum_to_next (slots_at_child value_slots array levels n) i in omega (arith, e)

    -- as many are built as it has children
    pub subtree_few : length below ≡ rank m.child_bitmap 32
    subtree_few = ap (λ (xs : List Node). length xs) b.children ∙ rank-all (λ c. node_or_blank (b.sub ([] ++ c ∷ []))) m.child_bitmap

    -- it has none of those that are not built yet
    pub subtree_clear : (c : ℕ) → i ≤ c → has_bit m.child_bitmap c ≡ false
    subtree_clear c h = sym (b.nodes_from.linked [] c ∙ ap (λ o. has_child o c) b.nodes_from.top) ∙ ap is_some (b.later c [] h)

    -- a child below which there is nothing is passed over
    pub subtree_passed : (v3 : Store Node) (w3 : Store (Option T)) → ((u s : List Bool) → length u ≡ 5 → number u ≡ i → in_child array n t u s ≡ false) →
        Builds blank_node [] (slots_at_child child_slots array levels n i) v2 v3 → Builds None [] (slots_at_child value_slots array levels n i) w2 w3 →
        IsSubtree array levels n t v w (i + 1) m below v3 w3
    subtree_passed v3 w3 none nodes cells = record {
      sub = b.sub;
      rest = b.rest;
      nodes_from = b.nodes_from;
      own_block = b.own_block;
      own = b.own;
      values = λ u s long h. ⊎_elim
          (λ (e : number u ≡ i). ap (λ o. has_value o (bit_of s)) (b.later (number u) (chunks_of s) (omega (arith, e))) ∙ sym (none u s long e))
          (λ (ne : number u ≢ i). b.values u s long (omega (arith, h, ne))) (number_or (number u) i);
      within = b.within;
      packed = b.packed;
      later = λ c p h. b.later c p (omega (arith, h));
      needed = b.needed;
      kept = b.kept;
      children = b.children;
      nodes = Builds-then blank_node v v2 v3 _ [] _ _ _ _ b.nodes nodes (λ live s. s) nodes_next;
      cells = Builds-then None w w2 w3 _ [] _ _ _ _ b.cells cells (λ live s. s) cells_next;
    }

    -- what is built under a child is attached
    module _ (top : Node) (bitmap fewer : ℕ) (lower : Node) (v3 : Store Node) (w3 : Store (Option T)) (l : IsBuilt array fewer lower (drop 5 t) v2 v3 w2 w3 top)
        (small : i < 32) (there : has_bit n.child_bitmap i ≡ true)
        (same : (u s : List Bool) → length u ≡ 5 → number u ≡ i → in_child array n t u s ≡ in_part array lower (drop 5 t) s)
        (amount : (own : Node → ℕ) → slots_at_child own array levels n i ≡ slots_below own array fewer lower)
        (set : has_bit bitmap i ≡ true) (others : (c : ℕ) → c ≢ i → has_bit bitmap c ≡ has_bit m.child_bitmap c) where
      abbrev grown : Node
      grown = record m { child_bitmap = bitmap }

      abbrev new : List ℕ → Option Node
      new = attached grown i l.sub b.sub

      here : (c : ℕ) (p : List ℕ) → c ≡ i → new (c ∷ p) ≡ l.sub p
      here c p e = attach_here grown i b.sub l.sub c p e

      other : (c : ℕ) (p : List ℕ) → c ≢ i → new (c ∷ p) ≡ b.sub (c ∷ p)
      other c p ne = attach_other grown i b.sub l.sub c p ne

      apart : (c : ℕ) (p : List ℕ) → is_some (b.sub (c ∷ p)) ≡ true → c ≢ i
      apart c p there e = false≢true (sym (ap is_some (b.later c p (omega (arith, e)))) ∙ there)

      within : (p : List ℕ) (bit : ℕ) → has_value (new p) bit ≡ true → bit < 31
      within [] bit has = b.within [] bit (ap (λ o. has_value o bit) b.nodes_from.top ∙ has)
      within (c ∷ p) bit has = ⊎_elim
          (λ (is : c ≡ i). l.part.within p bit (sym (ap (λ o. has_value o bit) (here c p is)) ∙ has))
          (λ (ne : c ≢ i). b.within (c ∷ p) bit (sym (ap (λ o. has_value o bit) (other c p ne)) ∙ has)) (number_or c i)

      needed : (c : ℕ) (p : List ℕ) → is_some (new (c ∷ p)) ≡ true → SomeValue new (c ∷ p)
      needed c p e = ⊎_elim
          (λ (is : c ≡ i). let s = l.needed p (sym (ap is_some (here c p is)) ∙ e) in
          record { below = s.below; bit = s.bit; is = ap (λ o. has_value o s.bit) (here c (p ++ s.below) is) ∙ s.is })
          (λ (ne : c ≢ i). let s = b.needed c p (sym (ap is_some (other c p ne)) ∙ e) in
          record { below = s.below; bit = s.bit; is = ap (λ o. has_value o s.bit) (other c (p ++ s.below) ne) ∙ s.is }) (number_or c i)

      all_children : below ++ top ∷ [] ≡ child_items new [] bitmap
      all_children =
          ap₂ (λ xs y. xs ++ y ∷ []) b.children (sym (ap node_or_blank (here i [] refl ∙ l.nodes_from.top)))
          ∙ sym (map-pushed (λ c. node_or_blank (b.sub ([] ++ c ∷ []))) (λ c. node_or_blank (new ([] ++ c ∷ []))) m.child_bitmap bitmap i small subtree_clear set others
          (λ c ne. ap node_or_blank (other c [] ne)))

      node_blocks : flat_map (child_blocks node_sizes new) (map (λ p. i ∷ p) l.paths ++ b.rest) ≡
          flat_map (child_blocks node_sizes l.sub) l.paths ++ flat_map (child_blocks node_sizes b.sub) b.rest
      node_blocks =
          flat_map-append (child_blocks node_sizes new) (map (λ p. i ∷ p) l.paths) b.rest
          ∙ ap₂ (λ xs ys. xs ++ ys) (branch_blocks grown i b.sub l.sub l.paths)
          (rest_same m b.sub b.rest b.nodes_from (child_blocks node_sizes b.sub) (child_blocks node_sizes new)
          (λ c p there. child_blocks-same node_sizes b.sub new (c ∷ p) (other c p (apart c p there)) (λ e. other c (p ++ e ∷ []) (apart c p there))))

      abbrev own : List (UsedBlock (Option T))
      own = cells_of b.sub []

      abbrev branches : List (UsedBlock (Option T))
      branches = flat_map (cells_of l.sub) l.paths

      abbrev mine : List (UsedBlock (Option T))
      mine = flat_map (cells_of b.sub) b.rest

      cell_blocks : flat_map (cells_of {T = T} new) ([] ∷ (map (λ p. i ∷ p) l.paths ++ b.rest)) ≡ own ++ (branches ++ mine)
      cell_blocks =
          ap₂ (λ xs ys. xs ++ ys) (sym (ap (value_blocks_of cell_sizes no_value []) b.nodes_from.top))
          (flat_map-append (cells_of new) (map (λ p. i ∷ p) l.paths) b.rest
          ∙ ap₂ (λ xs ys. xs ++ ys) (branch_cells grown i b.sub l.sub l.paths)
          (rest_same m b.sub b.rest b.nodes_from (cells_of b.sub) (cells_of new)
          (λ c p there. ap (value_blocks_of cell_sizes no_value (c ∷ p)) (other c p (apart c p there)))))

      turned : (live : List (UsedBlock (Option T))) → Sound None (branches ++ ((own ++ mine) ++ live)) w3 →
          Sound None (flat_map (cells_of new) ([] ∷ (map (λ p. i ∷ p) l.paths ++ b.rest)) ++ live) w3
      turned live s =
          let back : own ++ (branches ++ (mine ++ live)) ≡ (own ++ (branches ++ mine)) ++ live = ap (λ bs. own ++ bs) (sym (append_assoc branches mine live)) ∙ sym (append_assoc own (branches ++ mine) live) in
          subst (λ bs. Sound None bs w3) (back ∙ ap (λ bs. bs ++ live) (sym cell_blocks))
          (Sound-permuted None (branches ++ (own ++ (mine ++ live))) (own ++ (branches ++ (mine ++ live))) w3 (swap_fronts branches own (mine ++ live))
          (subst (λ bs. Sound None (branches ++ bs) w3) (append_assoc own mine live) s))

      pub subtree_attached : IsSubtree array levels n t v w (i + 1) (record m { child_bitmap = bitmap }) (below ++ top ∷ []) v3 w3
      subtree_attached = record {
        sub = new;
        rest = map (λ p. i ∷ p) l.paths ++ b.rest;
        nodes_from = attach_nodes_from m grown top i b.sub l.sub b.rest l.paths b.nodes_from l.nodes_from (λ p. b.later i p (omega arith)) set others;
        own_block = b.own_block;
        own = b.own;
        values = λ u s long h. ⊎_elim
            (λ (e : number u ≡ i). ap (λ o. has_value o (bit_of s)) (here (number u) (chunks_of s) e) ∙ l.part.values s ∙ sym (same u s long e))
            (λ (ne : number u ≢ i). ap (λ o. has_value o (bit_of s)) (other (number u) (chunks_of s) ne) ∙ b.values u s long (omega (arith, h, ne)))
            (number_or (number u) i);
        within = within;
        packed = λ c p k e. ⊎_elim (λ (is : c ≡ i). l.part.packed p k (sym (here c p is) ∙ e)) (λ (ne : c ≢ i). b.packed c p k (sym (other c p ne) ∙ e)) (number_or c i);
        later = λ c p h. other c p (λ e. absurd (omega (arith, h, e))) ∙ b.later c p (omega (arith, h));
        needed = needed;
        kept = λ c has. ⊎_elim (λ (is : c ≡ i). ap (has_bit n.child_bitmap) is ∙ there) (λ (ne : c ≢ i). b.kept c (sym (others c ne) ∙ has)) (number_or c i);
        children = all_children;
        nodes = Builds-then blank_node v v2 v3 _ _ _ _ _ _ b.nodes l.nodes
            (λ live s. subst (λ bs. Sound blank_node bs v3)
            (sym (append_assoc (flat_map (child_blocks node_sizes l.sub) l.paths) (flat_map (child_blocks node_sizes b.sub) b.rest) live) ∙ ap (λ bs. bs ++ live) (sym node_blocks)) s)
            (omega (arith, nodes_next, amount child_slots));
        cells = Builds-then None w w2 w3 _ _ _ _ _ _ b.cells l.cells turned (omega (arith, cells_next, amount value_slots));
      }

    -- all its children are built
    module _ (all : i ≡ 32) where
      -- so it has its part
      value_is : (s : List Bool) → has_value (b.sub (chunks_of s)) (bit_of s) ≡ in_part array n t s
      value_is (a ∷ x ∷ c ∷ d ∷ e ∷ s) = b.values (a ∷ x ∷ c ∷ d ∷ e ∷ []) s refl (let h = number-lt (a ∷ x ∷ c ∷ d ∷ e ∷ []) in omega (arith, h, all))
      value_is (a ∷ x ∷ c ∷ d ∷ []) = ap (λ o. has_value o (bit_of (a ∷ x ∷ c ∷ d ∷ []))) b.nodes_from.top ∙ b.own (a ∷ x ∷ c ∷ d ∷ []) (omega arith)
      value_is (a ∷ x ∷ c ∷ []) = ap (λ o. has_value o (bit_of (a ∷ x ∷ c ∷ []))) b.nodes_from.top ∙ b.own (a ∷ x ∷ c ∷ []) (omega arith)
      value_is (a ∷ x ∷ []) = ap (λ o. has_value o (bit_of (a ∷ x ∷ []))) b.nodes_from.top ∙ b.own (a ∷ x ∷ []) (omega arith)
      value_is (a ∷ []) = ap (λ o. has_value o (bit_of (a ∷ []))) b.nodes_from.top ∙ b.own (a ∷ []) (omega arith)
      value_is [] = ap (λ o. has_value o (bit_of [])) b.nodes_from.top ∙ b.own [] (omega arith)

      nodes_all : of_nodes array levels n i + child_slots n ≤ slots_below child_slots array levels n
      nodes_all = let e = slots_split child_slots array levels n in let f = ap (of_nodes array levels n) all in omega (arith, e, f)

      cells_all : of_cells array levels n i + 0 ≤ slots_below value_slots array levels n
      cells_all = let e = slots_split value_slots array levels n in let f = ap (of_cells array levels n) all in omega (arith, e, f)

      -- its block is built, and it is whole
      module _ (v3 : Store Node) (at : BlockRef) (are : tier_sizes v2.tiers ≡ node_sizes) (built : BuildsList blank_node v2 v3 below at)
          (longer : length v3.slots ≤ length v2.slots + child_slots n) (stocked : IsStocked m) where
        abbrev whole : Node
        whole = record m { child_block = at.start; child_tier = at.tier }

        abbrev closed : List ℕ → Option Node
        closed = topped whole b.sub

        own_is : held at.tier at.start (size_in node_sizes at.tier) below ≡ child_blocks node_sizes closed []
        own_is = ap (held at.tier at.start (size_in node_sizes at.tier)) b.children

        rest_blocks : flat_map (child_blocks node_sizes closed) b.rest ≡ flat_map (child_blocks node_sizes b.sub) b.rest
        rest_blocks =
            rest_same m b.sub b.rest b.nodes_from (child_blocks node_sizes b.sub) (child_blocks node_sizes closed)
            (λ c p there. child_blocks-same node_sizes b.sub closed (c ∷ p) refl (λ e. refl))

        rest_cells : flat_map (cells_of {T = T} closed) b.rest ≡ flat_map (cells_of b.sub) b.rest
        rest_cells = rest_same m b.sub b.rest b.nodes_from (cells_of b.sub) (cells_of closed) (λ c p there. refl)

        linked : (p : List ℕ) (c : ℕ) → is_some (closed (p ++ c ∷ [])) ≡ has_child (closed p) c
        linked [] c = b.nodes_from.linked [] c ∙ ap (λ o. has_child o c) b.nodes_from.top
        linked (d ∷ p) c = b.nodes_from.linked (d ∷ p) c

        listed : (q : List ℕ) → times q ([] ∷ b.rest) ≡ one_if (is_some (closed q))
        listed [] = b.nodes_from.listed [] ∙ ap (λ o. one_if (is_some o)) b.nodes_from.top
        listed (c ∷ p) = b.nodes_from.listed (c ∷ p)

        packed : (p : List ℕ) (k : Node) → closed p ≡ Some k → IsPackedNode k
        packed [] k e = subst IsPackedNode (ap node_or_blank e) (record {
          values = b.own_block;
          children = built_packed blank_node v2 v3 node_sizes below at are built (rank m.child_bitmap 32) subtree_few;
        })
        packed (c ∷ p) k e = b.packed c p k e

        same_value : (p : List ℕ) (bit : ℕ) → has_value (closed p) bit ≡ has_value (b.sub p) bit
        same_value [] bit = sym (ap (λ o. has_value o bit) b.nodes_from.top)
        same_value (c ∷ p) bit = refl

        needed_below : (c : ℕ) (p : List ℕ) → is_some (b.sub (c ∷ p)) ≡ true → SomeValue closed (c ∷ p)
        needed_below c p e = let s = b.needed c p e in record { below = s.below; bit = s.bit; is = s.is }

        some_value : IsStocked m → SomeValue closed []
        some_value (inl some) = let bit = some_bit m.value_bitmap some in record { below = []; bit = bit.0; is = bit.1 }
        some_value (inr some) =
            let child = some_bit m.child_bitmap some in
            let s = needed_below child.0 [] (b.nodes_from.linked [] child.0 ∙ ap (λ o. has_child o child.0) b.nodes_from.top ∙ child.1) in
            record { below = child.0 ∷ s.below; bit = s.bit; is = s.is }

        needed_all : (p : List ℕ) → is_some (closed p) ≡ true → SomeValue closed p
        needed_all [] e = some_value stocked
        needed_all (c ∷ p) e = needed_below c p e

        pub subtree_closed : IsBuilt array levels n t v v3 w w2 (record m { child_block = at.start; child_tier = at.tier })
        subtree_closed = record {
          sub = closed;
          paths = [] ∷ b.rest;
          nodes_from = record { top = refl; linked = linked; listed = listed };
          part = record {
            values = λ s. same_value (chunks_of s) (bit_of s) ∙ value_is s;
            within = λ p bit h. b.within p bit (sym (same_value p bit) ∙ h);
            packed = packed;
          };
          needed = needed_all;
          nodes = Builds-then blank_node v v2 v3 _ _ _ _ (child_slots n) _ b.nodes (Builds-list blank_node v2 v3 node_sizes below at (child_slots n) are built longer)
              (λ live s. subst (λ bs. Sound blank_node bs v3)
              (sym (append_assoc (held at.tier at.start (size_in node_sizes at.tier) below) (flat_map (child_blocks node_sizes b.sub) b.rest) live)
              ∙ ap₂ (λ xs ys. (xs ++ ys) ++ live) own_is (sym rest_blocks)) s) nodes_all;
          cells = Builds-then None w w2 w2 _ [] _ _ 0 _ b.cells (Builds-none None w2 0) (λ live s. subst (λ bs. Sound None (bs ++ live) w2)
              (ap₂ (λ xs ys. xs ++ ys) (ap (value_blocks_of cell_sizes no_value []) b.nodes_from.top) (sym rest_cells)) s) cells_all;
        }

      -- nothing of it was built
      module _ (bare : IsBare m) where
        no_child : (c : ℕ) → has_bit m.child_bitmap c ≡ false
        no_child c = no_bit m.child_bitmap c bare.no_children

        no_paths : b.rest ≡ []
        no_paths = no_rest m b.sub b.rest b.nodes_from no_child

        no_values : (p : List ℕ) (bit : ℕ) → has_value (b.sub p) bit ≡ false
        no_values [] bit = ap (λ o. has_value o bit) b.nodes_from.top ∙ no_bit m.value_bitmap bit bare.no_values
        no_values (c ∷ p) bit = ap (λ o. has_value o bit) (none_below m b.sub b.rest b.nodes_from c (no_child c) p)

        pub subtree_bare : NothingBuilt array levels n t v v2 w w2
        subtree_bare = record {
          none = λ s. sym (value_is s) ∙ no_values (chunks_of s) (bit_of s);
          nodes = Builds-then blank_node v v2 v2 _ [] _ _ 0 _ b.nodes (Builds-none blank_node v2 0)
              (λ live s. subst (λ ps. Sound blank_node (flat_map (child_blocks node_sizes b.sub) ps ++ live) v2) no_paths s) (omega (arith, nodes_all));
          cells = Builds-then None w w2 w2 _ [] _ _ 0 _ b.cells (Builds-none None w2 0) (λ live s. subst (λ bs. Sound None (bs ++ live) w2)
              (ap₂ (λ xs ps. xs ++ flat_map (cells_of b.sub) ps)
              (ap (value_blocks_of cell_sizes no_value []) b.nodes_from.top
              ∙ ap (λ bs. held m.value_tier m.value_block (size_in cell_sizes m.value_tier) (map (no_value []) bs))
              (bits-none m.value_bitmap (λ bit. no_bit m.value_bitmap bit bare.no_values))) no_paths) s) cells_all;
        }
