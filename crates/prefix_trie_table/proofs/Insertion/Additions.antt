-- A table after a child, a value or an entry is added.
use Rattle.prefix_trie_table.proofs.Prelude.{◌≡◌, ◌≢◌, ℕ, ◌+◌, ◌<◌, ◌⊎◌, inl, inr, Bool, true, false, ◌||◌, nat_eq, List, [], ◌∷◌, ◌++◌, length, get_or, set, insert, map, flat_map, Option, None, Some, is_some, refl, sym, ap, ◌∙◌, subst, arith, length-map, Sets, Node, has_bit, bits, rank, Store, Tier, UsedBlock, Sound, block, held, HasList, Keeps, tier_at, tier_sizes, size_in, list_size, list_need, size_if_any, block_needed, option_or, child_need, value_need, without, child_items, child_blocks, IsSlot, at_child, NodesHold, with_child, SomeTable, SomeNodes, IsNodeAt, ChildAdded, ValueSet, CellsHold, value_blocks, with_node, has_value, own_count, one_if, blank_node, node_at, node_sizes, cell_sizes}
use Rattle.prefix_trie_table.specs.OwnBlocks.{child_block_size, value_block_size}
use Rattle.prefix_trie_table.proofs.Tree.Invariant.{some_nodes}
use Rattle.prefix_trie_table.proofs.Blocks.Soundness.{tier_of_block}
use Rattle.prefix_trie_table.proofs.Blocks.BySize.{size_at}
use Rattle.prefix_trie_table.proofs.Strings.Bits.{has_bit-sets}
use Rattle.prefix_trie_table.proofs.Strings.BitLists.{rank-all, rank-same, rank-more-one}
use Rattle.prefix_trie_table.proofs.Tree.Trees.{own_first, slot_holds}
use Rattle.prefix_trie_table.proofs.Tree.Children.{child_added, changed_here, same_number, other_number, same_or, with_here, with_other, node_changed}
use Rattle.prefix_trie_table.proofs.Tree.Values.{values_first, value_is_there, value_added}

-- what the node at a slot is
pub at_is : (v : Store Node) (slot : ℕ) (a : (n : SomeNodes v) × IsNodeAt n.reading slot) → (node_at v.slots slot ≡ a.1.node) × (slot < length v.slots)
at_is v slot a = slot_holds node_sizes a.0.reading a.0.paths v a.0.hold a.1.path slot a.1.node a.1.is_there a.1.is

-- the children of the node at a path are a list in their block
pub children_list : (reading : List ℕ → Option Node) (paths : List (List ℕ)) (v : Store Node) → NodesHold node_sizes reading paths v → (p : List ℕ) (n : Node) →
    reading p ≡ Some n → HasList blank_node v n.child_tier n.child_block (rank n.child_bitmap 32)
children_list reading paths v hold p n is = record {
  live = flat_map (child_blocks node_sizes reading) (without p paths);
  size = size_in node_sizes n.child_tier;
  items = child_items reading p n.child_bitmap;
  is_count = rank-all (λ c. elim (reading (p ++ c ∷ [])) as (λ _. Node) [ None ↦ blank_node | Some n ↦ n ]) n.child_bitmap;
  sound = own_first node_sizes reading paths v hold p n is;
}

-- a node's children are a list in their block
pub has_list : (v : Store Node) (slot : ℕ) (k : Node) (count : ℕ) → (n : SomeNodes v) × IsNodeAt n.reading slot → k ≡ node_at v.slots slot → count ≡ rank k.child_bitmap 32 →
    HasList blank_node v k.child_tier k.child_block count
has_list v slot k count a read is_count =
    let at = at_is v slot a in
    let same : k ≡ a.1.node = read ∙ at.0 in
    record {
      live = flat_map (child_blocks node_sizes a.0.reading) (without a.1.path a.0.paths);
      size = size_in node_sizes k.child_tier;
      items = child_items a.0.reading a.1.path k.child_bitmap;
      is_count = rank-all (λ c. elim (a.0.reading (a.1.path ++ c ∷ [])) as (λ _. Node) [ None ↦ blank_node | Some n ↦ n ]) k.child_bitmap ∙ sym is_count;
      sound = own_first node_sizes a.0.reading a.0.paths v a.0.hold a.1.path k (a.1.is ∙ ap Some (sym same));
    }

-- one of the tiers
pub tier_small : {S : Type 0} (vacant : S) (b : UsedBlock S) (live : List (UsedBlock S)) (u : Store S) (sizes : List ℕ) → Sound vacant (b ∷ live) u →
    tier_sizes u.tiers ≡ sizes → b.tier < length sizes
tier_small vacant b live u sizes s e =
    let w = (tier_of_block vacant b live u s).within in
    let n : length sizes ≡ length u.tiers = ap (λ (xs : List ℕ). length xs) (sym e) ∙ length-map u.tiers (λ t. t.size) in omega arith

-- where a list is after it gained an item
block_after : (ts : List Tier) (sizes : List ℕ) → tier_sizes ts ≡ sizes → (k tier count more : ℕ) → more ≡ count + 1 →
    list_size ts tier (count + 1) ≡ option_or (list_need ts k count) (list_size ts k count) →
    size_if_any more (size_in sizes tier) ≡ option_or (block_needed sizes (size_if_any count (size_in sizes k)) count) (size_if_any count (size_in sizes k))
block_after ts sizes are k tier count more e is_there =
    ap (λ n. size_if_any n (size_in sizes tier)) e
    ∙ subst (λ ns. size_if_any (count + 1) (size_in ns tier) ≡ option_or (block_needed ns (size_if_any count (size_in ns k)) count) (size_if_any count (size_in ns k))) are is_there

-- a blank child put into the list of children, and the node written with it, add the child
pub added : (v u w : Store Node) (slot offset c tier start bitmap : ℕ) (k m : Node)
    → k ≡ node_at v.slots slot
    → Sets k.child_bitmap c bitmap
    → m ≡ record { value_bitmap = k.value_bitmap; child_bitmap = bitmap; value_block = k.value_block; child_block = start; value_tier = k.value_tier; child_tier = tier }
    → Keeps v u
    → ((n : ℕ) (xs : List Node) (live : List (UsedBlock Node)) → Sound blank_node (held k.child_tier k.child_block n xs ++ live) v →
    length xs ≡ rank k.child_bitmap 32 → Sound blank_node (block tier start (tier_at v.tiers tier).size (insert xs offset blank_node) ∷ live) u)
    → list_size v.tiers tier (rank k.child_bitmap 32 + 1) ≡ option_or (list_need v.tiers k.child_tier (rank k.child_bitmap 32)) (list_size v.tiers k.child_tier (rank k.child_bitmap 32))
    → offset ≡ rank k.child_bitmap c → c < 32 → has_bit k.child_bitmap c ≡ false → w ≡ record u { slots = set u.slots slot m }
    → (reading : List ℕ → Option Node) (paths : List (List ℕ)) (p : List ℕ) (n : Node) → NodesHold node_sizes reading paths v →
    IsSlot reading p slot → reading p ≡ Some n
    → ChildAdded reading paths p n c w (start + offset)
added v u w slot offset c tier start bitmap k m read sets m_is keeps put entered place_is digit missing w_is reading paths p n hold is_there is =
    let at = slot_holds node_sizes reading paths v hold p slot n is_there is in
    let same : k ≡ n = read ∙ at.0 in
    let here : reading p ≡ Some k = is ∙ ap Some (sym same) in
    let size : (tier_at v.tiers tier).size ≡ size_in node_sizes tier = size_at v.tiers tier ∙ ap (λ ns. size_in ns tier) hold.sizes_are in
    let more : (i : ℕ) → has_bit m.child_bitmap i ≡ (nat_eq i c || has_bit k.child_bitmap i) = λ i. ap (λ (x : Node). has_bit x.child_bitmap i) m_is
    ∙ has_bit-sets k.child_bitmap c bitmap i sets digit in
    let items : List Node = child_items reading p k.child_bitmap in
    let live : List (UsedBlock Node) = flat_map (child_blocks node_sizes reading) (without p paths) in
    let written : Sound blank_node (block tier start (tier_at v.tiers tier).size
    (insert (child_items reading p k.child_bitmap) offset blank_node) ∷ live) u =
    put (size_in node_sizes k.child_tier) (child_items reading p k.child_bitmap) live (own_first node_sizes reading paths v hold p k here)
    (rank-all (λ d. elim (reading (p ++ d ∷ [])) as (λ _. Node) [ None ↦ blank_node | Some x ↦ x ]) k.child_bitmap) in
    let tier_is : m.child_tier ≡ tier = ap (λ (x : Node). x.child_tier) m_is in
    let start_is : m.child_block ≡ start = ap (λ (x : Node). x.child_block) m_is in
    let sound : Sound blank_node (block m.child_tier m.child_block (size_in node_sizes m.child_tier)
    (insert (child_items reading p k.child_bitmap) (rank k.child_bitmap c) blank_node) ∷ live) u =
    subst (λ (b : UsedBlock Node). Sound blank_node (b ∷ live) u)
    (λ i. block (sym tier_is i) (sym start_is i) ((size ∙ ap (size_in node_sizes) (sym tier_is)) i)
    (insert (child_items reading p k.child_bitmap) (place_is i) blank_node)) written in
    let grown = child_added node_sizes reading paths v hold p slot k m c u is_there here digit missing more (keeps.first_is ∙ hold.first_is)
    (keeps.sizes ∙ hold.sizes_are) (keeps.before 0 blank_node (let f = hold.first_is in omega arith)) sound in
    let bit : has_bit m.child_bitmap c ≡ true = more c ∙ ap (λ b. b || has_bit k.child_bitmap c) (same_number c) in
    let rank_is : rank m.child_bitmap c ≡ rank k.child_bitmap c = rank-same k.child_bitmap m.child_bitmap c (λ i h. more i ∙ ap (λ b. b || has_bit k.child_bitmap i) (other_number i c (λ e. omega arith))) in
    record {
      node = m;
      hold = subst (λ x. NodesHold node_sizes (with_child reading p m c) ((p ++ c ∷ []) ∷ paths) x) (sym w_is) grown;
      is_there = subst (λ s. IsSlot (with_child reading p m c) (p ++ c ∷ []) s)
          (let e : m.child_block + rank m.child_bitmap c ≡ start + offset = omega arith in e)
          (at_child p c m (changed_here reading p m c (Some blank_node) p refl) bit);
      value_bitmap = ap (λ (x : Node). x.value_bitmap) m_is ∙ ap (λ (x : Node). x.value_bitmap) same;
      value_block = ap (λ (x : Node). x.value_block) m_is ∙ ap (λ (x : Node). x.value_block) same;
      value_tier = ap (λ (x : Node). x.value_tier) m_is ∙ ap (λ (x : Node). x.value_tier) same;
      children =
          ap (λ t. size_if_any (rank m.child_bitmap 32) (size_in node_sizes t)) tier_is
          ∙ block_after v.tiers node_sizes hold.sizes_are k.child_tier tier (rank k.child_bitmap 32) (rank m.child_bitmap 32)
          (rank-more-one k.child_bitmap m.child_bitmap c digit missing bit (λ i ne. more i ∙ ap (λ b. b || has_bit k.child_bitmap i) (other_number i c ne))) entered
          ∙ ap (λ (x : Node). option_or (child_need (Some x)) (child_block_size (Some x))) same;
    }

-- a node replaced by itself
pub with_same : (reading : List ℕ → Option Node) (p : List ℕ) (k : Node) → reading p ≡ Some k → with_node reading p k ≡ reading
with_same reading p k is = λ i q. same q (same_or q p) i
  where
    same : (q : List ℕ) → (q ≡ p) ⊎ (q ≢ p) → with_node reading p k q ≡ reading q
    same q (inl e) = with_here reading p k q e ∙ sym (ap reading e ∙ is)
    same q (inr ne) = with_other reading p k q ne

module _ {T : Type 0} where
  -- the node alone
  abbrev pub at_values : (v : Store Node) (w : Store (Option T)) (slot : ℕ) → (t : SomeTable v w) × IsNodeAt t.reading slot →
      (n : SomeNodes v) × IsNodeAt n.reading slot
  at_values v w slot a = (some_nodes a.0, a.1)

  -- a node's values are a list in their block
  pub has_values : (v : Store Node) (w : Store (Option T)) (slot : ℕ) (k : Node) (count : ℕ) → (t : SomeTable v w) × IsNodeAt t.reading slot → k ≡ node_at v.slots slot →
      count ≡ rank k.value_bitmap 32 → HasList None w k.value_tier k.value_block count
  has_values v w slot k count a read is_count =
      let at = at_is v slot (at_values v w slot a) in
      let same : k ≡ a.1.node = read ∙ at.0 in
      record {
        live = flat_map (value_blocks cell_sizes a.0.reading a.0.values) (without a.1.path a.0.paths);
        size = size_in cell_sizes k.value_tier;
        items = map (a.0.values a.1.path) (bits k.value_bitmap);
        is_count = rank-all (a.0.values a.1.path) k.value_bitmap ∙ sym is_count;
        sound = values_first cell_sizes node_sizes a.0.reading a.0.paths v a.0.holds.hold a.0.values w a.0.holds.cells a.1.path k (a.1.is ∙ ap Some (sym same));
      }

  -- a value put into the list of values, and the node written with it, set the value
  pub values_added : (v v2 : Store Node) (w u : Store (Option T)) (slot offset b tier start bitmap : ℕ) (k m : Node) (x : T)
      → k ≡ node_at v.slots slot
      → Sets k.value_bitmap b bitmap
      → m ≡ record {
        value_bitmap = bitmap;
        child_bitmap = k.child_bitmap;
        value_block = start;
        child_block = k.child_block;
        value_tier = tier;
        child_tier = k.child_tier;
      }
      → Keeps w u
      → ((n : ℕ) (xs : List (Option T)) (live : List (UsedBlock (Option T))) → Sound None (held k.value_tier k.value_block n xs ++ live) w →
      length xs ≡ rank k.value_bitmap 32 → Sound None (block tier start (tier_at w.tiers tier).size (insert xs offset (Some x)) ∷ live) u)
      → list_size w.tiers tier (rank k.value_bitmap 32 + 1) ≡ option_or (list_need w.tiers k.value_tier (rank k.value_bitmap 32)) (list_size w.tiers k.value_tier (rank k.value_bitmap 32))
      → offset ≡ rank k.value_bitmap b → b < 32 → has_bit k.value_bitmap b ≡ false → b < 31 → v2 ≡ record v { slots = set v.slots slot m }
      → (reading : List ℕ → Option Node) (paths : List (List ℕ)) (values : List ℕ → ℕ → Option T) (p : List ℕ) (n : Node) →
      NodesHold node_sizes reading paths v → CellsHold cell_sizes reading values paths w → IsSlot reading p slot → reading p ≡ Some n
      → ValueSet reading paths values p b (Some x) v2 u
  values_added v v2 w u slot offset b tier start bitmap k m x read sets m_is keeps put entered place_is digit missing small v2_is reading paths values p n
      hold cells is_there is =
      let at = slot_holds node_sizes reading paths v hold p slot n is_there is in
      let same : k ≡ n = read ∙ at.0 in
      let here : reading p ≡ Some k = is ∙ ap Some (sym same) in
      let size : (tier_at w.tiers tier).size ≡ size_in cell_sizes tier = size_at w.tiers tier ∙ ap (λ ns. size_in ns tier) cells.sizes_are in
      let more : (i : ℕ) → has_bit m.value_bitmap i ≡ (nat_eq i b || has_bit k.value_bitmap i) = λ i. ap (λ (y : Node). has_bit y.value_bitmap i) m_is
      ∙ has_bit-sets k.value_bitmap b bitmap i sets digit in
      let bit : has_bit m.value_bitmap b ≡ true = more b ∙ ap (λ t. t || has_bit k.value_bitmap b) (same_number b) in
      let stay : (i : ℕ) → i ≢ b → has_bit m.value_bitmap i ≡ has_bit k.value_bitmap i = λ i ne. more i
      ∙ ap (λ t. t || has_bit k.value_bitmap i) (other_number i b ne) in
      let live : List (UsedBlock (Option T)) = flat_map (value_blocks cell_sizes reading values) (without p paths) in
      let written : Sound None (block tier start (tier_at w.tiers tier).size (insert (map (values p) (bits k.value_bitmap)) offset (Some x)) ∷ live)
      u = put (size_in cell_sizes k.value_tier) (map (values p) (bits k.value_bitmap)) live
      (values_first cell_sizes node_sizes reading paths v hold values w cells p k here) (rank-all (values p) k.value_bitmap) in
      let tier_is : m.value_tier ≡ tier = ap (λ (y : Node). y.value_tier) m_is in
      let start_is : m.value_block ≡ start = ap (λ (y : Node). y.value_block) m_is in
      let sound : Sound None (block m.value_tier m.value_block (size_in cell_sizes m.value_tier)
      (insert (map (values p) (bits k.value_bitmap)) (rank k.value_bitmap b) (Some x)) ∷ live) u =
      subst (λ (c : UsedBlock (Option T)). Sound None (c ∷ live) u)
      (λ i. block (sym tier_is i) (sym start_is i) ((size ∙ ap (size_in cell_sizes) (sym tier_is)) i)
      (insert (map (values p) (bits k.value_bitmap)) (place_is i) (Some x))) written in
      record {
        node = m;
        hold = subst (λ y. NodesHold node_sizes (with_node reading p m) paths y) (sym v2_is)
            (node_changed node_sizes reading paths v hold p slot k m is_there here (ap (λ (y : Node). y.child_bitmap) m_is)
            (ap (λ (y : Node). y.child_block) m_is) (ap (λ (y : Node). y.child_tier) m_is));
        cells = value_added cell_sizes node_sizes reading paths v hold values w cells p k m b (Some x) here stay bit small u digit missing refl
            (keeps.sizes ∙ cells.sizes_are) sound;
        counted = added_one (rank m.value_bitmap 32) (rank k.value_bitmap 32) (own_count (reading p)) (is_some (values p b))
            (rank-more-one k.value_bitmap m.value_bitmap b digit missing bit stay) (ap own_count here)
            (cells.set_where p b ∙ ap (λ o. has_value o b) here ∙ missing);
        children = ap (λ (y : Node). child_block_size (Some y)) m_is ∙ ap child_block_size (sym here);
        sized = λ _.
            ap (λ t. size_if_any (rank m.value_bitmap 32) (size_in cell_sizes t)) tier_is
            ∙ block_after w.tiers cell_sizes cells.sizes_are k.value_tier tier (rank k.value_bitmap 32)
            (rank m.value_bitmap 32) (rank-more-one k.value_bitmap m.value_bitmap b digit missing bit stay) entered
            ∙ ap (λ y. option_or (value_need y) (value_block_size y)) (sym here);
      }
    where
      added_one : (now was own : ℕ) (had : Bool) → now ≡ was + 1 → own ≡ was → had ≡ false → now + one_if had ≡ own + 1
      added_one now was own had e f none = ap (λ h. now + one_if h) none ∙ omega (arith, e, f)

  -- a value that is there is in its cell
  pub value_at : (v : Store Node) (w : Store (Option T)) (slot offset b : ℕ) (k : Node) → k ≡ node_at v.slots slot → offset ≡ rank k.value_bitmap b →
      has_bit k.value_bitmap b ≡ true
      → (reading : List ℕ → Option Node) (paths : List (List ℕ)) (values : List ℕ → ℕ → Option T) (p : List ℕ) (n : Node) →
      NodesHold node_sizes reading paths v → CellsHold cell_sizes reading values paths w → IsSlot reading p slot → reading p ≡ Some n
      → (k.value_block + offset < length w.slots) × (get_or w.slots (k.value_block + offset) None ≡ values p b)
  value_at v w slot offset b k read place_is bit reading paths values p n hold cells is_there is =
      let at = slot_holds node_sizes reading paths v hold p slot n is_there is in
      let same : k ≡ n = read ∙ at.0 in
      let there = value_is_there cell_sizes node_sizes reading paths v hold values w cells p k b (is ∙ ap Some (sym same)) bit in
      ((let x = there.2 in omega arith), ap (λ i. get_or w.slots (k.value_block + i) None) place_is ∙ there.1)
