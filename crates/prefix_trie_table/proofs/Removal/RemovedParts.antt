-- What is left of a table after everything under a bit string is removed.
use Rattle.prefix_trie_table.proofs.Prelude.{◌≡◌, ◌↔◌, ℕ, ◌*◌, ◌<◌, ◌≤◌, Bool, true, false, not, ◌||◌, List, [], ◌∷◌, ◌++◌, cond, length, take, drop, Option, None, Some, is_some, refl, sym, ap, ◌∙◌, subst, arith, inl, inr, bit_and, take-take, get, get-empty, begins, same_string, HoldsValues, HoldsChildren, is_in, places, PruningLaws, CallableOnEachEntry, Entries, AreWithin, no_entries, without_entry, without_below, Nodes, AreNodes, has_node, home, pruned, root_alone, nodes_not_below, nodes_without, nodes_without_below, listing_at_places, listing_below, State, and-first, and-second, get-without_below, has-retained, has-root_alone, same_entries, same_nodes, same_string-is, begins-nil, pruning_laws, removed_fewer, Node, Reached, node_sizes, chunks_of, bit_of, Store, read, slot_at, Holds, NodesHold, IsOwn, IsSlot, EntryTaken, EntryRemoved, Pruned, AreAbove, AreAncestors, IsAtEnd, slot_in, BoundsNodeGrowth, Contents, state, Shaped, ForHeld, Grows, IsTable, IsTrie, BlocksBetween, IsSite, PreservesBelow, Retains, RetainsTo}
use Rattle.std.proofs.lemmas.List.{take-append-drop, length-take-le}
use Rattle.std.specs.List.{Contains}
use Rattle.prefix_trie_table.specs.Retaining.{ReturnsFalse}
use Rattle.prefix_trie_table.proofs.Tree.Invariant.{some_table}
use Rattle.prefix_trie_table.proofs.Removal.SizeBounds.{blocks_then, pruned_between, stays_grown, stays_then}
use Rattle.prefix_trie_table.proofs.Tree.Children.{same_or}
use Rattle.prefix_trie_table.proofs.Strings.Digits.{path-length}
use Rattle.prefix_trie_table.proofs.Removal.OneEntry.{nothing_taken}
use Rattle.prefix_trie_table.proofs.Removal.AllBelow.{covers_below, emptied, no_node_there, home_is_there, own_gone, removed_alike, pruned_alike}
use Rattle.prefix_trie_table.proofs.Removal.MaskListings.{listed_below, none_listed}
use Rattle.prefix_trie_table.proofs.Lookup.SearchPaths.{own_node, own_slot}
use Rattle.prefix_trie_table.proofs.Removal.NodesLeft.{home_path, removed_without}
use Rattle.prefix_trie_table.proofs.Retain.RetainedTables.{read_held}
use Rattle.prefix_trie_table.proofs.Removal.Pruning.{slot_stays}
use Rattle.prefix_trie_table.proofs.Insertion.Spaces.{Grows-same}
use Rattle.prefix_trie_table.proofs.Removal.GrowthBounds.{bounds_growth_nodes, bounds_growth_then}
use Rattle.prefix_trie_table.proofs.Tree.Shapes.{reads_node, shape_entries}
use Rattle.prefix_trie_table.proofs.Tree.Trees.{reads}

-- ---- the node where the search ends

module _ {K T : Type 0} (IsKey : K → Type 0) (bits : K → List Bool) (width : ℕ) (key : K) (is_key : IsKey key) (q : List Bool) (begun : take (length q) (bits key) ≡ q)
    (short : length q ≤ width) (here : Reached) (v : Store Node) (own : IsOwn q here v) (count : ℕ) (w : Store (Option T)) (s : State T) (trie : IsTrie width count v w s) where
  -- the home of the string is the first whole steps of the key
  home_key : home q ≡ take (5 * here.level) (bits key)
  home_key =
      ap (λ n. take (5 * n) q) (sym (own.last ∙ path-length q)) ∙ ap (take (5 * here.level)) (sym begun)
      ∙ take-take (5 * here.level) (length q) (bits key) own.along.whole

  pub home_steps : chunks_of (take (5 * here.level) (bits key)) ≡ chunks_of q
  home_steps = ap chunks_of (sym home_key) ∙ home_path q

  read_table : Holds (read v.slots) trie.table.values trie.table.paths v w
  read_table =
      let t = some_table trie.table in
      read_held t.reading t.values t.paths v w t.holds

  is_there : read v.slots (chunks_of q) ≡ Some here.node
  is_there = own_node q here v own (read v.slots) trie.table.paths read_table.hold

  pub own_site : IsSite IsKey bits width v (record { slot = here.at; key = key; depth = 5 * here.level }) here.node
  own_site = record {
    key = is_key;
    level = here.level;
    depth_is = refl;
    within = (let whole = own.along.whole in omega (arith, whole, short));
    is_there = ap (read v.slots) home_steps ∙ is_there;
    slot_is = subst (λ p. IsSlot (read v.slots) p (slot_at here)) (sym home_steps) (own_slot q here v own (read v.slots) trie.table.paths read_table.hold);
  }

  -- the places of that node that the two masks for what is left of the string leave are those below it
  module _ (rest : List Bool) (left : rest ≡ drop (5 * here.level) q) (values children : ℕ) (holds_values : HoldsValues values (begins rest)) (holds_children : HoldsChildren children (begins rest))
      (ts : List (List Bool)) (each : (u : List Bool) → Contains ts u ↔ ((length u ≤ 5) × (is_in (bit_and here.node.value_bitmap values) (bit_and here.node.child_bitmap children) u ≡ true))) where
    home_rest : q ≡ home q ++ rest
    home_rest = sym ((λ i. take (5 * (sym (own.last ∙ path-length q) i)) q ++ left i) ∙ take-append-drop (5 * here.level) q)

    home_read : read v.slots (chunks_of (home q)) ≡ Some here.node
    home_read = ap (read v.slots) (home_path q) ∙ is_there

    -- they list what is there
    pub part_listed : ts ≡ places (bit_and here.node.value_bitmap values) (bit_and here.node.child_bitmap children) →
        listing_at_places s.entries (take (5 * here.level) (bits key)) ts ≡ listing_below s.entries q
    part_listed all =
        ap (λ p. listing_at_places s.entries p ts) (sym home_key)
        ∙ listed_below width count v w s trie q rest home_rest here.node home_read values children holds_values holds_children ts each all

    -- and nothing else goes when they are emptied
    pub part_emptied : {F : Type 0} (may_return : F → List Bool → T → Bool → F → Type 0) → ReturnsFalse may_return → (accepts : F → List Bool → T → Type 0) (f g : F) (count2 : ℕ) (v2 : Store Node) (w2 : Store (Option T)) →
        RetainsTo may_return accepts width (take (5 * here.level) (bits key)) ts f s g count2 v2 w2 →
        IsTrie width count2 v2 w2 (record { entries = without_below s.entries q; nodes = nodes_not_below s.nodes q })
    part_emptied may_return says_no accepts f g count2 v2 w2 to =
        let are = covers_below width count v w s trie q rest home_rest here.node home_read values children holds_values holds_children ts each in
        let left = emptied may_return says_no accepts q ts f g s to.after (subst (λ p. Retains may_return accepts p ts f s g to.after) (sym home_key) to.retains) are in
        subst (λ (x : State T). IsTrie width count2 v2 w2 x) (λ i. record { entries = left.entries i; nodes = left.nodes i }) to.trie

-- ---- a test that may always be called

pub may_ask_all : {F T : Type 0} (may_return : F → List Bool → T → Bool → F → Type 0) (accepts : F → List Bool → T → Type 0) →
    ((f : F) (k : List Bool) (x : T) → accepts f k x) → (f : F) (es : List (List Bool × T)) → CallableOnEachEntry may_return accepts f es
may_ask_all may_return accepts all f [] = tt
may_ask_all may_return accepts all f (e ∷ es) = (all f e.0 e.1, λ b g asked. may_ask_all may_return accepts all g es)

-- ---- the path pruned if there is no value at its end

-- if there was no value, each node is unchanged
later_same : {T : Type 0} (reading : List ℕ → Option Node) (values : List ℕ → ℕ → Option T) (paths : List (List ℕ)) (w : Store (Option T)) (v : Store Node) (path : List ℕ) (b : ℕ)
    (t : EntryTaken reading paths values path b v w w) → is_some (values path b) ≡ false → (p : List ℕ) → t.later p ≡ reading p
later_same reading values paths w v path b t none p = elim (same_or p path) as (λ _. t.later p ≡ reading p) [
  | inl e ↦ ap t.later e ∙ t.kept none ∙ sym (ap reading e)
  | inr ne ↦ t.others p ne
]

module _ {T : Type 0} (width : ℕ) (q : List Bool) (v v2 : Store Node) (w : Store (Option T)) (count : ℕ) (s : State T) (trie : IsTrie width count v w s)
    (there : is_some (read v.slots (chunks_of q)) ≡ true) (none : get s.entries q ≡ None)
    (prunes : (paths : List (List ℕ)) → NodesHold node_sizes (read v.slots) paths v → Pruned (read v.slots) paths (chunks_of q) v v2) where
  none_held : ForHeld v w (λ reading paths values. None ≡ values (chunks_of q) (bit_of q))
  none_held reading paths values holds = sym none ∙ shape_entries reading values paths v w holds s trie.shaped q

  only_pruned : ForHeld v w (λ reading paths values. EntryRemoved reading paths values (chunks_of q) (bit_of q) v w v2 w)
  only_pruned reading paths values holds =
      let same : (p : List ℕ) → read v.slots p ≡ reading p = λ p. reads_node reading values paths v w holds p in
      let t = nothing_taken reading values paths v w holds (chunks_of q) (bit_of q) (sym (none_held reading paths values holds)) in
      let no_value = sym (ap is_some (none_held reading paths values holds)) in
      inr (
        v,
        sym (ap is_some (same (chunks_of q))) ∙ there,
        t,
        subst (λ (f : List ℕ → Option Node). Pruned f paths (chunks_of q) v v2)
            (λ i p. (same p ∙ sym (later_same reading values paths w v (chunks_of q) (bit_of q) t no_value p)) i)
            (prunes paths (read_held reading values paths v w holds).hold),
        record { space = (refl, refl, refl); tiers = refl },
      )

  pub trie_pruned : Grows v v2 24 → IsTrie width count v2 w (record { entries = without_entry s.entries q; nodes = nodes_without s.nodes s.entries q })
  trie_pruned space =
      let laws : PruningLaws T = pruning_laws T in
      let left = removed_without q v v2 w w count count (s, trie.shaped) trie.table None none_held (omega arith) only_pruned in
      record {
        table = left.table space (Grows-same w w 24 refl) (_, left.shape);
        shaped = left.shape;
        within = λ k stored. trie.within k (removed_fewer s.entries q k stored);
        nodes = (laws.of_remove width s.entries s.nodes q trie.nodes).are_nodes;
      }

-- ---- the whole

module _ {T : Type 0} (width : ℕ) (q : List Bool) (v v2 : Store Node) (w w2 : Store (Option T)) (count count2 : ℕ) (s : State T) (trie : IsTrie width count v w s)
    (emptied : IsTrie width count2 v2 w2 (record { entries = without_below s.entries q; nodes = nodes_not_below s.nodes q })) (level : ℕ) (last : level ≡ length (chunks_of q))
    (preserves : PreservesBelow level v v2 w w2) (ancestors items : List ℕ) (same : ancestors ≡ items) (above : AreAbove q level items v) (n : Node)
    (is : read v2.slots (chunks_of q) ≡ Some n) where
  -- the nodes on the path are unchanged
  pub ancestors_left : AreAncestors (read v2.slots) (chunks_of q) ancestors (length (chunks_of q))
  ancestors_left k low =
      let t = some_table trie.table in
      let high : k < level = omega (arith, low, last) in
      subst (λ xs. IsSlot (read v2.slots) (take k (chunks_of q)) (slot_in xs k)) (sym same)
      (slot_stays (read v.slots) (read v2.slots) (take k (chunks_of q)) (slot_in items k)
      (λ p less. let m = length-take-le k (chunks_of q) (omega (arith, low)) in preserves.above p (omega (arith, m, less, high)))
      (above.slots (read v.slots) t.paths (read_held t.reading t.values t.paths v w t.holds).hold k high))

  abbrev pub end_left : (paths : List (List ℕ)) → NodesHold node_sizes (read v2.slots) paths v2 → IsAtEnd (chunks_of q) ancestors n v2
  end_left paths hold = record {
    reading = read v2.slots;
    paths = paths;
    hold = hold;
    long = ap (λ (xs : List ℕ). length xs) same ∙ above.long ∙ last;
    slots = ancestors_left;
    is = is;
  }

  pub held : NodesHold node_sizes (read v2.slots) emptied.table.paths v2
  held = let t = some_table emptied.table in (read_held t.reading t.values t.paths v2 w2 t.holds).hold

  abbrev pub some_end : IsAtEnd (chunks_of q) ancestors n v2
  some_end = end_left emptied.table.paths held

  -- the node of the string was there
  home_stood : has_node s.nodes (home q) ≡ true
  home_stood =
      let left = home_is_there width count2 v2 w2 _ q n emptied (ap (read v2.slots) (home_path q) ∙ is) in
      and-second (not (begins q (home q)) || same_string (home q) (home q)) (has_node s.nodes (home q))
      (sym (has-retained s.nodes (λ u. not (begins q u) || same_string u (home q)) (home q)) ∙ left)

  -- after the path is pruned too
  module _ (v3 : Store Node) (space : Grows v2 v3 24) (prunes : (e : IsAtEnd (chunks_of q) ancestors n v2) → Pruned e.reading e.paths (chunks_of q) v2 v3) where
    pub part_taken : IsTrie width count2 v3 w2 (record { entries = without_below s.entries q; nodes = nodes_without_below s.nodes s.entries q })
    part_taken =
        let entries = removed_alike s.entries q in
        let nodes = pruned_alike s.entries s.nodes q home_stood in
        subst (λ (x : State T). IsTrie width count2 v3 w2 x) (λ i. record { entries = entries i; nodes = nodes i })
        (trie_pruned width q v2 v3 w2 count2 (record { entries = without_below s.entries q; nodes = nodes_not_below s.nodes q }) emptied (ap is_some is) (own_gone s.entries q)
        (λ paths hold. prunes (end_left paths hold)) space)

    -- what that leaves of the arrays
    pub part_preserved : BoundsNodeGrowth v2 v3 → PreservesBelow 0 v v3 w w2
    part_preserved bounds_growth =
        let pruned = prunes some_end in
        let later : (x : List ℕ) → read v3.slots x ≡ pruned.to.later x = λ x. reads node_sizes pruned.to.later pruned.to.left v3 pruned.to.hold x in
        record {
          above = λ p less. absurd (omega (arith, less));
          nodes = stays_then v v2 v3 preserves.nodes (stays_grown v2 v3 24 space);
          cells = preserves.cells;
          bounds_growth = bounds_growth_then v v2 v3 _ _ _ preserves.bounds_growth (bounds_growth_nodes v2 v3 (length w2.slots) bounds_growth);
          blocks = λ x. blocks_then _ _ _ (preserves.blocks x)
              (subst (BlocksBetween (read v2.slots x)) (sym (later x))
              (pruned_between (read v2.slots) emptied.table.paths (chunks_of q) pruned.level pruned.node v2 v3 pruned.to x));
        }

-- and if the node of the string is missing
module _ {T : Type 0} (width : ℕ) (q : List Bool) (v : Store Node) (w : Store (Option T)) (count : ℕ) (s : State T) (trie : IsTrie width count v w s)
    (missing : (reading : List ℕ → Option Node) (paths : List (List ℕ)) → NodesHold node_sizes reading paths v → reading (chunks_of q) ≡ None) where
  none_read : read v.slots (chunks_of (home q)) ≡ None
  none_read =
      let t = some_table trie.table in
      ap (read v.slots) (home_path q) ∙ missing (read v.slots) t.paths (read_held t.reading t.values t.paths v w t.holds).hold

  pub part_missing : IsTrie width count v w (record { entries = without_below s.entries q; nodes = nodes_without_below s.nodes s.entries q })
  part_missing =
      let same = no_node_there width count v w s q trie none_read in
      subst (λ (x : State T). IsTrie width count v w x) (λ i. record { entries = sym same.0 i; nodes = sym same.1 i }) trie

  -- there is nothing to list
  pub part_unlisted : listing_below s.entries q ≡ []
  part_unlisted = none_listed width count v w s q trie none_read

-- ---- what the empty string begins

module _ {T : Type 0} where
  -- all entries
  pub all_gone : (m : Entries T) → without_below m [] ≡ no_entries
  all_gone m = same_entries (without_below m []) no_entries (λ t.
      get-without_below m [] t ∙ ap (λ b. cond b None (get m t)) (begins-nil t) ∙ sym (get-empty _ t))

  -- and all nodes but the root
  pub root_left : (width : ℕ) (m : Entries T) (n : Nodes) → AreNodes width m n → nodes_without_below n m [] ≡ root_alone
  root_left width m n are =
      let laws : PruningLaws T = pruning_laws T in
      let left = laws.of_remove_children width m n [] are in
      same_nodes (nodes_without_below n m []) root_alone
      (λ t there. has-root_alone t ∙ only t (laws.none_added (nodes_not_below n []) (without_below m []) [] t
      (sym (ap (λ b. has_node (cond b (pruned (nodes_not_below n []) (without_below m []) []) n) t) are.rooted) ∙ there)))
      (λ t root. ap (has_node (nodes_without_below n m [])) (same_string-is t [] (sym (has-root_alone t) ∙ root)) ∙ left.are_nodes.rooted)
    where
      only : (t : List Bool) → has_node (nodes_not_below n []) t ≡ true → same_string t [] ≡ true
      only t there =
          sym (ap (λ b. not b || same_string t []) (begins-nil t))
          ∙ and-first (not (begins [] t) || same_string t []) (has_node n t) (sym (has-retained n (λ u. not (begins [] u) || same_string u (home [])) t) ∙ there)

-- ---- what contracts see of the fields

-- the entries and nodes that contracts see are those in the arrays
pub seen_trie : {T : Type 0} {width count : ℕ} {v : Store Node} {w : Store (Option T)} (shape : Shaped v.slots w.slots) → IsTable v w count shape.0 →
    {inside m : Contents T} → inside ≡ m → state inside ≡ shape.0 →
    AreWithin width m.entries → AreNodes width m.entries m.nodes → IsTrie width count v w shape.0
seen_trie {T} {width} shape is seen same within are =
    let known : AreWithin width shape.0.entries × AreNodes width shape.0.entries shape.0.nodes = subst (λ (x : State T). AreWithin width x.entries × AreNodes width x.entries x.nodes) (ap state (sym seen) ∙ same) (within, are) in
    record { table = is; shaped = shape.1; within = known.0; nodes = known.1 }
