-- After `remove_children`, the two maps together have the entries that the one map had: for the laws of splitting.
use Rattle.prefix_trie_bits.proofs.Prelude.{◌≡◌, ℕ, ◌+◌, Bool, true, false, cond, not, List, [], ◌∷◌, length, Option, None, Some, is_some, refl, sym, ap, ap₂, ◌∙◌, subst, false≢true, length-filter_both, Contains-append_left, Contains-append_right, Contains-push, get, len, find, entries, len-entries, get-entries, entries_sorted, contains_key, begins, listing_cmp, same_string, Entries, with_entry, without_below, part_below, put_all, AreWithin, SplitsOff, AreNodes, needed, listing, State, Splits, SplitLaws, IsMap, Sizes, child_block_sizes, value_block_sizes, child_count, own_entries, ArePacked, SplitsOffInStorage, packed_node_slots, packed_cell_slots, Nodes, has_node, Storage, zero, suc, ◌<◌, ◌≤◌, lit<, Contains, HasBlock, NodesHaveBlocks, packed_block, IsStoredMap, RemoveChildren, Done}
use Rattle.prefix_trie_bits.proofs.Model.Members.{and-second, has-retained, same_entries, same_string-is, get-with_entry, get-without_below, get-part_below}
use Rattle.prefix_trie_bits.proofs.Model.NodeSets.{AreNodes-needed}
use Rattle.prefix_trie_bits.proofs.Model.SortedListings.{entries-retained, find-from_Contains}
use Rattle.prefix_trie_bits.proofs.Model.Pruning.{remove_children_law, below_fewer}
use Rattle.prefix_trie_bits.proofs.Model.Storage.PreparedInsertions.{goes_up}
use Rattle.prefix_trie_bits.proofs.Model.Storage.ShrunkBlocks.{smallest_of}
use Rattle.prefix_trie_bits.proofs.Model.Storage.StoredMaps.{stays_stored}
use Rattle.prefix_trie_bits.proofs.Model.Storage.InsertedBlocks.{children_most, entries_most}

-- a packed array is determined by its nodes and by how many items each has
packed_alike : (sizes : List ℕ) (n : Nodes) (count : List Bool → ℕ) (a b : Sizes) → ArePacked sizes n count a → ArePacked sizes n count b → a ≡ b
packed_alike sizes n count a b is also = same_entries a b (λ p. at p (has_node n p) refl)
  where
    at : (p : List Bool) (there : Bool) → has_node n p ≡ there → get a p ≡ get b p
    at p true e = is.at_nodes p e ∙ sym (also.at_nodes p e)
    at p false e = is.elsewhere p e ∙ sym (also.elsewhere p e)

-- so the storage of the map that is split off is determined
stored_alike : {T : Type 0} (before : State T × Storage) (q : List Bool) (second after other later : State T × Storage)
    → SplitsOffInStorage before q second after → SplitsOffInStorage before q other later → second ≡ other
stored_alike {T} before q second after other later h g =
    let m : second.0.entries ≡ other.0.entries = h.splits_off.split_off ∙ sym g.splits_off.split_off in
    let n : second.0.nodes ≡ other.0.nodes = h.splits_off.split_nodes ∙ ap (λ (es : Entries T). needed es) m ∙ sym g.splits_off.split_nodes in
    let s : second.0 ≡ other.0 = (λ i. record { entries = m i; nodes = n i }) in
    let limit = h.same_limit ∙ sym g.same_limit in
    let nodes = h.packed.node_slots ∙ ap (λ (x : State T). packed_node_slots x.nodes) s ∙ sym g.packed.node_slots in
    let cells = h.packed.cell_slots ∙ ap (λ (x : State T). packed_cell_slots x.entries x.nodes) s ∙ sym g.packed.cell_slots in
    let children = packed_alike child_block_sizes other.0.nodes (child_count other.0.nodes) second.1.layout.child_blocks other.1.layout.child_blocks
    (subst (λ (x : State T). ArePacked child_block_sizes x.nodes (child_count x.nodes) second.1.layout.child_blocks) s h.packed.child_blocks) g.packed.child_blocks in
    let values = packed_alike value_block_sizes other.0.nodes (own_entries other.0.entries) second.1.layout.value_blocks other.1.layout.value_blocks
    (subst (λ (x : State T). ArePacked value_block_sizes x.nodes (own_entries x.entries) second.1.layout.value_blocks) s h.packed.value_blocks) g.packed.value_blocks in
    let free_children = h.packed.no_child_block_free ∙ sym g.packed.no_child_block_free in
    let free_values = h.packed.no_value_block_free ∙ sym g.packed.no_value_block_free in
    λ i. (
      s i,
      record {
        space = record { limit = limit i; node_slots = nodes i; cell_slots = cells i };
        layout = record { child_blocks = children i; value_blocks = values i; free_child_blocks = free_children i; free_value_blocks = free_values i };
      },
    )

module _ {T : Type 0} where
  -- putting the items that were split off back makes the map that there was
  put_back : (s m : Entries T) (es : List (List Bool × T)) → ((e : List Bool × T) → Contains es e → get s e.0 ≡ Some e.1) →
      ((k : List Bool) → is_some (find listing_cmp k es) ≡ false → get m k ≡ get s k) → put_all (λ k. k) es m ≡ s
  put_back s m [] each rest = same_entries m s (λ k. rest k refl)
  put_back s m (e ∷ es) each rest =
      put_back s (with_entry m e.0 e.1) es
      (λ x has. each x (Contains-append_right (e ∷ []) es x has))
      (λ k none. get-with_entry m e.0 e.1 k ∙ by k (same_string k e.0) refl none)
    where
      by : (k : List Bool) (b : Bool) → same_string k e.0 ≡ b → is_some (find listing_cmp k es) ≡ false → cond b (Some e.1) (get m k) ≡ get s k
      by k true same none = sym (each e (Contains-append_left (e ∷ []) es e (Contains-push [] e))) ∙ ap (get s) (sym (same_string-is k e.0 same))
      by k false other none = rest k (ap (λ b. is_some (cond b (Some e.1) (find listing_cmp k es))) other ∙ none)

  module _ (m : Entries T) (q : List Bool) where
    part_within : (k : List Bool) (v : T) → get (part_below m q) k ≡ Some v → get m k ≡ Some v
    part_within k v e = by (begins q k) (sym (get-part_below m q k) ∙ e)
      where
        none≢some : ◌≡◌ {A = Option T} None (Some v) → ⊥
        none≢some h = absurd (false≢true (ap is_some h))

        by : (b : Bool) → cond b (get m k) None ≡ Some v → get m k ≡ Some v
        by true h = h
        by false h = absurd (none≢some h)

    merged : put_all (λ k. k) (listing (part_below m q)) (without_below m q) ≡ m
    merged =
        put_back m (without_below m q) (listing (part_below m q))
        (λ e has. part_within e.0 e.1 (get-entries (part_below m q) e.0 ∙ find-from_Contains (listing (part_below m q)) e (entries_sorted (part_below m q)) has))
        (λ k none. get-without_below m q k ∙ by k (begins q k) (sym (ap is_some (get-part_below m q k)) ∙ ap is_some (get-entries (part_below m q) k) ∙ none))
      where
        no_value : (o : Option T) → is_some o ≡ false → None ≡ o
        no_value None e = refl
        no_value (Some v) e = absurd (false≢true (sym e))

        by : (k : List Bool) (b : Bool) → is_some (cond b (get m k) None) ≡ false → cond b None (get m k) ≡ get m k
        by k true none = no_value (get m k) none
        by k false none = refl

    numbers : len (part_below m q) + len (without_below m q) ≡ len m
    numbers =
        ap₂ (λ a b. a + b)
        (len-entries (part_below m q) ∙ ap length (entries-retained m (λ s. begins q s)))
        (len-entries (without_below m q) ∙ ap length (entries-retained m (λ s. not (begins q s))))
        ∙ length-filter_both (λ e. begins q e.0) (λ e. not (begins q e.0)) (λ e. refl) (entries m)
        ∙ sym (len-entries m)

  splits : (before : State T) (q : List Bool) (second after : State T) → SplitsOff before q second after → Splits before q second after
  splits before q second after h = record {
    begun = λ k e. (
      ap (λ m. get m k) h.split_off ∙ get-part_below before.entries q k ∙ ap (λ b. cond b (get before.entries k) None) e,
      ap (λ m. get m k) h.left ∙ get-without_below before.entries q k ∙ ap (λ b. cond b None (get before.entries k)) e,
    );
    others = λ k e. (
      ap (λ m. get m k) h.split_off ∙ get-part_below before.entries q k ∙ ap (λ b. cond b (get before.entries k) None) e,
      ap (λ m. get m k) h.left ∙ get-without_below before.entries q k ∙ ap (λ b. cond b None (get before.entries k)) e,
    );
    number = ap₂ (λ a b. len a + len b) h.split_off h.left ∙ numbers before.entries q;
    merged = ap₂ (λ a b. put_all (λ k. k) (listing a) b) h.split_off h.left ∙ merged before.entries q;
  }

  part_fewer : (m : Entries T) (q k : List Bool) → contains_key (part_below m q) k ≡ true → contains_key m k ≡ true
  part_fewer m q k e = and-second (begins q k) (contains_key m k) (sym (has-retained m (λ s. begins q s) k) ∙ e)

  maps : (width : ℕ) (before : State T) (q : List Bool) (second after : State T) → IsMap width before → SplitsOff before q second after →
      IsMap width second × (second.nodes ≡ needed second.entries) × IsMap width after
  maps width before q second after is h =
      let part : AreWithin width (part_below before.entries q) = λ k has. is.keys_within k (part_fewer before.entries q k has) in
      let within : AreWithin width second.entries = subst (AreWithin width) (sym h.split_off) part in (
        record {
          keys_within = within;
          are_nodes = subst (AreNodes width second.entries) (sym h.split_nodes) (AreNodes-needed width second.entries within);
        },
        h.split_nodes,
        record {
          keys_within = λ k has. is.keys_within k (below_fewer before.entries q k (ap (λ m. contains_key m k) (sym h.left) ∙ has));
          are_nodes =
              subst (λ m. AreNodes width m after.nodes) (sym h.left)
              (subst (AreNodes width (without_below before.entries q)) (sym h.left_nodes)
              (remove_children_law width before.entries before.nodes q is.are_nodes).are_nodes);
        },
      )

-- in a packed array each node has the block that it needs
packed_has : (sizes : List ℕ) → goes_up 0 sizes ≡ true → (top : ℕ) → Contains sizes top → (count : ℕ) → count ≤ top → HasBlock sizes count (packed_block sizes count)
packed_has sizes up top largest zero most = refl
packed_has sizes up top largest (suc n) most =
    let small = smallest_of 0 sizes up (suc n) top largest most in (small.size, small.found, small.among, small.holds)

packed_have : (sizes : List ℕ) → goes_up 0 sizes ≡ true → (top : ℕ) → Contains sizes top → (n : Nodes) (count : List Bool → ℕ) → ((p : List Bool) → count p ≤ top)
    → (blocks : Sizes) → ArePacked sizes n count blocks → NodesHaveBlocks sizes n count blocks
packed_have sizes up top largest n count most blocks packed = record {
  at_nodes = λ p there. subst (HasBlock sizes (count p)) (sym (packed.at_nodes p there)) (packed_has sizes up top largest (count p) (most p));
  elsewhere = packed.elsewhere;
}

-- both maps are stored correctly
stored : {T : Type 0} (width : ℕ) (before : State T × Storage) (q : List Bool) (second after : State T × Storage) → IsStoredMap width before → length q ≤ width
    → SplitsOffInStorage before q second after → IsStoredMap width second × IsStoredMap width after
stored width before q second after whole short h = (
  record {
    is_map = (maps width before.0 q second.0 after.0 whole.is_map h.splits_off).0;
    have_blocks = record {
      child_blocks = packed_have child_block_sizes refl 32 (6, lit< tt, refl) second.0.nodes (child_count second.0.nodes) (children_most second.0.nodes)
          second.1.layout.child_blocks h.packed.child_blocks;
      value_blocks = packed_have value_block_sizes refl 31 (6, lit< tt, refl) second.0.nodes (own_entries second.0.entries) (entries_most second.0.entries)
          second.1.layout.value_blocks h.packed.value_blocks;
    };
    root_fits = subst (λ limit. 0 < limit) (sym h.same_limit) whole.root_fits;
    nodes_within = h.nodes_within;
    cells_within = h.cells_within;
  },
  stays_stored (λ s. s) (λ s. s) width before whole (RemoveChildren q) Done after short (h.drops width),
)

pub split_laws : (T : Type 0) → SplitLaws T
split_laws T = record { splits = splits; are_maps = maps; stored_alike = stored_alike; are_stored = stored }
