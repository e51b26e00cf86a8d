-- An insertion changes the storage of a table as the model states.
use Rattle.prefix_trie_table.proofs.Prelude.{◌≡◌, ℕ, ◌+◌, ◌<◌, ◌≤◌, inl, inr, List, Bool, length, Option, Result, Ok, Err, MatchResult, sym, ap, subst, arith, filter_map, option_to_list, Refusal, Memory, IndexRange, Sizes, used_of, free_of, child_block_sizes, value_block_sizes, MakesBlocks, MakesAtMost, child_block_count, value_block_count, missing_of, slots_of_missing, missing_node_slots, missing_cell_slots, child_blocks_needed, value_blocks_needed, missing_child_blocks, missing_value_blocks, TakesBlocks, child_block_needed, value_block_needed, nodes_above, home, State, Storage, PreparesInStorage, InsertsInStorage, RefusesInStorage, Node, Made, MadeAtMost, ObtainsBoth, node_sizes, cell_sizes, Sized, Store, tier_sizes, free_counts, missing_in, missing_slots, IsTable}
use Rattle.prefix_trie_table.proofs.Tree.Invariant.{some_table}
use Rattle.prefix_trie_table.proofs.Blocks.KeptBlocks.{IsCut, blocks_made, blocks_at_most, nodes_cut, cells_cut}
use Rattle.prefix_trie_table.proofs.Blocks.NodeLayouts.{layout_of, storage_of}

module _ {S : Type 0} (sizes : List ℕ) (v v2 : Store S) (used later : Sizes) (are : tier_sizes v.tiers ≡ sizes) (cut : IsCut sizes v used) (cut2 : IsCut sizes v2 later) (needed : List ℕ) where
  lack : (size : ℕ) → missing_in v needed size ≡ missing_of sizes (free_counts v.tiers) needed size
  lack size = ap (λ ns. missing_of ns (free_counts v.tiers) needed size) are

  slots : missing_slots v needed ≡ slots_of_missing sizes (free_counts v.tiers) needed
  slots = ap (λ ns. slots_of_missing ns (free_counts v.tiers) needed) are

  longer : Made v v2 needed → length v2.slots ≡ length v.slots + slots_of_missing sizes (free_counts v.tiers) needed
  longer made = (let l = made.longer in let s = slots in omega (arith, l, s))

  longer_at_most : MadeAtMost v v2 needed → (length v.slots ≤ length v2.slots) × (length v2.slots ≤ length v.slots + slots_of_missing sizes (free_counts v.tiers) needed)
  longer_at_most made = (let l = made.longer in let s = slots in (l.0, omega (arith, l.1, s)))

  needed_made : Made v v2 needed →
      MakesBlocks sizes (missing_of sizes (free_counts v.tiers) needed) (λ size. used_of used size + free_of sizes (free_counts v.tiers) size) (λ size. used_of later size + free_of sizes (free_counts v2.tiers) size)
  needed_made made = blocks_made sizes v v2 used later cut cut2 _ (λ size there. (let m = made.made_is size in let l = lack size in omega (arith, m, l)))

  needed_at_most : MadeAtMost v v2 needed →
      MakesAtMost sizes (missing_of sizes (free_counts v.tiers) needed) (λ size. used_of used size + free_of sizes (free_counts v.tiers) size) (λ size. used_of later size + free_of sizes (free_counts v2.tiers) size)
  needed_at_most made = blocks_at_most sizes v v2 used later cut cut2 _ (λ size there. (let m = made.made_is size in let l = lack size in (m.0, omega (arith, m.1, l))))

-- of each size exactly the missing blocks for the insertion of q were made, and the arrays are
-- longer by these
record MakesMissing {T : Type 0} (s : State T) (q : List Bool) (before after : Storage) : Type 0 where
  node_slots : after.space.node_slots ≡ before.space.node_slots + missing_node_slots s.nodes before.layout q
  cell_slots : after.space.cell_slots ≡ before.space.cell_slots + missing_cell_slots s.entries before.layout q
  child_blocks : MakesBlocks child_block_sizes (missing_child_blocks s.nodes before.layout q) (child_block_count before.layout) (child_block_count after.layout)
  value_blocks : MakesBlocks value_block_sizes (missing_value_blocks s.entries before.layout q) (value_block_count before.layout) (value_block_count after.layout)

module _ {T : Type 0} (v v2 : Store Node) (w w2 : Store (Option T)) (count count2 : ℕ) (s s2 : State T) (is : IsTable v w count s) (left : IsTable v2 w2 count2 s2)
    (sized : Sized v.slots) (later : Sized v2.slots) (q : List Bool) where
  abbrev node_are : tier_sizes v.tiers ≡ node_sizes
  node_are = (some_table is).holds.hold.sizes_are

  abbrev cell_are : tier_sizes w.tiers ≡ cell_sizes
  cell_are = (some_table is).holds.cells.sizes_are

  module _ {X E : Type 0} (cause : E → Refusal) where
    -- a call obtains the blocks that the model states
    abbrev Foresees : Result X E → Type 0
    Foresees r = ObtainsBoth (λ e. cause e ≡ IndexRange) (λ e. cause e ≡ Memory) r v v2 w w2
        (child_blocks_needed s.nodes (layout_of v.slots v.tiers w.tiers sized) q) (value_blocks_needed s.entries (layout_of v.slots v.tiers w.tiers sized) q)

    -- it makes exactly the missing blocks
    made_in : (x : X) → Foresees (Ok x) → MakesMissing s q (storage_of v w sized) (storage_of v2 w2 later)
    made_in x o =
        let a = nodes_cut v w (some_table is) sized in
        let b = nodes_cut v2 w2 (some_table left) later in
        let c = cells_cut v w (some_table is) sized in
        let d = cells_cut v2 w2 (some_table left) later in
        record {
          node_slots = longer node_sizes v v2 sized.0 later.0 node_are a b _ o.nodes_made;
          cell_slots = longer cell_sizes w w2 sized.1.0 later.1.0 cell_are c d _ o.cells_made;
          child_blocks = needed_made node_sizes v v2 sized.0 later.0 node_are a b _ o.nodes_made;
          value_blocks = needed_made cell_sizes w w2 sized.1.0 later.1.0 cell_are c d _ o.cells_made;
        }

    -- what its refusal leaves
    refused_in : (e : E) → Foresees (Err e) → later.0 ≡ sized.0 → later.1.0 ≡ sized.1.0 →
        RefusesInStorage s q (cause e) (storage_of v w sized) (storage_of v2 w2 later)
    refused_in e o children values =
        let a = nodes_cut v w (some_table is) sized in
        let b = nodes_cut v2 w2 (some_table left) later in
        let c = cells_cut v w (some_table is) sized in
        let d = cells_cut v2 w2 (some_table left) later in
        let nodes_slots : missing_slots v (child_blocks_needed s.nodes (layout_of v.slots v.tiers w.tiers sized) q) ≡ missing_node_slots s.nodes (layout_of v.slots v.tiers w.tiers sized) q = slots node_sizes v v2 sized.0 later.0 node_are a b _ in
        let cells_slots : missing_slots w (value_blocks_needed s.entries (layout_of v.slots v.tiers w.tiers sized) q) ≡ missing_cell_slots s.entries (layout_of v.slots v.tiers w.tiers sized) q = slots cell_sizes w w2 sized.1.0 later.1.0 cell_are c d _ in
        record {
          some_missing = (let l = o.some_missing in omega (arith, l, nodes_slots, cells_slots));
          range = λ for_limit. elim (o.range for_limit) [
            | inl nodes ↦ inl (omega (arith, nodes, nodes_slots))
            | inr cells ↦ inr (let same = is.one_limit in omega (arith, cells, cells_slots, same))
          ];
          memory = λ for_memory. elim (o.memory for_memory) [
            | inl nodes ↦ inl (
              nodes.0,
              subst (λ m. 0 < missing_of child_block_sizes (free_counts v2.tiers) (filter_map (child_block_needed s.nodes m q) (nodes_above q)) nodes.0) (sym children)
                  (let some = nodes.1 in let l = lack node_sizes v2 v2 later.0 later.0 (some_table left).holds.hold.sizes_are b b (child_blocks_needed s.nodes (layout_of v.slots v.tiers w.tiers sized) q) nodes.0 in omega (arith, some, l)),
              nodes.2,
            )
            | inr cells ↦ inr (
              cells.0,
              subst (λ m. 0 < missing_of value_block_sizes (free_counts w2.tiers) (option_to_list (value_block_needed s.entries m q (home q))) cells.0) (sym values)
                  (let some = cells.1 in let l = lack cell_sizes w2 w2 later.1.0 later.1.0 (some_table left).holds.cells.sizes_are d d (value_blocks_needed s.entries (layout_of v.slots v.tiers w.tiers sized) q) cells.0 in omega (arith, some, l)),
              (let space = cells.2 in let same = left.one_limit in omega (arith, space, same)),
            )
          ];
          node_slots = longer_at_most node_sizes v v2 sized.0 later.0 node_are a b _ o.nodes_made;
          cell_slots = longer_at_most cell_sizes w w2 sized.1.0 later.1.0 cell_are c d _ o.cells_made;
          child_blocks = children;
          value_blocks = values;
          child_blocks_made = needed_at_most node_sizes v v2 sized.0 later.0 node_are a b _ o.nodes_made;
          value_blocks_made = needed_at_most cell_sizes w w2 sized.1.0 later.1.0 cell_are c d _ o.cells_made;
        }

    -- what it leaves if it does not insert
    pub prepared_in : (r : Result X E) → Foresees r → (later.0 ≡ sized.0) × (later.1.0 ≡ sized.1.0) →
        MatchResult r (λ _. PreparesInStorage s q (storage_of v w sized) (storage_of v2 w2 later))
        (λ e. RefusesInStorage s q (cause e) (storage_of v w sized) (storage_of v2 w2 later))
    prepared_in (Ok x) f sizes =
        let made = made_in x f in
        record {
          node_slots = made.node_slots;
          cell_slots = made.cell_slots;
          child_blocks = sizes.0;
          value_blocks = sizes.1;
          child_blocks_made = made.child_blocks;
          value_blocks_made = made.value_blocks;
        }
    prepared_in (Err e) f sizes = refused_in e f sizes.0 sizes.1

    -- what the insertion of a new key leaves
    pub inserted_in : (r : Result X E) → Foresees r →
        MatchResult r (λ _. TakesBlocks (child_block_needed s.nodes sized.0 q) sized.0 later.0) (λ _. later.0 ≡ sized.0)
        × MatchResult r (λ _. TakesBlocks (value_block_needed s.entries sized.1.0 q) sized.1.0 later.1.0) (λ _. later.1.0 ≡ sized.1.0) →
        MatchResult r (λ _. InsertsInStorage s q (storage_of v w sized) (storage_of v2 w2 later))
        (λ e. RefusesInStorage s q (cause e) (storage_of v w sized) (storage_of v2 w2 later))
    inserted_in (Ok x) f sizes =
        let made = made_in x f in
        record {
          node_slots = made.node_slots;
          cell_slots = made.cell_slots;
          child_blocks = sizes.0;
          value_blocks = sizes.1;
          child_blocks_made = made.child_blocks;
          value_blocks_made = made.value_blocks;
        }
    inserted_in (Err e) f sizes = refused_in e f sizes.0 sizes.1
