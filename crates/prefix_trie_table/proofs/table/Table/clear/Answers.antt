-- `clear` leaves the root alone, with no free block either, which is the model's step `Clear`.
use Rattle.prefix_trie_table.proofs.Prelude.{[], ◌∷◌, Option, length, ap, sym, subst, arith, IsTable, Node, node_sizes, Store}
use Rattle.prefix_trie_table.proofs.Tree.Invariant.{some_table}
use Rattle.prefix_trie_table.proofs.Removal.ClearedTables.{under_limit, root_slot}
use Rattle.prefix_trie_table.proofs.Tree.Shapes.{root_shape, root_reading, new_holds, new_shape, new_only, new_table}
use Rattle.prefix_trie_table.proofs.Blocks.NodeLayouts.{sizes_of, root_layout}
use Rattle.prefix_trie_table.proofs.Tree.ModelSteps.{clears_step}
use Rattle.prefix_trie_table.proofs.table.Table.clear.Goals as goal

pub invariant_of-self-inside : goal.invariant_of-self-inside
invariant_of-self-inside g c =
    let e = c.clear_entries.ensures in
    let cells = under_limit _ _ _ e.cells c.self.invariant.one_limit in (
      (root_shape, new_shape _ _ _ e.nodes e.nodes_sound cells e.cells_sound),
      (sizes_of node_sizes root_reading ([] ∷ []) _ (new_holds _ _ _ e.nodes e.nodes_sound cells e.cells_sound).hold, tt),
    )

pub invariant_of-self : goal.invariant_of-self
invariant_of-self g c =
    let e = c.clear_entries.ensures in
    subst (λ n. IsTable c.clear_entries.new.nodes c.clear_entries.new.cells n c.self-1.given.0.0) (sym e.none)
    (new_table _ _ _ e.nodes e.nodes_sound (under_limit _ _ _ e.cells c.self.invariant.one_limit) e.cells_sound
    (let r = root_slot c.self.inside.nodes c.self.inside.cells (some_table c.self.invariant) in let h = c.self.invariant.nodes_within in omega (arith, r, h)) c.self-1.given.0)

pub returns : goal.returns
returns g c =
    let v2 = c.clear_entries.new.nodes in
    let w2 = c.clear_entries.new.cells in
    let s2 = c.self-1.given.0 in
    let z2 = c.self-1.given.1.0 in
    let e = c.clear_entries.ensures in
    let is = c.self.invariant in
    let cells = under_limit _ _ _ e.cells is.one_limit in
    let layout = root_layout v2 w2 (new_holds v2 w2 _ e.nodes e.nodes_sound cells e.cells_sound)
    (ap (λ (x : Store Node). x.tiers) e.nodes) (ap (λ (x : Store (Option g.row.T.Denot)). x.tiers) e.cells) z2 in
    rw (← c.self.view_is) (record {
      step = clears_step c.self.inside.nodes v2 c.self.inside.cells w2 _ _ c.self.inside.shape is c.self.inside.sizes s2 (invariant_of-self g c) z2
          (new_only v2 w2 _ e.nodes e.nodes_sound cells e.cells_sound s2)
          (λ i. record { space = record { limit = (e.nodes i).limit; node_slots = length (e.nodes i).slots; cell_slots = length (e.cells i).slots }; layout = layout i });
    })
