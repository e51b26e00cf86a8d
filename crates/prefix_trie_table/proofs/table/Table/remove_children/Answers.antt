-- Splitting off a table is a step of the model: this table is left without the part, and the second one has just that part.
use Rattle.prefix_trie_table.proofs.Prelude.{ℕ, refl, sym, ap, ap₂, ◌∙◌, subst, arith, RemoveChildren, Done, StepByPath, Sized-prop, Contents, Shaped-prop, stored_state, Store, IsTable}
use Rattle.prefix_trie_table.proofs.Blocks.NodeLayouts.{table_sizes, storage_of}
use Rattle.prefix_trie_table.proofs.Removal.ClearedTables.{root_slot}
use Rattle.prefix_trie_table.proofs.Moving.SplitTables.{rest_counted, shape_seen, table_seen, clear_behind, split_off_map, second_packed}
use Rattle.prefix_trie_table.proofs.Removal.RemovedParts.{seen_trie}
use Rattle.prefix_trie_table.proofs.Tree.Invariant.{some_table}
use Rattle.prefix_trie_table.proofs.Tree.ModelSteps.{all_step, part_step, bounds_growth_in}
use Rattle.prefix_trie_table.proofs.table.Table.remove_children.Goals as goal
use Rattle.prefix_trie_table.proofs.table.Table.remove_children.Goals.{then-len-eq0, else-len-eq0}

pub build_part-requires : goal.build_part-requires
build_part-requires g c = record { trie = (c.self.inside.shape.0, c.self.inside.count, seen_trie c.self.inside.shape c.self.invariant c.self.view_is refl c.requires.within c.requires.nodes) }

pub same-self : goal.same-self
same-self g c =
    let i = c.self.inside in
    let own = c.in_err-built.self-1-own.given in
    ap₂ (λ shape sizes. record { nodes = i.nodes; cells = i.cells; count = i.count; shape = shape; sizes = sizes })
    (Shaped-prop g.row.T.coded i.nodes.slots i.cells.slots own.0 i.shape) (Sized-prop i.nodes.slots own.1.0 i.sizes)

pub move_part-nodes-requires-clause-trie : goal.move_part-nodes-requires-clause-trie
move_part-nodes-requires-clause-trie g c = (c.self.inside.shape.0, seen_trie c.self.inside.shape c.self.invariant c.self.view_is refl c.requires.within c.requires.nodes)

pub invariant_of-self-inside-2 : goal.invariant_of-self-inside-2
invariant_of-self-inside-2 g c =
    let left = c.move_part-nodes.ensures.removed _ (seen_trie c.self.inside.shape c.self.invariant c.self.view_is refl c.requires.within c.requires.nodes) in
    ((_, left.shaped), (table_sizes _ _ (some_table left.table), tt))

pub overflow_sub-second : goal.overflow_sub-second
overflow_sub-second g c =
    let left = c.move_part-nodes.ensures.removed _ (seen_trie c.self.inside.shape c.self.invariant c.self.view_is refl c.requires.within c.requires.nodes) in
    (rest_counted g.K.Key.bit_width _ c.self.inside.count _ _ c.self.inside.shape.0 c.args.path left c.self.invariant.sized).0

pub invariant_of-self : goal.invariant_of-self
invariant_of-self g c = table_seen (c.move_part-nodes.ensures.removed _ (seen_trie c.self.inside.shape c.self.invariant c.self.view_is refl c.requires.within c.requires.nodes)) c.self-2-1.given.0

pub invariant_of-self-else-len-eq0 : goal.invariant_of-self-else-len-eq0
invariant_of-self-else-len-eq0 g c =
    table_seen (c.move_part-nodes.ensures.removed _ (seen_trie c.self.inside.shape c.self.invariant c.self.view_is refl c.requires.within c.requires.nodes)) c.self-2-1.given.0

pub invariant_of-second-inside : goal.invariant_of-second-inside
invariant_of-second-inside g c =
    let split_off = c.move_part-nodes.ensures.moved _ (seen_trie c.self.inside.shape c.self.invariant c.self.view_is refl c.requires.within c.requires.nodes) in
    ((_, split_off.shaped), (table_sizes _ _ (some_table split_off.table), tt))

pub invariant_of-second : goal.invariant_of-second
invariant_of-second g c =
    let trie = seen_trie c.self.inside.shape c.self.invariant c.self.view_is refl c.requires.within c.requires.nodes in
    let left = c.move_part-nodes.ensures.removed _ trie in
    let split_off = c.move_part-nodes.ensures.moved _ trie in
    subst (λ n. IsTable c.move_part-nodes.result.0 c.move_part-nodes.result.1 n c.second-1.given.0.0)
    (rest_counted g.K.Key.bit_width _ c.self.inside.count _ _ c.self.inside.shape.0 c.args.path left c.self.invariant.sized).1
    (table_seen split_off c.second-1.given.0)

pub returns-clause-split_off : goal.returns-clause-split_off
returns-clause-split_off g c =
    let i = c.self.inside in
    let now = c.args.self.now in
    let q = c.args.path in
    let new = c.move_part-nodes.new in
    let two = c.move_part-nodes.result in
    let trie = seen_trie i.shape c.self.invariant c.self.view_is refl c.requires.within c.requires.nodes in
    let left = c.move_part-nodes.ensures.removed i.shape.0 trie in
    let split_off = c.move_part-nodes.ensures.moved i.shape.0 trie in
    let preserves = c.move_part-nodes.ensures.preserves in
    let step : (width : ℕ) → StepByPath width (stored_state now) (RemoveChildren q) Done (stored_state c.if-len-eq0.self) = elim c.if-len-eq0.branch [
      | then-len-eq0 w ↦
          rw w.self-is (all_step g.K.Key.bit_width (stored_state now) (stored_state w.clear.new.self) q (sym c.len-len.ensures.len ∙ w.if-len-eq0.true) c.requires.nodes
          (clear_behind (stored_state now) (c.self-2-1.given.0.0, storage_of new.nodes new.cells c.self-2-1.given.1.0) (stored_state w.clear.new.self)
          (preserves.nodes.limit ∙ ap (λ (m : Contents g.row.T.Denot). m.space.limit) c.self.view_is)
          (rw (← c.self.view_is) (root_slot c.self.inside.nodes c.self.inside.cells (some_table c.self.invariant))) w.clear.ensures.step))
      | else-len-eq0 w ↦
          rw w.self-is (rw (← c.self.view_is) (part_step i.nodes new.nodes i.cells new.cells _ _ i.shape c.self.invariant i.sizes c.self-2-1.given.0
          (table_seen left c.self-2-1.given.0) c.self-2-1.given.1.0 preserves q (omega (arith, c.len-len.ensures.len, w.if-len-eq0.false)) (shape_seen left c.self-2-1.given.0)))
    ] in
    split_off_map (stored_state now) (c.second-1.given.0.0, storage_of two.0 two.1 c.second-1.given.1.0) (stored_state c.if-len-eq0.self) q step
    (rw (← c.self.view_is) (shape_seen split_off c.second-1.given.0))
    (rw (shape_seen split_off c.second-1.given.0) (second_packed g.K.Key.bit_width _ q i.nodes c.in_ok-built.built two.0 c.in_ok-built.vacant two.1 c.in_ok-built.ensures.built _ split_off
    c.move_part-nodes.ensures.nodes c.move_part-nodes.ensures.cells c.second-1.given.1.0))
    (ap (λ (x : Store _). x.limit) c.move_part-nodes.ensures.nodes ∙ c.in_ok-built.ensures.built.node_limit ∙ ap (λ (m : Contents g.row.T.Denot). m.space.limit) c.self.view_is)
    split_off.table.nodes_within
    (let within = split_off.table.cells_within in let same = split_off.table.one_limit in omega (arith, within, same))

pub returns-clause-kept : goal.returns-clause-kept
returns-clause-kept g c = tt

pub returns-clause-bounds_growth : goal.returns-clause-bounds_growth
returns-clause-bounds_growth g c = λ some.
    let i = c.self.inside in
    let new = c.move_part-nodes.new in
    let left = c.move_part-nodes.ensures.removed _ (seen_trie i.shape c.self.invariant c.self.view_is refl c.requires.within c.requires.nodes) in
    elim c.if-len-eq0.branch [
      | then-len-eq0 w ↦ absurd (omega (arith, some, c.len-len.ensures.len, w.if-len-eq0.true))
      | else-len-eq0 w ↦
          rw w.self-is (rw (← c.self.view_is) (bounds_growth_in i.nodes new.nodes i.cells new.cells _ _ i.shape c.self.invariant i.sizes c.self-2-1.given.0
          (table_seen left c.self-2-1.given.0) c.self-2-1.given.1.0 c.move_part-nodes.ensures.preserves))
    ]
