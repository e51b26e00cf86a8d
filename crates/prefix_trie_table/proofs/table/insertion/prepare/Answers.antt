-- The blocks to make: one of values, and one of children for each missing level if the value's own node is missing.
use Rattle.prefix_trie_table.proofs.Prelude.{◌≡◌, ℕ, ◌+◌, ◌-◌, ◌/◌, length, Option, None, Some, inl, inr, [], Result, Err, refl, sym, ap, ◌∙◌, subst, arith, on_ok_weaker, err_from_is_err_and, IfErr-weaker, Refusal, Memory, IndexRange, Node, nodes_needed, cells_needed, ObtainsBoth, rank, value_block_sizes, block_needed, blank_node, cell_sizes, child_need, value_need, Store, Obtains, AreFree, tier_sizes, list_need, needs, GrowsBoth, MayPass}
use Rattle.prefix_trie_table.specs.OwnBlocks.{child_block_size, value_block_size}
use Rattle.prefix_trie_table.proofs.Blocks.BySize.{node_sized, cell_sized}
use Rattle.prefix_trie_table.proofs.Blocks.Turnovers.{free_obtained}
use Rattle.prefix_trie_table.proofs.Insertion.Additions.{at_values, has_list, has_values}
use Rattle.prefix_trie_table.proofs.Insertion.Needs.{nodes_here, nodes_below, cells_here, cells_below, child_list_need, value_list_need, first_list_need, keeps_by, free_by, cells_alone, cells_refused, nodes_then}
use Rattle.prefix_trie_table.proofs.Insertion.InsertionEffects.{list_tier, node_fits, cell_fits, few_children, nodes_prepared, cells_prepared}
use Rattle.prefix_trie_table.proofs.Insertion.Spaces.{Grows-same, Grows-obtained, missing_nodes, missing_cells, few_steps}
use Rattle.prefix_trie_table.proofs.Lookup.NodeSeats.{missing_few, end_there}
use Rattle.prefix_trie_table.proofs.Lookup.SearchPaths.{above_own, at_own}
use Rattle.prefix_trie_table.proofs.table.insertion.prepare.Given as given
use Rattle.prefix_trie_table.proofs.table.insertion.prepare.Goals as goal

-- an array of values of which one block is requested
module _ {T : Type 0} (v : Store Node) (w x : Store (Option T)) (o : Option ℕ) (count : ℕ) (r : Result (Unit {0}) Refusal) (are : tier_sizes w.tiers ≡ cell_sizes)
    (got : Obtains (λ e. e ≡ IndexRange) (λ e. e ≡ Memory) r w x (needs (block_needed value_block_sizes o count) 0)) where
  cells_only : GrowsBoth (λ e. e ≡ IndexRange) r v v w x
  cells_only =
      let few = missing_cells w o count are in record {
        nodes = Grows-same v v 56 refl;
        cells = Grows-obtained _ _ r w x _ 31 (cell_sized w.tiers are) got few;
        range = IfErr-weaker r _ (λ cause. cause ≡ IndexRange → MayPass v w) (λ cause h is. inr (let past = h is in omega (arith, past, few))) got.range;
      }

-- ---- a value in a node that is there

pub prepare-requires-clause-tier : goal.prepare-requires-clause-tier
prepare-requires-clause-tier g c = λ some.
    let n = c.args.reached.now.node in
    list_tier None c.args.cells.now n.value_tier n.value_block c.count.result
    (has_values c.args.nodes.now c.args.cells.now _ n c.count.result (end_there c.args.path.now c.args.reached.now c.requires.table c.requires.ends) c.requires.ends.1.along.node_is
    c.count.ensures) some

pub prepare-requires-clause-sizes : goal.prepare-requires-clause-sizes
prepare-requires-clause-sizes g c = cell_sized c.args.cells.now.tiers c.requires.table.holds.cells.sizes_are

pub prepare-requires-clause-fits : goal.prepare-requires-clause-fits
prepare-requires-clause-fits g c =
    let t = c.requires.table in
    let few = missing_few c.args.path.now c.args.reached.now c.args.nodes.now c.requires.ends t.reading t.paths t.holds.hold
    (at_own c.args.reached.now.level c.len-last.result (length c.args.path.now) c.len-last.ensures.len c.if-reached-last.true) t.values c.args.cells.now t.holds.cells in
    cell_fits c.args.cells.now.tiers (c.count.result + 1) c.requires.table.holds.cells.sizes_are
    (omega (arith, few, c.count.ensures))

-- what the array of values says of it
here : (g : given.Over) (c : goal.After-prepare g) → Obtains (λ e. e ≡ IndexRange) (λ e. e ≡ Memory) c.prepare.result c.args.cells.now c.prepare.new.self (needs (value_need (Some c.args.reached.now.node)) 0)
here g c =
    let n = c.args.reached.now.node in
    let same : c.count.result ≡ rank n.value_bitmap 32 = c.count.ensures in
    subst (λ o. Obtains (λ e. e ≡ IndexRange) (λ e. e ≡ Memory) c.prepare.result c.args.cells.now c.prepare.new.self (needs o 0))
    (value_list_need c.args.cells.now n c.count.result c.requires.table.holds.cells.sizes_are same) c.prepare.ensures.obtains

pub returns-then-reached-last-clause-space : goal.returns-then-reached-last-clause-space
returns-then-reached-last-clause-space g c =
    let n = c.args.reached.now.node in
    let short = at_own c.args.reached.now.level c.len-last.result (length c.args.path.now) c.len-last.ensures.len c.if-reached-last.true in
    let none = nodes_here c.args.reached.now c.args.path.now short in
    let one = cells_here c.args.reached.now c.args.path.now short in
    on_ok_weaker c.prepare.result (λ (free : AreFree c.prepare.new.self.tiers (needs (value_need (Some n)) 0)). (
      subst (AreFree c.args.nodes.now.tiers) (sym none) (λ size. omega arith),
      subst (AreFree c.prepare.new.self.tiers) (sym one) free,
    )) (free_by _ _ c.args.cells.now c.prepare.new.self _ (cell_sized c.args.cells.now.tiers c.requires.table.holds.cells.sizes_are) c.prepare.result (here g c))

pub returns-then-reached-last-clause-grows : goal.returns-then-reached-last-clause-grows
returns-then-reached-last-clause-grows g c =
    cells_only c.args.nodes.now c.args.cells.now c.prepare.new.self (value_block_size (Some c.args.reached.now.node)) (rank c.args.reached.now.node.value_bitmap 32) c.prepare.result c.requires.table.holds.cells.sizes_are (here g c)

pub returns-then-reached-last-clause-kept : goal.returns-then-reached-last-clause-kept
returns-then-reached-last-clause-kept g c = λ reading paths values holds. record {
  hold = holds.hold;
  cells = cells_prepared reading values paths _ _ holds.cells
      (keeps_by _ _ _ _ _ (cell_sized c.args.cells.now.tiers holds.cells.sizes_are) c.prepare.result c.prepare.ensures.obtains) c.prepare.ensures.sound;
}

pub returns-then-reached-last-clause-obtains : goal.returns-then-reached-last-clause-obtains
returns-then-reached-last-clause-obtains g c =
    let n = c.args.reached.now.node in
    let v = c.args.nodes.now in
    let w = c.args.cells.now in
    let t = c.requires.table in
    let short = at_own c.args.reached.now.level c.len-last.result (length c.args.path.now) c.len-last.ensures.len c.if-reached-last.true in
    let none = nodes_here c.args.reached.now c.args.path.now short in
    let one = cells_here c.args.reached.now c.args.path.now short in
    subst (λ ns. ObtainsBoth (λ e. e ≡ IndexRange) (λ e. e ≡ Memory) c.prepare.result v v w c.prepare.new.self ns (cells_needed c.args.reached.now c.args.path.now)) (sym none)
    (subst (λ cs. ObtainsBoth (λ e. e ≡ IndexRange) (λ e. e ≡ Memory) c.prepare.result v v w c.prepare.new.self [] cs) (sym one)
    (cells_alone _ _ v v w c.prepare.new.self _ (node_sized v.tiers t.holds.hold.sizes_are) (cell_sized w.tiers t.holds.cells.sizes_are) c.prepare.result (here g c)))

-- ---- below it: a block of one slot for the value

pub prepare-requires-2-clause-sizes : goal.prepare-requires-2-clause-sizes
prepare-requires-2-clause-sizes g c = cell_sized c.args.cells.now.tiers c.requires.table.holds.cells.sizes_are

pub prepare-requires-2-clause-fits : goal.prepare-requires-2-clause-fits
prepare-requires-2-clause-fits g c = cell_fits c.args.cells.now.tiers (0 + 1) c.requires.table.holds.cells.sizes_are (omega arith)

pub returns-in_err-prepare-clause-grows : goal.returns-in_err-prepare-clause-grows
returns-in_err-prepare-clause-grows g c =
    let p = err_from_is_err_and c.from_residual.result c.from_residual.ensures.1 in
    let are = c.requires.table.holds.cells.sizes_are in
    let w = c.args.cells.now in
    rw (p.1, p.2) (cells_only c.args.nodes.now w c.prepare-2.new.self None 0 (Err c.in_err-prepare.field-0.0) are
    (subst (λ o. Obtains {X = Unit {0}} (λ e. e ≡ IndexRange) (λ e. e ≡ Memory) (Err c.in_err-prepare.field-0.0) w c.prepare-2.new.self (needs o 0)) (first_list_need w are) c.in_err-prepare.ensures.obtains))

pub returns-in_err-prepare-clause-kept : goal.returns-in_err-prepare-clause-kept
returns-in_err-prepare-clause-kept g c = λ reading paths values holds. record {
  hold = holds.hold;
  cells = cells_prepared reading values paths _ _ holds.cells
      (keeps_by _ _ _ _ _ (cell_sized c.args.cells.now.tiers holds.cells.sizes_are) c.prepare-2.result c.prepare-2.ensures.obtains) c.prepare-2.ensures.sound;
}

pub returns-in_err-prepare-clause-obtains : goal.returns-in_err-prepare-clause-obtains
returns-in_err-prepare-clause-obtains g c =
    let p = err_from_is_err_and c.from_residual.result c.from_residual.ensures.1 in
    let n = c.args.reached.now.node in
    let v = c.args.nodes.now in
    let w = c.args.cells.now in
    let t = c.requires.table in
    let one = ap (λ o. needs o 0) (first_list_need w t.holds.cells.sizes_are) ∙ sym (cells_below c.args.reached.now c.args.path.now (above_own c.args.reached.now.level c.len-last.result (length c.args.path.now) c.len-last.ensures.len c.requires.ends.1.along.whole c.if-reached-last.false).1) in
    let all = cells_refused _ _ v v w c.prepare-2.new.self _ (node_sized v.tiers t.holds.hold.sizes_are) (cell_sized w.tiers t.holds.cells.sizes_are)
    (nodes_needed c.args.reached.now c.args.path.now) c.in_err-prepare.field-0.0 c.in_err-prepare.ensures.obtains in
    rw (p.1, p.2) (subst (λ cs. ObtainsBoth {X = Unit {0}} (λ e. e ≡ IndexRange) (λ e. e ≡ Memory) (Err c.in_err-prepare.field-0.0) v v w c.prepare-2.new.self (nodes_needed c.args.reached.now c.args.path.now) cs) one all)

-- ---- and blocks for the nodes

pub prepare-requires-3-clause-tier : goal.prepare-requires-3-clause-tier
prepare-requires-3-clause-tier g c = λ some.
    let n = c.args.reached.now.node in
    list_tier blank_node c.args.nodes.now n.child_tier n.child_block c.count-2.result
    (has_list c.args.nodes.now _ n c.count-2.result (at_values _ _ _ (end_there c.args.path.now c.args.reached.now c.requires.table c.requires.ends)) c.requires.ends.1.along.node_is
    c.count-2.ensures) some

pub prepare-requires-3-clause-sizes : goal.prepare-requires-3-clause-sizes
prepare-requires-3-clause-sizes g c = node_sized c.args.nodes.now.tiers c.requires.table.holds.hold.sizes_are

pub prepare-requires-3-clause-fits : goal.prepare-requires-3-clause-fits
prepare-requires-3-clause-fits g c =
    let few = few_children c.args.path.now c.args.reached.now c.args.nodes.now c.requires.ends.1
    (above_own c.args.reached.now.level c.len-last.result (length c.args.path.now) c.len-last.ensures.len c.requires.ends.1.along.whole c.if-reached-last.false).1 in
    node_fits c.args.nodes.now.tiers (c.count-2.result + 1) c.requires.table.holds.hold.sizes_are
    (omega (arith, few, c.count-2.ensures))

-- what the array of nodes says of them
below : (g : given.Over) (c : goal.After-prepare-3 g) → Obtains (λ e. e ≡ IndexRange) (λ e. e ≡ Memory) c.prepare-3.result c.args.nodes.now c.prepare-3.new.self
    (needs (child_need (Some c.args.reached.now.node)) (length c.args.path.now / 5 - (c.args.reached.now.level + 1)))
below g c =
    let n = c.args.reached.now.node in
    let same : c.count-2.result ≡ rank n.child_bitmap 32 = c.count-2.ensures in
    subst (λ o. Obtains (λ e. e ≡ IndexRange) (λ e. e ≡ Memory) c.prepare-3.result c.args.nodes.now c.prepare-3.new.self (needs o (length c.args.path.now / 5 - (c.args.reached.now.level + 1))))
    (child_list_need c.args.nodes.now n c.count-2.result c.requires.table.holds.hold.sizes_are same)
    (subst (λ l. Obtains (λ e. e ≡ IndexRange) (λ e. e ≡ Memory) c.prepare-3.result c.args.nodes.now c.prepare-3.new.self (needs (list_need c.args.nodes.now.tiers n.child_tier c.count-2.result) (l / 5 - (c.args.reached.now.level + 1)))) c.len-last.ensures.len c.prepare-3.ensures.obtains)

pub returns-clause-space : goal.returns-clause-space
returns-clause-space g c =
    let n = c.args.reached.now.node in
    let w = c.args.cells.now in
    let t = c.requires.table in
    let more = (above_own c.args.reached.now.level c.len-last.result (length c.args.path.now) c.len-last.ensures.len c.requires.ends.1.along.whole c.if-reached-last.false).1 in
    let nodes = nodes_below c.args.reached.now c.args.path.now more in
    let one = cells_below c.args.reached.now c.args.path.now more in
    let made = free_obtained w c.prepare-2.new.self _ c.in_ok-prepare.ensures.obtains.made in
    on_ok_weaker c.prepare-3.result (λ (free : AreFree c.prepare-3.new.self.tiers (needs (child_need (Some n)) (length c.args.path.now / 5 - (c.args.reached.now.level + 1)))). (
      subst (AreFree c.prepare-3.new.self.tiers) (sym nodes) free,
      subst (AreFree c.prepare-2.new.self.tiers) (ap (λ o. needs o 0) (first_list_need w t.holds.cells.sizes_are) ∙ sym one) made,
    )) (free_by _ _ c.args.nodes.now c.prepare-3.new.self _ (node_sized c.args.nodes.now.tiers t.holds.hold.sizes_are) c.prepare-3.result (below g c))

pub returns-clause-grows : goal.returns-clause-grows
returns-clause-grows g c =
    let v = c.args.nodes.now in
    let w = c.args.cells.now in
    let t = c.requires.table in
    let few = missing_nodes v (child_block_size (Some c.args.reached.now.node)) (rank c.args.reached.now.node.child_bitmap 32) (length c.args.path.now / 5 - (c.args.reached.now.level + 1)) t.holds.hold.sizes_are (few_steps (length c.args.path.now) c.args.reached.now.level (omega (arith, c.len-last.ensures.len, c.len-last.ensures.short))) in
    record {
      nodes = Grows-obtained _ _ c.prepare-3.result v c.prepare-3.new.self _ 56 (node_sized v.tiers t.holds.hold.sizes_are) (below g c) few;
      cells = (cells_only v w c.prepare-2.new.self None 0 c.prepare-2.result t.holds.cells.sizes_are
          (subst (λ o. Obtains (λ e. e ≡ IndexRange) (λ e. e ≡ Memory) c.prepare-2.result w c.prepare-2.new.self (needs o 0)) (first_list_need w t.holds.cells.sizes_are) c.prepare-2.ensures.obtains)).cells;
      range = IfErr-weaker c.prepare-3.result _ (λ cause. cause ≡ IndexRange → MayPass v w) (λ cause h is. inl (let past = h is in omega (arith, past, few))) (below g c).range;
    }

pub returns-clause-kept : goal.returns-clause-kept
returns-clause-kept g c = λ reading paths values holds. record {
  hold = nodes_prepared reading paths _ _ holds.hold
      (keeps_by _ _ _ _ _ (node_sized c.args.nodes.now.tiers holds.hold.sizes_are) c.prepare-3.result c.prepare-3.ensures.obtains) c.prepare-3.ensures.kept c.prepare-3.ensures.sound;
  cells = cells_prepared reading values paths _ _ holds.cells
      (keeps_by _ _ _ _ _ (cell_sized c.args.cells.now.tiers holds.cells.sizes_are) c.prepare-2.result c.prepare-2.ensures.obtains) c.prepare-2.ensures.sound;
}

pub returns-clause-obtains : goal.returns-clause-obtains
returns-clause-obtains g c =
    let n = c.args.reached.now.node in
    let v = c.args.nodes.now in
    let w = c.args.cells.now in
    let t = c.requires.table in
    let more = (above_own c.args.reached.now.level c.len-last.result (length c.args.path.now) c.len-last.ensures.len c.requires.ends.1.along.whole c.if-reached-last.false).1 in
    let nodes = nodes_below c.args.reached.now c.args.path.now more in
    let one = ap (λ o. needs o 0) (first_list_need w t.holds.cells.sizes_are) ∙ sym (cells_below c.args.reached.now c.args.path.now more) in
    subst (λ ns. ObtainsBoth (λ e. e ≡ IndexRange) (λ e. e ≡ Memory) c.prepare-3.result v c.prepare-3.new.self w c.prepare-2.new.self ns (cells_needed c.args.reached.now c.args.path.now)) (sym nodes)
    (subst (λ cs. ObtainsBoth (λ e. e ≡ IndexRange) (λ e. e ≡ Memory) c.prepare-3.result v c.prepare-3.new.self w c.prepare-2.new.self (needs (child_need (Some n)) (length c.args.path.now / 5 - (c.args.reached.now.level + 1))) cs) one
    (nodes_then _ _ v c.prepare-3.new.self w c.prepare-2.new.self _ (node_sized v.tiers t.holds.hold.sizes_are) (cell_sized w.tiers t.holds.cells.sizes_are) _ c.prepare-3.result (below g c) _
    c.in_ok-prepare.ensures.obtains))
