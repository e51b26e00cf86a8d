-- Building what a string begins, from the root: the new blocks are no larger than the old, so only an allocation can fail.
use Rattle.prefix_trie_table.specs.Blocks.NodeArrays.{FitsByte}
use Rattle.prefix_trie_table.proofs.Prelude.{inl, IfSome, refl, ◌∙◌, ◌<◌, sym, ap, subst, length, arith, ◌/◌, err_from_is_err_and, node_at, BuildsNode, Node, Store, tier_sizes, IsSecond}
use Rattle.prefix_trie_table.proofs.Splitting.RootSpace.{root_nodes, root_cells}
use Rattle.prefix_trie_table.proofs.Splitting.Space.{for_memory}
use Rattle.prefix_trie_table.proofs.Splitting.VacantTables.{root_source, second_built, second_bare}
use Rattle.prefix_trie_table.proofs.Removal.ClearedTables.{under_limit, root_slot}
use Rattle.prefix_trie_table.proofs.Tree.Invariant.{some_table}
use Rattle.prefix_trie_table.proofs.table.splitting.build_part.Goals.{in-Some, in_default-top}
use Rattle.prefix_trie_table.proofs.table.splitting.build_part.Goals as goal

pub returns-in_err-second_nodes : goal.returns-in_err-second_nodes
returns-in_err-second_nodes g c =
    let p = err_from_is_err_and c.from_residual.result c.from_residual.ensures.1 in
    let is_there = root_slot c.args.nodes.now c.args.cells.now (some_table c.requires.trie.2.table) in
    let within = c.requires.trie.2.table.nodes_within in
    rw (p.1, p.2) (record { built = tt; range = for_memory c.in_err-second_nodes.field-0.0 (λ e. let none = (c.in_err-second_nodes.ensures.range).0 e in absurd (omega (arith, none, is_there, within))) })

pub returns-in_err-top : goal.returns-in_err-top
returns-in_err-top g c = let p = err_from_is_err_and c.from_residual-in_err-top.result c.from_residual-in_err-top.ensures.1 in rw (p.1, p.2) (record { built = tt; range = c.in_err-top.ensures.memory })

pub visit-root-requires : goal.visit-root-requires
visit-root-requires g c = root_slot c.args.nodes.now c.args.cells.now (some_table c.requires.trie.2.table)

pub build_node-requires-clause-source : goal.build_node-requires-clause-source
build_node-requires-clause-source g c =
    root_source g.K.Key.bit_width c.requires.trie.1 c.args.nodes.now c.args.cells.now c.requires.trie.0 c.requires.trie.2 c.visit-root.result c.visit-root.ensures.node
    (c.width.result / 5) (ap (λ k. k / 5) c.width.ensures)

pub build_node-requires-clause-nodes : goal.build_node-requires-clause-nodes
build_node-requires-clause-nodes g c =
    let empty = c.in_ok-second_nodes.ensures.empty in
    root_nodes g.K.Key.bit_width c.requires.trie.1 c.args.nodes.now c.args.cells.now c.requires.trie.0 c.requires.trie.2 c.visit-root.result c.visit-root.ensures.node
    (c.width.result / 5) c.in_ok-second_nodes.second_nodes c.in_ok-second_nodes.ensures.sound
    (ap (λ (x : Store Node). tier_sizes x.tiers) empty) (ap (λ (x : Store Node). length x.slots) empty) (ap (λ (x : Store Node). x.limit) empty)

pub build_node-requires-clause-cells : goal.build_node-requires-clause-cells
build_node-requires-clause-cells g c =
    let empty = c.in-Ok.ensures.empty in
    root_cells g.K.Key.bit_width c.requires.trie.1 c.args.nodes.now c.args.cells.now c.requires.trie.0 c.requires.trie.2 c.visit-root.result c.visit-root.ensures.node
    (c.width.result / 5) c.in-Ok.second_cells c.in-Ok.ensures.sound (ap (λ (x : Store _). tier_sizes x.tiers) empty) (ap (λ (x : Store _). length x.slots) empty)
    (ap (λ (x : Store _). x.limit) empty ∙ c.limit.ensures ∙ c.requires.trie.2.table.one_limit)

pub put-requires-clause-tiers : goal.put-requires-clause-tiers
put-requires-clause-tiers g c =
    let fits = subst (λ o. IfSome o FitsByte) c.in-Some.is c.in_ok-top.ensures.fits in record { value_tier = inl fits.value_tier; child_tier = inl fits.child_tier }

pub returns-clause-built : goal.returns-clause-built
returns-clause-built g c =
    let trie = c.requires.trie.2 in
    let q = c.args.path.now in
    let is_there = root_slot c.args.nodes.now c.args.cells.now (some_table trie.table) in
    let some : 0 < c.args.nodes.now.limit = (let within = trie.table.nodes_within in omega (arith, is_there, within)) in
    let cells_are = under_limit c.in-Ok.second_cells c.limit.result c.args.nodes.now.limit c.in-Ok.ensures.empty (c.limit.ensures ∙ trie.table.one_limit) in
    let built = subst (λ n. BuildsNode c.args.nodes.now.slots (c.width.result / 5) n q c.in_ok-second_nodes.second_nodes c.build_node.new.nodes c.in-Ok.second_cells c.build_node.new.cells
    c.in_ok-top.top) c.visit-root.ensures.node c.in_ok-top.ensures.built in
    elim c.match-top.branch [
      | in-Some w ↦
          let l = subst (BuildsNode c.args.nodes.now.slots (c.width.result / 5) (node_at c.args.nodes.now.slots 0) q c.in_ok-second_nodes.second_nodes c.build_node.new.nodes
          c.in-Ok.second_cells c.build_node.new.cells) w.in-Some.is built in
          subst (λ v. IsSecond q c.args.nodes.now v c.build_node.new.cells) (sym w.second_nodes-is)
          (second_built q c.args.nodes.now c.in_ok-second_nodes.second_nodes c.build_node.new.nodes c.in-Ok.second_cells c.build_node.new.cells c.args.nodes.now.limit
          c.in_ok-second_nodes.ensures.empty c.in_ok-second_nodes.ensures.sound cells_are c.in-Ok.ensures.sound refl some _ _ _ _ l.nodes l.cells (c.width.result / 5)
          w.in-Some.top w.put.new.self l w.put.ensures.slots w.put.ensures.before)
      | in_default-top w ↦
          let l = subst (BuildsNode c.args.nodes.now.slots (c.width.result / 5) (node_at c.args.nodes.now.slots 0) q c.in_ok-second_nodes.second_nodes c.build_node.new.nodes
          c.in-Ok.second_cells c.build_node.new.cells) w.in_default-top.is built in
          subst (λ v. IsSecond q c.args.nodes.now v c.build_node.new.cells) (sym w.second_nodes-is)
          (second_bare q c.args.nodes.now c.in_ok-second_nodes.second_nodes c.build_node.new.nodes c.in-Ok.second_cells c.build_node.new.cells c.args.nodes.now.limit
          c.in_ok-second_nodes.ensures.empty c.in_ok-second_nodes.ensures.sound cells_are c.in-Ok.ensures.sound refl some _ _ _ _ l.nodes l.cells (c.width.result / 5) l)
    ]
