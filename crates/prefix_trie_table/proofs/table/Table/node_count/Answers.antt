-- The nodes counted in the array are the paths of the tree, and the model has as many nodes.
use Rattle.prefix_trie_table.proofs.Prelude.{ap, sym, ◌∙◌, len}
use Rattle.prefix_trie_table.proofs.Tree.Invariant.{some_table}
use Rattle.prefix_trie_table.proofs.Strings.PathStrings.{paths_counted}
use Rattle.prefix_trie_table.proofs.Tree.Shapes.{shape_nodes}
use Rattle.prefix_trie_table.proofs.table.Table.node_count.Goals as goal

pub returns-clause-nodes : goal.returns-clause-nodes
returns-clause-nodes g c =
    let t = some_table c.self.invariant in
    let v = c.self.inside.nodes in
    let shape = c.self.inside.shape in
    c.nodes_in.ensures.nodes t.reading t.paths t.holds.hold
    ∙ sym (paths_counted _ t.reading t.paths v t.holds.hold shape.0.nodes
    (shape_nodes t.reading t.values t.paths v c.self.inside.cells t.holds shape.0 shape.1))
    ∙ ap (λ s. len s.nodes) c.self.view_is
