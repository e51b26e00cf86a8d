-- A walk over the stack of `start_at` has the selected entries to come, since the arrays have only one shape.
use Rattle.prefix_trie_table.proofs.Prelude.{◌∙◌, ap, State, selected, same_shape}
use Rattle.prefix_trie_table.proofs.Walk.ItemsToCome.{tree_of, spots_walk, spots_rest}
use Rattle.prefix_trie_table.proofs.table.walk_start.walk_at.Goals as goal

pub start_at-stack-requires : goal.start_at-stack-requires
start_at-stack-requires g c = record { begun = c.key-key.ensures.bits; tree = (tree_of c.args.cells.now c.requires.tree.0, c.requires.tree.1) }

pub invariant_of-result-2 : goal.invariant_of-result-2
invariant_of-result-2 g c =
    spots_walk g.K.Key.bit_width c.args.nodes.now c.args.cells.now c.requires.tree.0 c.requires.tree.1 c.result-1.given.0 (g.K.Key.bits c.key-key.result) c.start_at-stack.result.items
    c.start_at-stack.ensures.stack c.start_at-stack.ensures.passed

pub returns : goal.returns
returns g c = λ s is.
    let t = c.requires.tree in
    spots_rest g.K.Key.bit_width c.args.nodes.now c.args.cells.now t.0 t.1 c.result-1.given.0 (g.K.Key.bits c.key-key.result) c.start_at-stack.result.items t.0 t.1.shaped
    ∙ c.start_at-stack.ensures.rest (tree_of c.args.cells.now t.0) t.1
    ∙ ap (λ (x : State g.row.T.Denot). selected c.args.from x.entries c.args.path) (same_shape c.args.nodes.now.slots c.args.cells.now.slots t.0 s t.1.shaped is)
