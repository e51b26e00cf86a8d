-- A stack with only the root's spot, which has all places of the root, has the whole listing to come.
use Rattle.prefix_trie_table.proofs.Prelude.{◌∙◌, [], ◌∷◌, ◌++◌, ap, node_at}
use Rattle.prefix_trie_table.proofs.Tree.Trees.{read-nil}
use Rattle.prefix_trie_table.proofs.Tree.Subtrees.{root_inside, few_at}
use Rattle.prefix_trie_table.proofs.Walk.ItemsToCome.{root_walk, root_rest}
use Rattle.prefix_trie_table.proofs.table.walk.walk_of.Goals as goal

pub enter-requires-clause-is_there : goal.enter-requires-clause-is_there
enter-requires-clause-is_there g c = root_inside g.K.Key.bit_width c.args.nodes.now _ c.requires.1

pub enter-requires-clause-few : goal.enter-requires-clause-few
enter-requires-clause-few g c = few_at g.K.Key.bit_width c.args.nodes.now _ c.requires.1 [] (node_at c.args.nodes.now.slots 0) (read-nil c.args.nodes.now.slots)

pub invariant_of-result-2 : goal.invariant_of-result-2
invariant_of-result-2 g c =
    root_walk g.K.Key.bit_width c.args.nodes.now c.args.cells.now c.requires.0 c.requires.1 c.result-1.given.0 (g.K.Key.bits c.zero.result) c.enter.result c.enter.ensures.depth c.enter.ensures.node c.enter.ensures.places c.enter.ensures.each
    c.push.new.self.items (c.push.ensures.items ∙ ap (λ xs. xs ++ c.enter.result ∷ []) c.new-stack.ensures)

pub returns : goal.returns
returns g c =
    root_rest g.K.Key.bit_width c.args.nodes.now c.args.cells.now c.requires.0 c.requires.1 c.result-1.given.0 (g.K.Key.bits c.zero.result) c.enter.result c.enter.ensures.depth c.enter.ensures.node c.enter.ensures.places c.enter.ensures.each
    c.push.new.self.items (c.push.ensures.items ∙ ap (λ xs. xs ++ c.enter.result ∷ []) c.new-stack.ensures)
