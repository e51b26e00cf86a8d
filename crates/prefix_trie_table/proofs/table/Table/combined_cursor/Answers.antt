-- The stack of a new walk has the spot of the two roots, with all their places.
use Rattle.prefix_trie_table.proofs.Prelude.{◌∙◌, [], ◌∷◌, ◌++◌, ap, sym, subst, Contents, Tree, Node, has_bit, node_at}
use Rattle.prefix_trie_table.specs.Blocks.Cells.{without_sizes}
use Rattle.prefix_trie_table.specs.Walking.Combined.{IsCombinedStack, combined_pending}
use Rattle.prefix_trie_table.proofs.Tree.Invariant.{trie_of}
use Rattle.prefix_trie_table.proofs.Tree.Subtrees.{few_at, root_inside}
use Rattle.prefix_trie_table.proofs.Tree.Trees.{read-nil}
use Rattle.prefix_trie_table.proofs.Walk.CombinedNodes.{combined_of}
use Rattle.prefix_trie_table.proofs.Walk.CombinedSpots.{root_pending, root_stack}
use Rattle.prefix_trie_table.proofs.table.Table.combined_cursor.Goals as goal

pub visit-requires : goal.visit-requires
visit-requires g c =
    let i = c.self.inside in
    let t : Tree g.row.T.Denot = record { count = i.count; cells = i.cells; shape = i.shape.0 } in
    root_inside g.K.Key.bit_width i.nodes t (trie_of g.K.Key.bit_width i.count i.nodes i.cells i.shape c.self.invariant c.args.self.now c.self.view_is c.requires.within c.requires.nodes)

pub visit-requires-2 : goal.visit-requires-2
visit-requires-2 g c =
    let i = c.other.inside in
    let t : Tree g.row.U.Denot = record { count = i.count; cells = i.cells; shape = i.shape.0 } in
    root_inside g.K.Key.bit_width i.nodes t (trie_of g.K.Key.bit_width i.count i.nodes i.cells i.shape c.other.invariant c.args.other.now c.other.view_is c.requires.other_within c.requires.other_nodes)

pub combined_spot-requires-clause-few : goal.combined_spot-requires-clause-few
combined_spot-requires-clause-few g c =
    let i = c.self.inside in
    let t : Tree g.row.T.Denot = record { count = i.count; cells = i.cells; shape = i.shape.0 } in
    ap (λ (n : Node). has_bit n.value_bitmap 31) (c.without_sizes-left.ensures ∙ ap without_sizes c.visit.ensures.node)
    ∙ few_at g.K.Key.bit_width i.nodes t (trie_of g.K.Key.bit_width i.count i.nodes i.cells i.shape c.self.invariant c.args.self.now c.self.view_is c.requires.within c.requires.nodes) [] (node_at i.nodes.slots 0) (read-nil i.nodes.slots)

pub combined_spot-requires-clause-few_right : goal.combined_spot-requires-clause-few_right
combined_spot-requires-clause-few_right g c =
    let i = c.other.inside in
    let t : Tree g.row.U.Denot = record { count = i.count; cells = i.cells; shape = i.shape.0 } in
    ap (λ (n : Node). has_bit n.value_bitmap 31) (c.without_sizes-right.ensures ∙ ap without_sizes c.visit-2.ensures.node)
    ∙ few_at g.K.Key.bit_width i.nodes t (trie_of g.K.Key.bit_width i.count i.nodes i.cells i.shape c.other.invariant c.args.other.now c.other.view_is c.requires.other_within c.requires.other_nodes) [] (node_at i.nodes.slots 0) (read-nil i.nodes.slots)

pub returns : goal.returns
returns g c =
    let left = ap (λ (s : Contents g.row.T.Denot). s.build) c.self.view_is in
    let right = ap (λ (s : Contents g.row.U.Denot). s.build) c.other.view_is in
    let only = c.push.ensures.items ∙ ap (λ xs. xs ++ c.combined_spot.result ∷ []) c.new-stack.ensures in
    let key = g.K.Key.bits c.zero.result in
    let left_is = c.combined_spot.ensures.left ∙ c.without_sizes-left.ensures ∙ ap without_sizes c.visit.ensures.node in
    let right_is = c.combined_spot.ensures.right ∙ c.without_sizes-right.ensures ∙ ap without_sizes c.visit-2.ensures.node in
    record {
      is_there =
          subst (IsCombinedStack g.K.Key.bit_width c.args.self.now.build c.args.other.now.build c.args.combination key) (sym only)
          (rw (← left) (rw (← right) (root_stack g.K.Key.bit_width c.self.inside.nodes c.other.inside.nodes c.args.combination key c.combined_spot.result c.combined_spot.ensures.depth left_is right_is c.combined_spot.ensures.each)));
      keys = λ both combined.
          ap (combined_pending both key) only
          ∙ root_pending g.K.Key.bit_width c.self.inside.nodes c.other.inside.nodes c.args.combination key c.combined_spot.result c.combined_spot.ensures.depth left_is right_is both
          (combined_of c.self.inside.nodes c.other.inside.nodes c.self.inside.cells c.other.inside.cells c.self.inside.count c.other.inside.count c.self.inside.shape c.other.inside.shape c.self.invariant c.other.invariant
          c.args.self.now.entries c.args.other.now.entries (ap (λ (s : Contents g.row.T.Denot). s.entries) c.self.view_is) (ap (λ (s : Contents g.row.U.Denot). s.entries) c.other.view_is) c.args.combination both combined) c.combined_spot.ensures.places;
    }
