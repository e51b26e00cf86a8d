-- The stack that `start_at` builds at a bit string has exactly the entries whose keys it begins.
use Rattle.prefix_trie_table.proofs.Prelude.{◌∙◌, ap, listing_below, Contents}
use Rattle.prefix_trie_table.proofs.Tree.Invariant.{sized_trie}
use Rattle.prefix_trie_table.proofs.Walk.ItemsToCome.{tree_of}
use Rattle.prefix_trie_table.proofs.Walk.Taking.{seated, walk_below, below_given}
use Rattle.prefix_trie_table.proofs.table.Table.into_walk_below.Goals as goal

pub start_at-stack-requires : goal.start_at-stack-requires
start_at-stack-requires g c =
    let t = sized_trie _ _ _ _ c.self.inside.shape c.self.invariant _ c.self.view_is c.requires.within c.requires.nodes in record { begun = c.key-key.ensures.bits; tree = (tree_of c.self.inside.cells t.0, t.1) }

pub invariant_of-result : goal.invariant_of-result
invariant_of-result g c =
    let t = sized_trie _ _ _ _ c.self.inside.shape c.self.invariant _ c.self.view_is c.requires.within c.requires.nodes in
    (seated g.K.Key.bit_width c.self.inside.nodes c.self.inside.cells t.0 t.1, tt)

pub invariant_of-result-2 : goal.invariant_of-result-2
invariant_of-result-2 g c =
    let i = c.self.inside in
    let t = sized_trie _ _ _ _ i.shape c.self.invariant _ c.self.view_is c.requires.within c.requires.nodes in
    walk_below g.K.Key.bit_width i.nodes i.cells t.0 t.1 c.result-1.given.0 (g.K.Key.bits c.key-key.result) c.start_at-stack.result.items c.args.path
    (c.start_at-stack.ensures.rest (tree_of i.cells t.0) t.1) c.start_at-stack.ensures.stack

pub returns : goal.returns
returns g c =
    let i = c.self.inside in
    let t = sized_trie _ _ _ _ i.shape c.self.invariant _ c.self.view_is c.requires.within c.requires.nodes in
    below_given g.K.Key.bit_width i.nodes i.cells t.0 t.1 c.result-1.given.0 (g.K.Key.bits c.key-key.result) c.start_at-stack.result.items c.args.path
    (c.start_at-stack.ensures.rest (tree_of i.cells t.0) t.1) i.shape.0 i.shape.1
    ∙ ap (λ (s : Contents g.row.T.Denot). listing_below s.entries c.args.path) c.self.view_is
