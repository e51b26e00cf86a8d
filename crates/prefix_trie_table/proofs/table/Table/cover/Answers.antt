-- The matches of the root and of the nodes after it on the search path are all covers of the bit string, shortest first.
use Rattle.prefix_trie_table.proofs.Prelude.{◌*◌, drop, ap, sym, ◌∙◌, arith, covers, State, Contents, same_shape}
use Rattle.prefix_trie_table.proofs.Tree.Invariant.{some_table}
use Rattle.prefix_trie_table.proofs.Lookup.NodeCovers.{at_root}
use Rattle.prefix_trie_table.proofs.Lookup.EntryCovers.{all_ahead}
use Rattle.prefix_trie_table.proofs.Lookup.EntryMatches.{has_nodes}
use Rattle.prefix_trie_table.proofs.table.Table.cover.Goals as goal

pub root-here-requires : goal.root-here-requires
root-here-requires g c = record { sound = (has_nodes _ _ (some_table c.self.invariant)).0 }

pub invariant_of-result-2 : goal.invariant_of-result-2
invariant_of-result-2 g c = record { table = some_table c.self.invariant; first = _; is_there = at_root _ _ _ _ (c.root-here.ensures.along c.args.path) (c.matches_in-matches.ensures c.args.path (ap (λ n. drop (5 * n) c.args.path) (sym c.root-here.ensures.level))) }

pub returns : goal.returns
returns g c =
    let shape = c.result-1.given.0 in
    let at = at_root _ _ _ _ (c.root-here.ensures.along c.args.path) (c.matches_in-matches.ensures c.args.path (ap (λ n. drop (5 * n) c.args.path) (sym c.root-here.ensures.level))) in
    all_ahead c.self.inside.nodes c.self.inside.cells (some_table c.self.invariant) shape.0 shape.1 c.args.path _ _ _ at (let top = c.root-here.ensures.level in omega (arith, top))
    ∙ ap (λ (s : State g.row.T.Denot). covers s.entries c.args.path) (same_shape c.self.inside.nodes.slots c.self.inside.cells.slots shape.0 c.self.inside.shape.0 shape.1 c.self.inside.shape.1)
    ∙ ap (λ (s : Contents g.row.T.Denot). covers s.entries c.args.path) c.self.view_is
