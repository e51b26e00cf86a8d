-- Walking what is selected below a bit string gives the entries whose keys it begins.
use Rattle.prefix_trie_table.proofs.Prelude.{◌∙◌, ap, listing_below, Contents}
use Rattle.prefix_trie_table.proofs.Tree.Invariant.{sized_trie}
use Rattle.prefix_trie_table.proofs.table.Table.walk_below.Goals as goal

pub walk_at-requires : goal.walk_at-requires
walk_at-requires g c = record { tree = sized_trie _ _ _ _ c.self.inside.shape c.self.invariant _ c.self.view_is c.requires.within c.requires.nodes }

pub returns : goal.returns
returns g c =
    c.walk_at.ensures c.self.inside.shape.0 c.self.inside.shape.1
    ∙ ap (λ (s : Contents g.row.T.Denot). listing_below s.entries c.args.path) c.self.view_is
