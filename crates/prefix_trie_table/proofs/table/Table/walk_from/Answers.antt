-- Walking from a bit string, in two cases: its own entry comes first, or is left out.
use Rattle.prefix_trie_table.proofs.Prelude.{cond, ◌∙◌, sym, ap, listing_from, listing_after, selected, Contents}
use Rattle.prefix_trie_table.proofs.Tree.Invariant.{sized_trie}
use Rattle.prefix_trie_table.proofs.table.Table.walk_from.Goals as goal
use Rattle.prefix_trie_table.proofs.table.Table.walk_from.Goals.{then-inclusive, else-inclusive}

pub walk_at-requires : goal.walk_at-requires
walk_at-requires g c = record { tree = sized_trie _ _ _ _ c.self.inside.shape c.self.invariant _ c.self.view_is c.requires.within c.requires.nodes }

pub returns : goal.returns
returns g c =
    let q = c.args.path in
    c.walk_at.ensures c.self.inside.shape.0 c.self.inside.shape.1
    ∙ ap (λ (s : Contents g.row.T.Denot). selected c.if-inclusive.from s.entries q) c.self.view_is
    ∙ (elim c.if-inclusive.branch [
      | then-inclusive w ↦ ap (λ x. selected x c.args.self.now.entries q) w.from-is ∙ sym (ap (λ b. cond b (listing_from c.args.self.now.entries q) (listing_after c.args.self.now.entries q)) w.if-inclusive.true)
      | else-inclusive w ↦ ap (λ x. selected x c.args.self.now.entries q) w.from-is ∙ sym (ap (λ b. cond b (listing_from c.args.self.now.entries q) (listing_after c.args.self.now.entries q)) w.if-inclusive.false)
    ])
