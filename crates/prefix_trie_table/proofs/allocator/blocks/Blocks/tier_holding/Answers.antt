-- The table `TIERS` has the tier of the smallest block that holds n items, for the sizes of nodes and of values.
use Rattle.prefix_trie_table.proofs.Blocks.Tiers.{held_small, tier_in_table}
use Rattle.prefix_trie_table.proofs.allocator.blocks.Blocks.tier_holding.Goals as goal

pub bounds-n : goal.bounds-n
bounds-n g c = held_small c.self.inside.lists.items c.args.n c.self.invariant.2 (rw (← c.self.view_is) at c.requires)

pub returns : goal.returns
returns g c =
    let at = tier_in_table c.self.inside.lists.items c.args.n c.self.invariant.2 (rw (← c.self.view_is) at c.requires) in
    record { sizes = rw (← c.self.view_is) c.self.invariant.2; within = rw (← c.self.view_is) at.0; size = rw (← c.self.view_is) at.1 }
