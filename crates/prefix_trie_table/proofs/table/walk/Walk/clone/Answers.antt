-- A walk with the same spots has the same entries to come.
use Rattle.prefix_trie_table.proofs.Prelude.{◌∙◌, each_same}
use Rattle.prefix_trie_table.proofs.Walk.ItemsToCome.{same_rest, same_walk}
use Rattle.prefix_trie_table.proofs.table.walk.Walk.clone.Goals as goal

pub invariant_of-result-2 : goal.invariant_of-result-2
invariant_of-result-2 g c =
    same_walk g.K.Key.bit_width c.self.inside.arrays c.self.inside.shape _ (g.K.Key.bits c.self.inside.key) c.self.inside.stack.items c.in-Ok.stack.items
    (each_same c.self.inside.stack.items c.in-Ok.stack.items c.in-Ok.ensures.cases) c.self.invariant

pub returns : goal.returns
returns g c =
    same_rest g.K.Key.bit_width c.self.inside.arrays c.self.inside.shape _ (g.K.Key.bits c.self.inside.key) c.self.inside.stack.items c.in-Ok.stack.items
    (each_same c.self.inside.stack.items c.in-Ok.stack.items c.in-Ok.ensures.cases)
    ∙ c.self.view_is
