-- Freeing spare memory changes no slot and no free list, so the table is the same, even after an error.
use Rattle.prefix_trie_table.proofs.Prelude.{refl, ◌∙◌}
use Rattle.prefix_trie_table.proofs.Tree.Capacities.{shape_stays, sizes_stay, table_stays}
use Rattle.prefix_trie_table.proofs.table.Table.shrink_to_fit.Goals as goal

pub invariant_of-self-inside : goal.invariant_of-self-inside
invariant_of-self-inside g c =
    let i = c.self.inside in (
      shape_stays i.nodes c.shrink_to_fit.new.self i.cells i.cells i.count i.shape c.self.invariant i.sizes c.shrink_to_fit.ensures.kept refl,
      (sizes_stay i.nodes c.shrink_to_fit.new.self i.cells i.cells i.count i.shape c.self.invariant i.sizes c.shrink_to_fit.ensures.kept refl, tt),
    )

pub invariant_of-self : goal.invariant_of-self
invariant_of-self g c =
    let i = c.self.inside in (table_stays i.nodes c.shrink_to_fit.new.self i.cells i.cells i.count i.shape c.self.invariant i.sizes c.shrink_to_fit.ensures.kept refl c.in_err-shrink_to_fit.self-1-own.given.0).0

pub returns-in_err-shrink_to_fit : goal.returns-in_err-shrink_to_fit
returns-in_err-shrink_to_fit g c =
    let i = c.self.inside in
    let own = c.in_err-shrink_to_fit.self-1-own.given in
    (table_stays i.nodes c.shrink_to_fit.new.self i.cells i.cells i.count i.shape c.self.invariant i.sizes c.shrink_to_fit.ensures.kept refl own.0).1 own.1.0 ∙ c.self.view_is

pub invariant_of-self-inside-2 : goal.invariant_of-self-inside-2
invariant_of-self-inside-2 g c =
    let i = c.self.inside in (
      shape_stays i.nodes c.shrink_to_fit.new.self i.cells c.shrink_to_fit-2.new.self i.count i.shape c.self.invariant i.sizes c.shrink_to_fit.ensures.kept c.shrink_to_fit-2.ensures.kept,
      (sizes_stay i.nodes c.shrink_to_fit.new.self i.cells c.shrink_to_fit-2.new.self i.count i.shape c.self.invariant i.sizes c.shrink_to_fit.ensures.kept c.shrink_to_fit-2.ensures.kept, tt),
    )

pub invariant_of-self-2 : goal.invariant_of-self-2
invariant_of-self-2 g c =
    let i = c.self.inside in (table_stays i.nodes c.shrink_to_fit.new.self i.cells c.shrink_to_fit-2.new.self i.count i.shape c.self.invariant i.sizes c.shrink_to_fit.ensures.kept c.shrink_to_fit-2.ensures.kept c.self-2-1.given.0).0

pub returns : goal.returns
returns g c =
    let i = c.self.inside in
    let own = c.self-2-1.given in
    (table_stays i.nodes c.shrink_to_fit.new.self i.cells c.shrink_to_fit-2.new.self i.count i.shape c.self.invariant i.sizes c.shrink_to_fit.ensures.kept c.shrink_to_fit-2.ensures.kept own.0).1 own.1.0 ∙ c.self.view_is
