-- Removing what a bit string begins is a step of the model, in two cases: the empty string clears, and others remove a part.
use Rattle.prefix_trie_table.proofs.Prelude.{refl, sym, ◌∙◌, arith, stored_state}
use Rattle.prefix_trie_table.proofs.Tree.Invariant.{some_table}
use Rattle.prefix_trie_table.proofs.Removal.RemovedParts.{may_ask_all, seen_trie}
use Rattle.prefix_trie_table.proofs.Blocks.NodeLayouts.{table_sizes}
use Rattle.prefix_trie_table.proofs.Moving.SplitTables.{shape_seen, table_seen}
use Rattle.prefix_trie_table.proofs.Tree.ModelSteps.{all_step, part_step, bounds_growth_in}
use Rattle.prefix_trie_table.proofs.table.Table.drop_children.Goals as goal

pub returns-then-len-eq0-clause-step : goal.returns-then-len-eq0-clause-step
returns-then-len-eq0-clause-step g c =
    all_step g.K.Key.bit_width (stored_state c.args.self.now) (stored_state c.clear.new.self) c.args.path (sym c.len.ensures.len ∙ c.if-len-eq0.true)
    c.requires.nodes c.clear.ensures.step

pub remove_part-requires-clause-trie : goal.remove_part-requires-clause-trie
remove_part-requires-clause-trie g c = (c.self.inside.shape.0, seen_trie c.self.inside.shape c.self.invariant c.self.view_is refl c.requires.within c.requires.nodes)

pub remove_part-requires-clause-may_ask : goal.remove_part-requires-clause-may_ask
remove_part-requires-clause-may_ask g c = λ s trie. may_ask_all _ _ (λ f k x. tt) _ _

pub invariant_of-self-inside : goal.invariant_of-self-inside
invariant_of-self-inside g c =
    let left = c.remove_part.ensures.removed c.self.inside.shape.0
    (seen_trie c.self.inside.shape c.self.invariant c.self.view_is refl c.requires.within c.requires.nodes) in
    ((_, left.shaped), (table_sizes _ _ (some_table left.table), tt))

pub invariant_of-self : goal.invariant_of-self
invariant_of-self g c =
    let trie = seen_trie c.self.inside.shape c.self.invariant c.self.view_is refl c.requires.within c.requires.nodes in
    table_seen (c.remove_part.ensures.removed c.self.inside.shape.0 trie) c.self-1.given.0

pub returns : goal.returns
returns g c =
    let i = c.self.inside in
    let new = c.remove_part.new in
    let q = c.args.path in
    let trie = seen_trie i.shape c.self.invariant c.self.view_is refl c.requires.within c.requires.nodes in
    rw (← c.self.view_is) (record {
      step = part_step i.nodes new.nodes i.cells new.cells _ _ i.shape c.self.invariant i.sizes c.self-1.given.0 (invariant_of-self g c) c.self-1.given.1.0
          c.remove_part.ensures.preserves q (omega (arith, c.len.ensures.len, c.if-len-eq0.false)) (shape_seen (c.remove_part.ensures.removed i.shape.0 trie) c.self-1.given.0);
      bounds_growth = λ _. bounds_growth_in i.nodes new.nodes i.cells new.cells _ _ i.shape c.self.invariant i.sizes c.self-1.given.0 (invariant_of-self g c) c.self-1.given.1.0
          c.remove_part.ensures.preserves;
    })
