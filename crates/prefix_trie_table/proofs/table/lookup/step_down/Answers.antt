-- No step is left at the level of the string's own node. Otherwise the step goes to the child for the next five bits.
use Rattle.prefix_trie_table.proofs.Prelude.{arith}
use Rattle.prefix_trie_table.proofs.Lookup.SearchPaths.{last_at_own, step_left}
use Rattle.prefix_trie_table.proofs.table.lookup.step_down.Goals as goal

pub step_to_child-requires-clause-along : goal.step_to_child-requires-clause-along
step_to_child-requires-clause-along g c =
    let at = c.requires.along in
    (at.0, at.1, at.2, at.3, step_left at.0 _ c.args.from.level c.args.last at.2 at.4 (omega (arith, c.if-from-last.false)))

pub returns-then-from-last-clause-step : goal.returns-then-from-last-clause-step
returns-then-from-last-clause-step g c = λ q at left last. last_at_own q c.args.from _ at _ last (omega (arith, c.if-from-last.true))

pub returns-clause-step : goal.returns-clause-step
returns-clause-step g c = λ q at left last. c.step_to_child.ensures.step q at left
