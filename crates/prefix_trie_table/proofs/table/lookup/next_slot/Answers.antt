-- No node comes next at the level of the string's own node. Otherwise the next one is the child for the next five bits.
use Rattle.prefix_trie_table.proofs.Prelude.{arith}
use Rattle.prefix_trie_table.proofs.Lookup.SearchPaths.{last_at_own}
use Rattle.prefix_trie_table.proofs.table.lookup.next_slot.Goals as goal

pub child_on_path-requires : goal.child_on_path-requires
child_on_path-requires g c = c.requires (omega (arith, c.if-from-last.false))

pub returns-then-from-last : goal.returns-then-from-last
returns-then-from-last g c = λ q v at left last. last_at_own q c.args.from v at _ last (omega (arith, c.if-from-last.true))

pub returns : goal.returns
returns g c = λ q v at left last. c.child_on_path.ensures q v at left
