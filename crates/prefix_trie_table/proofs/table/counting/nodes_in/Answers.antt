-- Each node except the root is the child of one slot, so 1 plus the children of all slots is the number of nodes.
use Rattle.prefix_trie_table.proofs.Prelude.{◌+◌, ◌≤◌, length, sum_by, ap, sym, ◌∙◌, arith}
use Rattle.std.proofs.lemmas.List.{take_all}
use Rattle.prefix_trie_table.proofs.Counts.NodeCounts.{child_count, nodes_counted, children_more, children_few}
use Rattle.prefix_trie_table.proofs.table.counting.nodes_in.Goals as goal

pub overflow_add-number : goal.overflow_add-number
overflow_add-number g c =
    let small = children_few c.args.nodes.now.slots c.loop-slot.slot c.loop-slot.number c.count.result c.visit.result
    (omega (arith, c.loop-slot-test.true, c.len-slot-end.ensures.len)) c.loop-slot.invariant.0 c.visit.ensures.node c.count.ensures
    (omega (arith, c.len-slot-end.ensures.len, c.len-slot-end.ensures.limit, c.len-slot-end.ensures.narrow)) in
    omega (arith, small)

pub loop-slot-init : goal.loop-slot-init
loop-slot-init g c = (omega arith, omega arith)

pub loop-slot-preserved : goal.loop-slot-preserved
loop-slot-preserved g c = (
  children_more c.args.nodes.now.slots c.loop-slot.slot c.loop-slot.number c.count.result c.visit.result
      (omega (arith, c.loop-slot-test.true, c.len-slot-end.ensures.len)) c.loop-slot.invariant.0 c.visit.ensures.node c.count.ensures,
  omega (arith, c.visit.ensures.one_more, c.loop-slot.invariant.1),
)

pub returns-clause-nodes : goal.returns-clause-nodes
returns-clause-nodes g c = λ reading paths hold.
    let past : length c.args.nodes.now.slots ≤ c.loop-slot.slot = omega (arith, c.loop-slot-test.false, c.len-slot-end.ensures.len) in
    c.loop-slot.invariant.0 ∙ ap (λ xs. 1 + sum_by child_count xs) (take_all c.loop-slot.slot c.args.nodes.now.slots past)
    ∙ sym (nodes_counted _ reading paths c.args.nodes.now hold)

pub returns-clause-visits : goal.returns-clause-visits
returns-clause-visits g c = omega (arith, c.loop-slot.invariant.1, c.len-slot-end.ensures.len, c.loop-slot-test.false, c.loop-slot.auto.slot-end)
