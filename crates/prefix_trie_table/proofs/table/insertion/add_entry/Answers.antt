-- Adding an entry, in two cases: its own node is there, or the missing nodes of its path are added first.
use Rattle.prefix_trie_table.proofs.Prelude.{◌≡◌, ◌+◌, ◌-◌, ◌*◌, ◌/◌, ◌≤◌, length, sym, ap, ◌∙◌, subst, arith, Node, Some, has_bit, one_of, child_need, AreFree, needs, slot_at}
use Rattle.prefix_trie_table.proofs.Lookup.NodeSeats.{end_there, missing_bit}
use Rattle.prefix_trie_table.proofs.Strings.Bits.{has_bit-zero}
use Rattle.prefix_trie_table.proofs.Blocks.BySize.{many_here}
use Rattle.prefix_trie_table.proofs.Insertion.Additions.{at_values}
use Rattle.prefix_trie_table.proofs.Insertion.Needs.{nodes_below, cells_below}
use Rattle.prefix_trie_table.proofs.Lookup.SearchPaths.{above_own, at_own, rest_bit, step_left, none_left}
use Rattle.prefix_trie_table.proofs.Tree.GrowthLoop.{free_next, free_one, blank_child, blank_value}
use Rattle.prefix_trie_table.proofs.Insertion.Spaces.{none_then}
use Rattle.prefix_trie_table.proofs.Insertion.ExtendedPaths.{extended_start, extended_there, extended_more, next_missing, end_added, end_seat}
use Rattle.prefix_trie_table.proofs.table.insertion.add_entry.Goals as goal

-- ---- a value in a node that is there

pub value_bit-bit-requires : goal.value_bit-bit-requires
value_bit-bit-requires g c =
    none_left c.args.path c.args.end.rest c.args.end.reached.level (c.len-last.result / 5) c.requires.rest (ap (λ n. n / 5) c.len-last.ensures.len) (omega (arith, c.if-reached-last.true))

pub add_value-requires-clause-node : goal.add_value-requires-clause-node
add_value-requires-clause-node g c = c.requires.ends.1.along.node_is

pub add_value-requires-clause-is_there : goal.add_value-requires-clause-is_there
add_value-requires-clause-is_there g c = end_there c.args.path c.args.end.reached c.requires.table c.requires.ends

pub add_value-requires-clause-missing : goal.add_value-requires-clause-missing
add_value-requires-clause-missing g c =
    let here = c.args.end.reached in
    let at = c.requires.ends.1 in
    let t = c.requires.table in
    let short = at_own here.level c.len-last.result (length c.args.path) c.len-last.ensures.len c.if-reached-last.true in
    let left = none_left c.args.path c.args.end.rest here.level (c.len-last.result / 5) c.requires.rest (ap (λ n. n / 5) c.len-last.ensures.len) (omega (arith, c.if-reached-last.true)) in
    ap (has_bit here.node.value_bitmap) (sym (rest_bit c.args.path c.args.end.rest here.level c.requires.rest at.along.whole left c.value_bit-bit.result c.value_bit-bit.ensures.value))
    ∙ missing_bit c.args.path here c.args.nodes.now c.requires.ends t.reading t.paths t.holds.hold short

pub returns-then-reached-last-clause-added : goal.returns-then-reached-last-clause-added
returns-then-reached-last-clause-added g c =
    let here = c.args.end.reached in
    let left = none_left c.args.path c.args.end.rest here.level (c.len-last.result / 5) c.requires.rest (ap (λ n. n / 5) c.len-last.ensures.len) (omega (arith, c.if-reached-last.true)) in
    end_added c.args.path c.args.nodes.now c.args.nodes.now c.args.cells.now c.requires.table c.args.end.rest here.level (slot_at here)
    (extended_start c.args.path here c.args.nodes.now c.args.cells.now c.args.end.rest c.requires.ends.1 c.requires.rest) c.add_value.new.nodes c.add_value.new.cells left
    c.value_bit-bit.result c.value_bit-bit.ensures.value (Some c.args.value) c.add_value.ensures.added

pub returns-then-reached-last-clause-seat : goal.returns-then-reached-last-clause-seat
returns-then-reached-last-clause-seat g c =
    let here = c.args.end.reached in
    let left = none_left c.args.path c.args.end.rest here.level (c.len-last.result / 5) c.requires.rest (ap (λ n. n / 5) c.len-last.ensures.len) (omega (arith, c.if-reached-last.true)) in
    end_seat c.args.path c.args.nodes.now c.args.nodes.now c.args.cells.now c.requires.table c.args.end.rest here.level (slot_at here)
    (extended_start c.args.path here c.args.nodes.now c.args.cells.now c.args.end.rest c.requires.ends.1 c.requires.rest) c.add_value.new.nodes c.add_value.new.cells left
    c.value_bit-bit.result c.value_bit-bit.ensures.value (Some c.args.value) c.add_value.ensures.added c.add_value.result c.add_value.ensures.seat

-- ---- the first new node

pub child_bit-child-requires : goal.child_bit-child-requires
child_bit-child-requires g c =
    let here = c.args.end.reached in
    let more = above_own here.level c.len-last.result (length c.args.path) c.len-last.ensures.len c.requires.ends.1.along.whole c.if-reached-last.false in
    step_left c.args.path c.args.end.rest here.level (c.len-last.result / 5) c.requires.rest (ap (λ n. n / 5) c.len-last.ensures.len) more.0

pub add_child-at-requires-clause-node : goal.add_child-at-requires-clause-node
add_child-at-requires-clause-node g c = c.requires.ends.1.along.node_is

pub after_five-rest-requires : goal.after_five-rest-requires
after_five-rest-requires g c =
    let here = c.args.end.reached in
    let more = above_own here.level c.len-last.result (length c.args.path) c.len-last.ensures.len c.requires.ends.1.along.whole c.if-reached-last.false in
    step_left c.args.path c.args.end.rest here.level (c.len-last.result / 5) c.requires.rest (ap (λ n. n / 5) c.len-last.ensures.len) more.0

pub add_child-at-requires-clause-is_there : goal.add_child-at-requires-clause-is_there
add_child-at-requires-clause-is_there g c = at_values _ _ _ (end_there c.args.path c.args.end.reached c.requires.table c.requires.ends)

pub add_child-at-requires-clause-missing : goal.add_child-at-requires-clause-missing
add_child-at-requires-clause-missing g c =
    let here = c.args.end.reached in
    let at = c.requires.ends.1 in
    let more = above_own here.level c.len-last.result (length c.args.path) c.len-last.ensures.len at.along.whole c.if-reached-last.false in
    let five = step_left c.args.path c.args.end.rest here.level (c.len-last.result / 5) c.requires.rest (ap (λ n. n / 5) c.len-last.ensures.len) more.0 in
    next_missing c.args.path here c.args.nodes.now c.args.end.rest at c.requires.rest five c.child_bit-child.result c.child_bit-child.ensures.value

pub loop-level-init : goal.loop-level-init
loop-level-init g c =
    let q = c.args.path in
    let here = c.args.end.reached in
    let v = c.args.nodes.now in
    let w = c.args.cells.now in
    let r = c.args.end.rest in
    let bit = c.child_bit-child in
    let added = c.add_child-at in
    let at = c.requires.ends.1 in
    let more = above_own here.level c.len-last.result (length q) c.len-last.ensures.len at.along.whole c.if-reached-last.false in
    let five = step_left q r here.level (c.len-last.result / 5) c.requires.rest (ap (λ n. n / 5) c.len-last.ensures.len) more.0 in
    let start = extended_start q here v w r at c.requires.rest in
    let some_missing = next_missing q here v r at c.requires.rest five bit.result bit.ensures.value in
    let next = extended_more q v v w c.requires.table r here.level (slot_at here) start added.new.nodes bit.result _ five bit.ensures.value here.node at.along.node_is some_missing
    added.ensures.stays added.ensures.added in
    rw c.after_five-rest.ensures (record {
      extended = next.0;
      blank = next.1;
      enough = free_next v.tiers added.new.nodes.tiers (child_need (Some here.node)) (length q / 5 - (here.level + 1))
          (subst (AreFree v.tiers) (nodes_below here q more.1) c.requires.space.0) added.ensures.free;
      within = omega (arith, more.0, c.len-last.ensures.len);
      from = omega arith;
    })

-- ---- the nodes below it

pub child_bit-child-requires-in-loop-level : goal.child_bit-child-requires-in-loop-level
child_bit-child-requires-in-loop-level g c =
    step_left c.args.path c.loop-level.rest c.loop-level._level (c.len-last.result / 5) c.loop-level.invariant.extended.rest_is (ap (λ n. n / 5) c.len-last.ensures.len) c.loop-level-test.true

pub after_five-rest-requires-in-loop-level : goal.after_five-rest-requires-in-loop-level
after_five-rest-requires-in-loop-level g c =
    step_left c.args.path c.loop-level.rest c.loop-level._level (c.len-last.result / 5) c.loop-level.invariant.extended.rest_is (ap (λ n. n / 5) c.len-last.ensures.len) c.loop-level-test.true

pub add_child-at-requires-in-loop-level-clause-is_there : goal.add_child-at-requires-in-loop-level-clause-is_there
add_child-at-requires-in-loop-level-clause-is_there g c = at_values _ _ _ (extended_there c.args.path _ _ _ c.requires.table _ _ _ c.loop-level.invariant.extended)

pub add_child-at-requires-in-loop-level-clause-missing : goal.add_child-at-requires-in-loop-level-clause-missing
add_child-at-requires-in-loop-level-clause-missing g c = ap (λ (k : Node). has_bit k.child_bitmap c.child_bit-child-in-loop-level.result) c.blank.ensures ∙ has_bit-zero c.child_bit-child-in-loop-level.result

pub add_child-at-requires-in-loop-level-clause-ready : goal.add_child-at-requires-in-loop-level-clause-ready
add_child-at-requires-in-loop-level-clause-ready g c =
    let free = c.loop-level.invariant.enough in
    free_one c.loop-level.nodes.tiers (child_need (Some c.blank.result)) (blank_child c.blank.result c.blank.ensures) (omega (arith, free, c.loop-level-test.true, c.len-last.ensures.len))

pub loop-level-preserved : goal.loop-level-preserved
loop-level-preserved g c =
    let q = c.args.path in
    let v = c.args.nodes.now in
    let w = c.args.cells.now in
    let old = c.loop-level in
    let inv = c.loop-level.invariant in
    let bit = c.child_bit-child-in-loop-level in
    let added = c.add_child-at-in-loop-level in
    let inside = c.loop-level-test.true in
    let five = step_left q old.rest old._level (c.len-last.result / 5) inv.extended.rest_is (ap (λ n. n / 5) c.len-last.ensures.len) inside in
    let some_missing = ap (λ (k : Node). has_bit k.child_bitmap bit.result) c.blank.ensures ∙ has_bit-zero bit.result in
    let next = extended_more q v old.nodes w c.requires.table old.rest old._level _ inv.extended added.new.nodes bit.result _ five bit.ensures.value c.blank.result (c.blank.ensures ∙ sym inv.blank) some_missing
    added.ensures.stays added.ensures.added in
    rw c.after_five-rest-in-loop-level.ensures (record {
      extended = next.0;
      blank = next.1;
      enough =
          let free = inv.enough in
          let left = added.ensures.free 1 in
          let one : one_of (child_need (Some c.blank.result)) 1 ≡ 1 = ap (λ o. one_of o 1) (blank_child c.blank.result c.blank.ensures) ∙ many_here 1 1 in
          omega (arith, free, inside, left, one, c.len-last.ensures.len);
      within = omega (arith, inside, c.len-last.ensures.len);
      from = (let f = inv.from in omega arith);
    })

-- ---- the value in the last

pub value_bit-bit-requires-2 : goal.value_bit-bit-requires-2
value_bit-bit-requires-2 g c =
    none_left c.args.path c.loop-level.rest c.loop-level._level (c.len-last.result / 5) c.loop-level.invariant.extended.rest_is (ap (λ n. n / 5) c.len-last.ensures.len) (omega (arith, c.loop-level-test.false))

pub add_value-requires-2-clause-is_there : goal.add_value-requires-2-clause-is_there
add_value-requires-2-clause-is_there g c = extended_there c.args.path _ _ _ c.requires.table _ _ _ c.loop-level.invariant.extended

pub add_value-requires-2-clause-missing : goal.add_value-requires-2-clause-missing
add_value-requires-2-clause-missing g c = ap (λ (k : Node). has_bit k.value_bitmap c.value_bit-bit-2.result) c.blank-2.ensures ∙ has_bit-zero c.value_bit-bit-2.result

pub add_value-requires-2-clause-ready : goal.add_value-requires-2-clause-ready
add_value-requires-2-clause-ready g c =
    let from = c.loop-level.invariant.from in
    let within = c.loop-level.invariant.within in
    let more : 5 * c.args.end.reached.level + 5 ≤ length c.args.path = omega (arith, from, within) in
    subst (λ o. AreFree c.args.cells.now.tiers (needs o 0)) (sym (blank_value c.blank-2.result c.blank-2.ensures))
    (subst (AreFree c.args.cells.now.tiers) (cells_below c.args.end.reached c.args.path more) c.requires.space.1)

pub returns-clause-nodes : goal.returns-clause-nodes
returns-clause-nodes g c = none_then _ _ _ c.loop-level.invariant.extended.none c.add_value-2.ensures.nodes

pub returns-clause-added : goal.returns-clause-added
returns-clause-added g c =
    let at = c.loop-level.invariant.extended in
    let left = none_left c.args.path c.loop-level.rest c.loop-level._level (c.len-last.result / 5) at.rest_is (ap (λ n. n / 5) c.len-last.ensures.len) (omega (arith, c.loop-level-test.false)) in
    end_added c.args.path _ _ _ c.requires.table _ _ _ at c.add_value-2.new.nodes c.add_value-2.new.cells left c.value_bit-bit-2.result c.value_bit-bit-2.ensures.value (Some c.args.value) c.add_value-2.ensures.added

pub returns-clause-seat : goal.returns-clause-seat
returns-clause-seat g c =
    let at = c.loop-level.invariant.extended in
    let left = none_left c.args.path c.loop-level.rest c.loop-level._level (c.len-last.result / 5) at.rest_is (ap (λ n. n / 5) c.len-last.ensures.len) (omega (arith, c.loop-level-test.false)) in
    end_seat c.args.path _ _ _ c.requires.table _ _ _ at c.add_value-2.new.nodes c.add_value-2.new.cells left c.value_bit-bit-2.result c.value_bit-bit-2.ensures.value (Some c.args.value) c.add_value-2.ensures.added
    c.add_value-2.result c.add_value-2.ensures.seat
