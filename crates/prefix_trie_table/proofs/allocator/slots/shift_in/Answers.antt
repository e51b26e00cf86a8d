-- The loop that inserts by carrying each item one slot further.
use Rattle.prefix_trie_table.proofs.Prelude.{◌+◌, ◌<◌, length, insert, remove, get_or, set, sym, ap, ◌∙◌, arith, rules}
use Rattle.prefix_trie_table.proofs.Blocks.Shifts.{carried_in, carried_on, carried_next}
use Rattle.prefix_trie_table.proofs.allocator.slots.shift_in.Goals as goal

pub loop-i-init : goal.loop-i-init
loop-i-init g c =
    let xs = c.args.items.now.items in
    let within : c.args.from < length xs = omega (arith, c.requires.in_order, c.requires.within) in
    record {
      items = rw c.replace-carried.ensures.after (carried_in xs c.args.from c.args.value c.args.value within);
      carried = rw c.replace-carried.ensures.value (sym c.index_mut.ensures.value);
      len = search rules;
      capacity = search rules;
      low = omega arith;
      high = c.requires.in_order;
    }

pub loop-i-preserved : goal.loop-i-preserved
loop-i-preserved g c =
    let xs = c.args.items.now.items in
    let l = c.loop-i in
    let in_order = l.invariant.low in
    let within : l.i + 1 < length xs = omega (arith, c.loop-i-test.true, c.requires.within) in
    let other = c.index_mut-in-loop-i in
    record {
      items = ap (λ w. set l.items.items (l.i + 1) w) c.replace-carried-in-loop-i.ensures.after ∙ ap (λ ys. set ys (l.i + 1) l.carried) l.invariant.items
          ∙ ap (λ w. set (insert (remove xs l.i) c.args.from c.args.value) (l.i + 1) w) (sym l.invariant.carried) ∙ carried_on xs c.args.from l.i c.args.value l.carried in_order within;
      carried = rw c.replace-carried-in-loop-i.ensures.value (sym (carried_next xs c.args.from l.i c.args.value other.result.now in_order within)
          ∙ ap (λ ys. get_or ys (l.i + 1) other.result.now) (sym l.invariant.items) ∙ sym other.ensures.value);
      len = l.invariant.len;
      capacity = l.invariant.capacity;
      low = omega (arith, in_order);
      high = omega (arith, c.loop-i-test.true);
    }
