-- The loop that removes by carrying each later item one slot back.
use Rattle.prefix_trie_table.proofs.Prelude.{◌≡◌, suc, ◌-◌, ◌<◌, insert, remove, get_or, set, sym, ap, ◌∙◌, arith, rules}
use Rattle.prefix_trie_table.proofs.Blocks.Shifts.{carried_in, carried_back, carried_before}
use Rattle.prefix_trie_table.proofs.allocator.slots.shift_out.Goals as goal

pub loop-i-init : goal.loop-i-init
loop-i-init g c =
    let xs = c.args.items.now.items in
    record {
      items = rw c.replace-carried.ensures.after (carried_in xs c.args.to c.args.vacant c.args.vacant c.requires.within);
      carried = rw c.replace-carried.ensures.value (sym c.index_mut.ensures.value);
      len = search rules;
      capacity = search rules;
      low = c.requires.in_order;
    }

pub loop-i-preserved : goal.loop-i-preserved
loop-i-preserved g c =
    let xs = c.args.items.now.items in
    let l = c.loop-i in
    let here : suc (l.i - 1) ≡ l.i = omega (arith, c.loop-i-test.true) in
    let before : l.i - 1 < c.args.to = omega (arith, l.auto.i, here) in
    let other = c.index_mut-in-loop-i in
    record {
      items = ap (λ w. set l.items.items (l.i - 1) w) c.replace-carried-in-loop-i.ensures.after ∙ ap (λ ys. set ys (l.i - 1) l.carried) l.invariant.items
          ∙ ap (λ w. set (insert (remove xs l.i) c.args.to c.args.vacant) (l.i - 1) w) (sym l.invariant.carried)
          ∙ ap (λ n. set (insert (remove xs n) c.args.to c.args.vacant) (l.i - 1) (get_or xs n l.carried)) (sym here) ∙ carried_back xs (l.i - 1) c.args.to c.args.vacant l.carried before c.requires.within;
      carried = rw c.replace-carried-in-loop-i.ensures.value (sym (carried_before xs (l.i - 1) c.args.to c.args.vacant other.result.now before c.requires.within)
          ∙ ap (λ n. get_or (insert (remove xs n) c.args.to c.args.vacant) (l.i - 1) other.result.now) here
          ∙ ap (λ ys. get_or ys (l.i - 1) other.result.now) (sym l.invariant.items) ∙ sym other.ensures.value);
      len = l.invariant.len;
      capacity = l.invariant.capacity;
      low = omega (arith, c.loop-i-test.true);
    }
