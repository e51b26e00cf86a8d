-- The loop that writes a run of items: after i iterations the first i items are written.
use Rattle.std.proofs.lemmas.List.Elements.{All-get_or}
use Rattle.prefix_trie_table.proofs.Prelude.{subst, ◌+◌, ◌≡◌, [], ◌++◌, length, length-set, set, take, drop, take_all, put_run, sym, ap, ◌∙◌, arith, rules, take-append-drop}
use Rattle.prefix_trie_table.proofs.Blocks.Shifts.{put_run_more}
use Rattle.prefix_trie_table.proofs.allocator.slots.write_run.Goals as goal

pub loop-i-init : goal.loop-i-init
loop-i-init g c =
    let xs = g.R.SlotArray.list c.args.slots.now in
    let e : c.args.from ≡ c.args.from + 0 = omega arith in
    record {
      items = sym (take-append-drop c.args.from xs) ∙ ap (λ n. take c.args.from xs ++ ([] ++ drop n xs)) e;
      len = search rules;
      capacities = search rules;
    }

pub loop-i-preserved : goal.loop-i-preserved
loop-i-preserved g c =
    let xs = g.R.SlotArray.list c.args.slots.now in
    let l = c.loop-i in
    let v = c.index-items-i.result in
    record {
      items = c.put.ensures.list ∙ ap (λ ys. set ys (c.args.from + l.i) v) l.invariant.items ∙ put_run_more xs c.args.from l.i c.args.items.now v c.loop-i-test.true c.requires.within (sym c.index-items-i.is);
      len = ap length c.put.ensures.list ∙ length-set (g.R.SlotArray.list l.slots) (c.args.from + l.i) v ∙ l.invariant.len;
      capacities = c.put.ensures.capacities ∙ l.invariant.capacities;
    }

pub put-requires : goal.put-requires
put-requires g c =
    let v = c.index-items-i.result in
    record {
      at = omega (arith, c.loop-i.invariant.len, c.requires.within, c.loop-i-test.true);
      value = subst g.R.SlotArray.can_hold (sym c.index-items-i.is) (All-get_or g.R.SlotArray.can_hold c.args.items.now c.loop-i.i v c.loop-i-test.true c.requires.values);
    }

pub returns-clause-written : goal.returns-clause-written
returns-clause-written g c =
    c.loop-i.invariant.items ∙ ap (λ ys. put_run (g.R.SlotArray.list c.args.slots.now) c.args.from ys) (take_all c.loop-i.i c.args.items.now c.loop-i-test.false)
