-- The loop that moves a run of items into vacant slots: after i iterations the first i items are exchanged.
use Rattle.prefix_trie_table.proofs.Prelude.{◌≡◌, ◌≢◌, suc, ◌+◌, ◌<◌, ◌≤◌, ⊎_elim, length, get_or, set, swap_runs, ap, ◌∙◌, arith}
use Rattle.prefix_trie_table.proofs.Blocks.RunLemmas.{exchanged, length-swap_runs, moved_is}
use Rattle.prefix_trie_table.proofs.allocator.slots.move_run.Goals as goal

pub move_to-requires-clause-other : goal.move_to-requires-clause-other
move_to-requires-clause-other g c = λ e. ⊎_elim (λ (h : c.args.from + c.args.count ≤ c.args.to). absurd (omega (arith, c.loop-i-test.true, e))) (λ (h : c.args.to + c.args.count ≤ c.args.from). absurd (omega (arith, c.loop-i-test.true, e))) c.requires.apart

pub loop-i-preserved : goal.loop-i-preserved
loop-i-preserved g c =
    let a = c.args in
    let i = c.loop-i.i in
    let vacant = g.S.Slot.vacant in
    let xs = g.R.SlotArray.list a.slots.now in
    let ys = swap_runs xs a.from a.to i in
    let more : i < a.count = c.loop-i-test.true in
    let long = length-swap_runs xs a.from a.to i in
    let before = exchanged xs a.from a.to i vacant (omega (arith, c.requires.from_within, more)) (omega (arith, c.requires.to_within, more))
    (λ h. ⊎_elim (λ (p : a.from + a.count ≤ a.to). absurd (omega (arith, h, p, more))) (λ (p : a.to + a.count ≤ a.from). omega (arith, p, more)) c.requires.apart) in
    let none = before.elsewhere (a.to + i)
    (λ h. ⊎_elim (λ (p : a.from + a.count ≤ a.to). absurd (omega (arith, h, p, more))) (λ (p : a.to + a.count ≤ a.from). omega (arith, p, more)) c.requires.apart)
    (λ h. absurd (omega (arith, h))) ∙ c.requires.vacant i more in
    let other : a.from + i ≢ a.to + i = λ e. ⊎_elim (λ (p : a.from + a.count ≤ a.to). absurd (omega (arith, p, more, e))) (λ (p : a.to + a.count ≤ a.from). absurd (omega (arith, p, more, e))) c.requires.apart in
    let next : suc i ≡ i + 1 = omega arith in
    let items : g.R.SlotArray.list c.move_to.new.self ≡ swap_runs xs a.from a.to (i + 1) = c.move_to.ensures.list
    ∙ ap (λ zs. set (set zs (a.to + i) (get_or zs (a.from + i) vacant)) (a.from + i) vacant) c.loop-i.invariant.items
    ∙ moved_is ys (a.from + i) (a.to + i) vacant (omega (arith, long, c.requires.from_within, more)) (omega (arith, long, c.requires.to_within, more)) other none
    ∙ ap (λ n. swap_runs xs a.from a.to n) next in
    record {
      items = items;
      len = ap length items ∙ length-swap_runs xs a.from a.to (i + 1);
      capacities = c.move_to.ensures.capacities ∙ c.loop-i.invariant.capacities;
    }
