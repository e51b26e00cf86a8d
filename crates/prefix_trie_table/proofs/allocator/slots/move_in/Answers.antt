-- Two runs are moved around a new item: the slots that they are moved to are vacant and apart.
use Rattle.prefix_trie_table.proofs.Prelude.{◌+◌, ◌-◌, ◌<◌, ◌≤◌, inl, inr, ⊎_elim, get_or, set, ap, ◌∙◌, arith, swap_runs}
use Rattle.prefix_trie_table.proofs.Blocks.RunLemmas.{moved_in, still_none, vacant_at}
use Rattle.prefix_trie_table.proofs.allocator.slots.move_in.Goals as goal

pub move_run-requires-clause-apart : goal.move_run-requires-clause-apart
move_run-requires-clause-apart g c = ⊎_elim (λ (h : c.args.from + c.args.count ≤ c.args.to). inl (omega (arith, h, c.requires.offset))) (λ (h : c.args.to + c.args.count < c.args.from). inr (omega (arith, h, c.requires.offset))) c.requires.apart

pub move_run-requires-clause-vacant : goal.move_run-requires-clause-vacant
move_run-requires-clause-vacant g c = λ k h. vacant_at (g.R.SlotArray.list c.args.slots.now) c.args.to (c.args.count + 1) g.S.Slot.vacant c.requires.unused k (omega (arith, h, c.requires.offset))

pub move_run-requires-2-clause-apart : goal.move_run-requires-2-clause-apart
move_run-requires-2-clause-apart g c = ⊎_elim (λ (h : c.args.from + c.args.count ≤ c.args.to). inl (omega (arith, h, c.requires.offset))) (λ (h : c.args.to + c.args.count < c.args.from). inr (omega (arith, h, c.requires.offset))) c.requires.apart

pub move_run-requires-2-clause-vacant : goal.move_run-requires-2-clause-vacant
move_run-requires-2-clause-vacant g c = λ k h.
    let a = c.args in
    let xs = (g.R.SlotArray.list a.slots.now) in
    let now = c.put.ensures.list ∙ ap (λ ys. set ys (a.to + a.offset) a.value) c.move_run.ensures.items in
    ap (λ ys. get_or ys (a.to + a.offset + 1 + k) g.S.Slot.vacant) now
    ∙ still_none g.S.Slot.vacant a.value xs a.from a.to a.count a.offset (omega (arith, c.requires.from_within)) (omega (arith, c.requires.to_within)) (λ q. ⊎_elim (λ (before : a.from + a.count ≤ a.to). absurd (omega arith)) (λ (behind : a.to + a.count < a.from). behind) c.requires.apart) c.requires.offset c.requires.unused k h

pub returns-clause-items : goal.returns-clause-items
returns-clause-items g c =
    let a = c.args in
    let xs = (g.R.SlotArray.list a.slots.now) in
    c.move_run-2.ensures.items
    ∙ ap (λ ys. swap_runs ys (a.from + a.offset) (a.to + a.offset + 1) (a.count - a.offset)) c.put.ensures.list
    ∙ ap (λ ys. swap_runs (set ys (a.to + a.offset) a.value) (a.from + a.offset) (a.to + a.offset + 1) (a.count - a.offset)) c.move_run.ensures.items
    ∙ moved_in g.S.Slot.vacant a.value xs a.from a.to a.count a.offset (omega (arith, c.requires.from_within)) (omega (arith, c.requires.to_within)) (λ h. ⊎_elim (λ (before : a.from + a.count ≤ a.to). absurd (omega arith)) (λ (behind : a.to + a.count < a.from). behind) c.requires.apart) c.requires.offset c.requires.unused
