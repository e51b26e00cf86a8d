-- Each answer is changed, or the group below it.
use Rattle.std.proofs.Common.{◌≡◌, ◌∙◌, suc, ◌+◌, ◌-◌, ◌<◌, length, slice_index, sym, subst, arith}
use Rattle.prefix_trie_forwarding.specs.Walks.{AreChanged, changed}
use Rattle.prefix_trie_forwarding.proofs.Ends.{changed_once}
use Rattle.prefix_trie_forwarding.proofs.Filling.{IsOnce, change_below, change_none, change_start, change_value, changed_slots}
use Rattle.prefix_trie_forwarding.proofs.Frees.{set_here, set_others}
use Rattle.prefix_trie_forwarding.proofs.slots.change.+change_run.Goals as goal
use Rattle.prefix_trie_forwarding.proofs.slots.change.+change_run.Goals.{then-slot-lt-GROUP, else-slot-lt-GROUP+then-left-gt0, else-slot-lt-GROUP+else-left-gt0}

pub change_run-requires : goal.change_run-requires
change_run-requires t c =
    let once : IsOnce (changed c.args.change.least c.args.change.most c.args.change.to) = changed_once c.args.change.least c.args.change.most c.args.change.to c.requires.small in
    let are = changed_slots (changed c.args.change.least c.args.change.most c.args.change.to) once (slice_index c.args.slots.now) (slice_index c.loop-at.slots) c.loop-at.invariant.by c.args.groups c.requires.slots in
    let inside = are.inside c.loop-at.at c.if-slot-lt-GROUP.false in (
      omega (arith, c.decreases, c.if-left-gt0.true),
      (omega (arith, inside, c.requires.sizes, c.loop-at.auto.slots), (omega (arith, c.requires.sizes, c.loop-at.auto.slots), (c.requires.small, are))),
    )

pub loop-at-init : goal.loop-at-init
loop-at-init t c = change_start c.args.root (changed c.args.change.least c.args.change.most c.args.change.to) c.args.left c.args.low c.args.count (slice_index c.args.slots.now)

pub loop-at-preserved : goal.loop-at-preserved
loop-at-preserved t c =
    let root = c.args.root in
    let f = changed c.args.change.least c.args.change.most c.args.change.to in
    let once : IsOnce (changed c.args.change.least c.args.change.most c.args.change.to) = changed_once c.args.change.least c.args.change.most c.args.change.to c.requires.small in
    let low = c.args.low in
    let count = c.args.count in
    let at = c.loop-at.at in
    let xs = c.loop-at.slots in
    let s = slice_index c.args.slots.now in
    let u = slice_index xs in
    let inside : at < length xs = omega (arith, c.requires.fits, c.loop-at-test.true, c.loop-at.auto.slots) in
    elim c.if-slot-lt-GROUP.branch [
      | then-slot-lt-GROUP w ↦
          subst (λ ys. AreChanged root f c.args.left low count s (slice_index ys) (at + 1)) (sym w.slots-is)
          (change_value root f once c.args.left low count at s u _ c.loop-at.auto.at c.loop-at-test.true c.loop-at.invariant w.if-slot-lt-GROUP.true (set_here xs at w.changed-answer.result inside ∙ w.changed-answer.ensures) (set_others xs at w.changed-answer.result inside))
      | else-slot-lt-GROUP+then-left-gt0 w ↦
          let k = c.args.left - 1 in
          let level : suc (c.args.left - 1) ≡ c.args.left = omega (arith, w.if-left-gt0.true) in
          subst (λ ys. AreChanged root f c.args.left low count s (slice_index ys) (at + 1)) (sym w.slots-is)
          (subst (λ n. AreChanged root f n low count s (slice_index w.change_run.new.slots) (at + 1)) level
          (change_below root f once k low count at s u (slice_index w.change_run.new.slots) c.loop-at.auto.at c.loop-at-test.true
          (subst (λ n. AreChanged root f n low count s u at) (sym level) c.loop-at.invariant) w.if-slot-lt-GROUP.false w.change_run.ensures.changed))
      | else-slot-lt-GROUP+else-left-gt0 w ↦
          let none : c.args.left ≡ 0 = omega (arith, w.if-left-gt0.false) in
          subst (λ ys. AreChanged root f c.args.left low count s (slice_index ys) (at + 1)) (sym w.slots-is)
          (subst (λ n. AreChanged root f n low count s u (at + 1)) (sym none)
          (change_none root f low count at once s u (subst (λ n. AreChanged root f n low count s u at) none c.loop-at.invariant) w.if-slot-lt-GROUP.false))
    ]

pub returns-clause-kept : goal.returns-clause-kept
returns-clause-kept t c =
    let once : IsOnce (changed c.args.change.least c.args.change.most c.args.change.to) = changed_once c.args.change.least c.args.change.most c.args.change.to c.requires.small in
    changed_slots (changed c.args.change.least c.args.change.most c.args.change.to) once (slice_index c.args.slots.now) (slice_index c.loop-at.slots) c.loop-at.invariant.by c.args.groups c.requires.slots
