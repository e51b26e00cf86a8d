-- A single answer is changed as the loop of `change_run` changes it.
use Rattle.std.proofs.Common.{◌≡◌, ◌∙◌, ◌<◌, length, slice_index, slice_set, subst, arith}
use Rattle.prefix_trie_forwarding.specs.Walks.{AreChanged, changed}
use Rattle.prefix_trie_forwarding.proofs.Ends.{changed_once}
use Rattle.prefix_trie_forwarding.proofs.Filling.{IsOnce, change_start, change_value}
use Rattle.prefix_trie_forwarding.proofs.Frees.{set_here, set_others}
use Rattle.prefix_trie_forwarding.proofs.slots.change.change_slots.Goals as goal

pub returns-then-slots-low-lt-GROUP-clause-changed : goal.returns-then-slots-low-lt-GROUP-clause-changed
returns-then-slots-low-lt-GROUP-clause-changed c =
    let root = c.args.root in
    let f = changed c.args.change.least c.args.change.most c.args.change.to in
    let once : IsOnce (changed c.args.change.least c.args.change.most c.args.change.to) = changed_once c.args.change.least c.args.change.most c.args.change.to c.requires.small in
    let low = c.args.low in
    let count = c.args.count in
    let xs = c.args.slots.now in
    let s = slice_index xs in
    let answer = c.changed-answer.result in
    let t = slice_index (slice_set xs low answer) in
    let one : count ≡ 1 = c.if-count-eq1.true in
    let inside : low < length xs = omega (arith, c.requires.fits, one) in
    let start = change_start root f c.args.left low count s in
    subst (λ n. AreChanged root f c.args.left low count s t n) (omega (arith, one))
    (change_value root f once c.args.left low count low s s t (omega arith) (omega (arith, one)) start c.if-slots-low-lt-GROUP.true (set_here xs low answer inside ∙ c.changed-answer.ensures) (set_others xs low answer inside))
