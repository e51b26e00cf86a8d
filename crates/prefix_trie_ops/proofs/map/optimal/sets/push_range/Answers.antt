-- The loop of `push_range`: each iteration appends the next item of the part.
use Rattle.std.proofs.Common.{◌≡◌, ◌∙◌, ◌+◌, ◌++◌, [], ◌∷◌, length, slice_range, ap, sym, arith, length-append}
use Rattle.std.proofs.lemmas.List.{append_assoc}
use Rattle.prefix_trie_ops.proofs.Smallest.Ranges.{range_step_in, read_at, read_past}
use Rattle.prefix_trie_ops.proofs.map.optimal.sets.push_range.Goals as goal
use Rattle.prefix_trie_ops.proofs.map.optimal.sets.push_range.Goals.{in-Some+in_ok-push, in_default}

pub loop-i-preserved : goal.loop-i-preserved
loop-i-preserved g c within =
    let old = c.args.values.now.items in
    let all = c.deref.result.now in
    let i = c.loop-i.i in
    let end = c.args.end in
    let so_far = c.loop-i.invariant within in
    let found = so_far.0 in
    let whole : all ≡ old ++ found = c.deref.ensures.value ∙ so_far.1 in
    let long : length all ≡ length old + length found = ap length whole ∙ length-append old found in
    let look = c.get.ensures.lookup in
    elim c.match-copied.branch [
      | in-Some+in_ok-push w ↦
          let x = w.in-Some.value in
          let at = read_at c.get.result all i x (sym c.copied.ensures ∙ w.in-Some.is) look.0 look.1 in
          let step = range_step_in old found all i end x whole within at.0 at.1 c.loop-i-test.true in (
            found ++ x ∷ [],
            ap (λ v. v.items) w.values-is ∙ w.in_ok-push.ensures.items ∙ ap (λ ys. ys ++ x ∷ []) so_far.1 ∙ append_assoc old found (x ∷ []),
            append_assoc found (x ∷ []) (slice_range old (i + 1) end) ∙ ap (λ ys. found ++ ys) (sym step) ∙ so_far.2,
          )
      | in_default w ↦
          let past = read_past c.get.result all i (sym c.copied.ensures ∙ w.in_default.is) look.0 in
          let less = c.loop-i-test.true in
          absurd (omega (arith, past, long, within, less))
    ]
