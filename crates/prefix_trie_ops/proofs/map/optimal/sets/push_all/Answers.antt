-- The loop of `push_all`: each iteration appends the smaller of the two next values.
use Rattle.std.proofs.Common.{◌≡◌, ◌∙◌, ◌+◌, ◌≤◌, ◌++◌, true, List, [], ◌∷◌, length, slice_range, ap, sym, refl, append-nil, append_assoc, Ok, Err}
use Rattle.std.specs.Result.{IfOk}
use Rattle.std.specs.Set.{sorted_merge}
use Rattle.prefix_trie_ops.specs.Parts.{shared_values}
use Rattle.prefix_trie_ops.specs.ValueSets.{IsSpanOf}
use Rattle.prefix_trie_ops.proofs.Smallest.JoinedLists.{disjoint, is_less, less_is, merged_left, merged_right, merging_less, merging_other}
use Rattle.prefix_trie_ops.proofs.Smallest.Ranges.{both_appended, range_empty, range_step_in, read_at}
use Rattle.prefix_trie_ops.proofs.map.optimal.sets.push_all.Goals as goal
use Rattle.prefix_trie_ops.proofs.map.optimal.sets.push_all.Goals.{else-loop-i-test, then-loop-i-test+else-j-right}

pub loop-i-init : goal.loop-i-init
loop-i-init g c left_in right_in none =
    let old = c.args.values.now.items in
    let xs = slice_range old c.args.left.start c.args.left.end in
    let ys = slice_range old c.args.right.start c.args.right.end in (
      [],
      sym (append-nil old),
      record { apart = disjoint g.T.PartialEq.eq g.T.Ord.cmp g.met.T.Eq.laws g.met.T.Ord.total g.met.T.Ord.matches_eq xs ys none; is = refl },
    )

pub loop-i-preserved-then-lt : goal.loop-i-preserved-then-lt
loop-i-preserved-then-lt g c left_in right_in none =
    let old = c.args.values.now.items in
    let i = c.loop-i.i in
    let j = c.loop-i.j in
    let x = c.in-Some-Some.x in
    let y = c.in-Some-Some.y in
    let so_far = c.loop-i.invariant left_in right_in none in
    let found = so_far.0 in
    let at = read_at c.get.result c.deref.result.now i x (sym c.copied.ensures ∙ c.in-Some-Some.is-0) c.get.ensures.lookup.0 c.get.ensures.lookup.1 in
    let at' = read_at c.get-in-loop-i.result c.deref-in-loop-i.result.now j y (sym c.copied-in-loop-i.ensures ∙ c.in-Some-Some.is-1) c.get-in-loop-i.ensures.lookup.0 c.get-in-loop-i.ensures.lookup.1 in
    let step = range_step_in old found c.deref.result.now i c.args.left.end x (c.deref.ensures.value ∙ so_far.1) left_in at.0 at.1 c.loop-i-test.true in
    let step' = range_step_in old found c.deref-in-loop-i.result.now j c.args.right.end y (c.deref-in-loop-i.ensures.value ∙ so_far.1) right_in at'.0 at'.1 c.if-j-right.true in (
      found ++ x ∷ [],
      c.in_ok-push.ensures.items ∙ ap (λ zs. zs ++ x ∷ []) so_far.1 ∙ append_assoc old found (x ∷ []),
      merging_less g.T.PartialEq.eq g.T.Ord.cmp g.met.T.Eq.laws g.met.T.Ord.total g.met.T.Ord.matches_eq x y (slice_range old i c.args.left.end) (slice_range old j c.args.right.end)
          (slice_range old (i + 1) c.args.left.end) (slice_range old (j + 1) c.args.right.end) found
          (sorted_merge g.T.Ord.cmp true (slice_range old c.args.left.start c.args.left.end) (slice_range old c.args.right.start c.args.right.end)) step step'
          (is_less g.T.PartialEq.eq g.T.Ord.cmp g.T.PartialOrd.partial_cmp g.met.T.Ord.matches_partial_cmp x y (sym c.lt.ensures ∙ c.if-lt.true)) so_far.2,
    )

pub loop-i-preserved : goal.loop-i-preserved
loop-i-preserved g c left_in right_in none =
    let old = c.args.values.now.items in
    let i = c.loop-i.i in
    let j = c.loop-i.j in
    let x = c.in-Some-Some.x in
    let y = c.in-Some-Some.y in
    let so_far = c.loop-i.invariant left_in right_in none in
    let found = so_far.0 in
    let at = read_at c.get.result c.deref.result.now i x (sym c.copied.ensures ∙ c.in-Some-Some.is-0) c.get.ensures.lookup.0 c.get.ensures.lookup.1 in
    let at' = read_at c.get-in-loop-i.result c.deref-in-loop-i.result.now j y (sym c.copied-in-loop-i.ensures ∙ c.in-Some-Some.is-1) c.get-in-loop-i.ensures.lookup.0 c.get-in-loop-i.ensures.lookup.1 in
    let step = range_step_in old found c.deref.result.now i c.args.left.end x (c.deref.ensures.value ∙ so_far.1) left_in at.0 at.1 c.loop-i-test.true in
    let step' = range_step_in old found c.deref-in-loop-i.result.now j c.args.right.end y (c.deref-in-loop-i.ensures.value ∙ so_far.1) right_in at'.0 at'.1 c.if-j-right.true in (
      found ++ y ∷ [],
      c.in_ok-push-2.ensures.items ∙ ap (λ zs. zs ++ y ∷ []) so_far.1 ∙ append_assoc old found (y ∷ []),
      merging_other g.T.PartialEq.eq g.T.Ord.cmp g.met.T.Eq.laws g.met.T.Ord.total g.met.T.Ord.matches_eq x y (slice_range old i c.args.left.end) (slice_range old j c.args.right.end)
          (slice_range old (i + 1) c.args.left.end) (slice_range old (j + 1) c.args.right.end) found
          (sorted_merge g.T.Ord.cmp true (slice_range old c.args.left.start c.args.left.end) (slice_range old c.args.right.start c.args.right.end)) step step'
          (sym (less_is g.T.PartialEq.eq g.T.Ord.cmp g.T.PartialOrd.partial_cmp g.met.T.Ord.matches_partial_cmp x y) ∙ sym c.lt.ensures ∙ c.if-lt.false) so_far.2,
    )

pub returns : goal.returns
returns g c = elim c.push_range-2.result as (λ r.
    IfOk r (λ _. c.args.right.end ≤ length c.push_range.new.values.items → c.push_range-2.new.values.items ≡ c.push_range.new.values.items ++ slice_range c.push_range.new.values.items c.loop-i.j c.args.right.end)
    → IfOk r (λ _. (xs ys : List g.row.T.Denot) → IsSpanOf c.args.values.now.items c.args.left xs → IsSpanOf c.args.values.now.items c.args.right ys → shared_values g.T.PartialEq.eq xs ys ≡ []
    → c.push_range-2.new.values.items ≡ c.args.values.now.items ++ sorted_merge g.T.Ord.cmp true xs ys)) [
      | Err e ↦ λ _. tt
      | Ok u ↦ λ last xs ys left right none.
          let old = c.args.values.now.items in
          let i = c.loop-i.i in
          let j = c.loop-i.j in
          let rest = slice_range old i c.args.left.end in
          let rest' = slice_range old j c.args.right.end in
          let run = c.loop-i.invariant left.1 right.1 (ap (λ zs. shared_values g.T.PartialEq.eq zs (slice_range old c.args.right.start c.args.right.end)) (sym left.2) ∙ ap (shared_values g.T.PartialEq.eq xs) (sym right.2) ∙ none) in
          let found = run.0 in
          let ended : sorted_merge g.T.Ord.cmp true rest rest' ≡ rest ++ rest' = elim c.loop-i-test.branch [
            | then-loop-i-test+else-j-right w ↦ merged_right g.T.PartialEq.eq g.T.Ord.cmp rest rest' (range_empty old j c.args.right.end w.if-j-right.false)
            | else-loop-i-test w ↦ merged_left g.T.PartialEq.eq g.T.Ord.cmp rest rest' (range_empty old i c.args.left.end w.loop-i-test.false)
          ] in
          both_appended old found rest rest' c.loop-i.values.items c.push_range.new.values.items c.push_range-2.new.values.items (sorted_merge g.T.Ord.cmp true xs ys)
          c.args.left.end c.args.right.end i j left.1 right.1 refl refl run.1 c.in_ok-push_range.ensures last
          (ap (λ zs. found ++ zs) (sym ended) ∙ run.2.is ∙ ap (λ zs. sorted_merge g.T.Ord.cmp true zs (slice_range old c.args.right.start c.args.right.end)) (sym left.2) ∙ ap (sorted_merge g.T.Ord.cmp true xs) (sym right.2))
    ] c.push_range-2.ensures
