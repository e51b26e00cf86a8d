-- The loop of `push_shared`: each iteration goes on past the smaller of the two next values, or past both.
use Rattle.std.proofs.Common.{◌∙◌, ◌+◌, ◌++◌, [], ◌∷◌, slice_range, ap, sym, subst, append-nil, append_assoc}
use Rattle.std.specs.List.Sorted.{IsStrictlySortedBy}
use Rattle.prefix_trie_ops.specs.Parts.{shared_values}
use Rattle.prefix_trie_ops.proofs.Smallest.JoinedLists.{shared_none, sharing_equal, sharing_greater, sharing_less}
use Rattle.prefix_trie_ops.proofs.Smallest.Ranges.{range_empty, range_step_in, read_at}
use Rattle.prefix_trie_ops.proofs.map.optimal.sets.push_shared.Goals as goal

pub loop-i-preserved-in-Less : goal.loop-i-preserved-in-Less
loop-i-preserved-in-Less g c left_in right_in left_sorted right_sorted =
    let old = c.args.values.now.items in
    let i = c.loop-i.i in
    let j = c.loop-i.j in
    let x = c.in-Some-Some.x in
    let y = c.in-Some-Some.y in
    let so_far = c.loop-i.invariant left_in right_in left_sorted right_sorted in
    let found = so_far.0 in
    let at = read_at c.get.result c.deref.result.now i x (sym c.copied.ensures ∙ c.in-Some-Some.is-0) c.get.ensures.lookup.0 c.get.ensures.lookup.1 in
    let at' = read_at c.get-in-loop-i.result c.deref-in-loop-i.result.now j y (sym c.copied-in-loop-i.ensures ∙ c.in-Some-Some.is-1) c.get-in-loop-i.ensures.lookup.0 c.get-in-loop-i.ensures.lookup.1 in
    let step = range_step_in old found c.deref.result.now i c.args.left.end x (c.deref.ensures.value ∙ so_far.1) left_in at.0 at.1 c.loop-i-test.true in
    let step' = range_step_in old found c.deref-in-loop-i.result.now j c.args.right.end y (c.deref-in-loop-i.ensures.value ∙ so_far.1) right_in at'.0 at'.1 c.if-j-right.true in (
      found,
      so_far.1,
      sharing_less g.T.PartialEq.eq g.T.Ord.cmp g.met.T.Eq.laws g.met.T.Ord.total g.met.T.Ord.matches_eq x y (slice_range old i c.args.left.end) (slice_range old j c.args.right.end)
          (slice_range old (i + 1) c.args.left.end) (slice_range old (j + 1) c.args.right.end) found
          (shared_values g.T.PartialEq.eq (slice_range old c.args.left.start c.args.left.end) (slice_range old c.args.right.start c.args.right.end)) step step'
          (sym c.in-Less.ensures) so_far.2,
    )

pub loop-i-preserved-in-Greater : goal.loop-i-preserved-in-Greater
loop-i-preserved-in-Greater g c left_in right_in left_sorted right_sorted =
    let old = c.args.values.now.items in
    let i = c.loop-i.i in
    let j = c.loop-i.j in
    let x = c.in-Some-Some.x in
    let y = c.in-Some-Some.y in
    let so_far = c.loop-i.invariant left_in right_in left_sorted right_sorted in
    let found = so_far.0 in
    let at = read_at c.get.result c.deref.result.now i x (sym c.copied.ensures ∙ c.in-Some-Some.is-0) c.get.ensures.lookup.0 c.get.ensures.lookup.1 in
    let at' = read_at c.get-in-loop-i.result c.deref-in-loop-i.result.now j y (sym c.copied-in-loop-i.ensures ∙ c.in-Some-Some.is-1) c.get-in-loop-i.ensures.lookup.0 c.get-in-loop-i.ensures.lookup.1 in
    let step = range_step_in old found c.deref.result.now i c.args.left.end x (c.deref.ensures.value ∙ so_far.1) left_in at.0 at.1 c.loop-i-test.true in
    let step' = range_step_in old found c.deref-in-loop-i.result.now j c.args.right.end y (c.deref-in-loop-i.ensures.value ∙ so_far.1) right_in at'.0 at'.1 c.if-j-right.true in (
      found,
      so_far.1,
      sharing_greater g.T.PartialEq.eq g.T.Ord.cmp g.met.T.Eq.laws g.met.T.Ord.total g.met.T.Ord.matches_eq x y (slice_range old i c.args.left.end) (slice_range old j c.args.right.end)
          (slice_range old (i + 1) c.args.left.end) (slice_range old (j + 1) c.args.right.end) found
          (shared_values g.T.PartialEq.eq (slice_range old c.args.left.start c.args.left.end) (slice_range old c.args.right.start c.args.right.end)) step step'
          (sym c.in-Greater.ensures) so_far.2,
    )

pub loop-i-preserved : goal.loop-i-preserved
loop-i-preserved g c left_in right_in left_sorted right_sorted =
    let old = c.args.values.now.items in
    let i = c.loop-i.i in
    let j = c.loop-i.j in
    let x = c.in-Some-Some.x in
    let y = c.in-Some-Some.y in
    let so_far = c.loop-i.invariant left_in right_in left_sorted right_sorted in
    let found = so_far.0 in
    let at = read_at c.get.result c.deref.result.now i x (sym c.copied.ensures ∙ c.in-Some-Some.is-0) c.get.ensures.lookup.0 c.get.ensures.lookup.1 in
    let at' = read_at c.get-in-loop-i.result c.deref-in-loop-i.result.now j y (sym c.copied-in-loop-i.ensures ∙ c.in-Some-Some.is-1) c.get-in-loop-i.ensures.lookup.0 c.get-in-loop-i.ensures.lookup.1 in
    let step = range_step_in old found c.deref.result.now i c.args.left.end x (c.deref.ensures.value ∙ so_far.1) left_in at.0 at.1 c.loop-i-test.true in
    let step' = range_step_in old found c.deref-in-loop-i.result.now j c.args.right.end y (c.deref-in-loop-i.ensures.value ∙ so_far.1) right_in at'.0 at'.1 c.if-j-right.true in (
      found ++ x ∷ [],
      c.in_ok-push-in-Equal.ensures.items ∙ ap (λ zs. zs ++ x ∷ []) so_far.1 ∙ append_assoc old found (x ∷ []),
      sharing_equal g.T.PartialEq.eq g.T.Ord.cmp g.met.T.Eq.laws g.met.T.Ord.total g.met.T.Ord.matches_eq x y (slice_range old i c.args.left.end) (slice_range old j c.args.right.end)
          (slice_range old (i + 1) c.args.left.end) (slice_range old (j + 1) c.args.right.end) found
          (shared_values g.T.PartialEq.eq (slice_range old c.args.left.start c.args.left.end) (slice_range old c.args.right.start c.args.right.end)) step step'
          (sym c.in-Equal.ensures) so_far.2,
    )

pub returns-else-j-right : goal.returns-else-j-right
returns-else-j-right g c xs ys left right left_sorted right_sorted =
    let old = c.args.values.now.items in
    let eq = g.T.PartialEq.eq in
    let rest = slice_range old c.loop-i.i c.args.left.end in
    let run = c.loop-i.invariant left.1 right.1 (subst (IsStrictlySortedBy g.T.Ord.cmp) left.2 left_sorted) (subst (IsStrictlySortedBy g.T.Ord.cmp) right.2 right_sorted) in
    let found = run.0 in
    let none = ap (shared_values eq rest) (range_empty old c.loop-i.j c.args.right.end c.if-j-right.false) ∙ shared_none eq g.T.Ord.cmp rest in
    run.1 ∙ ap (λ zs. old ++ zs)
    (sym (append-nil found) ∙ ap (λ zs. found ++ zs) (sym none) ∙ run.2.is
    ∙ ap (λ zs. shared_values eq zs (slice_range old c.args.right.start c.args.right.end)) (sym left.2) ∙ ap (shared_values eq xs) (sym right.2))
