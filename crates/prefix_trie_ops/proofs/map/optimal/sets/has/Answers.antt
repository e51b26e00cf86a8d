-- The loop of `has`: the value is found, or the next item is another one.
use Rattle.std.proofs.Common.{◌∙◌, ◌+◌, ◌||◌, slice_range, ap, sym}
use Rattle.std.specs.Set.{is_member}
use Rattle.prefix_trie_ops.proofs.Smallest.Ranges.{range_past, range_step}
use Rattle.prefix_trie_ops.proofs.map.optimal.sets.has.Goals as goal
use Rattle.prefix_trie_ops.proofs.map.optimal.sets.has.Goals.{in-Some+else-eq, in_default}

pub returns-then-eq : goal.returns-then-eq
returns-then-eq g c =
    let xs = c.args.values.now in
    let i = c.loop-i.i in
    let end = c.args.set.end in
    let x = c.in-Some.found.now in
    let v = c.args.value in
    let eq = g.T.PartialEq.eq in
    let at = c.in-Some.ensures.lookup in
    sym (c.loop-i.invariant ∙ ap (λ ys. is_member eq ys v) (range_step xs i end x at.3.0 at.1 c.loop-i-test.true)
    ∙ ap (λ b. b || is_member eq (slice_range xs (i + 1) end) v) (g.met.T.Eq.laws.symm v x ∙ sym c.eq.ensures ∙ c.if-eq.true))

pub loop-i-preserved : goal.loop-i-preserved
loop-i-preserved g c =
    let xs = c.args.values.now in
    let i = c.loop-i.i in
    let end = c.args.set.end in
    let v = c.args.value in
    let eq = g.T.PartialEq.eq in
    elim c.match-get.branch [
      | in-Some+else-eq w ↦
          let x = w.in-Some.found.now in
          let at = w.in-Some.ensures.lookup in
          c.loop-i.invariant ∙ ap (λ ys. is_member eq ys v) (range_step xs i end x at.3.0 at.1 c.loop-i-test.true)
          ∙ ap (λ b. b || is_member eq (slice_range xs (i + 1) end) v) (g.met.T.Eq.laws.symm v x ∙ sym w.eq.ensures ∙ w.if-eq.false)
      | in_default w ↦ c.loop-i.invariant ∙ ap (λ ys. is_member eq ys v) (range_past xs i end w.in_default.ensures.lookup.3)
    ]
