-- The next match is the shortest one left in this node, or in the first node after it that has one.
use Rattle.prefix_trie_table.proofs.Prelude.{arith, ◌/◌, ap, ◌∙◌}
use Rattle.prefix_trie_table.proofs.Lookup.SearchPaths.{left_length, left_next}
use Rattle.prefix_trie_table.proofs.Lookup.NodeCovers.{reached_nowhere, reached_match, reached_end, gone_down}
use Rattle.prefix_trie_table.proofs.table.cover.next_match.Goals as goal

pub down-init : goal.down-init
down-init g c = (c.requires.is_there.0, c.requires.is_there.1, λ before at. reached_nowhere _ before _ _ _ at, c.after-rest.ensures)

pub take_match-requires-clause-small : goal.take_match-requires-clause-small
take_match-requires-clause-small g c = c.down.invariant.1.left.small

pub take_match-requires-clause-deep : goal.take_match-requires-clause-deep
take_match-requires-clause-deep g c =
    let whole = c.down.invariant.1.along.whole in
    omega (arith, whole, c.len-last.ensures.len, c.len-last.ensures.short)

pub returns-in-Some : goal.returns-in-Some
returns-in-Some g c = λ first at. reached_match _ first _ _ _ (c.down.invariant.2 first at) c.take_match.new.matches c.in-Some.found c.in-Some.ensures

pub after-rest-requires : goal.after-rest-requires
after-rest-requires g c = c.requires.is_there.1.along.whole

pub step_down-requires-clause-sound : goal.step_down-requires-clause-sound
step_down-requires-clause-sound g c = c.requires.sound.0

pub step_down-requires-clause-along : goal.step_down-requires-clause-along
step_down-requires-clause-along g c = (c.args.path.now, c.down.invariant.1.along, c.down.invariant.3, omega (arith, c.len-last.ensures.len, c.len-last.ensures.short), (ap (λ n. n / 5) c.len-last.ensures.len))

pub returns-in_default-step_down : goal.returns-in_default-step_down
returns-in_default-step_down g c = λ first at.
    reached_end _ first _ _ _ (c.down.invariant.2 first at) c.take_match.new.matches c.in_default.ensures
    (c.in_default-step_down.ensures.step c.args.path.now c.down.invariant.1.along c.down.invariant.3 (ap (λ n. n / 5) c.len-last.ensures.len))

pub after_five-rest-requires : goal.after_five-rest-requires
after_five-rest-requires g c =
    let next = c.in-Some-step_down.ensures.step c.args.path.now c.down.invariant.1.along c.down.invariant.3 (ap (λ n. n / 5) c.len-last.ensures.len) in
    let whole = next.1.whole in
    omega (arith, next.0, whole, left_length c.args.path.now c.down.rest c.down.here.level c.down.invariant.3)

pub down-smaller : goal.down-smaller
down-smaller g c =
    let next = c.in-Some-step_down.ensures.step c.args.path.now c.down.invariant.1.along c.down.invariant.3 (ap (λ n. n / 5) c.len-last.ensures.len) in
    let whole = next.1.whole in
    omega (arith, next.0, whole)

pub down-preserved : goal.down-preserved
down-preserved g c =
    let next = c.in-Some-step_down.ensures.step c.args.path.now c.down.invariant.1.along c.down.invariant.3 (ap (λ n. n / 5) c.len-last.ensures.len) in
    let rest_is = c.after_five-rest.ensures ∙ left_next c.args.path.now c.down.rest c.down.here.level c.in-Some-step_down.next.level c.down.invariant.3 next.0 in
    let left = c.matches_in.ensures c.args.path.now rest_is in
    let now = gone_down _ c.down.invariant.0 _ _ _ (reached_nowhere _ c.down.invariant.0 _ _ _ c.down.invariant.1) c.take_match.new.matches c.in_default.ensures _ _ next.0 next.1 left in (
      now.to,
      now.is_there,
      λ before at. gone_down _ before _ _ _ (c.down.invariant.2 before at) c.take_match.new.matches c.in_default.ensures _ _ next.0 next.1 left,
      rest_is,
    )
