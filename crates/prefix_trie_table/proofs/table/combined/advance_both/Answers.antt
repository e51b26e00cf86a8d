-- Each step is at the last spot. It gives the first key to come, adds the spot of a child, or ends the spot, whose keys have then all been given.
use Rattle.prefix_trie_table.proofs.Prelude.{◌≡◌, ◌<◌, ◌≤◌, ◌∙◌, [], ◌∷◌, length, sum_by, take, take-take, sym, ap, subst, arith, length-append}
use Rattle.prefix_trie_table.specs.Walking.Combined.{IsCombinedSpot, IsCombinedStack, combined_depth, combined_pending, combined_still, combined_weight}
use Rattle.prefix_trie_table.proofs.Walk.Levels.{from_last-done, from_last-entry, from_last-child, left_is, levels-at, levels-child, levels-put, pushed, weight-deeper, weight-popped}
use Rattle.prefix_trie_table.proofs.Walk.CombinedSpots.{combined_moves, combined_still-same}
use Rattle.prefix_trie_table.proofs.table.combined.advance_both.Goals as goal

pub returns-in-Entry-clause-stack : goal.returns-in-Entry-clause-stack
returns-in-Entry-clause-stack g c =
    let last = c.in-Entry.ensures in
    let key = g.K.Key.bits c.loop-combination.key in
    subst (IsCombinedStack g.K.Key.bit_width c.args.left.now.slots c.args.right.now.slots c.args.combination key) (sym last.4)
    (levels-put combined_depth (IsCombinedSpot g.K.Key.bit_width c.args.left.now.slots c.args.right.now.slots c.args.combination key) 0 _ _ _ last.3 c.loop-combination.invariant.stack last.2 last.5.6 last.5.5)

pub returns-in-Entry-clause-entry : goal.returns-in-Entry-clause-entry
returns-in-Entry-clause-entry g c =
    λ both combined.
    let last = c.in-Entry.ensures in
    let h = last.5.0 both combined in
    let key = g.K.Key.bits c.loop-combination.key in
    record {
      value = h.value;
      first =
          subst (λ ps. combined_pending both (g.K.Key.bits c.args.key.now) c.args.stack.now.items ≡ (take c.in-Entry.len (g.K.Key.bits c.in-Entry.found), h.value) ∷ combined_pending both key ps)
          (sym last.4)
          (sym (c.loop-combination.invariant.same both combined) ∙ from_last-entry (combined_still both key) _ _ _ last.3 last.2 _ h.first);
      stored = h.stored;
    }

pub returns-in-Entry-clause-seats : goal.returns-in-Entry-clause-seats
returns-in-Entry-clause-seats g c = (c.in-Entry.ensures.5.2, c.in-Entry.ensures.5.3)

pub returns-in-Entry-clause-filled : goal.returns-in-Entry-clause-filled
returns-in-Entry-clause-filled g c = c.in-Entry.ensures.5.1

pub push-requires : goal.push-requires
push-requires g c =
    let last = c.in-Child.ensures in
    let key = g.K.Key.bits c.loop-combination.key in
    let at = (levels-at combined_depth (IsCombinedSpot g.K.Key.bit_width c.args.left.now.slots c.args.right.now.slots c.args.combination key) 0 _ _ _ last.3 c.loop-combination.invariant.stack).1 in
    (omega arith, let inside = last.5.4.within in omega (arith, at, inside, last.5.5, g.met.K.Key.key_laws.at_most_128, ap length last.4, length-append last.0 (last.2 ∷ [])))

pub loop-combination-smaller-in-Child : goal.loop-combination-smaller-in-Child
loop-combination-smaller-in-Child g c =
    let last = c.in-Child.ensures in
    subst (λ ps. sum_by combined_weight ps < sum_by combined_weight c.loop-combination.stack.items) (sym (pushed _ _ _ _ _ last.4 c.push.ensures.items))
    (weight-deeper combined_weight _ _ _ last.3 last.2 c.in-Child.child last.5.1)

pub loop-combination-preserved-in-Child : goal.loop-combination-preserved-in-Child
loop-combination-preserved-in-Child g c =
    let last = c.in-Child.ensures in
    let key = g.K.Key.bits c.loop-combination.key in
    let below = g.K.Key.bits c.in-Child.below in
    let all = pushed _ _ _ _ _ last.4 c.push.ensures.items in
    let reach : combined_depth last.1 ≤ length below = (let long = last.5.4.long in omega (arith, long, last.5.5)) in
    record {
      stack = subst (IsCombinedStack g.K.Key.bit_width c.args.left.now.slots c.args.right.now.slots c.args.combination below) (sym all)
          (levels-child combined_depth (IsCombinedSpot g.K.Key.bit_width c.args.left.now.slots c.args.right.now.slots c.args.combination)
          (combined_moves g.K.Key.bit_width c.args.left.now.slots c.args.right.now.slots c.args.combination) take-take key below 0
          c.loop-combination.stack.items last.0 last.1 last.2 c.in-Child.child last.3 c.loop-combination.invariant.stack last.5.3 last.5.2 last.5.5 last.5.4 reach last.5.6);
      same = λ both combined.
          ap (combined_pending both below) all
          ∙ from_last-child combined_depth (IsCombinedSpot g.K.Key.bit_width c.args.left.now.slots c.args.right.now.slots c.args.combination)
          (combined_moves g.K.Key.bit_width c.args.left.now.slots c.args.right.now.slots c.args.combination) take-take key below 0
          c.loop-combination.stack.items last.0 last.1 last.2 c.in-Child.child last.3 c.loop-combination.invariant.stack last.5.3 last.5.2 last.5.5 last.5.4 reach last.5.6
          (combined_still both) (combined_still-same both key below) (last.5.0 both combined)
          ∙ c.loop-combination.invariant.same both combined;
    }

pub loop-combination-smaller : goal.loop-combination-smaller
loop-combination-smaller g c =
    let last = c.in-Done.ensures in
    subst (λ ps. sum_by combined_weight ps < sum_by combined_weight c.loop-combination.stack.items) (sym (left_is _ _ _ _ _ _ last.3 last.4 c.pop.ensures.rest))
    (let h = last.5.1 in omega (arith, h, weight-popped combined_weight _ _ _ last.3))

pub loop-combination-preserved : goal.loop-combination-preserved
loop-combination-preserved g c =
    let last = c.in-Done.ensures in
    let key = g.K.Key.bits c.loop-combination.key in
    let left = left_is _ _ _ _ _ _ last.3 last.4 c.pop.ensures.rest in
    record {
      stack =
          subst (IsCombinedStack g.K.Key.bit_width c.args.left.now.slots c.args.right.now.slots c.args.combination key) (sym left)
          (levels-at combined_depth (IsCombinedSpot g.K.Key.bit_width c.args.left.now.slots c.args.right.now.slots c.args.combination key) 0 _ _ _ last.3 c.loop-combination.invariant.stack).0;
      same = λ both combined.
          ap (combined_pending both key) left
          ∙ from_last-done (combined_still both key) _ _ _ last.3 (last.5.0 both combined)
          ∙ c.loop-combination.invariant.same both combined;
    }
