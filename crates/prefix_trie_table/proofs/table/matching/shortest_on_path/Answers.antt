-- A later node has longer matches, so the first match that is found on the search path is the shortest.
use Rattle.prefix_trie_table.proofs.Prelude.{◌≡◌, ◌+◌, ◌*◌, take, None, Some, ◌∙◌, subst, arith, NoneHeld, ◌/◌, ap}
use Rattle.prefix_trie_table.proofs.Lookup.SearchPaths.{followed_root, followed_next, last_at_own, path_read, step_left}
use Rattle.prefix_trie_table.proofs.Lookup.NodeMatches.{no_last_bit, none_join, first_left, shortest_behind, shortest_at_last, match_read, along_is}
use Rattle.prefix_trie_table.proofs.table.matching.shortest_on_path.Goals as goal

pub down-init : goal.down-init
down-init g c = record {
  descent = followed_root c.args.path c.root-here.result c.args.nodes.now c.root-here.ensures.level (c.root-here.ensures.along c.args.path) (omega (arith, c.len-last.ensures.len, c.len-last.ensures.short)) _ _ c.root-here.ensures.visits;
  none = λ reading paths hold i from last within. absurd (let top = c.root-here.ensures.level in omega (arith, top));
}

pub shortest_in-requires-clause-shallow : goal.shortest_in-requires-clause-shallow
shortest_in-requires-clause-shallow g c =
    let whole = c.down.invariant.descent.along.whole in
    omega (arith, whole, c.down.invariant.descent.short)

pub shortest_in-requires-clause-few : goal.shortest_in-requires-clause-few
shortest_in-requires-clause-few g c = no_last_bit c.args.path c.down.here c.args.nodes.now c.down.invariant.descent.along c.requires.sound.0 c.requires.sound.1

pub shortest_in-requires-in-down-clause-few : goal.shortest_in-requires-in-down-clause-few
shortest_in-requires-in-down-clause-few g c = no_last_bit c.args.path c.down.here c.args.nodes.now c.down.invariant.descent.along c.requires.sound.0 c.requires.sound.1

pub returns-then-here-last : goal.returns-then-here-last
returns-then-here-last g c =
    let q = c.args.path in
    let at = c.down.invariant in
    let last = last_at_own q c.down.here c.args.nodes.now at.descent.along _ (ap (λ n. n / 5) c.len-last.ensures.len) (omega (arith, c.if-here-last.true)) in
    record {
      found = λ reading paths hold. shortest_at_last q c.down.here c.args.nodes.now last reading paths hold c.shortest_in.result (at.none reading paths hold)
          (λ nodes. c.shortest_in.ensures.found q nodes at.descent.along.whole (ap (take 4) at.descent.rest_is));
      visits = match_read q c.args.nodes.now c.down.here.level _ _ c.shortest_in.result c.shortest_in.ensures.own at.descent.counted (path_read q c.down.here c.args.nodes.now last _ _ at.descent.counted);
    }

pub returns-in-Some-clause-found : goal.returns-in-Some-clause-found
returns-in-Some-clause-found g c = λ reading paths hold.
    let q = c.args.path in
    let at = c.down.invariant in
    let level = c.down.here.level in
    shortest_behind reading q 0 (5 * level) (5 * level + 5) (at.none reading paths hold) (Some c.in-Some.found)
    (c.in-Some.ensures.found q reading at.descent.along.whole (first_left c.first.ensures at.descent.rest_is) (along_is q c.down.here c.args.nodes.now at.descent.along reading paths hold))

pub returns-in_default-step_to_child : goal.returns-in_default-step_to_child
returns-in_default-step_to_child g c =
    let q = c.args.path in
    let at = c.down.invariant in
    let last = c.in_default-step_to_child.ensures.step q at.descent.along at.descent.rest_is in
    record {
      found = λ reading paths hold. shortest_at_last q c.down.here c.args.nodes.now last reading paths hold None (at.none reading paths hold)
          (λ nodes. c.in_default.ensures.found q nodes at.descent.along.whole (first_left c.first.ensures at.descent.rest_is));
      visits = path_read q c.down.here c.args.nodes.now last _ _ (c.in_default-step_to_child.ensures.visits ∙ at.descent.counted);
    }

pub down-preserved : goal.down-preserved
down-preserved g c =
    let q = c.args.path in
    let at = c.down.invariant in
    let next = c.in-Some-step_to_child.ensures.step q at.descent.along at.descent.rest_is in
    let level = c.down.here.level in
    rw c.after_five-rest.ensures (record {
      descent = followed_next q c.down.here c.in-Some-step_to_child.next c.args.nodes.now _ _ _ _ at.descent next c.in-Some-step_to_child.ensures.visits;
      none = λ reading paths hold.
          let is = along_is q c.down.here c.args.nodes.now at.descent.along reading paths hold in
          let more : 5 * level + 5 ≡ 5 * c.in-Some-step_to_child.next.level = omega (arith, next.0) in
          subst (NoneHeld reading q 0) more (none_join reading q 0 (5 * level) (5 * level + 5) (at.none reading paths hold) (c.in_default.ensures.found q reading at.descent.along.whole (first_left c.first.ensures at.descent.rest_is) is));
    })

-- goals whose proofs `search` takes seconds to find

pub first-requires : goal.first-requires
first-requires g c =
    let five = step_left c.args.path c.down.rest c.down.here.level _ c.down.invariant.descent.rest_is (ap (λ n. n / 5) c.len-last.ensures.len) (omega (arith, c.if-here-last.false)) in
    omega (arith, five)

pub shortest_in-requires-in-down-clause-shallow : goal.shortest_in-requires-in-down-clause-shallow
shortest_in-requires-in-down-clause-shallow g c =
    let whole = c.down.invariant.descent.along.whole in
    omega (arith, whole, c.down.invariant.descent.short)

pub step_to_child-requires-clause-along : goal.step_to_child-requires-clause-along
step_to_child-requires-clause-along g c =
    let at = c.down.invariant.descent in
    let five = step_left c.args.path c.down.rest c.down.here.level _ c.down.invariant.descent.rest_is (ap (λ n. n / 5) c.len-last.ensures.len) (omega (arith, c.if-here-last.false)) in
    (c.args.path, at.along, at.rest_is, at.short, five)

pub after_five-rest-requires : goal.after_five-rest-requires
after_five-rest-requires g c = step_left c.args.path c.down.rest c.down.here.level _ c.down.invariant.descent.rest_is (ap (λ n. n / 5) c.len-last.ensures.len) (omega (arith, c.if-here-last.false))

pub down-smaller : goal.down-smaller
down-smaller g c =
    let at = c.down.invariant.descent in
    let next = c.in-Some-step_to_child.ensures.step c.args.path at.along at.rest_is in
    omega (arith, next.0, next.1.whole)
