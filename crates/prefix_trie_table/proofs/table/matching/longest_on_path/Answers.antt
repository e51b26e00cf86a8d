-- A later node has longer matches, so the last match that is found on the search path is the longest.
use Rattle.prefix_trie_table.proofs.Prelude.{◌≡◌, ◌+◌, ◌*◌, ◌/◌, take, ap, ◌∙◌, subst, arith, LongestHeld}
use Rattle.prefix_trie_table.proofs.Lookup.SearchPaths.{followed_root, followed_next, last_at_own, path_read, step_left}
use Rattle.prefix_trie_table.proofs.Lookup.NodeMatches.{no_last_bit, first_left, best_now, best_at_last}
use Rattle.prefix_trie_table.proofs.table.matching.longest_on_path.Goals as goal

pub down-init : goal.down-init
down-init g c = record {
  descent = followed_root c.args.path c.root-here.result c.args.nodes.now c.root-here.ensures.level (c.root-here.ensures.along c.args.path) (omega (arith, c.len-last.ensures.len, c.len-last.ensures.short)) _ _ c.root-here.ensures.visits;
  best = λ reading paths hold i from last within. absurd (let top = c.root-here.ensures.level in omega (arith, top));
}

pub longest_in-requires-clause-shallow : goal.longest_in-requires-clause-shallow
longest_in-requires-clause-shallow g c =
    let whole = c.down.invariant.descent.along.whole in
    omega (arith, whole, c.down.invariant.descent.short)

pub longest_in-requires-clause-few : goal.longest_in-requires-clause-few
longest_in-requires-clause-few g c = no_last_bit c.args.path c.down.here c.args.nodes.now c.down.invariant.descent.along c.requires.sound.0 c.requires.sound.1

pub longest_in-requires-in-down-clause-few : goal.longest_in-requires-in-down-clause-few
longest_in-requires-in-down-clause-few g c = no_last_bit c.args.path c.down.here c.args.nodes.now c.down.invariant.descent.along c.requires.sound.0 c.requires.sound.1

pub returns-then-here-last : goal.returns-then-here-last
returns-then-here-last g c =
    let q = c.args.path in
    let at = c.down.invariant in
    let last = last_at_own q c.down.here c.args.nodes.now at.descent.along _ (ap (λ n. n / 5) c.len-last.ensures.len) (omega (arith, c.if-here-last.true)) in
    record {
      found = λ reading paths hold. best_at_last q c.down.here c.args.nodes.now last reading paths hold c.or.result
          (best_now q c.down.here c.args.nodes.now at.descent.along reading paths hold c.down.best c.longest_in.result c.or.result (at.best reading paths hold)
          (λ nodes. c.longest_in.ensures q nodes at.descent.along.whole (ap (take 4) at.descent.rest_is)) c.or.ensures);
      visits = path_read q c.down.here c.args.nodes.now last _ _ at.descent.counted;
    }

pub returns-in_default : goal.returns-in_default
returns-in_default g c =
    let q = c.args.path in
    let at = c.down.invariant in
    let last = c.in_default.ensures.step q at.descent.along at.descent.rest_is in
    record {
      found = λ reading paths hold. best_at_last q c.down.here c.args.nodes.now last reading paths hold c.or-best.result
          (best_now q c.down.here c.args.nodes.now at.descent.along reading paths hold c.down.best c.longest_in-in-down.result c.or-best.result (at.best reading paths hold)
          (λ nodes. c.longest_in-in-down.ensures q nodes at.descent.along.whole (first_left c.first.ensures at.descent.rest_is)) c.or-best.ensures);
      visits = path_read q c.down.here c.args.nodes.now last _ _ (c.in_default.ensures.visits ∙ at.descent.counted);
    }

pub down-preserved : goal.down-preserved
down-preserved g c =
    let q = c.args.path in
    let at = c.down.invariant in
    let next = c.in-Some.ensures.step q at.descent.along at.descent.rest_is in
    rw c.after_five-rest.ensures (record {
      descent = followed_next q c.down.here c.in-Some.next c.args.nodes.now _ _ _ _ at.descent next c.in-Some.ensures.visits;
      best = λ reading paths hold.
          let found = best_now q c.down.here c.args.nodes.now at.descent.along reading paths hold c.down.best c.longest_in-in-down.result c.or-best.result (at.best reading paths hold)
          (λ nodes. c.longest_in-in-down.ensures q nodes at.descent.along.whole (first_left c.first.ensures at.descent.rest_is)) c.or-best.ensures in
          let more : 5 * c.down.here.level + 5 ≡ 5 * c.in-Some.next.level = omega (arith, next.0) in
          subst (λ n. LongestHeld reading q 0 n c.or-best.result) more found;
    })

-- goals whose proofs `search` takes seconds to find

pub first-requires : goal.first-requires
first-requires g c =
    let five = step_left c.args.path c.down.rest c.down.here.level _ c.down.invariant.descent.rest_is (ap (λ n. n / 5) c.len-last.ensures.len) (omega (arith, c.if-here-last.false)) in
    omega (arith, five)

pub longest_in-requires-in-down-clause-shallow : goal.longest_in-requires-in-down-clause-shallow
longest_in-requires-in-down-clause-shallow g c =
    let whole = c.down.invariant.descent.along.whole in
    omega (arith, whole, c.down.invariant.descent.short)

pub step_to_child-requires-clause-along : goal.step_to_child-requires-clause-along
step_to_child-requires-clause-along g c =
    let at = c.down.invariant.descent in
    let five = step_left c.args.path c.down.rest c.down.here.level _ c.down.invariant.descent.rest_is (ap (λ n. n / 5) c.len-last.ensures.len) (omega (arith, c.if-here-last.false)) in
    (c.args.path, at.along, at.rest_is, at.short, five)

pub after_five-rest-requires : goal.after_five-rest-requires
after_five-rest-requires g c = step_left c.args.path c.down.rest c.down.here.level _ c.down.invariant.descent.rest_is (ap (λ n. n / 5) c.len-last.ensures.len) (omega (arith, c.if-here-last.false))

pub down-smaller : goal.down-smaller
down-smaller g c =
    let at = c.down.invariant.descent in
    let next = c.in-Some.ensures.step c.args.path at.along at.rest_is in
    omega (arith, next.0, next.1.whole)
