-- One more address that is listed has the value of its range.
use Rattle.std.proofs.Common.{◌≢◌, ◌∙◌, ◌+◌, ◌<◌, ap, arith, get_or, length, subst}
use Rattle.std.proofs.lemmas.List.{get_or-set_other}
use Rattle.prefix_trie_fib.specs.Line.{IsDivision}
use Rattle.prefix_trie_fib.proofs.Groups.{stored_next}
use Rattle.prefix_trie_fib.proofs.indexed.Indexed.store_listed.Goals as goal

pub loop-j-preserved : goal.loop-j-preserved
loop-j-preserved g c =
    let from = c.args.from in
    let listed = c.args.listed.now in
    let j = c.loop-j.j in
    let place = get_or listed.places j 0 in
    let old = c.loop-j.out in
    let x = c.value.result in
    let inside : from + place < length old = (let low = c.requires.inside j 0 c.loop-j-test.true in omega (arith, low, c.loop-j.auto.out)) in
    record {
      kept = λ k v lt. (let other : k ≢ from + place = omega (arith, lt) in get_or-set_other old (from + place) k x v other ∙ c.loop-j.invariant.kept k v lt);
      found = λ addresses k right before.
          stored_next g.K.Key.bits c.args.self.now addresses listed.places listed.ranges (subst IsDivision c.self.view_is c.self.invariant.1.division) listed.count from j old x inside c.loop-j-test.true
          (λ d. c.value.ensures d ∙ ap (λ rs. (get_or rs (get_or listed.ranges j 0) d).1) c.self.view_is)
          right k (c.loop-j.invariant.found addresses k right before);
    }
