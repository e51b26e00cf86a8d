-- The loop that turns the matches of a group of lookups into results: each result is right for its prefix.
use Rattle.prefix_trie_map.proofs.Prelude.{◌≡◌, ◌+◌, ◌<◌, None, length, get_or, refl, sym, subst, arith, get_or_default, IsMatchFound, HaveMatches, right_for}
use Rattle.prefix_trie_map.proofs.Lookups.{found_within}
use Rattle.prefix_trie_map.proofs.Bulk.{matched_more, right_match}
use Rattle.prefix_trie_map.proofs.map.bulk.match_group.Goals as goal

pub value_found-requires : goal.value_found-requires
value_found-requires g c =
    let i = c.loop-i.i in
    let found = c.find_group-count.new.found in
    let p = c.index-prefixes-from.result in
    let inside : i < length found = omega (arith, c.loop-i-test.true, c.find_group-count.ensures.group.1, c.find_group-count.ensures.length) in
    let a = get_or found i None in
    subst (λ q. IsMatchFound c.args.table.now.build q a) (sym c.path-path.ensures.path)
    (c.find_group-count.ensures.found i p a c.loop-i-test.true c.index-prefixes-from.is (get_or_default found i None a inside))

pub loop-i-preserved : goal.loop-i-preserved
loop-i-preserved g c = λ so_far.
    let n = c.args.from + c.loop-i.i in
    let p = c.index-prefixes-from.result in
    let entries = c.args.table.now.entries in
    let inside : n < length c.args.prefixes.now = omega (arith, c.loop-i-test.true, c.find_group-count.ensures.group.2) in
    matched_more g.X.BulkResult.shows (right_for g.X.BulkResult.right g.P.Prefix.path entries) c.args.prefixes.now c.loop-i.out n _ (c.loop-i.invariant so_far) (omega arith)
    (omega (arith, inside, c.requires.same_length, c.loop-i.auto.out)) inside p c.index-prefixes-from.is c.of_match.result
    (right_match entries g.X.BulkResult.right (g.P.R.Key.bits c.key.result) c.path-path.result (g.P.Prefix.path p) c.key.ensures.bits c.path-path.ensures.path
    c.value_found.result c.value_found.ensures _ c.of_match.ensures)

pub of_match-requires : goal.of_match-requires
of_match-requires g c = λ k. ((refl, tt), (c.key.ensures.key, found_within c.path-path.result g.P.R.Key.bit_width c.key.ensures.within _ c.value_found.result c.value_found.ensures))

pub path-path-requires : goal.path-path-requires
path-path-requires g c =
    let inside : c.args.from + c.loop-i.i < length c.args.prefixes.now = omega (arith, c.loop-i-test.true, c.find_group-count.ensures.group.2) in
    subst g.P.Prefix.IsFitting (sym c.index-prefixes-from.is) (c.requires.fit (c.args.from + c.loop-i.i) c.index-prefixes-from.result inside)

pub loop-i-init : goal.loop-i-init
loop-i-init g c = λ so_far.
    let none : c.args.from ≡ c.args.from + 0 = omega arith in
    subst (HaveMatches g.X.BulkResult.shows (right_for g.X.BulkResult.right g.P.Prefix.path c.args.table.now.entries) c.args.prefixes.now c.args.out.now) none so_far

pub bounds-prefixes-from : goal.bounds-prefixes-from
bounds-prefixes-from g c = omega (arith, c.loop-i-test.true, c.find_group-count.ensures.group.2)

pub loop-i-smaller : goal.loop-i-smaller
loop-i-smaller g c = omega (arith, c.loop-i-test.true)

pub bounds-found-i : goal.bounds-found-i
bounds-found-i g c = omega (arith, c.loop-i-test.true, c.find_group-count.ensures.group.1)

pub bounds-out-from : goal.bounds-out-from
bounds-out-from g c = omega (arith, c.loop-i-test.true, c.find_group-count.ensures.group.2, c.requires.same_length, c.loop-i.auto.out)

pub returns : goal.returns
returns g c =
    let group = c.find_group-count.ensures in
    let all : c.loop-i.i ≡ c.find_group-count.result = omega (arith, c.loop-i-test.false, c.loop-i.auto.i-end) in
    record {
      group = (group.group.0, group.group.2);
      results = λ so_far. subst (λ n. HaveMatches g.X.BulkResult.shows (right_for g.X.BulkResult.right g.P.Prefix.path c.args.table.now.entries) c.args.prefixes.now c.loop-i.out (c.args.from + n)) all
          (c.loop-i.invariant so_far);
      visits = group.visits;
      length = c.loop-i.auto.out;
    }
