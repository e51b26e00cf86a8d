-- The loop of lookups one by one: each result is right for its prefix, and the nodes read are counted.
use Rattle.prefix_trie_map.proofs.Prelude.{◌<◌, length, refl, sym, subst, arith, right_for}
use Rattle.prefix_trie_map.proofs.Bulk.{matched_all, matched_more, read_all, reads_one, right_match}
use Rattle.prefix_trie_map.proofs.Lookups.{found_within}
use Rattle.prefix_trie_map.proofs.map.bulk.match_one_by_one.Goals as goal

pub loop-i-preserved : goal.loop-i-preserved
loop-i-preserved g c =
    let i = c.loop-i.i in
    let p = c.index-prefixes-i.result in
    let ps = c.args.prefixes.now in
    let entries = c.args.table.now.entries in
    let inside : i < length ps = c.loop-i-test.true in
    record {
      matched = matched_more g.X.BulkResult.shows (right_for g.X.BulkResult.right g.P.Prefix.path entries) ps c.loop-i.out i _ c.loop-i.invariant.matched (omega arith)
          (omega (arith, inside, c.requires.same_length, c.loop-i.auto.out)) inside p c.index-prefixes-i.is c.of_match.result
          (right_match entries g.X.BulkResult.right (g.P.R.Key.bits c.key.result) c.path-path.result (g.P.Prefix.path p) c.key.ensures.bits c.path-path.ensures.path
          c.find_longest.result c.find_longest.ensures.value _ c.of_match.ensures);
      read = reads_one g.P.Prefix.path c.args.table.now.nodes ps i inside p c.index-prefixes-i.is _ c.path-path.ensures.path c.args.visits.now c.loop-i.visits _ c.loop-i.invariant.read c.find_longest.ensures.visits;
    }

pub loop-i-init : goal.loop-i-init
loop-i-init g c = record { matched = refl; read = omega arith }

pub bounds-prefixes-i : goal.bounds-prefixes-i
bounds-prefixes-i g c = c.loop-i-test.true

pub bounds-out-i : goal.bounds-out-i
bounds-out-i g c = omega (arith, c.loop-i-test.true, c.requires.same_length, c.loop-i.auto.out)

pub path-path-requires : goal.path-path-requires
path-path-requires g c = subst g.P.Prefix.IsFitting (sym c.index-prefixes-i.is) (c.requires.fit c.loop-i.i c.index-prefixes-i.result c.loop-i-test.true)

pub of_match-requires : goal.of_match-requires
of_match-requires g c = λ k. ((refl, tt), (c.key.ensures.key, found_within c.path-path.result g.P.R.Key.bit_width c.key.ensures.within _ c.find_longest.result c.find_longest.ensures.value))

pub returns : goal.returns
returns g c =
    let out = c.loop-i.out in
    let ps = c.args.prefixes.now in
    let all = c.loop-i-test.false in
    record {
      results = matched_all g.X.BulkResult.shows (right_for g.X.BulkResult.right g.P.Prefix.path c.args.table.now.entries) ps out c.loop-i.i c.loop-i.invariant.matched all
          (omega (arith, all, c.requires.same_length, c.loop-i.auto.out));
      visits = read_all g.P.Prefix.path c.args.table.now.nodes ps c.loop-i.i c.args.visits.now c.loop-i.visits c.loop-i.invariant.read all;
    }
