-- The loop over groups of lookups: all results so far are right, and the nodes read are counted.
use Rattle.prefix_trie_map.proofs.Prelude.{refl, arith, right_for}
use Rattle.prefix_trie_map.proofs.Bulk.{matched_all, read_all}
use Rattle.prefix_trie_map.proofs.map.bulk.match_in_groups.Goals as goal

pub groups-init : goal.groups-init
groups-init g c = record { within = omega arith; matched = refl; read = omega arith }

pub groups-preserved : goal.groups-preserved
groups-preserved g c =
    let group = c.match_group-from.ensures in
    record {
      within = group.group.1;
      matched = group.results c.groups.invariant.matched;
      read = omega (arith, c.groups.invariant.read, group.visits);
    }

pub groups-smaller : goal.groups-smaller
groups-smaller g c = omega (arith, c.match_group-from.ensures.group.0, c.match_group-from.ensures.group.1)

pub returns : goal.returns
returns g c =
    let ps = c.args.prefixes.now in
    let all = c.groups-test.false in
    record {
      results = matched_all g.X.BulkResult.shows (right_for g.X.BulkResult.right g.P.Prefix.path c.args.table.now.entries) ps c.groups.out c.groups.from c.groups.invariant.matched all
          (omega (arith, all, c.requires.same_length, c.groups.auto.out));
      visits = read_all g.P.Prefix.path c.args.table.now.nodes ps c.groups.from c.args.visits.now c.groups.visits c.groups.invariant.read all;
    }
