-- A group's results come after those of the groups before.
use Rattle.std.proofs.Common.{◌+◌, ◌≤◌, ◌∙◌, length, drop, arith}
use Rattle.prefix_trie_c.specs.Compiled.{value_at}
use Rattle.prefix_trie_c.specs.Entries.{found_value}
use Rattle.prefix_trie_c.proofs.Groups.{array_long, group_written}
use Rattle.prefix_trie_c.proofs.bulk.lookup_each.Goals as goal

pub groups-preserved : goal.groups-preserved
groups-preserved g c =
    let f = λ (a : g.row.A.Denot). value_at g.P.R.Key.bit_width c.args.fib.now (g.A.Grouped.number_of a) in
    let all = c.args.addresses.now in
    let from = c.groups.from in
    let count = c.min-count.result in
    let fits : from + count ≤ length all = omega (arith, c.min-count.ensures, c.groups-test.true) in
    let array : count ≤ length c.groups.found = omega (arith, c.min-count.ensures, c.groups.invariant.long) in
    record {
      long = array_long f all c.look_up.new.found from count fits c.look_up.ensures c.groups.found array ∙ c.groups.invariant.long;
      same_length = c.write_from.ensures.length ∙ c.groups.invariant.same_length;
      within = fits;
      written = group_written f all c.look_up.new.found from count fits c.look_up.ensures found_value c.groups.results c.write_from.new.results (drop count c.groups.found) c.groups.invariant.written c.write_from.ensures.written;
    }
