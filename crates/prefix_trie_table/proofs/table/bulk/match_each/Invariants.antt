-- The invariant of `match_each`: each search is at the node of its level or has its match, and the reads so far are counted.
use Rattle.prefix_trie_table.proofs.Prelude.{◌≡◌, ◌+◌, ◌-◌, ◌*◌, ◌≤◌, All, List, ℕ, length, map, take, sum, sum_by, HaveMatches, AreCosts, cost_of, question_of}
use Rattle.prefix_trie_table.specs.Bulk.{IsDescent}
use Rattle.prefix_trie_table.proofs.table.bulk.match_each.Given as goal

abbrev pub invariant-round : goal.invariant-round
invariant-round g l = record {
  few : l.left ≤ 32;
  space : (length l.descents ≡ 32) × (length l.read ≡ 32);
  descents : All (IsDescent l.nodes (map g.P.Prefix.path l.prefixes) l.level) (take l.left l.descents);
  matched : HaveMatches l.nodes (map g.P.Prefix.path l.prefixes) (map question_of (take l.left l.descents)) l.found;
  counted : (costs : List ℕ) → length costs ≡ length l.prefixes → AreCosts l.nodes (map g.P.Prefix.path l.prefixes) costs
      → g.V.VisitCounter.count l.counter + sum_by (cost_of costs) (take l.left l.descents) ≡ g.V.VisitCounter.count l.fn.counter + sum costs + l.left * l.level;
}

abbrev pub decreases-round : goal.decreases-round
decreases-round g l = g.P.R.Key.bit_width + 5 - 5 * l.level
