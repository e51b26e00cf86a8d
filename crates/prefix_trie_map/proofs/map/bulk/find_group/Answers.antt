-- A group has the matches of the prefixes from an index on, and its reads are added to the reads before.
use Rattle.prefix_trie_map.proofs.Prelude.{arith, length-take-le}
use Rattle.prefix_trie_map.proofs.Bulk.{found_more, reads_more}
use Rattle.prefix_trie_map.proofs.map.bulk.find_group.Goals as goal

pub returns-clause-visits : goal.returns-clause-visits
returns-clause-visits g c =
    reads_more g.P.Prefix.path c.args.table.now.nodes c.args.prefixes.now c.args.from _ c.args.visits.now _ (omega arith) c.find_longest_each.ensures.visits

pub returns-clause-found : goal.returns-clause-found
returns-clause-found g c =
    found_more g.P.Prefix.path c.args.table.now.build c.args.prefixes.now c.args.from c.min-count.result c.find_longest_each.new.found _
    (omega (arith, c.min-count.ensures, c.requires.some)) (omega (arith, c.find_longest_each.ensures.length, c.min-count.ensures, c.requires.space, length-take-le c.min-count.result c.args.found.now)) c.find_longest_each.ensures.results
