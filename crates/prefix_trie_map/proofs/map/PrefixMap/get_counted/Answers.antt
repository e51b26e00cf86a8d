-- The reads that the table counts are the nodes on the prefix's search path.
use Rattle.prefix_trie_map.proofs.Lookups.{reads_path}
use Rattle.prefix_trie_map.proofs.map.PrefixMap.get_counted.Goals as goal

pub returns-clause-reads : goal.returns-clause-reads
returns-clause-reads g c =
    reads_path g.P.R.Key.bit_width c.self.inside.table c.args.self.now c.self.view_is c.self.invariant _ (g.P.Prefix.path c.args.prefix.now)
    c.path.ensures.path _ _ c.new-visits.ensures c.find-answer.ensures.visits
