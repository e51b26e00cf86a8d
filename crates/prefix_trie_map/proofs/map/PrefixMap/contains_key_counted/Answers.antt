-- Locating a value reads the nodes on the prefix's search path, whether it is stored or missing.
use Rattle.prefix_trie_map.proofs.Prelude.{rules}
use Rattle.prefix_trie_map.proofs.Lookups.{reads_path}
use Rattle.prefix_trie_map.proofs.map.PrefixMap.contains_key_counted.Goals as goal

pub returns-in-Stored-clause-value : goal.returns-in-Stored-clause-value
returns-in-Stored-clause-value g c = search rules

pub returns-in-Stored-clause-reads : goal.returns-in-Stored-clause-reads
returns-in-Stored-clause-reads g c =
    reads_path g.P.R.Key.bit_width c.self.inside.table c.args.self.now c.self.view_is c.self.invariant _ (g.P.Prefix.path c.args.prefix.now)
    c.path.ensures.path _ _ c.new-visits.ensures c.locate.ensures.visits

pub returns-in-Missing-clause-reads : goal.returns-in-Missing-clause-reads
returns-in-Missing-clause-reads g c =
    reads_path g.P.R.Key.bit_width c.self.inside.table c.args.self.now c.self.view_is c.self.invariant _ (g.P.Prefix.path c.args.prefix.now)
    c.path.ensures.path _ _ c.new-visits.ensures c.locate.ensures.visits
