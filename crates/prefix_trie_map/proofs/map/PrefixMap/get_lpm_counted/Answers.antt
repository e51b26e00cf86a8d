-- The reads of `find_longest` are the nodes on the prefix's search path, even below the match.
use Rattle.prefix_trie_map.proofs.Prelude.{◌∙◌}
use Rattle.prefix_trie_map.proofs.Lookups.{reads_path}
use Rattle.prefix_trie_map.proofs.map.PrefixMap.get_lpm_counted.Goals as goal

pub returns-clause-reads : goal.returns-clause-reads
returns-clause-reads g c =
    reads_path g.P.R.Key.bit_width c.self.inside.table c.args.self.now c.self.view_is c.self.invariant _ (g.P.Prefix.path c.args.prefix.now)
    (c.copy.ensures ∙ c.path-path.ensures.path) _ _ c.new-visits.ensures c.find_longest-longest.ensures.visits
