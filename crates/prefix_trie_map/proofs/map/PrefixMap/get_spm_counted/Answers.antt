-- The reads of `find_shortest` are the nodes on the prefix's search path down to the match.
use Rattle.prefix_trie_map.proofs.Prelude.{◌∙◌}
use Rattle.prefix_trie_map.proofs.Lookups.{reads_to_match}
use Rattle.prefix_trie_map.proofs.map.PrefixMap.get_spm_counted.Goals as goal

pub returns-clause-reads : goal.returns-clause-reads
returns-clause-reads g c =
    reads_to_match g.P.R.Key.bit_width c.self.inside.table c.args.self.now c.self.view_is c.self.invariant _ (g.P.Prefix.path c.args.prefix.now)
    (c.copy.ensures ∙ c.path-path.ensures.path) _ _ c.new-visits.ensures c.find_shortest-shortest.ensures.visits
