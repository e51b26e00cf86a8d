-- A prefix is covered if it has a shortest match, so `get_spm_counted` counts the reads.
use Rattle.prefix_trie_map.proofs.map.PrefixMap.is_covered_counted.Goals as goal

pub returns-clause-reads : goal.returns-clause-reads
returns-clause-reads g c = c.get_spm_counted-shortest.ensures.reads
