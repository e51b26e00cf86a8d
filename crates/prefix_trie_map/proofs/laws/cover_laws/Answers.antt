-- The laws of matches hold for any prefixes: `get_lpm` is the last and `get_spm` the first of the covers.
use Rattle.prefix_trie_map.proofs.Covers.{cover_laws}
use Rattle.prefix_trie_map.proofs.laws.cover_laws.Goals as goal

pub returns : goal.returns
returns g c = cover_laws _ _
