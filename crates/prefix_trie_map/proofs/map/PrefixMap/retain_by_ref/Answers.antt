-- Testing all entries leaves the nodes that the remaining keys need, so the map keeps its invariant.
use Rattle.prefix_trie_map.proofs.Prelude.{state}
use Rattle.prefix_trie_map.proofs.Calling.{IsMap-tidied}
use Rattle.prefix_trie_map.proofs.map.PrefixMap.retain_by_ref.Goals as goal

pub invariant_of-self : goal.invariant_of-self
invariant_of-self g c = IsMap-tidied g.P.R.Key.bit_width (state c.retain_in_table.new.table) c.retain_in_table.ensures.fits c.retain_in_table.ensures.step.nodes
