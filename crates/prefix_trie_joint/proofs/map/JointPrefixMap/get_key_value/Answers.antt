-- The result is that of the family's map.
use Rattle.std.proofs.Common.{◌∙◌, true, false, ap, sym}
use Rattle.prefix_trie_joint.specs.Networks.{ip_path}
use Rattle.prefix_trie_joint.proofs.Matches.{stored_pair}
use Rattle.prefix_trie_joint.proofs.map.JointPrefixMap.get_key_value.Goals as goal

pub returns-in-V4 : goal.returns-in-V4
returns-in-V4 g c = c.of_either.ensures ∙ stored_pair false _ _ _ _ (ap ip_path (sym c.in-V4.is)) _ c.get_key_value.ensures

pub returns-in-V6 : goal.returns-in-V6
returns-in-V6 g c = c.of_either-in-V6.ensures ∙ stored_pair true _ _ _ _ (ap ip_path (sym c.in-V6.is)) _ c.get_key_value-in-V6.ensures
