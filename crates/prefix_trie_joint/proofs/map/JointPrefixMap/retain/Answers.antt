-- Dropping the state in which the test is left gives what is kept.
use Rattle.prefix_trie_bits.proofs.Model.RetainCalls.{retains-from_to}
use Rattle.prefix_trie_map.specs.Calling.{CalledAtEntry}
use Rattle.prefix_trie_joint.specs.Networks.{ip_back}
use Rattle.prefix_trie_joint.proofs.map.JointPrefixMap.retain.Goals as goal

pub returns-clause-kept : goal.returns-clause-kept
returns-clause-kept g c = retains-from_to (CalledAtEntry g.F.FnMut ip_back) c.args.test _ _ _ c.retain_by_ref.ensures.kept
