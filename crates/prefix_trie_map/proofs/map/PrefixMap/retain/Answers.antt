-- Dropping the state in which the test is left gives what is kept.
use Rattle.prefix_trie_bits.proofs.Model.RetainCalls.{retains-from_to}
use Rattle.prefix_trie_map.proofs.Prelude.{CalledAtEntry}
use Rattle.prefix_trie_map.proofs.map.PrefixMap.retain.Goals as goal

pub returns-clause-kept : goal.returns-clause-kept
returns-clause-kept g c = retains-from_to (CalledAtEntry g.F.FnMut g.P.Prefix.back) c.args.test _ _ _ c.retain_by_ref.ensures.kept
