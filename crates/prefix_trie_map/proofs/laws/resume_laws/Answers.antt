-- The laws of resumed walks follow from the laws of `Prefix`: the path of the last item read is its key.
use Rattle.prefix_trie_map.proofs.Resumed.{resume_laws}
use Rattle.prefix_trie_map.proofs.laws.resume_laws.Goals as goal

pub returns : goal.returns
returns g c = resume_laws g.met.P.Prefix.prefix_laws _
