-- The laws of joining two maps by a loop follow from the laws of `Prefix`: the path of each item is its key.
use Rattle.prefix_trie.proofs.Joining.{join_laws}
use Rattle.prefix_trie.proofs.laws.join_laws.Goals as goal

pub returns : goal.returns
returns g c = join_laws g.met.P.Prefix.prefix_laws _
