-- The laws of copying entries by a loop follow from the laws of `Prefix`: the path of each item is its key.
use Rattle.prefix_trie.proofs.Putting.{put_laws}
use Rattle.prefix_trie.proofs.laws.put_laws.Goals as goal

pub returns : goal.returns
returns g c = put_laws g.met.P.Prefix.prefix_laws _
