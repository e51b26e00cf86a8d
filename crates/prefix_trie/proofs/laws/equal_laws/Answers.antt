-- The laws of `==` follow from the laws of `Prefix`: two maps with the same listing have the same entries.
use Rattle.prefix_trie.proofs.Comparing.{equal_laws}
use Rattle.prefix_trie.proofs.laws.equal_laws.Goals as goal

pub returns : goal.returns
returns g c = equal_laws g.met.P.Prefix.prefix_laws _
