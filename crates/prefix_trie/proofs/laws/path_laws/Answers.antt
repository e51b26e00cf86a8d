-- The laws of paths are the laws of `Prefix`, stated for callers.
use Rattle.prefix_trie.proofs.Paths.{path_laws}
use Rattle.prefix_trie.proofs.laws.path_laws.Goals as goal

pub returns : goal.returns
returns g c = path_laws g.met.P.Prefix.prefix_laws
