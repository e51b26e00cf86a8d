-- The laws of listed prefixes follow from the laws of `Prefix`: what `back` returns for a key fits.
use Rattle.prefix_trie_map.proofs.Listed.{listed_laws}
use Rattle.prefix_trie_map.proofs.laws.listed_laws.Goals as goal

pub returns : goal.returns
returns g c = listed_laws g.met.P.Prefix.prefix_laws _
