-- The laws of pages follow from the laws of `Prefix`: what comes after an item comes after its key.
use Rattle.prefix_trie.proofs.Paging.{page_laws}
use Rattle.prefix_trie.proofs.laws.page_laws.Goals as goal

pub returns : goal.returns
returns g c = page_laws g.met.P.Prefix.prefix_laws _
