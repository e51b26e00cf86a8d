-- The laws of `Narrow` are the laws of numbers with its width.
use Rattle.prefix_trie.proofs.Prelude.{narrow_width}
use Rattle.prefix_trie.proofs.Networks.{number_laws}
use Rattle.prefix_trie.proofs.laws.narrow_laws.Goals as goal

pub returns : goal.returns
returns g c = number_laws (narrow_width g.row.W)
