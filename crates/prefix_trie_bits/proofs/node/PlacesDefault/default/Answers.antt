-- A listing without bits has no places to come.
use Rattle.prefix_trie_bits.proofs.Prelude.{strings}
use Rattle.prefix_trie_bits.proofs.Picks.{pick-none}
use Rattle.prefix_trie_bits.proofs.node.PlacesDefault.default.Goals as goal

pub returns : goal.returns
returns c = pick-none (strings 5)
