-- The laws of networks are the laws of numbers with 32 and with 128 bits.
use Rattle.prefix_trie.proofs.Networks.{network_laws}
use Rattle.prefix_trie.proofs.laws.network_laws.Goals as goal

pub returns : goal.returns
returns c = network_laws
