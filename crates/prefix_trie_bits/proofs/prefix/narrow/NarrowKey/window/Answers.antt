-- The window of a narrow key is the window of its number, so the contract of `window_of` is all that is needed.
use Rattle.prefix_trie_bits.proofs.Prelude.{rules}
use Rattle.prefix_trie_bits.proofs.prefix.narrow.NarrowKey.window.Goals as goal

pub returns : goal.returns
returns g c = search rules
