-- The byte selects the slot.
use Rattle.std.proofs.Common.{arith}
use Rattle.prefix_trie_forwarding.proofs.slots.reading.next_slot.Goals as goal

pub returns : goal.returns
returns c = λ q byte. omega (arith, c.power.ensures, byte)
