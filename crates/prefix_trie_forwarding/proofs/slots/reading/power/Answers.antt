-- A shifted 1.
use Rattle.std.proofs.Common.{arith}
use Rattle.std.proofs.lemmas.Nat.{one_shl}
use Rattle.prefix_trie_forwarding.proofs.slots.reading.power.Goals as goal

pub returns : goal.returns
returns c = one_shl c.args.bits 64 (omega (arith, c.requires))
