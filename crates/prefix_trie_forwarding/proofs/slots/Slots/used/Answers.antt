-- Each group is free or that of a block.
use Rattle.std.proofs.Common.{arith}
use Rattle.prefix_trie_forwarding.proofs.slots.Slots.used.Goals as goal

pub returns : goal.returns
returns g c = λ blocks has. (let e = c.args.self.now.sound.counted blocks has in omega (arith, e))
