-- The ones under a mask of k bits are the bits that are set below k.
use Rattle.prefix_trie_bits.proofs.Ranks.{rank_is}
use Rattle.prefix_trie_bits.proofs.node.bits.rank.Goals as goal

pub returns : goal.returns
returns c = rank_is c.args.bitmap c.args.k c.requires
