-- A store without blocks is sound, and its tiers have the sizes that it was given.
use Rattle.prefix_trie_table.proofs.Prelude.{arith}
use Rattle.prefix_trie_table.proofs.Blocks.Soundness.{no_slots_made, Sound-new}
use Rattle.prefix_trie_table.proofs.allocator.blocks.Blocks.new.Goals as goal

pub invariant_of-result : goal.invariant_of-result
invariant_of-result g c = (c.requires.within, omega (arith, no_slots_made c.args.lists.items c.requires.none_made, c.count-first.ensures), c.requires.sizes)

pub returns-clause-sound : goal.returns-clause-sound
returns-clause-sound g c = Sound-new g.S.Slot.vacant _ (c.count-first.ensures) c.requires.none_made
