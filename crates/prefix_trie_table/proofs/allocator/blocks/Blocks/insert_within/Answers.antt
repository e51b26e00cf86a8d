-- Shifting the items after the new one into the block's vacant slot changes only that block, so the store stays sound.
use Rattle.prefix_trie_table.proofs.Prelude.{◌≡◌, ◌+◌, insert, remove, sym, ap, ◌∙◌}
use Rattle.prefix_trie_table.proofs.Blocks.Capacity.{Sound-capacities}
use Rattle.prefix_trie_table.proofs.Blocks.Soundness.{Sound-inserted}
use Rattle.prefix_trie_table.proofs.allocator.blocks.Blocks.insert_within.Goals as goal

pub returns-clause-sound : goal.returns-clause-sound
returns-clause-sound g c = λ b live s starts count space.
    let xs = (g.R.SlotArray.list c.self.inside.slots) in
    let written : (g.R.SlotArray.list c.insert_shifting.new.self) ≡ insert (remove xs (b.start + c.args.count)) (b.start + c.args.offset) c.args.value = c.insert_shifting.ensures.list ∙ ap (λ n. insert (remove xs (n + c.args.count)) (n + c.args.offset) c.args.value) (sym starts) in
    rw written (Sound-capacities g.S.Slot.vacant _ _ (g.R.SlotArray.capacities c.insert_shifting.new.self) (Sound-inserted g.S.Slot.vacant b live _ c.args.count c.args.offset c.args.value count space c.requires.offset (rw (← c.self.view_is) at s)))
