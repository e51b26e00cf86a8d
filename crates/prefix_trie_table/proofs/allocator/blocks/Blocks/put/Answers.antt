-- Writing to a slot overwrites one item of one block, or a slot before all blocks. The store stays sound in both cases.
use Rattle.prefix_trie_table.proofs.Prelude.{◌≡◌, ◌+◌, set, ap, ◌∙◌}
use Rattle.prefix_trie_table.proofs.Blocks.Capacity.{Sound-capacities}
use Rattle.prefix_trie_table.proofs.Blocks.Soundness.{Sound-set, Sound-set_before}
use Rattle.prefix_trie_table.proofs.allocator.blocks.Blocks.put.Goals as goal

pub returns-clause-sound : goal.returns-clause-sound
returns-clause-sound g c = λ b live offset s is within.
    let xs = g.R.SlotArray.list c.self.inside.slots in
    let written : g.R.SlotArray.list c.put.new.self ≡ set xs (b.start + offset) c.args.value = c.put.ensures.list ∙ ap (λ n. set xs n c.args.value) is in
    rw written (Sound-capacities g.S.Slot.vacant _ _ (g.R.SlotArray.capacities c.put.new.self) (Sound-set g.S.Slot.vacant b live _ offset c.args.value within (rw (← c.self.view_is) at s)))

pub returns-clause-before : goal.returns-clause-before
returns-clause-before g c = λ live before s.
    rw c.put.ensures.list (Sound-capacities g.S.Slot.vacant _ _ (g.R.SlotArray.capacities c.put.new.self) (Sound-set_before g.S.Slot.vacant live _ c.args.slot c.args.value (rw (← c.self.view_is) at before) (rw (← c.self.view_is) at s)))
