-- Shifting the items after the removed one back leaves a vacant slot at the end of its block, so the store stays sound.
use Rattle.prefix_trie_table.proofs.Prelude.{◌≡◌, ◌+◌, ◌-◌, get_or, insert, remove, arith, sym, ap, ◌∙◌}
use Rattle.prefix_trie_table.proofs.Blocks.Capacity.{Sound-capacities}
use Rattle.prefix_trie_table.proofs.Blocks.Soundness.{Sound-removed, slot_of_block}
use Rattle.prefix_trie_table.proofs.allocator.blocks.Blocks.remove_within.Goals as goal

pub returns-clause-value : goal.returns-clause-value
returns-clause-value g c = λ b live s starts count.
    let out = c.remove_shifting in
    out.ensures.value ∙ ap (λ n. get_or (g.R.SlotArray.list c.self.inside.slots) (n + c.args.offset) out.result) (sym starts) ∙ slot_of_block g.S.Slot.vacant b live _ c.args.offset out.result (omega (arith, c.requires.offset)) (rw (← c.self.view_is) at s)

pub returns-clause-sound : goal.returns-clause-sound
returns-clause-sound g c = λ b live s starts count.
    let xs = (g.R.SlotArray.list c.self.inside.slots) in
    let new = c.remove_shifting.new.self in
    let written : g.R.SlotArray.list new ≡ insert (remove xs (b.start + c.args.offset)) (b.start + c.args.count - 1) g.S.Slot.vacant = c.remove_shifting.ensures.list ∙ ap (λ n. insert (remove xs (n + c.args.offset)) (n + c.args.count - 1) g.S.Slot.vacant) (sym starts) in
    rw written (Sound-capacities g.S.Slot.vacant _ _ (g.R.SlotArray.capacities new) (Sound-removed g.S.Slot.vacant b live _ c.args.count c.args.offset count c.requires.offset (rw (← c.self.view_is) at s)))
