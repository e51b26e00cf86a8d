-- Exchanging a used run with a vacant one moves a block's list to an empty block, so the store stays sound.
use Rattle.prefix_trie_table.proofs.Prelude.{◌≡◌, sym, ap, ◌∙◌, swap_runs}
use Rattle.prefix_trie_table.proofs.Blocks.Capacity.{Sound-capacities}
use Rattle.prefix_trie_table.proofs.Blocks.ListMoves.{Sound-moved}
use Rattle.prefix_trie_table.proofs.allocator.blocks.Blocks.move_items.Goals as goal

pub returns-clause-sound : goal.returns-clause-sound
returns-clause-sound g c = λ a b live s from to count none space.
    let xs = (g.R.SlotArray.list c.self.inside.slots) in
    let written : (g.R.SlotArray.list c.move_run.new.slots) ≡ swap_runs xs a.start b.start c.args.count = c.move_run.ensures.items ∙ ap (λ n. swap_runs xs n c.args.to c.args.count) (sym from) ∙ ap (λ n. swap_runs xs a.start n c.args.count) (sym to) in
    rw written (Sound-capacities g.S.Slot.vacant _ _ (g.R.SlotArray.capacities c.move_run.new.slots) (Sound-moved g.S.Slot.vacant a b live _ none (rw (← c.self.view_is) at s) c.args.count count space))
