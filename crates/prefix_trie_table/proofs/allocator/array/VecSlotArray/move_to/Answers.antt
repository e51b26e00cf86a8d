-- Moving an item is writing the vacant item to its old slot and then the item to its new one, in either order.
use Rattle.prefix_trie_table.proofs.Prelude.{◌≡◌, get_or, set, ◌∙◌, get_or_default}
use Rattle.prefix_trie_table.proofs.Blocks.RunLemmas.{set-comm}
use Rattle.prefix_trie_table.proofs.allocator.array.VecSlotArray.move_to.Goals as goal

pub returns-clause-list : goal.returns-clause-list
returns-clause-list g c =
    let xs = c.args.self.now.items in
    let from = c.args.from in
    let to = c.args.to in
    let vacant : c.replace-value.new.dest ≡ g.S.Slot.vacant = c.replace-value.ensures.after ∙ c.vacant.ensures in
    let here = c.index_mut.result.now in
    let value : c.replace-value.result ≡ get_or xs from g.S.Slot.vacant = c.replace-value.ensures.value ∙ c.index_mut.ensures.value ∙ get_or_default xs from here g.S.Slot.vacant c.requires.from in
    (λ i. set (set xs from (vacant i)) to (value i)) ∙ set-comm xs from to g.S.Slot.vacant (get_or xs from g.S.Slot.vacant) c.requires.other
