-- After `clear` only the slots before the first block are left and no tier has a block, so the store is sound.
use Rattle.prefix_trie_table.proofs.Prelude.{◌≡◌, [], All, length, sym, ap, ◌∙◌, subst, arith}
use Rattle.std.proofs.lemmas.List.{length-take-le}
use Rattle.prefix_trie_table.proofs.Blocks.Soundness.{Sound-new, none_made, no_slots_made}
use Rattle.prefix_trie_table.proofs.Blocks.Tiers.{cleared_sizes}
use Rattle.prefix_trie_table.proofs.allocator.blocks.Blocks.clear.Given as given
use Rattle.prefix_trie_table.proofs.allocator.blocks.Blocks.clear.Goals as goal

-- after the blocks are dropped, only the slots before the first block are left
length_left : (g : given.Over) (c : goal.After-clear_all g) → length (g.R.SlotArray.list c.cut.new.self) ≡ c.self.inside.first
length_left g c = ap (λ xs. length xs) c.cut.ensures.list ∙ length-take-le c.self.inside.first (g.R.SlotArray.list c.self.inside.slots) (omega (arith, c.self.invariant.1))

pub invariant_of-self : goal.invariant_of-self
invariant_of-self g c =
    let v = c.self.inside in
    let left = length_left g c in
    let none = no_slots_made _ (none_made v.lists.items) in
    rw c.clear_all.ensures (omega (arith, left, c.self.invariant.0, c.self.invariant.1), omega (arith, left, none), cleared_sizes v.lists.items c.self.invariant.2)

pub returns-clause-sound : goal.returns-clause-sound
returns-clause-sound g c =
    Sound-new g.S.Slot.vacant _ (sym (length_left g c)) (subst (λ ts. All (λ t. (t.made ≡ 0) × (t.starts ≡ [])) ts) (sym c.clear_all.ensures) (none_made c.self.inside.lists.items))
