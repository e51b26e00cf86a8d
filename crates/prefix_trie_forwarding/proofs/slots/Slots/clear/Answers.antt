-- All slots are those of the root, and 0.
use Rattle.std.proofs.Common.{◌≡◌, ◌∙◌, ℕ, ◌^◌, [], get_or, length, replicate, sym, ap, subst, arith, vec_len}
use Rattle.std.proofs.lemmas.List.{length-replicate}
use Rattle.prefix_trie_forwarding.specs.Slots.{IsSlots}
use Rattle.prefix_trie_forwarding.proofs.NewSlots.{zero_answer, zero_group, zero_replicate, zero_slots}
use Rattle.prefix_trie_forwarding.proofs.slots.Slots.clear.Goals as goal

pub invariant_of-self : goal.invariant_of-self
invariant_of-self g c =
    let t = c.args.self.now in
    let xs = c.fill.new.self.items in
    let items : c.fill.new.self.items ≡ replicate (vec_len c.truncate.new.self) 0 = c.fill.ensures.items (λ y e. e) in
    let zeros : (k : ℕ) → get_or c.fill.new.self.items k 0 ≡ 0 = λ k. ap (λ xs. get_or xs k 0) items ∙ zero_replicate (vec_len c.truncate.new.self) k in
    let few : vec_len c.truncate.new.self ≡ 2 ^ c.args.self.now.root_bits = omega (arith, c.truncate.ensures.len, c.power.ensures, t.sound.set.sizes) in
    let size : length c.fill.new.self.items ≡ 2 ^ c.args.self.now.root_bits = ap length items ∙ length-replicate (vec_len c.truncate.new.self) 0 ∙ few in
    record {
      sound = subst (λ f. IsSlots t.root_bits t.levels c.clear.new.self.made xs f) (sym c.clear.ensures.free)
          (subst (λ n. IsSlots t.root_bits t.levels n xs []) (sym c.clear.ensures.made) (zero_slots t.root_bits t.levels xs zeros t.sound.few_bits t.sound.few_levels size));
    }

pub returns-clause-answers : goal.returns-clause-answers
returns-clause-answers g c = λ a ia.
    let t = c.args.self.now in
    let xs = c.fill.new.self.items in
    let items : c.fill.new.self.items ≡ replicate (vec_len c.truncate.new.self) 0 = c.fill.ensures.items (λ y e. e) in
    let zeros : (k : ℕ) → get_or c.fill.new.self.items k 0 ≡ 0 = λ k. ap (λ xs. get_or xs k 0) items ∙ zero_replicate (vec_len c.truncate.new.self) k in
    zero_answer t.root_bits t.levels xs zeros a

pub returns-clause-none : goal.returns-clause-none
returns-clause-none g c = λ a k ia h.
    let t = c.args.self.now in
    let xs = c.fill.new.self.items in
    let items : c.fill.new.self.items ≡ replicate (vec_len c.truncate.new.self) 0 = c.fill.ensures.items (λ y e. e) in
    let zeros : (k : ℕ) → get_or c.fill.new.self.items k 0 ≡ 0 = λ k. ap (λ xs. get_or xs k 0) items ∙ zero_replicate (vec_len c.truncate.new.self) k in
    zero_group t.root_bits t.levels xs zeros a k h

pub returns-clause-size : goal.returns-clause-size
returns-clause-size g c = omega (arith, c.fill.ensures.len, c.truncate.ensures.len, c.power.ensures, c.args.self.now.sound.set.sizes)
