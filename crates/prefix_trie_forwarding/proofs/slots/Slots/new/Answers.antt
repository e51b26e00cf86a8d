-- All slots are 0.
use Rattle.std.proofs.Common.{◌≡◌, ◌∙◌, ℕ, [], sym, subst, arith, length, get_or, rules}
use Rattle.prefix_trie_forwarding.specs.Slots.{IsSlots}
use Rattle.prefix_trie_forwarding.proofs.NewSlots.{zero_all, zero_answer, zero_group, zero_slots}
use Rattle.prefix_trie_forwarding.proofs.slots.Slots.new.Goals as goal

pub invariant_of-result : goal.invariant_of-result
invariant_of-result g c =
    let xs = c.resize.new.self.items in
    let size : length xs ≡ c.power.result = search rules in
    let zeros : (k : ℕ) → get_or c.resize.new.self.items k 0 ≡ 0 =
    zero_all c.resize.new.self.items c.power.result size (λ k h. c.in_ok-resize.ensures.by_index.1 k 0 (search rules) (omega (arith, c.new-items.ensures.len)) h) in
    record {
      sound = subst (λ f. IsSlots c.args.root_bits c.args.levels c.new.result.made xs f) (sym c.new.ensures.free)
          (subst (λ n. IsSlots c.args.root_bits c.args.levels n xs []) (sym c.new.ensures.made) (zero_slots c.args.root_bits c.args.levels xs zeros c.requires.few c.requires.levels (size ∙ c.power.ensures)));
    }

pub returns-clause-answers : goal.returns-clause-answers
returns-clause-answers g c = λ a ia.
    let xs = c.resize.new.self.items in
    let size : length xs ≡ c.power.result = search rules in
    let zeros : (k : ℕ) → get_or c.resize.new.self.items k 0 ≡ 0 =
    zero_all c.resize.new.self.items c.power.result size (λ k h. c.in_ok-resize.ensures.by_index.1 k 0 (search rules) (omega (arith, c.new-items.ensures.len)) h) in
    zero_answer c.args.root_bits c.args.levels xs zeros a

pub returns-clause-none : goal.returns-clause-none
returns-clause-none g c = λ a k ia h.
    let xs = c.resize.new.self.items in
    let size : length xs ≡ c.power.result = search rules in
    let zeros : (k : ℕ) → get_or c.resize.new.self.items k 0 ≡ 0 =
    zero_all c.resize.new.self.items c.power.result size (λ k h. c.in_ok-resize.ensures.by_index.1 k 0 (search rules) (omega (arith, c.new-items.ensures.len)) h) in
    zero_group c.args.root_bits c.args.levels xs zeros a k h
