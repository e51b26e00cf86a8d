-- Inserting an item into a list: a first item takes a block of one slot, and a later one goes where `insert_into` puts
-- it.
use Rattle.prefix_trie_table.proofs.Prelude.{◌≡◌, ◌+◌, ◌<◌, ◌++◌, [], length, None, Some, refl, sym, ap, ◌∙◌, arith, subst, option_or, nil_from_length, none-some, one_of, Sound, Turnover, tier_at, tier_sizes, size_in, free_in, size_if_any, none_of, list_size, list_need, block, held}
use Rattle.prefix_trie_table.proofs.Blocks.BySize.{size_at, size_some, need_first, first_size, many_here}
use Rattle.prefix_trie_table.proofs.Blocks.Preparations.{how_many-needs}
use Rattle.prefix_trie_table.proofs.Blocks.Soundness.{block_inside, list_block}
use Rattle.prefix_trie_table.proofs.Blocks.Turnovers.{Turnover-shifted, Turnover-moved, Turnover-same}
use Rattle.prefix_trie_table.proofs.allocator.blocks.Blocks.insert_at.Given as given
use Rattle.prefix_trie_table.proofs.allocator.blocks.Blocks.insert_at.Goals as goal

pub take-new-requires-clause-within : goal.take-new-requires-clause-within
take-new-requires-clause-within g c = (first_size c.args.self.now.tiers c.requires.sizes).2

pub take-new-requires-clause-ready : goal.take-new-requires-clause-ready
take-new-requires-clause-ready g c =
    let ts = c.args.self.now.tiers in
    let first = first_size ts c.requires.sizes in
    let need : list_need ts c.args.k c.args.count ≡ Some 1 = need_first ts c.args.k c.args.count c.if-count-eq0.true ∙ first.0 in
    let one : one_of (list_need ts c.args.k c.args.count) 1 ≡ 1 = ap (λ o. one_of o 1) need ∙ many_here 1 1 in
    subst (λ n. 0 < free_in ts n) (sym first.1) (omega (arith, c.requires.ready.1 1, how_many-needs (list_need ts c.args.k c.args.count) 0 1, one))

-- ---- the first item of a list

pub insert_within-requires-clause-space : goal.insert_within-requires-clause-space
insert_within-requires-clause-space g c =
    let u = c.requires.holds in
    let w = block_inside g.S.Slot.vacant _ _ _ (c.take-new.ensures.sound (held c.args.k c.args.start u.size u.items ++ u.live) u.sound) in
    let first = first_size c.args.self.now.tiers c.requires.sizes in
    omega (arith, w.before, first.1, size_at c.args.self.now.tiers 0)

need : (g : given.Over) (c : goal.After-insert_within g) → list_need c.args.self.now.tiers c.args.k c.args.count ≡ Some (size_in (tier_sizes c.args.self.now.tiers) 0)
need g c =
    let first = first_size c.args.self.now.tiers c.requires.sizes in
    need_first c.args.self.now.tiers c.args.k c.args.count c.if-count-eq0.true ∙ first.0 ∙ ap Some (sym first.1)

pub returns-then-count-eq0-clause-is_there : goal.returns-then-count-eq0-clause-is_there
returns-then-count-eq0-clause-is_there g c =
    size_some (c.args.count + 1) (size_in (tier_sizes c.args.self.now.tiers) 0) (omega arith)
    ∙ sym (ap (λ o. option_or o (list_size c.args.self.now.tiers c.args.k c.args.count)) (need g c))

pub returns-then-count-eq0-clause-stays : goal.returns-then-count-eq0-clause-stays
returns-then-count-eq0-clause-stays g c = λ none. absurd (none-some _ (sym none ∙ need g c))

pub returns-then-count-eq0-clause-turnover : goal.returns-then-count-eq0-clause-turnover
returns-then-count-eq0-clause-turnover g c =
    let v = c.args.self.now in
    let t = c.take-new.new.self in
    let w = c.insert_within.new.self in
    let u = c.requires.holds in
    let at = block_inside g.S.Slot.vacant _ _ _ (c.take-new.ensures.sound (held c.args.k c.args.start u.size u.items ++ u.live) u.sound) in
    let first = first_size v.tiers c.requires.sizes in
    let inside : c.take-new.result + 0 < length c.take-new.new.self.slots = omega (arith, at.before, first.1, size_at v.tiers 0) in
    let put = Turnover-shifted t w (c.take-new.result + 0) (c.take-new.result + 0) c.args.value c.insert_within.ensures.slots (omega (arith, at.after)) (omega (arith, at.after)) inside inside None in
    let new = size_some (c.args.count + 1) (size_in (tier_sizes v.tiers) 0) (omega arith) in
    let old : list_size v.tiers c.args.k c.args.count ≡ None = ap (λ n. size_if_any n (size_in (tier_sizes v.tiers) c.args.k)) c.if-count-eq0.true in
    subst (λ o. Turnover v w none_of o (list_size v.tiers 0 (c.args.count + 1))) (sym old)
    (subst (λ o. Turnover v w none_of None o) (sym new)
    (Turnover-moved v t w w none_of None (Some (size_in (tier_sizes v.tiers) 0)) c.take-new.ensures.turnover put (Turnover-same w w refl None)))

pub returns-then-count-eq0-clause-sound : goal.returns-then-count-eq0-clause-sound
returns-then-count-eq0-clause-sound g c = λ n xs live s count.
    let none : xs ≡ [] = nil_from_length xs (omega (arith, c.if-count-eq0.true)) in
    let at : c.args.offset ≡ 0 = omega (arith, c.if-count-eq0.true, c.requires.offset) in
    let s' : Sound g.S.Slot.vacant live c.args.self.now = subst (λ ys. Sound g.S.Slot.vacant (held c.args.k c.args.start n ys ++ live) c.args.self.now) none s in
    let taken = c.take-new.ensures.sound live s' in
    let first = first_size c.args.self.now.tiers c.requires.sizes in
    let put = c.insert_within.ensures.sound (block 0 c.take-new.result (tier_at c.args.self.now.tiers 0).size []) live taken refl refl (omega (arith, first.1, size_at c.args.self.now.tiers 0)) in
    rw (none, at) put

-- ---- a later item

pub returns-clause-sound : goal.returns-clause-sound
returns-clause-sound g c = λ n xs live s count.
    c.insert_into.ensures.sound n xs live (list_block g.S.Slot.vacant c.args.k c.args.start n xs live _ (omega (arith, count, c.if-count-eq0.false)) s) count
