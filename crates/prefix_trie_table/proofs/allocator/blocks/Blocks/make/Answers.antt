-- Making a block at the end of an array, or why it is not made: the limit would be exceeded, or an allocation failed.
use Rattle.prefix_trie_table.proofs.Prelude.{None, refl, ◌≡◌, ℕ, ◌+◌, ◌<◌, ◌≤◌, ◌↔◌, ◌∷◌, [], ◌++◌, List, length, replicate, length-append, get_or, set, set-get_or, sym, ap, ◌∙◌, subst, arith, rules, length-replicate, get_or_default, get_or_append_left, Memory, IndexRange, Sound, Store, Tier, tier_at, tier_sizes, size_in}
use Rattle.prefix_trie_table.proofs.Blocks.BySize.{size_at, sizes_up}
use Rattle.prefix_trie_table.specs.Blocks.Growth.{EachReserves}
use Rattle.prefix_trie_table.proofs.Blocks.Capacity.{Sound-capacities}
use Rattle.prefix_trie_table.proofs.Blocks.Turnovers.{Turnover-grown, Turnover-reserved, Turnover-same}
use Rattle.prefix_trie_table.proofs.Blocks.Soundness.{made_fits, Sound-grown_as}
use Rattle.prefix_trie_table.proofs.Blocks.ResultCases.{told_ok, told_err}
use Rattle.prefix_trie_table.proofs.Blocks.Tiers.{sizes_kept, made_within, sizes_positive, sizes_small}
use Rattle.prefix_trie_table.proofs.allocator.blocks.Blocks.make.Goals as goal

pub invariant_of-self-2 : goal.invariant_of-self-2
invariant_of-self-2 g c =
    let v = c.self.inside in
    let old = c.index_mut-list.result.now in
    let within : c.args.k < length v.lists.items = rw (← c.self.view_is) at c.requires in
    let added : c.push_made.new.self ≡ record old { made = old.made + 1; starts = old.starts ++ c.len-len.result ∷ [] } = told_ok c.push_made.result c.if-is_err-2.ensures.value c.push_made.ensures.ok in
    let size : c.size_of-size.result ≡ old.size = (rw (← c.self.view_is) at c.size_of-size.ensures) ∙ sym (size_at v.lists.items c.args.k) ∙ ap (λ (t : Tier). t.size) (get_or_default v.lists.items c.args.k _ old within ∙ sym c.index_mut-list.ensures.value) in
    let len : length (g.R.SlotArray.list c.push_vacant.new.slots) ≡ length (g.R.SlotArray.list v.slots) + old.size = ap (λ xs. length xs) c.push_vacant.ensures.list ∙ length-append (g.R.SlotArray.list c.reserve.new.self) (replicate c.size_of-size.result g.S.Slot.vacant) ∙ (let r = length-replicate c.size_of-size.result g.S.Slot.vacant in let e : length (g.R.SlotArray.list c.reserve.new.self) ≡ length (g.R.SlotArray.list v.slots) = ap (λ xs. length xs) c.reserve.ensures.list in omega arith) in
    let made = made_fits v.lists.items c.args.k old c.push_made.new.self (old.starts ++ c.len-len.result ∷ []) v.first (length (g.R.SlotArray.list v.slots)) within c.index_mut-list.ensures.value added (c.self.invariant.1) in
    let kept = sizes_kept v.lists.items c.args.k c.push_made.new.self c.self.invariant.2 (ap (λ (t : Tier). t.size) added ∙ ap (λ (t : Tier). t.size) (c.index_mut-list.ensures.value ∙ sym (get_or_default v.lists.items c.args.k _ old within))) in
    let before : c.len-len.result ≡ length (g.R.SlotArray.list v.slots) = rw (← c.self.view_is) at c.len-len.ensures.len in
    (omega (arith, len, before, c.if-len-size.false), made ∙ sym len, kept)

pub returns-clause-sound : goal.returns-clause-sound
returns-clause-sound g c = λ live s.
    let v = c.self.inside in
    let old = c.index_mut-list.result.now in
    let within : c.args.k < length v.lists.items = rw (← c.self.view_is) at c.requires in
    let at_k : tier_at v.lists.items c.args.k ≡ old = get_or_default v.lists.items c.args.k _ old within ∙ sym c.index_mut-list.ensures.value in
    let added : c.push_made.new.self ≡ record old { made = old.made + 1; starts = old.starts ++ c.len-len.result ∷ [] } = told_ok c.push_made.result c.if-is_err-2.ensures.value c.push_made.ensures.ok in
    let size : c.size_of-size.result ≡ (tier_at v.lists.items c.args.k).size = (rw (← c.self.view_is) at c.size_of-size.ensures) ∙ sym (size_at v.lists.items c.args.k) in
    Sound-capacities g.S.Slot.vacant live _ (g.R.SlotArray.capacities c.push_vacant.new.slots) (Sound-grown_as g.S.Slot.vacant live _ c.args.k c.size_of-size.result c.len-len.result c.push_made.new.self (g.R.SlotArray.list c.push_vacant.new.slots) within (c.push_vacant.ensures.list ∙ ap (λ xs. xs ++ replicate c.size_of-size.result g.S.Slot.vacant) c.reserve.ensures.list) size (rw (← c.self.view_is) at c.len-len.ensures.len) (added ∙ ap (λ (t : Tier). record t { made = t.made + 1; starts = t.starts ++ c.len-len.result ∷ [] }) (sym at_k)) (rw (← c.self.view_is) at s))

pub returns-then-len-size-clause-range : goal.returns-then-len-size-clause-range
returns-then-len-size-clause-range g c = search rules

-- the allocation failed although the block would fit the limit
no_range : (limit len size : ℕ) → len + size ≤ limit → (Memory ≡ IndexRange) ↔ (limit < len + size)
no_range limit len size fits = (λ e. search (rules, e), λ more. absurd (omega (arith, fits, more)))

pub returns-then-len-size-clause-err : goal.returns-then-len-size-clause-err
returns-then-len-size-clause-err g c = Turnover-same c.args.self.now c.args.self.now refl None

pub returns-then-is_err : goal.returns-then-is_err
returns-then-is_err g c =
    let v = c.self.inside in
    let space : List ℕ = g.R.SlotArray.capacities c.reserve.new.self in
    let within : c.args.k < length v.lists.items = rw (← c.self.view_is) at c.requires in
    let size : c.size_of-size.result ≡ (tier_at v.lists.items c.args.k).size = (rw (← c.self.view_is) at c.size_of-size.ensures) ∙ sym (size_at v.lists.items c.args.k) in
    let few : c.size_of-size.result ≤ 32 = omega (arith, size, sizes_small v.lists.items c.self.invariant.2 c.args.k within) in
    let reserves : EachReserves c.args.self.now.capacities (length c.args.self.now.slots + c.size_of-size.result) space = rw (← c.self.view_is) c.reserve.ensures.grown in
    let same : (record { slots = (g.R.SlotArray.list c.reserve.new.self); first = v.first; tiers = v.lists.items; limit = v.limit; capacities = space }) ≡ record c.args.self.now { capacities = space } = rw (← c.self.view_is) (λ i. record { slots = c.reserve.ensures.list i; first = v.first; tiers = v.lists.items; limit = v.limit; capacities = space }) in
    record {
      made = tt;
      err = Turnover-reserved c.args.self.now _ space c.size_of-size.result same reserves few;
      range = no_range _ _ _ (omega (arith, c.if-len-size.false, c.size_of-size.ensures, c.len-len.ensures.len, ap (λ (a : Store g.row.S.Denot). a.limit) c.self.view_is));
      kept = λ i d h. ap (λ (a : Store g.row.S.Denot). get_or a.slots i d) same;
      sound = λ live s. subst (Sound g.S.Slot.vacant live) (sym same) (Sound-capacities g.S.Slot.vacant live c.args.self.now space s);
    }

pub returns-then-is_err-2 : goal.returns-then-is_err-2
returns-then-is_err-2 g c =
    let v = c.self.inside in
    let space : List ℕ = g.R.SlotArray.capacities c.reserve.new.self in
    let within : c.args.k < length v.lists.items = rw (← c.self.view_is) at c.requires in
    let size : c.size_of-size.result ≡ (tier_at v.lists.items c.args.k).size = (rw (← c.self.view_is) at c.size_of-size.ensures) ∙ sym (size_at v.lists.items c.args.k) in
    let few : c.size_of-size.result ≤ 32 = omega (arith, size, sizes_small v.lists.items c.self.invariant.2 c.args.k within) in
    let reserves : EachReserves c.args.self.now.capacities (length c.args.self.now.slots + c.size_of-size.result) space = rw (← c.self.view_is) c.reserve.ensures.grown in
    let list = told_err c.push_made.result c.if-is_err-2.ensures.value c.push_made.ensures.err in
    let lists = ap (set v.lists.items c.args.k) (list ∙ c.index_mut-list.ensures.value) ∙ set-get_or v.lists.items c.args.k c.index_mut-list.result.now in
    let same : (record { slots = (g.R.SlotArray.list c.reserve.new.self); first = v.first; tiers = set v.lists.items c.args.k c.push_made.new.self; limit = v.limit; capacities = space }) ≡ record c.args.self.now { capacities = space } = rw (← c.self.view_is) (λ i. record { slots = c.reserve.ensures.list i; first = v.first; tiers = lists i; limit = v.limit; capacities = space }) in
    record {
      made = tt;
      err = Turnover-reserved c.args.self.now _ space c.size_of-size.result same reserves few;
      range = no_range _ _ _ (omega (arith, c.if-len-size.false, c.size_of-size.ensures, c.len-len.ensures.len, ap (λ (a : Store g.row.S.Denot). a.limit) c.self.view_is));
      kept = λ i d h. ap (λ (a : Store g.row.S.Denot). get_or a.slots i d) same;
      sound = λ live s. subst (Sound g.S.Slot.vacant live) (sym same) (Sound-capacities g.S.Slot.vacant live c.args.self.now space s);
    }

pub push_made-requires : goal.push_made-requires
push_made-requires g c =
    let v = c.self.inside in
    let within : c.args.k < length v.lists.items = rw (← c.self.view_is) at c.requires in
    let old = c.index_mut-list.result.now in
    let at_k : (tier_at v.lists.items c.args.k).made ≡ old.made = ap (λ (t : Tier). t.made) (get_or_default v.lists.items c.args.k _ old within ∙ sym c.index_mut-list.ensures.value) in
    let size : c.size_of-size.result ≡ (tier_at v.lists.items c.args.k).size = (rw (← c.self.view_is) at c.size_of-size.ensures) ∙ sym (size_at v.lists.items c.args.k) in
    let before : c.len-len.result ≡ length (g.R.SlotArray.list v.slots) = rw (← c.self.view_is) at c.len-len.ensures.len in
    omega (arith, at_k, size, before, made_within v.lists.items c.args.k c.self.invariant.2 within, sizes_positive v.lists.items c.self.invariant.2 c.args.k within, c.self.invariant.1, c.if-len-size.false, c.ranges)

pub returns-clause-made : goal.returns-clause-made
returns-clause-made g c =
    let v = c.self.inside in
    let old = c.index_mut-list.result.now in
    let within : c.args.k < length v.lists.items = rw (← c.self.view_is) at c.requires in
    let at_k : tier_at v.lists.items c.args.k ≡ old = get_or_default v.lists.items c.args.k _ old within ∙ sym c.index_mut-list.ensures.value in
    let added : c.push_made.new.self ≡ record old { made = old.made + 1; starts = old.starts ++ c.len-len.result ∷ [] } = told_ok c.push_made.result c.if-is_err-2.ensures.value c.push_made.ensures.ok in
    let is : c.push_made.new.self ≡ record (tier_at v.lists.items c.args.k) { made = (tier_at v.lists.items c.args.k).made + 1; starts = (tier_at v.lists.items c.args.k).starts ++ c.len-len.result ∷ [] } =
    added ∙ ap (λ (u : Tier). record u { made = u.made + 1; starts = u.starts ++ c.len-len.result ∷ [] }) (sym at_k) in
    let size : c.size_of-size.result ≡ size_in (tier_sizes v.lists.items) c.args.k = rw (← c.self.view_is) at c.size_of-size.ensures in
    let before : c.len-len.result ≡ length (g.R.SlotArray.list v.slots) = rw (← c.self.view_is) at c.len-len.ensures.len in
    let starts : length (c.push_made.new.self).starts ≡ length (tier_at v.lists.items c.args.k).starts + 1 = ap (λ (u : Tier). length u.starts) is ∙ length-append (tier_at v.lists.items c.args.k).starts (c.len-len.result ∷ []) in
    let slots = c.push_vacant.ensures.list ∙ ap (λ xs. xs ++ replicate c.size_of-size.result g.S.Slot.vacant) c.reserve.ensures.list ∙ ap (λ n. (g.R.SlotArray.list v.slots) ++ replicate n g.S.Slot.vacant) size in
    let grown : EachReserves (g.R.SlotArray.capacities v.slots) (length (g.R.SlotArray.list v.slots) + size_in (tier_sizes v.lists.items) c.args.k) (g.R.SlotArray.capacities c.push_vacant.new.slots) =
    subst (λ n. EachReserves (g.R.SlotArray.capacities v.slots) (length (g.R.SlotArray.list v.slots) + n) (g.R.SlotArray.capacities c.push_vacant.new.slots)) size
    (subst (λ n. EachReserves (g.R.SlotArray.capacities v.slots) (length (g.R.SlotArray.list v.slots) + c.size_of-size.result) n) (sym c.push_vacant.ensures.capacities) c.reserve.ensures.grown) in
    rw (← c.self.view_is) (Turnover-grown _ c.args.k c.push_made.new.self (sizes_up v.lists.items c.self.invariant.2) within (ap (λ (u : Tier). u.size) is) _
    (size_at v.lists.items c.args.k) g.S.Slot.vacant _ (g.R.SlotArray.capacities c.push_vacant.new.slots) slots grown (omega (arith, c.self.invariant.1)) (omega (arith, c.if-len-size.false, size, before)) (ap (λ (u : Tier). u.made) is) starts)

pub returns-clause-kept : goal.returns-clause-kept
returns-clause-kept g c =
    let v = c.self.inside in
    rw (← c.self.view_is) (λ i d h. ap (λ xs. get_or xs i d) (c.push_vacant.ensures.list ∙ ap (λ xs. xs ++ replicate c.size_of-size.result g.S.Slot.vacant) c.reserve.ensures.list)
    ∙ get_or_append_left (g.R.SlotArray.list v.slots) (replicate c.size_of-size.result g.S.Slot.vacant) d i h)
