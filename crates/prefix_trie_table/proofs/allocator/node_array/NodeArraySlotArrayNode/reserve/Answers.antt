-- Each of the two vectors of a node array reserves memory by itself, and both are equally long.
use Rattle.prefix_trie_table.proofs.Prelude.{◌≡◌, ◌+◌, ◌≤◌, [], ◌∷◌, IsOk, length, sym, ap, ◌∙◌, subst, true≢false, arith, vec_len, vec_capacity, on_ok_weaker}
use Rattle.prefix_trie_table.specs.Blocks.NodeArrays.{NodeList, nodes_of}
use Rattle.prefix_trie_table.specs.Blocks.Growth.{EachHolds, Reserves}
use Rattle.prefix_trie_table.proofs.Blocks.Capacity.{EachHolds-both, EachHolds-first, EachHolds-second}
use Rattle.prefix_trie_table.proofs.Blocks.NodeLists.{length-nodes}
use Rattle.prefix_trie_table.proofs.allocator.node_array.NodeArraySlotArrayNode.reserve.Goals as goal

pub returns-clause-ok : goal.returns-clause-ok
returns-clause-ok g c =
    let heads = c.reserve.new.items in
    let tiers = c.reserve-2.new.items in
    let same : length heads.items ≡ length tiers.items = ap length c.reserve.ensures.items ∙ c.self.invariant ∙ sym (ap length c.reserve-2.ensures.items) in
    let long = length-nodes heads.items tiers.items same in
    let first = c.in_ok-reserve.ensures.ok in
    on_ok_weaker c.reserve-2.result (λ (h : vec_len tiers + c.args.count ≤ vec_capacity tiers).
    EachHolds-both (length (nodes_of heads.items tiers.items) + c.args.count) (vec_capacity heads) (vec_capacity tiers)
    (omega (arith, first, long, heads.ok.0)) (omega (arith, h, long, same, tiers.ok.0))) c.reserve-2.ensures.ok

pub returns-clause-grown : goal.returns-clause-grown
returns-clause-grown g c =
    let v = c.self.inside in
    let long = length-nodes v.heads.items v.tiers.items c.self.invariant in
    let heads : vec_len v.heads + c.args.count ≡ length (nodes_of v.heads.items v.tiers.items) + c.args.count = omega (arith, long, v.heads.ok.0) in
    let tiers : vec_len v.tiers + c.args.count ≡ length (nodes_of v.heads.items v.tiers.items) + c.args.count = omega (arith, long, c.self.invariant, v.tiers.ok.0) in
    rw (← c.self.view_is) (
      subst (λ n. Reserves (vec_capacity v.heads) n (vec_capacity c.reserve.new.items)) heads c.reserve.ensures.grown,
      (subst (λ n. Reserves (vec_capacity v.tiers) n (vec_capacity c.reserve-2.new.items)) tiers c.reserve-2.ensures.grown, tt),
    )

pub returns-in_err-reserve-clause-succeeds : goal.returns-in_err-reserve-clause-succeeds
returns-in_err-reserve-clause-succeeds g c = λ h.
    let v = c.self.inside in
    let both : EachHolds (length (nodes_of v.heads.items v.tiers.items) + c.args.count) (vec_capacity v.heads ∷ vec_capacity v.tiers ∷ []) =
    subst (λ (a : NodeList). EachHolds (length a.list + c.args.count) a.capacities) (sym c.self.view_is) h in
    let fits = c.reserve.ensures.succeeds (let f = EachHolds-first _ _ _ both in omega (arith, f, length-nodes v.heads.items v.tiers.items c.self.invariant, v.heads.ok.0)) in
    absurd (true≢false (sym (subst IsOk c.in_err-reserve.was fits)))

pub returns-clause-succeeds : goal.returns-clause-succeeds
returns-clause-succeeds g c = λ h.
    let v = c.self.inside in
    let both : EachHolds (length (nodes_of v.heads.items v.tiers.items) + c.args.count) (vec_capacity v.heads ∷ vec_capacity v.tiers ∷ []) =
    subst (λ (a : NodeList). EachHolds (length a.list + c.args.count) a.capacities) (sym c.self.view_is) h in
    c.reserve-2.ensures.succeeds (let s = EachHolds-second _ _ _ both in omega (arith, s, length-nodes v.heads.items v.tiers.items c.self.invariant, c.self.invariant, v.tiers.ok.0))
