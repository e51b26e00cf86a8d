-- Making the blocks first and then inserting is one insertion, and a refusal comes before the closure is called.
use Rattle.prefix_trie_map.proofs.Prelude.{refl, sym, ap, ◌∙◌, subst, false≢true, get, contains_key, with_entry, missing_node_slots, missing_cell_slots, with_needed, PreparesInStorage, no_node_slots_lack, no_cell_slots_lack, state, storage}
use Rattle.prefix_trie_map.proofs.Entries.{Fills-lent, Refuses-returned}
use Rattle.prefix_trie_map.proofs.NewKeys.{entry_only, prepared_step}
use Rattle.prefix_trie_map.proofs.map.entry.VacantEntry.insert_with.Goals as goal

pub returns-in-Err : goal.returns-in-Err
returns-in-Err g c =
    let e = c.in-Err.ensures in
    ((refl, (λ w r. absurd (false≢true r)), Refuses-returned c.args.self c.reserve.new.self c.prefix.result.now c.in-Err.cause c.prefix.ensures.value e.entries e.nodes e.refuses), record { writes_back = tt; value = tt })

pub insert_ready-seat-requires-clause-nodes : goal.insert_ready-seat-requires-clause-nodes
insert_ready-seat-requires-clause-nodes g c =
    let old = c.args.self.map.now in
    let middle = c.reserve.new.self in
    ap (λ n. missing_node_slots n middle.layout (g.P.Prefix.path c.prefix-2.result.now)) c.in_default.ensures.nodes
    ∙ ap (λ q. missing_node_slots old.nodes middle.layout (g.P.Prefix.path q)) (c.prefix-2.ensures.value ∙ sym c.prefix.ensures.value)
    ∙ no_node_slots_lack (state old) (g.P.Prefix.path c.prefix.result.now) (storage old) (storage middle) c.in_default.ensures.prepares

pub insert_ready-seat-requires-clause-cells : goal.insert_ready-seat-requires-clause-cells
insert_ready-seat-requires-clause-cells g c =
    let old = c.args.self.map.now in
    let middle = c.reserve.new.self in
    ap (λ m. missing_cell_slots m middle.layout (g.P.Prefix.path c.prefix-2.result.now)) c.in_default.ensures.entries
    ∙ ap (λ q. missing_cell_slots old.entries middle.layout (g.P.Prefix.path q)) (c.prefix-2.ensures.value ∙ sym c.prefix.ensures.value)
    ∙ no_cell_slots_lack (state old) (g.P.Prefix.path c.prefix.result.now) (storage old) (storage middle) c.in_default.ensures.prepares

pub returns : goal.returns
returns g c =
    let old = c.args.self.map.now in
    let middle = c.reserve.new.self in
    let path = g.P.Prefix.path in
    let key = c.prefix-2.result.now in
    let is = c.prefix-2.ensures.value in
    let at = c.path-path.ensures.path in
    let made = c.in_default.ensures in
    let placed = c.insert_ready-seat.ensures in
    let absent = ap (λ y. contains_key old.entries (path y)) is ∙ c.args.self.absent in
    let prepares = subst (λ y. PreparesInStorage (state old) (path y) (storage old) (storage middle)) (c.prefix.ensures.value ∙ sym is) made.prepares in
    let entries = placed.entries ∙ ap (λ m. with_entry m (path key) c.f.result) made.entries in
    let nodes = placed.nodes ∙ ap (λ n. with_needed n (path key)) made.nodes in
    let step = prepared_step g.P.R.Key.bit_width old middle c.insert_ready-seat.new.self (path key) c.f.result absent made.entries made.nodes made.space prepares
    placed.entries placed.nodes placed.step in
    let found = ap (get c.insert_ready-seat.new.self.entries) (ap path is ∙ sym at) ∙ c.lend_at.ensures.value in (
      (refl, (λ w _. Fills-lent c.args.self c.insert_ready-seat.new.self key _ c.f.result w is at entries nodes step), tt),
      record { writes_back = tt; value = subst (goal.F-post g c.args.f) (sym (entry_only _ _ _ _ _ placed.entries found)) c.f.ensures },
    )
