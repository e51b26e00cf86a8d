-- A table with no entry and the root alone is a map. If the table is refused, so is the map.
use Rattle.prefix_trie_map.proofs.Prelude.{err_from_is_err_and, refl, sym, subst, no_entries, IsMap}
use Rattle.prefix_trie_map.proofs.Insertions.{IsMap-empty}
use Rattle.prefix_trie_map.proofs.map.PrefixMap.with_slot_limit.Goals as goal

pub invariant_of-result : goal.invariant_of-result
invariant_of-result g c =
    let width = g.P.R.Key.bit_width in
    let made = c.in_ok-new.ensures in
    subst (λ m. IsMap width (record { entries = m; nodes = c.in_ok-new.field-0.nodes })) (sym made.entries)
    (subst (λ n. IsMap width (record { entries = no_entries {T = g.row.T.Denot}; nodes = n })) (sym made.nodes) (IsMap-empty width))

pub returns : goal.returns
returns g c =
    let made = c.in_ok-new.ensures in
    record { entries = made.entries; nodes = made.nodes; space = made.space; layout = made.layout; range = tt; none = made.none }

pub returns-in_err-new : goal.returns-in_err-new
returns-in_err-new g c =
    let p = err_from_is_err_and c.from_residual.result c.from_residual.ensures.1 in
    rw (p.1, p.2) (record { entries = tt; nodes = tt; space = tt; layout = tt; range = c.in_err-new.ensures.range; none = λ _. refl })
