-- A table with no entry and the root alone is a map. If the table is refused, so is the map.
use Rattle.prefix_trie_map.proofs.Prelude.{ap, err_from_is_err_and, sym, subst, no_entries, Contents, IsMap, ◌≡◌, ◌∙◌}
use Rattle.prefix_trie_map.proofs.Insertions.{IsMap-empty}
use Rattle.prefix_trie_map.proofs.map.PrefixMap.new_like.Goals as goal

pub invariant_of-result : goal.invariant_of-result
invariant_of-result g c =
    let width = g.P.R.Key.bit_width in
    let made = c.in_ok-table.ensures in
    subst (λ m. IsMap width (record { entries = m; nodes = c.in_ok-table.table.nodes })) (sym made.entries)
    (subst (λ n. IsMap width (record { entries = no_entries {T = g.row.T.Denot}; nodes = n })) (sym made.nodes) (IsMap-empty width))
