-- The entry stays occupied at the same seat, whatever is written to its value.
use Rattle.prefix_trie_map.proofs.Prelude.{refl, sym, ap, ◌∙◌, get}
use Rattle.prefix_trie_map.proofs.OccupiedEntries.{stays_at, occupied_written}
use Rattle.prefix_trie_map.proofs.map.entry.OccupiedEntry.get_mut.Goals as goal

pub invariant_of-self-lent : goal.invariant_of-self-lent
invariant_of-self-lent g c w =
    let o = c.args.self.now in
    (stays_at o _ w c.path-path.ensures.path, (o.seated, tt))

pub returns : goal.returns
returns g c =
    let o = c.args.self.now in
    let at = c.path-path.ensures.path in
    ((refl, λ w. occupied_written o w _ at _ _), record { writes_back = tt; value = ap (get o.map.now.entries) (sym at) ∙ c.lend_at.ensures.value })
