-- An occupied entry has the seat of its key's path, so its value can be lent for as long as the map.
use Rattle.prefix_trie_map.proofs.Prelude.{refl, sym, ap, ◌∙◌, get, seat_of, with_value_at}
use Rattle.prefix_trie_map.proofs.map.entry.OccupiedEntry.into_mut.Goals as goal

pub lend_at-requires : goal.lend_at-requires
lend_at-requires g c = ap (seat_of c.args.self.map.now.build) c.path.ensures.path ∙ c.args.self.seated

pub returns : goal.returns
returns g c =
    let at = c.path.ensures.path in (
      (refl, λ w. ap (λ s. with_value_at c.args.self.map.now s w) at),
      record { writes_back = tt; value = ap (get c.args.self.map.now.entries) (sym at) ∙ c.lend_at.ensures.value; whole = c.lend_at.ensures.whole },
    )
