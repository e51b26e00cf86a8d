-- An occupied entry lends its stored value, and the closure is not called.
use Rattle.prefix_trie_map.proofs.Prelude.{refl, sym, subst, UnwrapsOrElse}
use Rattle.prefix_trie_map.proofs.Entries.{Fills-stored}
use Rattle.prefix_trie_map.proofs.map.entry.Entry.or_insert_with.Goals as goal

pub returns-in-Occupied : goal.returns-in-Occupied
returns-in-Occupied g c =
    rw c.in-Occupied.is ((refl, (λ w _. Fills-stored c.in-Occupied.occupied c.into_mut.ensures.whole w), tt), record { writes_back = tt; value = subst (λ o. UnwrapsOrElse o (goal.F-post g c.args.f) c.into_mut.result.now) (sym c.into_mut.ensures.value) refl; absent = tt })
