-- An occupied entry lends its stored value, which is what `unwrap_or` gives.
use Rattle.prefix_trie_map.proofs.Prelude.{refl, sym, ap, unwrap_or}
use Rattle.prefix_trie_map.proofs.Entries.{Fills-stored}
use Rattle.prefix_trie_map.proofs.map.entry.Entry.or_insert.Goals as goal

pub returns-in-Occupied : goal.returns-in-Occupied
returns-in-Occupied g c =
    rw c.in-Occupied.is ((refl, (λ w _. Fills-stored c.in-Occupied.entry c.into_mut.ensures.whole w), tt), record { writes_back = tt; value = sym (ap (λ o. unwrap_or o c.args.value) c.into_mut.ensures.value); absent = tt; returned = tt })
