-- The closure changes the stored value and nothing else of the map.
use Rattle.prefix_trie_map.proofs.Prelude.{rules, refl}
use Rattle.prefix_trie_map.proofs.Entries.{modified}
use Rattle.prefix_trie_map.proofs.map.entry.Entry.and_modify.Goals as goal

pub returns-in-Occupied-clause-update : goal.returns-in-Occupied-clause-update
returns-in-Occupied-clause-update g c =
    rw c.in-Occupied.is (modified g.F.FnOnce c.args.f c.in-Occupied.entry _ _ c.get_mut.result c.get_mut.ensures.value refl (search rules))
