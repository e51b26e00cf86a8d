-- The value that an occupied entry removes is the one that the map has at the prefix's path.
use Rattle.prefix_trie_tests.proofs.Prelude.{ap₂, sym, get, ◌∙◌}
use Rattle.prefix_trie_tests.proofs.entry_callers.remove_if_stored.Goals as goal

pub returns-in-Occupied-clause-value : goal.returns-in-Occupied-clause-value
returns-in-Occupied-clause-value g c =
    let same = rw c.in-Occupied.is at c.entry.ensures.unchanged in
    let path = rw c.in-Occupied.is at c.entry.ensures.path in
    sym c.remove.ensures.value ∙ ap₂ (λ m q. get m.entries q) same path
