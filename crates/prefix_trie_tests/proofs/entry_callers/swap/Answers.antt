-- The value that an occupied entry replaces is the one that the map has at the prefix's path.
use Rattle.prefix_trie_tests.proofs.Prelude.{ap₂, sym, get, ◌∙◌}
use Rattle.prefix_trie_tests.proofs.entry_callers.swap.Goals as goal

pub returns-in-Occupied-clause-before : goal.returns-in-Occupied-clause-before
returns-in-Occupied-clause-before g c =
    let same = rw c.in-Occupied.is at c.entry.ensures.unchanged in
    let path = rw c.in-Occupied.is at c.entry.ensures.path in
    sym c.insert.ensures.before ∙ ap₂ (λ m q. get m.entries q) same path
