-- A walk over the entries of the whole map doubles each value, and giving it up returns the map.
use Rattle.prefix_trie_tests.proofs.Prelude.{rules, ◌*◌, ◌%◌, ◌^◌}
use Rattle.prefix_trie.proofs.Callers.{starts_ordered, rewritten}
use Rattle.prefix_trie_tests.proofs.examples.scaling.double_each.Goals as goal

pub double_entries-requires : goal.double_entries-requires
double_entries-requires g c = starts_ordered _ _ c.iter_mut-walk.ensures.starts

pub returns-in-Some : goal.returns-in-Some
returns-in-Some g c =
    let done = rewritten (λ v. (v * 2) % 2 ^ 64) _ _ _ _ c.iter_mut-walk.ensures.starts c.double_entries.ensures (rw c.in-Some.is at c.into_map.ensures) in
    search rules
