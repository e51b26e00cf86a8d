-- A walk over the values of the whole map doubles each of them, and giving it up returns the map.
use Rattle.prefix_trie_tests.proofs.Prelude.{rules, ◌*◌, ◌%◌, ◌^◌}
use Rattle.prefix_trie.proofs.Callers.{starts_ordered, rewritten}
use Rattle.prefix_trie_tests.proofs.examples.scaling.double_all.Goals as goal

pub double_rest-requires : goal.double_rest-requires
double_rest-requires g c = starts_ordered _ _ c.values_mut-walk.ensures.starts

pub returns-in-Some-clause-entries : goal.returns-in-Some-clause-entries
returns-in-Some-clause-entries g c =
    let done = rewritten (λ v. (v * 2) % 2 ^ 64) _ _ _ _ c.values_mut-walk.ensures.starts c.double_rest.ensures (rw c.in-Some.is at c.into_map.ensures) in
    search rules
