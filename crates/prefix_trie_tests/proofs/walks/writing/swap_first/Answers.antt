-- A walk over the whole map writes the first entry of the listing, if there is one, and nothing else.
use Rattle.prefix_trie_tests.proofs.Prelude.{rules}
use Rattle.prefix_trie_tests.proofs.Swapping.{swaps_first}
use Rattle.prefix_trie_tests.proofs.walks.writing.swap_first.Goals as goal

pub returns-in-Some-clause-before : goal.returns-in-Some-clause-before
returns-in-Some-clause-before g c =
    let done = swaps_first _ c.args.value c.swap_next-before.result _ _ _ c.iter_mut-walk.ensures.starts c.swap_next-before.ensures (rw c.in-Some.is at c.into_map.ensures) in
    search rules

pub returns-in-Some-clause-unchanged : goal.returns-in-Some-clause-unchanged
returns-in-Some-clause-unchanged g c =
    let done = swaps_first _ c.args.value c.swap_next-before.result _ _ _ c.iter_mut-walk.ensures.starts c.swap_next-before.ensures (rw c.in-Some.is at c.into_map.ensures) in
    search rules

pub returns-in-Some-clause-swapped : goal.returns-in-Some-clause-swapped
returns-in-Some-clause-swapped g c =
    let done = swaps_first _ c.args.value c.swap_next-before.result _ _ _ c.iter_mut-walk.ensures.starts c.swap_next-before.ensures (rw c.in-Some.is at c.into_map.ensures) in
    search rules
