-- Each step goes on to an entry that is not doubled yet, and doubling it changes no other.
use Rattle.prefix_trie_tests.proofs.Prelude.{◌*◌, ◌%◌, ◌^◌}
use Rattle.prefix_trie.proofs.Callers.{goes_on_rewriting, ends_rewriting}
use Rattle.prefix_trie_tests.proofs.examples.scaling.double_entries.Goals as goal

pub loop-prefix-smaller : goal.loop-prefix-smaller
loop-prefix-smaller g c =
    let x = c.value-stored.result.now in
    (goes_on_rewriting (λ v. (v * 2) % 2 ^ 64) _ _ _ x c.loop-prefix.invariant (_, c.in-Some.ensures.first x c.value-stored.ensures.value) (c.in-Some.ensures.passes ((x * 2) % 2 ^ 64))).1

pub loop-prefix-preserved : goal.loop-prefix-preserved
loop-prefix-preserved g c =
    let x = c.value-stored.result.now in
    (goes_on_rewriting (λ v. (v * 2) % 2 ^ 64) _ _ _ x c.loop-prefix.invariant (_, c.in-Some.ensures.first x c.value-stored.ensures.value) (c.in-Some.ensures.passes ((x * 2) % 2 ^ 64))).0

pub returns : goal.returns
returns g c = ends_rewriting (λ v. (v * 2) % 2 ^ 64) _ _ _ c.loop-prefix.invariant (rw c.in_default.is at c.step.ensures)
