-- Each value that the walk lends is not doubled yet, and doubling it changes no other.
use Rattle.prefix_trie_tests.proofs.Prelude.{◌*◌, ◌%◌, ◌^◌}
use Rattle.prefix_trie.proofs.Callers.{goes_on_rewriting, ends_rewriting}
use Rattle.prefix_trie_tests.proofs.examples.scaling.double_rest.Goals as goal

pub loop-stored-smaller : goal.loop-stored-smaller
loop-stored-smaller g c = (goes_on_rewriting (λ v. (v * 2) % 2 ^ 64) _ _ _ c.in-Some.stored.now c.loop-stored.invariant c.in-Some.ensures.value (rw c.in-Some.is at (c.next.follows.holds ((c.in-Some.stored.now * 2) % 2 ^ 64)))).1

pub loop-stored-preserved : goal.loop-stored-preserved
loop-stored-preserved g c = (goes_on_rewriting (λ v. (v * 2) % 2 ^ 64) _ _ _ c.in-Some.stored.now c.loop-stored.invariant c.in-Some.ensures.value (rw c.in-Some.is at (c.next.follows.holds ((c.in-Some.stored.now * 2) % 2 ^ 64)))).0

pub returns : goal.returns
returns g c = ends_rewriting (λ v. (v * 2) % 2 ^ 64) _ _ _ c.loop-stored.invariant (rw c.in_default.is at c.next.follows.holds-at-none)
