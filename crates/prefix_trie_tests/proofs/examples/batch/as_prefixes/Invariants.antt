-- The invariant of the loop: the prefixes so far are the hosts of the addresses, and all prefixes fit.
use Rattle.prefix_trie_tests.proofs.Prelude.{◌≡◌, ◌^◌, ◌<◌, ◌≤◌, All, map, take}
use Rattle.prefix_trie_tests.proofs.examples.batch.as_prefixes.Given as goal

abbrev pub invariant-loop-i : goal.invariant-loop-i
invariant-loop-i l = record {
  hosts : take l.i l.prefixes ≡ map (λ addr. (addr, 32)) (take l.i l.addresses);
  fit : All (λ p. (p.0 < 2 ^ 32) × (p.1 ≤ 32)) l.prefixes;
}
