-- The invariant: the slots up to here are filled.
use Rattle.std.proofs.Common.{◌≡◌, ℕ, ◌<◌, ◌≤◌, slice_index}
use Rattle.prefix_trie_forwarding.specs.Walks.{AgreesOutside}
use Rattle.prefix_trie_forwarding.proofs.slots.groups.fill_group.Given as goal

abbrev pub invariant-loop-i : goal.invariant-loop-i
invariant-loop-i l = record {
  outside : AgreesOutside l.low l.i (slice_index l.initial.slots) (slice_index l.slots);
  inside : (y : ℕ) → l.low ≤ y → y < l.i → slice_index l.slots y ≡ l.answer;
}
