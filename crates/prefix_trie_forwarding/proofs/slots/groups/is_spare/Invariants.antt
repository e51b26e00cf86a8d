-- The invariant: the slots up to here are the same.
use Rattle.std.proofs.Common.{◌≡◌, ℕ, ◌<◌, ◌≤◌, slice_index}
use Rattle.prefix_trie_forwarding.proofs.slots.groups.is_spare.Given as goal

abbrev pub invariant-loop-i : goal.invariant-loop-i
invariant-loop-i l = (y : ℕ) → l.low ≤ y → y < l.i → slice_index l.slots y ≡ slice_index l.slots l.low
