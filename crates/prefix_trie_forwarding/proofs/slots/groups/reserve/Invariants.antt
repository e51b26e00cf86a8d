-- The invariant: no slot has changed, as many groups are in use, and none was made while enough were free.
use Rattle.std.proofs.Common.{◌≡◌, ◌⊎◌, ℕ, ◌+◌, ◌-◌, ◌<◌, ◌≤◌, slice_index, vec_len}
use Rattle.prefix_trie_forwarding.specs.Slots.{AreGroups}
use Rattle.prefix_trie_forwarding.proofs.slots.groups.reserve.Given as goal

abbrev pub invariant-loop-slots : goal.invariant-loop-slots
invariant-loop-slots g l = record {
  points : (x : ℕ) → slice_index l.slots.items x ≡ slice_index l.initial.slots.items x;
  set : AreGroups l.root_bits l.groups.made l.slots.items l.groups.free.items;
  as_many : l.groups.made + vec_len l.initial.groups.free ≡ l.initial.groups.made + vec_len l.groups.free;
  made : (l.groups.made ≡ l.initial.groups.made) ⊎ ((0 < l.missing) × (vec_len l.groups.free ≤ l.missing));
  grown : vec_len l.initial.groups.free ≤ vec_len l.groups.free;
}

abbrev pub decreases-loop-slots : goal.decreases-loop-slots
decreases-loop-slots g l = l.missing - vec_len l.groups.free
