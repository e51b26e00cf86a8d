-- The invariant: the walk is at this slot, which has an answer, and the blocks that it went through have groups.
use Rattle.std.proofs.Common.{◌≡◌, ◌+◌, ◌*◌, ◌-◌, ◌≤◌, slice_index, vec_len}
use Rattle.prefix_trie_forwarding.specs.Counts.{IsCounted}
use Rattle.prefix_trie_forwarding.specs.Keys.{first_of}
use Rattle.prefix_trie_forwarding.specs.Slots.{AreGroups}
use Rattle.prefix_trie_forwarding.proofs.Linking.{IsLinking}
use Rattle.prefix_trie_forwarding.proofs.slots.link.link.Given as goal

abbrev pub invariant-loop-depth : goal.invariant-loop-depth
invariant-loop-depth g l = record {
  set : AreGroups l.root_bits l.groups.made l.slots l.groups.free.items;
  made : l.groups.made ≡ l.initial.groups.made;
  spent : l.depth + 8 * vec_len l.groups.free ≡ l.fn.end.depth + 8 * vec_len l.initial.groups.free;
  enough : l.len ≤ l.depth + 8 * vec_len l.groups.free;
  linking : IsLinking l.root_bits l.levels (first_of (l.root_bits + 8 * l.levels) (g.K.Key.bits l.first)) l.len l.depth l.at (slice_index l.initial.slots) (slice_index l.slots);
  counted : IsCounted l.root_bits l.levels l.groups.made (slice_index l.slots) l.groups.free.items;
}

abbrev pub decreases-loop-depth : goal.decreases-loop-depth
decreases-loop-depth g l = l.root_bits + 8 * l.levels - l.depth
