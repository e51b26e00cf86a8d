-- The invariant: this is where the path ends now, and the groups that were given back were spare.
use Rattle.std.proofs.Common.{◌≡◌, ◌+◌, ◌*◌, ◌-◌, slice_index}
use Rattle.prefix_trie_forwarding.specs.Counts.{IsCounted}
use Rattle.prefix_trie_forwarding.specs.Keys.{first_of}
use Rattle.prefix_trie_forwarding.specs.Paths.{IsEnd}
use Rattle.prefix_trie_forwarding.specs.Slots.{AreGroups}
use Rattle.prefix_trie_forwarding.proofs.Trimming.{TrimsSoFar}
use Rattle.prefix_trie_forwarding.proofs.slots.trim.trim.Given as goal

abbrev pub invariant-trim : goal.invariant-trim
invariant-trim g l = record {
  set : AreGroups l.root_bits l.groups.made l.slots l.groups.free.items;
  made : l.groups.made ≡ l.initial.groups.made;
  end : IsEnd l.root_bits l.levels (slice_index l.slots) (first_of (l.root_bits + 8 * l.levels) (g.K.Key.bits l.first)) l.len l.end;
  trims : TrimsSoFar l.root_bits l.levels (first_of (l.root_bits + 8 * l.levels) (g.K.Key.bits l.first)) (l.root_bits + 8 * l.levels - l.len) (slice_index l.initial.slots) (slice_index l.slots);
  counted : IsCounted l.root_bits l.levels l.groups.made (slice_index l.slots) l.groups.free.items;
}

abbrev pub decreases-trim : goal.decreases-trim
decreases-trim g l = l.end.depth
