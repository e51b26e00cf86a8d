-- The invariant: the walk is at this slot.
use Rattle.std.proofs.Common.{◌≡◌, ℕ, suc, ◌+◌, ◌*◌, ◌-◌, ◌^◌, ◌<◌, ◌≤◌, slice_index}
use Rattle.std.specs.Prelude.{MatchOption}
use Rattle.prefix_trie_forwarding.specs.Keys.{first_of}
use Rattle.prefix_trie_forwarding.specs.Walks.{Reaches}
use Rattle.prefix_trie_forwarding.proofs.slots.path.walk.Given as goal

abbrev pub invariant-loop-depth : goal.invariant-loop-depth
invariant-loop-depth g l = (k : ℕ) × (n : ℕ) × (l.depth + 8 * k ≡ l.root_bits + 8 * l.levels) × (l.root_bits ≤ l.depth) × (l.root_bits < l.depth → l.depth < l.len + 8)
    × Reaches (2 ^ l.root_bits) l.levels (slice_index l.slots) (first_of (l.root_bits + 8 * l.levels) (g.K.Key.bits l.first)) n k l.at
    × MatchOption l.before (l.depth ≡ l.root_bits) (λ x. (l.root_bits < l.depth) × ((m : ℕ) × Reaches (2 ^ l.root_bits) l.levels (slice_index l.slots) (first_of (l.root_bits + 8 * l.levels) (g.K.Key.bits l.first)) m (suc k) x)
    × (2147483648 ≤ slice_index l.slots x))

abbrev pub decreases-loop-depth : goal.decreases-loop-depth
decreases-loop-depth g l = l.root_bits + 8 * l.levels - l.depth
