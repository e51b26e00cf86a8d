-- The invariant: the answer from this slot on is that to the address, each level so far was read once, and what is left of
-- the address are the bits after those that were read.
use Rattle.std.proofs.Common.{◌≡◌, ℕ, ◌+◌, ◌*◌, ◌-◌, ◌^◌, ◌≤◌, ◌++◌, drop, slice_index}
use Rattle.prefix_trie_bits.specs.Model.Bits.{zeros}
use Rattle.prefix_trie_forwarding.specs.Keys.{first_of}
use Rattle.prefix_trie_forwarding.specs.Walks.{answer, value_from}
use Rattle.prefix_trie_forwarding.proofs.slots.find.find_counted.Given as goal

abbrev pub invariant-loop-slot : goal.invariant-loop-slot
invariant-loop-slot g l = (k : ℕ) × (x : ℕ) × (depth : ℕ) × (depth + 8 * k ≡ l.root_bits + 8 * l.levels) × (l.slot ≡ slice_index l.slots x)
    × (value_from (2 ^ l.root_bits) (slice_index l.slots) (first_of (l.root_bits + 8 * l.levels) (g.K.Key.bits l.fn.address)) k x
    ≡ answer (2 ^ l.root_bits) l.levels (slice_index l.slots) (first_of (l.root_bits + 8 * l.levels) (g.K.Key.bits l.fn.address)))
    × (l.reads + k ≡ 1 + l.levels)
    × (depth ≤ g.K.Key.bit_width → g.K.Key.bits l.rest ≡ drop depth (g.K.Key.bits l.fn.address) ++ zeros depth)

abbrev pub decreases-loop-slot : goal.decreases-loop-slot
decreases-loop-slot g l = 1 + l.levels - l.reads
