-- The invariant of `compare`: the bits read so far are equal, so the later bits decide the order.
use Rattle.prefix_trie_bits.proofs.Prelude.{◌≡◌, ◌-◌, ◌≤◌, drop, listing_cmp}
use Rattle.prefix_trie_bits.proofs.prefix.Key.compare.Given as goal

abbrev pub invariant-loop-depth : goal.invariant-loop-depth
invariant-loop-depth g l = record {
  wide : l.width ≡ g.Self.Key.bit_width;
  within : l.depth ≤ l.width;
  same : listing_cmp (g.Self.Key.bits l.fn.self) (g.Self.Key.bits l.fn.other) ≡ listing_cmp (drop l.depth (g.Self.Key.bits l.fn.self)) (drop l.depth (g.Self.Key.bits l.fn.other));
}

abbrev pub decreases-loop-depth : goal.decreases-loop-depth
decreases-loop-depth g l = l.width - l.depth
