-- The invariant of `behind`: the result has the bits copied so far, and zeros after them.
use Rattle.prefix_trie_bits.proofs.Prelude.{◌≡◌, ◌+◌, ◌-◌, ◌≤◌, ◌++◌, take, drop, zeros}
use Rattle.prefix_trie_bits.proofs.prefix.Key.behind.Given as goal

abbrev pub invariant-loop-depth : goal.invariant-loop-depth
invariant-loop-depth g l = record {
  wide : l.width ≡ g.Self.Key.bit_width;
  within : l.fn.n + l.depth ≤ l.width;
  key : g.Self.Key.IsKey l.rest;
  bits : g.Self.Key.bits l.rest ≡ take l.depth (drop l.fn.n (g.Self.Key.bits l.fn.self)) ++ zeros (g.Self.Key.bit_width - l.depth);
}

abbrev pub decreases-loop-depth : goal.decreases-loop-depth
decreases-loop-depth g l = l.width - (l.fn.n + l.depth)
