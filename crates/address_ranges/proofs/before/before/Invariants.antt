-- The invariant: the address is its first bits, and then zeros; `front` has one bit less of them.
use Rattle.std.proofs.Common.{◌≡◌, ◌-◌, ◌≤◌, ◌++◌, take}
use Rattle.prefix_trie_bits.specs.Model.Bits.{number, zeros}
use Rattle.address_ranges.proofs.before.before.Given as goal

abbrev pub invariant-loop-front : goal.invariant-loop-front
invariant-loop-front g l =
    let w = g.K.Key.bit_width in
    let b = g.K.Key.bits l.address in
    record {
      some : 1 ≤ l.depth;
      short : l.depth ≤ w;
      front : g.K.Key.bits l.front ≡ take (l.depth - 1) b ++ zeros (w - (l.depth - 1));
      here : number (take l.depth b ++ zeros (w - l.depth)) ≡ number b;
    }

abbrev pub decreases-loop-front : goal.decreases-loop-front
decreases-loop-front g l = l.depth
