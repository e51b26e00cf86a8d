-- The invariant: the number has the first bits, then ones as far as the loop has come, and then zeros.
use Rattle.std.proofs.Common.{◌≡◌, ◌+◌, ◌-◌, ◌^◌, ◌≤◌, ◌++◌, take}
use Rattle.prefix_trie_bits.specs.Model.Bits.{number, zeros}
use Rattle.address_ranges.proofs.before.filled.Given as goal

abbrev pub invariant-loop-done : goal.invariant-loop-done
invariant-loop-done g l = record {
  short : l.done ≤ l.width;
  kept : g.K.Key.bits l.last ≡ take l.done (g.K.Key.bits l.last) ++ zeros (l.width - l.done);
  at : number (g.K.Key.bits l.last) + 2 ^ (l.width - l.done) ≡ number (g.K.Key.bits l.fn.key) + 2 ^ (g.K.Key.bit_width - l.fn.depth);
  key : g.K.Key.IsKey l.last;
}

abbrev pub decreases-loop-done : goal.decreases-loop-done
decreases-loop-done g l = l.width - l.done
