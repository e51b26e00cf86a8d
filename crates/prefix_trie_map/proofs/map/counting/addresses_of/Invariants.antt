-- The invariant of `addresses_of`: the total is the number of addresses of the outermost entries so far.
use Rattle.prefix_trie_map.proofs.Prelude.{◌≡◌, length, number, Entries, listing, IsCounted}
use Rattle.prefix_trie_map.proofs.map.counting.addresses_of.Given as goal

abbrev pub invariant-loop-len : goal.invariant-loop-len
invariant-loop-len g l =
    record {
      key : g.K.Key.IsKey l.total;
      counted : (m : Entries g.row.T.Denot) → l.fn.walk ≡ listing m → IsCounted g.K.Key.bit_width m l.walk (number (g.K.Key.bits l.total));
    }

abbrev pub decreases-loop-len : goal.decreases-loop-len
decreases-loop-len g l = length l.walk
