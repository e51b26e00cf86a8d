-- The invariant of `Places::new`: each set bit is still to be moved or is already at its position in the listing.
use Rattle.prefix_trie_bits.proofs.Prelude.{◌≡◌, ℕ, ◌^◌, ◌<◌, ◌||◌, false, has}
use Rattle.prefix_trie_bits.proofs.Listing.{heap_at, heap}
use Rattle.prefix_trie_bits.proofs.node.Places.new.Given as goal

abbrev pub invariant-loop-rest : goal.invariant-loop-rest
invariant-loop-rest l = record {
  fits : l.listing < 2 ^ 63;
  even : has l.rest 0 ≡ false;
  bits : (p : ℕ) → p < 63 → (has l.listing p || has l.rest (heap_at p)) ≡ has (heap l.fn.values l.fn.children) (heap_at p);
}

abbrev pub decreases-loop-rest : goal.decreases-loop-rest
decreases-loop-rest l = l.rest
