-- The invariant: the entries so far are right, and `low` is the first address of the next chunk, if there is one. There are at most two parts for each range before its.
use Rattle.std.proofs.Common.{◌≡◌, ◌-◌, ◌*◌, ◌^◌, ◌<◌, ◌≤◌, ℕ, length}
use Rattle.std.specs.Option.{MatchOption}
use Rattle.prefix_trie_bits.specs.Model.Bits.{number}
use Rattle.prefix_trie_fib.specs.Index.{IsIndex}
use Rattle.prefix_trie_fib.specs.Search.{IsRangeOfNext, StartsBy}
use Rattle.prefix_trie_fib.proofs.index.index_of.Given as goal

abbrev pub invariant-loop-low : goal.invariant-loop-low
invariant-loop-low g l = record {
  right : IsIndex g.K.Key.bit_width l.bits l.line l.chunks.items l.parts.items;
  by : StartsBy l.line l.first (length l.chunks.items * 2 ^ (g.K.Key.bit_width - l.bits));
  next : MatchOption l.low (length l.chunks.items ≡ 2 ^ l.bits)
      (λ at. (number (g.K.Key.bits at) ≡ length l.chunks.items * 2 ^ (g.K.Key.bit_width - l.bits)) × (length l.chunks.items < 2 ^ l.bits));
  few : (i : ℕ) → IsRangeOfNext g.K.Key.bits l.line l.low i → length l.parts.items ≤ 2 * i;
}

abbrev pub decreases-loop-low : goal.decreases-loop-low
decreases-loop-low g l = 2 ^ l.bits - length l.chunks.items
