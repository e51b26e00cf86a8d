-- The invariant: an address that was found or listed is found, or listed among the places that come. The results before the group stay.
use Rattle.std.proofs.Common.{◌≡◌, ◌<◌, ℕ, List, get_or}
use Rattle.prefix_trie_fib.specs.Bulk.{AreRanges, IsFoundOrListed}
use Rattle.prefix_trie_fib.proofs.indexed.Indexed.store_listed.Given as goal

abbrev pub invariant-loop-j : goal.invariant-loop-j
invariant-loop-j g l = record {
  kept : (k : ℕ) (v : _) → k < l.from → get_or l.out k v ≡ get_or l.fn.out k v;
  found : (addresses : List _) (k : ℕ) → AreRanges g.K.Key.bits l.self addresses l.listed.places l.listed.ranges l.listed.count
      → IsFoundOrListed g.K.Key.bits l.self addresses l.listed.places 0 l.listed.count l.from l.fn.out k
      → IsFoundOrListed g.K.Key.bits l.self addresses l.listed.places l.j l.listed.count l.from l.out k;
}
