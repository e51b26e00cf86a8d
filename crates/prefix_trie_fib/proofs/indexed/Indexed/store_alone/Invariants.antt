-- The invariant: each of the first addresses is found or listed. The results before the group stay.
use Rattle.std.proofs.Common.{◌≡◌, ◌<◌, ◌≤◌, ℕ, get_or, length}
use Rattle.prefix_trie_fib.specs.Bulk.{AreSeveral, IsFoundOrListed}
use Rattle.prefix_trie_fib.proofs.indexed.Indexed.store_alone.Given as goal

abbrev pub invariant-loop-i : goal.invariant-loop-i
invariant-loop-i g l = record {
  kept : (k : ℕ) (v : _) → k < l.from → get_or l.out k v ≡ get_or l.fn.out k v;
  found : (k : ℕ) → k < l.i → IsFoundOrListed g.K.Key.bits l.self l.addresses l.listed.places 0 l.count l.from l.out k;
  several : AreSeveral l.addresses l.entries l.listed.places l.count;
  few : l.count ≤ l.i;
  long : length l.listed.places ≡ 128;
}
