-- The invariant: the entries of the first parts are appended, and `at` is the first address of the next part, if there is one.
use Rattle.std.proofs.Common.{◌≡◌, ◌+◌, ◌-◌, ◌*◌, ◌^◌, ◌<◌}
use Rattle.prefix_trie_bits.specs.Model.Bits.{number}
use Rattle.prefix_trie_fib.specs.Search.{StartsBy}
use Rattle.prefix_trie_fib.proofs.Entries.{PartsSoFar}
use Rattle.prefix_trie_fib.proofs.index.push_parts.Given as goal

abbrev pub invariant-loop-part : goal.invariant-loop-part
invariant-loop-part g l = record {
  so_far : PartsSoFar g.K.Key.bit_width l.depth l.line (number (g.K.Key.bits l.fn.low)) l.fn.parts.items l.parts.items l.part;
  by : StartsBy l.line l.from (number (g.K.Key.bits l.at));
  next : l.part < l.fn.count → number (g.K.Key.bits l.at) ≡ number (g.K.Key.bits l.fn.low) + l.part * 2 ^ (g.K.Key.bit_width - l.depth);
}
