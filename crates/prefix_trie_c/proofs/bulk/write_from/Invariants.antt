-- The invariant of the loop: the first results are written after those that were there.
use Rattle.std.proofs.Common.{◌≡◌, ◌+◌, ◌++◌, length, map, take}
use Rattle.prefix_trie_c.specs.Entries.{found_value}
use Rattle.prefix_trie_c.proofs.bulk.write_from.Given as goal

abbrev pub invariant-loop-i : goal.invariant-loop-i
invariant-loop-i l = record {
  long : length l.results ≡ length l.initial.results;
  written : take (l.from + l.i) l.results ≡ take l.from l.initial.results ++ map found_value (take l.i l.found);
}
