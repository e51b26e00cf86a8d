-- The invariant of the loop: the first numbers are those of the first addresses.
use Rattle.std.proofs.Common.{◌≡◌, ◌+◌, ◌*◌, ◌^◌, length, map, take}
use Rattle.prefix_trie_c.proofs.bulk.numbers_of.Given as goal

abbrev pub invariant-loop-i : goal.invariant-loop-i
invariant-loop-i l = record {
  long : length l.numbers ≡ 128;
  written : take l.i l.numbers ≡ map (λ a. a.high * 2 ^ 64 + a.low) (take l.i l.group);
}
