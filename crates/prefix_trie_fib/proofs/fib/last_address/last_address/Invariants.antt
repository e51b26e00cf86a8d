-- The invariant: the last address is above the one found so far by less than a power of two. Its exponent falls.
use Rattle.std.proofs.Common.{◌+◌, ◌^◌, ◌<◌, ◌≤◌}
use Rattle.prefix_trie_bits.specs.Model.Bits.{number}
use Rattle.prefix_trie_fib.specs.Line.{end_of}
use Rattle.prefix_trie_fib.proofs.fib.last_address.last_address.Given as goal

abbrev pub invariant-loop-exponent : goal.invariant-loop-exponent
invariant-loop-exponent g l = record {
  within : l.exponent ≤ g.K.Key.bit_width;
  inside : number (g.K.Key.bits l.last) < end_of g.K.Key.bit_width g.K.Key.bits l.past;
  reach : end_of g.K.Key.bit_width g.K.Key.bits l.past ≤ number (g.K.Key.bits l.last) + 2 ^ l.exponent;
}

abbrev pub decreases-loop-exponent : goal.decreases-loop-exponent
decreases-loop-exponent g l = l.exponent
