-- Four more bits are written, and at the end all 64.
use Rattle.std.proofs.Common.{◌*◌, arith}
use Rattle.prefix_trie_bits.specs.BitStrings.{length-digits}
use Rattle.prefix_trie_bits.specs.Model.Bits.{digits, zeros}
use Rattle.prefix_trie_bits.specs.Windows.{window_small}
use Rattle.prefix_trie_fib.proofs.Halves.{all_written, nibble_written}
use Rattle.prefix_trie_fib.proofs.compact.halves.from_upper.Goals as goal

pub extend-key-requires-clause-fits : goal.extend-key-requires-clause-fits
extend-key-requires-clause-fits g c = window_small (digits 64 c.args.half) (zeros 5) (4 * c.loop-i.i) 4 c.window.result (omega (arith, length-digits 64 c.args.half, c.loop-i-test.true)) c.window.ensures

pub loop-i-preserved : goal.loop-i-preserved
loop-i-preserved g c =
    nibble_written g.K.Key.bit_width c.args.half c.loop-i.i c.window.result (g.K.Key.bits c.loop-i.key) (g.K.Key.bits c.extend-key.result)
    (omega (arith, c.loop-i-test.true)) c.loop-i.invariant c.window.ensures c.extend-key.ensures.value

pub returns : goal.returns
returns g c = all_written g.K.Key.bit_width c.args.half c.loop-i.i (g.K.Key.bits c.loop-i.key) c.ranges.half.fits (omega (arith, c.loop-i-test.false)) (omega arith) c.loop-i.invariant
