-- The range sought is not before the middle if that starts by the address, and otherwise not from it on.
use Rattle.std.proofs.Common.{◌+◌, ◌/◌, arith}
use Rattle.prefix_trie_bits.specs.Model.Bits.{number}
use Rattle.prefix_trie_fib.proofs.RangeValues.{above_middle}
use Rattle.prefix_trie_fib.proofs.ranges.line.Line.half.Goals as goal

pub returns-else-is_at_most : goal.returns-else-is_at_most
returns-else-is_at_most g c = record {
  starts = c.requires.among.starts;
  some = omega (arith, c.requires.among.some);
  inside = omega (arith, c.requires.among.inside);
  above = λ k d le in_it. above_middle c.args.self.now c.requires.division (number (g.K.Key.bits c.args.address)) (c.args.first + c.args.count / 2)
      (λ e. let s = c.start.ensures e in let lt = c.is_at_most.ensures in omega (arith, s, lt)) k d (omega (arith, le)) in_it;
}
