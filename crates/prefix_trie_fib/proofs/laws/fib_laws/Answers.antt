-- The laws follow from those of keys, from the order of the ranges, and from the values of neighbours.
use Rattle.std.proofs.Common.{None}
use Rattle.prefix_trie_map.proofs.Runs.{shows_in_order}
use Rattle.prefix_trie_fib.specs.Ranges.{in_numbers}
use Rattle.prefix_trie_fib.proofs.MergedRanges.{alike_exact}
use Rattle.prefix_trie_fib.proofs.OneTable.{one_division_of_values, one_table}
use Rattle.prefix_trie_fib.proofs.RangeValues.{one_range, value_of_range}
use Rattle.prefix_trie_fib.proofs.ValuedRanges.{are_ranges}
use Rattle.prefix_trie_fib.proofs.laws.fib_laws.Goals as goal

pub returns-clause-tables : goal.returns-clause-tables
returns-clause-tables g c = record {
  alike_at = λ same m fib table a key. table.values (g.P.R.Key.bits a) (g.met.P.R.Key.key_laws.bits_length a key);
  at_address = λ same exact m fib table a key. alike_exact same exact _ _ (table.values (g.P.R.Key.bits a) (g.met.P.R.Key.key_laws.bits_length a key));
  of_range = λ fib division i n d range. value_of_range fib division None i n d range;
  one_range = λ fib division i j n a b. one_range fib division (0, None) i j n a b;
  valued = λ same fib division merged. are_ranges g.P.R.Key.bit_width same fib division merged;
  one_division = λ same itself. one_division_of_values g.P.R.Key.bit_width same itself;
  one_table = λ same itself exact. one_table g.P.R.Key.bit_width same itself exact;
}

pub returns-clause-walk : goal.returns-clause-walk
returns-clause-walk g c = shows_in_order (in_numbers g.P.R.Key.bits)
