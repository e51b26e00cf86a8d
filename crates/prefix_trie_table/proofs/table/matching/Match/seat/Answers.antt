-- A value bit is below 31, and so below 32, as `value_seat` requires.
use Rattle.prefix_trie_table.proofs.Prelude.{arith}
use Rattle.prefix_trie_table.proofs.table.matching.Match.seat.Goals as goal

pub value_seat-requires : goal.value_seat-requires
value_seat-requires c = omega (arith, c.requires)
