-- A map with no entry has the table of one range without a value.
use Rattle.std.proofs.Common.{subst, sym}
use Rattle.prefix_trie_fib.specs.Tables.{IsTableOf}
use Rattle.prefix_trie_fib.proofs.OneTable.{empty_table}
use Rattle.prefix_trie_fib.proofs.fib.compact_of.Goals as goal

pub returns-in_default-clause-table : goal.returns-in_default-clause-table
returns-in_default-clause-table g c =
    let w = g.P.R.Key.bit_width in
    subst (IsTableOf w g.T.PartialEq.eq c.args.map.now.entries) (sym c.empty.ensures) (empty_table w g.T.PartialEq.eq c.args.map.now.entries (c.some_value.ensures c.in_default.is))
