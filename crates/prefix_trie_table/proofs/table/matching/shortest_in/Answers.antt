-- A node's shortest match has the string of the bit that `shortest_match` returns, after the bits that lead to the node.
use Rattle.prefix_trie_table.proofs.Prelude.{arith}
use Rattle.prefix_trie_table.proofs.Lookup.NodeMatches.{clear-small, none_here, shortest_here, shortest-small, shortest_first, none_first}
use Rattle.prefix_trie_table.proofs.table.matching.shortest_in.Goals as goal

pub shortest_match-requires : goal.shortest_match-requires
shortest_match-requires g c = clear-small c.args.here.node.value_bitmap (omega arith) c.requires.few

pub returns-in_default-clause-found : goal.returns-in_default-clause-found
returns-in_default-clause-found g c = λ q reading whole left is. none_here q c.args.here.level whole reading c.args.here.node is (none_first _ _ _ left c.in_default.ensures)

pub string_of-requires : goal.string_of-requires
string_of-requires g c = shortest-small _ c.in-Some.bit _ c.in-Some.ensures

pub returns-clause-found : goal.returns-clause-found
returns-clause-found g c = λ q reading whole left is.
    shortest_here q c.args.here.level whole reading c.args.here.node is c.in-Some.bit c.string_of.result.0 c.string_of.result.1 c.string_of.ensures.only
    (shortest_first _ _ _ left _ c.in-Some.ensures)
