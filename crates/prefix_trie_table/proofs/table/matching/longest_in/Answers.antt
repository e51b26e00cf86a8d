-- A node's longest match has the string of the bit that `longest_match` returns, after the bits that lead to the node.
use Rattle.prefix_trie_table.proofs.Prelude.{arith}
use Rattle.prefix_trie_table.proofs.Lookup.NodeMatches.{clear-small, none_here, longest_here, longest-small, longest_first, none_first}
use Rattle.prefix_trie_table.proofs.table.matching.longest_in.Goals as goal

pub longest_match-requires : goal.longest_match-requires
longest_match-requires g c = clear-small c.args.here.node.value_bitmap (omega arith) c.requires.few

pub returns-in_default : goal.returns-in_default
returns-in_default g c = λ q reading whole left is. none_here q c.args.here.level whole reading c.args.here.node is (none_first _ _ _ left c.in_default.ensures)

pub string_of-requires : goal.string_of-requires
string_of-requires g c = longest-small _ c.in-Some.bit _ c.in-Some.ensures

pub returns : goal.returns
returns g c = λ q reading whole left is.
    longest_here q c.args.here.level whole reading c.args.here.node is c.in-Some.bit c.string_of.result.0 c.string_of.result.1 c.string_of.ensures.only
    (longest_first _ _ _ left _ c.in-Some.ensures)
