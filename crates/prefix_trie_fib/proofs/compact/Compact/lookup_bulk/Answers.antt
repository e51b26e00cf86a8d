-- The results of all groups are those of all addresses.
use Rattle.std.proofs.Common.{None, arith}
use Rattle.prefix_trie_bits.specs.Model.Bits.{number}
use Rattle.prefix_trie_fib.specs.Line.{value_along}
use Rattle.prefix_trie_fib.proofs.Results.{results_are}
use Rattle.prefix_trie_fib.proofs.compact.Compact.lookup_bulk.Goals as goal

pub returns : goal.returns
returns g c = results_are (λ a. value_along None c.args.self.now (number (g.K.Key.bits a))) c.args.addresses.now c.groups.out c.groups.from (omega (arith, c.requires, c.groups.auto.out)) c.groups-test.false c.groups.invariant.results
