-- A table has no more ranges with a value than ranges.
use Rattle.std.proofs.Common.{◌^◌, ◌<◌, ◌≤◌, ap, arith, length}
use Rattle.prefix_trie_fib.specs.Ranges.{valued_ranges}
use Rattle.prefix_trie_fib.proofs.ValuedRanges.{valued_few}
use Rattle.prefix_trie_fib.proofs.fib.Fib.ranges.Goals as goal

pub returns-clause-fits : goal.returns-clause-fits
returns-clause-fits g c =
    let few : length (valued_ranges g.P.R.Key.bit_width c.args.self.now) ≤ length c.args.self.now = valued_few g.P.R.Key.bit_width c.args.self.now in
    let all : length c.args.self.now < 2 ^ 64 = (let e = c.len.ensures in let v = ap length c.self.view_is in let t = c.len.type_inv in omega (arith, e, v, t)) in
    omega (arith, few, all)
