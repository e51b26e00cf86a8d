-- A range with a value is the next item, and one without a value is left out.
use Rattle.std.proofs.Common.{◌∙◌, ◌<◌, arith, length, sym}
use Rattle.prefix_trie_fib.proofs.ValuedRanges.{range_given, range_skipped}
use Rattle.prefix_trie_fib.proofs.fib.walk.range_from.Goals as goal

pub returns-in-Some : goal.returns-in-Some
returns-in-Some g c =
    let i = c.loop-i.i in
    let rs = c.args.fib.now in
    let inside : i < length rs = (let e = c.len-i-end.ensures in omega (arith, c.loop-i-test.true, e)) in
    c.loop-i.invariant
    ∙ range_given g.P.R.Key.bit_width g.P.R.Key.bits rs i c.range-first.result.0 c.last_address.result c.range-first.result.1 c.in-Some.value inside c.range-first.ensures.first c.range-first.ensures.past
    (λ d. sym c.in-Some.is ∙ c.range-first.ensures.value d) c.last_address.ensures

pub loop-i-preserved : goal.loop-i-preserved
loop-i-preserved g c =
    let i = c.loop-i.i in
    let rs = c.args.fib.now in
    let inside : i < length rs = (let e = c.len-i-end.ensures in omega (arith, c.loop-i-test.true, e)) in
    c.loop-i.invariant ∙ range_skipped g.P.R.Key.bit_width rs i inside (λ d. sym c.in_default.is ∙ c.range-first.ensures.value d)
