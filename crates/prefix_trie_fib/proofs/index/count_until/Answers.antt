-- The range of the next chunk's first address is the last one that counts, unless it starts there.
use Rattle.std.proofs.Common.{◌+◌, ◌≤◌, None, arith, get_or, subst}
use Rattle.std.specs.Option.{IfSome}
use Rattle.prefix_trie_bits.specs.Model.Bits.{number}
use Rattle.prefix_trie_fib.specs.Search.{StartsBy}
use Rattle.prefix_trie_fib.proofs.Entries.{from_middle, not_before}
use Rattle.prefix_trie_fib.proofs.Sizes.{next_found}
use Rattle.prefix_trie_fib.proofs.index.count_until.Goals as goal

pub overflow_sub-result-then-is_at_most : goal.overflow_sub-result-then-is_at_most
overflow_sub-result-then-is_at_most g c = not_before c.args.line.now c.requires.division (0, None) c.args.first c.range_from-last.result (number (g.K.Key.bits c.in-Some.end))
    (subst (λ o. IfSome o (λ k. StartsBy c.args.line.now c.args.first (number (g.K.Key.bits k)))) c.in-Some.is c.requires.starts) c.range_from-last.ensures

pub overflow_sub-result-else-is_at_most : goal.overflow_sub-result-else-is_at_most
overflow_sub-result-else-is_at_most g c = not_before c.args.line.now c.requires.division (0, None) c.args.first c.range_from-last.result (number (g.K.Key.bits c.in-Some.end))
    (subst (λ o. IfSome o (λ k. StartsBy c.args.line.now c.args.first (number (g.K.Key.bits k)))) c.in-Some.is c.requires.starts) c.range_from-last.ensures

pub returns-then-is_at_most-clause-above : goal.returns-then-is_at_most-clause-above
returns-then-is_at_most-clause-above g c = λ high le k d from in_it.
    let le' : high ≤ number (g.K.Key.bits c.in-Some.end) = subst (λ o. IfSome o (λ e. high ≤ number (g.K.Key.bits e))) c.in-Some.is le in
    let at : number (g.K.Key.bits c.in-Some.end) ≤ (get_or c.args.line.now k d).0 =
    from_middle c.args.line.now c.requires.division (number (g.K.Key.bits c.in-Some.end)) c.range_from-last.result
    (λ e. let s = c.start.ensures e in let t = c.if-is_at_most.ensures in omega (arith, s, t)) k d (omega (arith, from, overflow_sub-result-then-is_at_most g c)) in_it in
    omega (arith, le', at)

pub returns-else-is_at_most-clause-above : goal.returns-else-is_at_most-clause-above
returns-else-is_at_most-clause-above g c = λ high le k d from in_it.
    let le' : high ≤ number (g.K.Key.bits c.in-Some.end) = subst (λ o. IfSome o (λ e. high ≤ number (g.K.Key.bits e))) c.in-Some.is le in
    let after : c.range_from-last.result + 1 ≤ k = omega (arith, from, overflow_sub-result-else-is_at_most g c) in
    let at : number (g.K.Key.bits c.in-Some.end) ≤ (get_or c.args.line.now k d).0 =
    from_middle c.args.line.now c.requires.division (number (g.K.Key.bits c.in-Some.end)) (c.range_from-last.result + 1)
    (λ e. let s = c.range_from-last.ensures.ends e (omega (arith, after, in_it)) in omega (arith, s)) k d after in_it in
    omega (arith, le', at)

pub returns-then-is_at_most-clause-few : goal.returns-then-is_at_most-clause-few
returns-then-is_at_most-clause-few g c = λ i of.
    let is = next_found g.K.Key.bits c.args.line.now c.requires.division (0, None) c.range_from-last.result i c.args.next c.in-Some.end c.in-Some.is c.range_from-last.ensures of in
    omega (arith, is, overflow_sub-result-then-is_at_most g c)

pub returns-else-is_at_most-clause-few : goal.returns-else-is_at_most-clause-few
returns-else-is_at_most-clause-few g c = λ i of.
    let is = next_found g.K.Key.bits c.args.line.now c.requires.division (0, None) c.range_from-last.result i c.args.next c.in-Some.end c.in-Some.is c.range_from-last.ensures of in
    omega (arith, is, overflow_sub-result-else-is_at_most g c)
