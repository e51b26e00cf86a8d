-- No range starts after this one and before the next address.
use Rattle.std.proofs.Common.{◌+◌, ◌≤◌, arith, suc}
use Rattle.std.proofs.lemmas.Bool.{leb-true}
use Rattle.prefix_trie_bits.specs.Model.Bits.{number}
use Rattle.prefix_trie_fib.specs.Search.{StartsBy}
use Rattle.prefix_trie_fib.proofs.Entries.{some_too}
use Rattle.prefix_trie_fib.proofs.index.bitmap.is_alone.Goals as goal

pub count_until-requires-clause-starts : goal.count_until-requires-clause-starts
count_until-requires-clause-starts g c = some_too c.args.next _ (λ k. StartsBy c.args.line.now c.args.range (number (g.K.Key.bits k)))
    (λ k up. record { inside = omega (arith, c.if-range-len.false, c.len.ensures); by = λ d. let s = c.start.ensures d in omega (arith, s, c.if-starts.ensures, up) }) c.requires.up

pub returns-then-starts : goal.returns-then-starts
returns-then-starts g c = λ one n from to. record {
  starts = record { inside = omega (arith, c.if-range-len.false, c.len.ensures); by = λ d. let s = c.start.ensures d in omega (arith, s, c.if-starts.ensures, from) };
  ends = λ d more. c.count_until.ensures.above (suc n) (some_too c.args.next _ (λ k. suc n ≤ number (g.K.Key.bits k)) (λ k lt. omega (arith, lt)) to) (c.args.range + 1) d (let most = leb-true c.count_until.result 1 one in omega (arith, most)) more;
}
