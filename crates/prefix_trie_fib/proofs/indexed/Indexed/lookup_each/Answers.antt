-- One more address has its value, and the values before the group stay.
use Rattle.std.proofs.Common.{◌≡◌, ◌≢◌, ◌∙◌, ◌+◌, ◌<◌, None, ap, arith, get_or, length}
use Rattle.std.proofs.lemmas.List.{get_or-set_other}
use Rattle.prefix_trie_bits.specs.Model.Bits.{number}
use Rattle.prefix_trie_fib.specs.Line.{value_along}
use Rattle.prefix_trie_fib.proofs.Groups.{each_set_from}
use Rattle.prefix_trie_fib.proofs.RangeValues.{get_or-any}
use Rattle.prefix_trie_fib.proofs.indexed.Indexed.lookup_each.Goals as goal

pub loop-i-preserved : goal.loop-i-preserved
loop-i-preserved g c =
    let b = g.K.Key.bits in
    let from = c.args.from in
    let i = c.loop-i.i in
    let x = c.lookup.result in
    let all = c.args.addresses.now in
    let inside : from + i < length c.loop-i.out = omega (arith, c.loop-i-test.true, c.requires.inside, c.loop-i.auto.out) in
    record {
      kept = λ k v lt. (let other : k ≢ from + i = omega (arith, lt) in get_or-set_other c.loop-i.out (from + i) k x v other ∙ c.loop-i.invariant.kept k v lt);
      values = λ k a v lt.
          each_set_from (λ j y. (e : _) → y ≡ value_along None c.args.self.now (number (b (get_or all j e)))) c.loop-i.out from i x inside
          (λ e. c.lookup.ensures ∙ ap (λ q. value_along None c.args.self.now (number (b q))) (c.index-addresses-i.is ∙ get_or-any all i c.index-addresses-i.result e c.loop-i-test.true))
          (λ j y older e. c.loop-i.invariant.values j e y older) k v lt a;
    }
