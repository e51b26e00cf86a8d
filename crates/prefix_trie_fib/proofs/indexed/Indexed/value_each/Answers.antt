-- One more address has its value, and the values before the group stay.
use Rattle.std.proofs.Common.{◌≡◌, ◌≢◌, ◌∙◌, ◌+◌, ◌<◌, None, ap, arith, get_or, length, rules, subst, sym}
use Rattle.std.proofs.lemmas.List.{get_or-set_other}
use Rattle.prefix_trie_bits.specs.Model.Bits.{number}
use Rattle.prefix_trie_fib.specs.Index.{IsEntryAt}
use Rattle.prefix_trie_fib.specs.Line.{value_along}
use Rattle.prefix_trie_fib.proofs.Groups.{each_set_from}
use Rattle.prefix_trie_fib.proofs.RangeValues.{get_or-any}
use Rattle.prefix_trie_fib.proofs.indexed.Indexed.value_each.Goals as goal

pub value-requires-clause-right : goal.value-requires-clause-right
value-requires-clause-right g c =
    let b = g.K.Key.bits in
    let i = c.loop-i.i in
    let address = c.index-addresses-i.result in
    let x = c.index-entries-i.result in
    subst (λ rs. IsEntryAt rs (b address) x) (sym c.self.view_is)
    (subst (λ q. IsEntryAt c.args.self.now (b q) x) (sym c.index-addresses-i.is) (subst (IsEntryAt c.args.self.now (b (get_or c.args.addresses.now i address))) (sym c.index-entries-i.is) (c.requires.read i address x c.loop-i-test.true)))

pub offset_bounds-out-from : goal.offset_bounds-out-from
offset_bounds-out-from g c = let inside : c.args.from + c.loop-i.i < length c.args.out.now = omega (arith, c.loop-i-test.true, c.requires.inside) in search rules

pub loop-i-preserved : goal.loop-i-preserved
loop-i-preserved g c =
    let b = g.K.Key.bits in
    let from = c.args.from in
    let i = c.loop-i.i in
    let x = c.value.result in
    let all = c.args.addresses.now in
    let inside : from + i < length c.loop-i.out = omega (arith, c.loop-i-test.true, c.requires.inside, c.loop-i.auto.out) in
    record {
      kept = λ k v lt. (let other : k ≢ from + i = omega (arith, lt) in get_or-set_other c.loop-i.out (from + i) k x v other ∙ c.loop-i.invariant.kept k v lt);
      values = λ k a v lt.
          each_set_from (λ j y. (e : _) → y ≡ value_along None c.args.self.now (number (b (get_or all j e)))) c.loop-i.out from i x inside
          (λ e. c.value.ensures ∙ ap (λ rs. value_along None rs (number (b c.index-addresses-i.result))) c.self.view_is
          ∙ ap (λ q. value_along None c.args.self.now (number (b q))) (c.index-addresses-i.is ∙ get_or-any all i c.index-addresses-i.result e c.loop-i-test.true))
          (λ j y older e. c.loop-i.invariant.values j e y older) k v lt a;
    }
