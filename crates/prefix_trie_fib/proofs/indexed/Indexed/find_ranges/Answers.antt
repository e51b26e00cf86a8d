-- One more listed address has its range.
use Rattle.std.proofs.Common.{◌∙◌, ◌<◌, ap, arith, get_or, length, length-set, subst, sym}
use Rattle.prefix_trie_bits.specs.Model.Bits.{number}
use Rattle.prefix_trie_fib.specs.Index.{IsEntryAt}
use Rattle.prefix_trie_fib.specs.Search.{IsRangeOf}
use Rattle.prefix_trie_fib.proofs.Groups.{range_next}
use Rattle.prefix_trie_fib.proofs.RangeValues.{get_or-any}
use Rattle.prefix_trie_fib.proofs.indexed.Indexed.find_ranges.Goals as goal

pub range-range-requires-clause-right : goal.range-range-requires-clause-right
range-range-requires-clause-right g c =
    let b = g.K.Key.bits in
    let rs = c.args.self.now in
    let place = get_or c.loop-j.listed.places c.loop-j.j 0 in
    let address = c.index-addresses-i.result in
    let x = c.index-entries-i.result in
    let in_list : c.loop-j.j < c.args.listed.now.count = c.loop-j-test.true in
    let inside : place < length c.args.addresses.now =
    subst (λ ps. get_or ps c.loop-j.j 0 < length c.args.addresses.now) (sym c.loop-j.invariant.places) (c.requires.several.inside c.loop-j.j 0 in_list) in
    subst (λ line. IsEntryAt line (b address) x) (sym c.self.view_is)
    (subst (λ q. IsEntryAt rs (b q) x) (sym c.index-addresses-i.is) (subst (IsEntryAt rs (b (get_or c.args.addresses.now place address))) (sym c.index-entries-i.is) (c.requires.read place address x inside)))

pub loop-j-preserved : goal.loop-j-preserved
loop-j-preserved g c =
    let b = g.K.Key.bits in
    let rs = c.args.self.now in
    let all = c.args.addresses.now in
    let j = c.loop-j.j in
    let listed = c.loop-j.listed in
    let range = c.range-range.result in
    let in_list : j < c.args.listed.now.count = c.loop-j-test.true in
    let in_places : j < length listed.places = omega (arith, in_list, c.requires.few, c.loop-j.invariant.long_places) in
    let in_ranges : j < length listed.ranges = omega (arith, in_list, c.requires.few, c.loop-j.invariant.long_ranges) in
    let address = c.index-addresses-i.result in
    let inside : get_or listed.places j 0 < length all = subst (λ ps. get_or ps j 0 < length all) (sym c.loop-j.invariant.places) (c.requires.several.inside j 0 in_list) in
    let is = λ (d : _) (a : _). c.index-addresses-i.is ∙ get_or-any all (get_or listed.places j 0) address a inside ∙ ap (λ p. get_or all p a) (get_or-any listed.places j 0 d in_places) in
    record {
      ranges = range_next b rs all listed.places listed.ranges j range in_ranges
          (λ d a. subst (λ q. IsRangeOf rs range (number (b q))) (is d a) (subst (λ line. IsRangeOf line range (number (b address))) c.self.view_is c.range-range.ensures))
          c.loop-j.invariant.ranges;
      places = c.loop-j.invariant.places;
      count = c.loop-j.invariant.count;
      long_places = c.loop-j.invariant.long_places;
      long_ranges = length-set listed.ranges j range ∙ c.loop-j.invariant.long_ranges;
    }

pub returns-clause-ranges : goal.returns-clause-ranges
returns-clause-ranges g c = λ j d e a lt. c.loop-j.invariant.ranges j d e a (omega (arith, lt, c.loop-j.invariant.count, c.loop-j-test.false))
