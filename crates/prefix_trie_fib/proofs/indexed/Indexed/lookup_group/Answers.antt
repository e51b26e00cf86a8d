-- What the first stage does not find is listed, and has a range.
use Rattle.std.proofs.Common.{◌<◌, arith, get_or, length, subst, sym}
use Rattle.prefix_trie_fib.specs.Bulk.{IsFoundOrListed}
use Rattle.prefix_trie_fib.proofs.RangeValues.{item_at}
use Rattle.prefix_trie_fib.proofs.indexed.Indexed.lookup_group.Goals as goal

pub store_listed-requires-clause-ranges : goal.store_listed-requires-clause-ranges
store_listed-requires-clause-ranges g c = λ j d lt.
    let all = c.args.addresses.now in
    let listed = c.find_ranges.new.listed in
    let inside : get_or listed.places j 0 < length all =
    subst (λ ps. get_or ps j 0 < length all) (sym c.find_ranges.ensures.places) (c.store_alone.ensures.several.inside j 0 (omega (arith, lt, c.find_ranges.ensures.count))) in
    (c.find_ranges.ensures.ranges j 0 d (item_at all (get_or listed.places j 0) inside) lt).starts.inside

pub returns-clause-values : goal.returns-clause-values
returns-clause-values g c = λ k a v lt.
    let at = λ (places : _) (count : _). IsFoundOrListed g.K.Key.bits c.args.self.now c.args.addresses.now places 0 count c.args.from c.store_alone.new.out k in
    let listed = c.find_ranges.new.listed in
    c.store_listed.ensures.found c.args.addresses.now k c.find_ranges.ensures.ranges
    (subst (λ places. at places listed.count) (sym c.find_ranges.ensures.places) (subst (at c.store_alone.new.listed.places) (sym c.find_ranges.ensures.count) (c.store_alone.ensures.found k lt))) a v
