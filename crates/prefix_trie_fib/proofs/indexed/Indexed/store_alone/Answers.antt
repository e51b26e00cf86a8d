-- One more address is found or listed.
use Rattle.std.proofs.Common.{◌≢◌, ◌∙◌, ◌+◌, ◌<◌, ap, arith, get_or, length, length-set, subst, sym}
use Rattle.std.proofs.lemmas.List.{get_or-set_other}
use Rattle.prefix_trie_fib.specs.Bulk.{is_alone}
use Rattle.prefix_trie_fib.specs.Index.{IsEntryAt}
use Rattle.prefix_trie_fib.proofs.Groups.{alone_next, unset_counted, several_next}
use Rattle.prefix_trie_fib.proofs.RangeValues.{get_or-any}
use Rattle.prefix_trie_fib.proofs.indexed.Indexed.store_alone.Goals as goal

pub loop-i-preserved : goal.loop-i-preserved
loop-i-preserved g c =
    let bits = g.K.Key.bits in
    let rs = c.args.self.now in
    let all = c.args.addresses.now in
    let entries = c.args.entries.now in
    let from = c.args.from in
    let i = c.loop-i.i in
    let places = c.loop-i.listed.places in
    let count = c.loop-i.count in
    let more = count + c.from-count.result in
    let old = c.loop-i.out in
    let x = c.index-entries-i.result in
    let inside : from + i < length old = omega (arith, c.loop-i-test.true, c.requires.inside, c.loop-i.auto.out) in
    let in_entries : i < length entries = omega (arith, c.loop-i-test.true, c.requires.space) in
    let in_places : count < length places = omega (arith, c.loop-i.invariant.long, c.loop-i.invariant.few, c.loop-i-test.true, c.requires.few) in
    let counted = unset_counted c.is_alone.result c.from-count.result c.from-count.ensures in
    let small = counted.0 in
    record {
      kept = λ k v lt. (let other : k ≢ from + i = omega (arith, lt) in get_or-set_other old (from + i) k c.alone.result v other ∙ c.loop-i.invariant.kept k v lt);
      found = λ k lt. alone_next bits rs all places count from i old x c.alone.result more inside in_places (omega arith)
          (λ several. let one = counted.1 (c.is_alone.ensures ∙ several) in omega (arith, one)) c.alone.ensures
          (λ a. subst (IsEntryAt rs (bits (get_or all i a))) (sym c.index-entries-i.is) (c.requires.read i a x c.loop-i-test.true)) k lt
          (λ less. c.loop-i.invariant.found k less);
      several = several_next all entries places count more i in_places (omega (arith, small)) c.loop-i-test.true
          (λ some e. ap is_alone (get_or-any entries i e x in_entries ∙ sym c.index-entries-i.is) ∙ sym c.is_alone.ensures ∙ counted.2 (omega (arith, some)))
          c.loop-i.invariant.several;
      few = let before = c.loop-i.invariant.few in omega (arith, small, before);
      long = length-set places count i ∙ c.loop-i.invariant.long;
    }
