-- A group has the values of the addresses from a place on.
use Rattle.std.proofs.Common.{◌∙◌, ◌+◌, ◌<◌, ◌≤◌, None, ap, arith, get_or, length, length-set, slice_range, subst}
use Rattle.prefix_trie_bits.specs.Model.Bits.{number}
use Rattle.prefix_trie_fib.specs.Index.{IsTop}
use Rattle.prefix_trie_fib.specs.Line.{value_along}
use Rattle.prefix_trie_fib.proofs.Groups.{each_set, group_at, group_long, results_more}
use Rattle.prefix_trie_fib.proofs.RangeValues.{get_or-any}
use Rattle.prefix_trie_fib.proofs.compact.bulk.group_by_whole.Goals as goal

pub loop-i-preserved : goal.loop-i-preserved
loop-i-preserved g c =
    let b = g.K.Key.bits in
    let n = c.min-count.result in
    let space : c.args.from + n ≤ length c.args.addresses.now = omega (arith, c.min-count.ensures, c.requires.some) in
    let group = slice_range c.args.addresses.now c.args.from (c.args.from + n) in
    let long = group_long c.args.addresses.now c.args.from n space in
    let i = c.loop-i.i in
    let x = c.first_bits.result in
    let old = c.loop-i.tops in
    let inside : i < length old = omega (arith, c.loop-i-test.true, c.min-count.ensures, c.loop-i.invariant.long) in
    record {
      long = length-set old i x ∙ c.loop-i.invariant.long;
      tops = λ k a d lt.
          each_set (λ j y. (e : _) → IsTop y (b (get_or group j e))) old i x inside
          (λ e. subst (λ q. IsTop x (b q)) (c.index-group-i.is ∙ get_or-any group i c.index-group-i.result e (omega (arith, long, c.loop-i-test.true))) c.first_bits.ensures)
          (λ j y older e. c.loop-i.invariant.tops j e y older) k d lt a;
    }

pub lookup_group-requires : goal.lookup_group-requires
lookup_group-requires g c =
    let n = c.min-count.result in
    let space : c.args.from + n ≤ length c.args.addresses.now = omega (arith, c.min-count.ensures, c.requires.some) in
    let long = group_long c.args.addresses.now c.args.from n space in
    record {
      tops = record {
        enough = omega (arith, long, c.min-count.ensures, c.loop-i.invariant.long);
        right = λ k a d lt. c.loop-i.invariant.tops k a d (omega (arith, lt, long, c.loop-i-test.false));
      };
      few = omega (arith, long, c.min-count.ensures);
      inside = omega (arith, long, space, c.requires.same_length);
    }

pub returns-clause-results : goal.returns-clause-results
returns-clause-results g c = λ so_far.
    let n = c.min-count.result in
    let all = c.args.addresses.now in
    let from = c.args.from in
    let value = λ (a : g.row.K.Denot). value_along None c.args.indexed.now (number (g.K.Key.bits a)) in
    let space : from + n ≤ length all = omega (arith, c.min-count.ensures, c.requires.some) in
    let long = group_long all from n space in
    results_more value all c.args.out.now c.lookup_group.new.out from n c.lookup_group.ensures.kept
    (λ k d v lt. c.lookup_group.ensures.values k d v (omega (arith, lt, long)) ∙ ap value (group_at all from n k d lt)) so_far
