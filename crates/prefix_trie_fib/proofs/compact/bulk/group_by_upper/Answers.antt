-- A group has the values of the addresses from a place on, by their upper halves.
use Rattle.std.proofs.Common.{◌≡◌, ◌≢◌, ◌∙◌, ◌+◌, ◌<◌, ℕ, None, ap, arith, get_or, length, length-set, length-take-le, set, subst, sym, take}
use Rattle.std.proofs.lemmas.List.{get_or-set_other, get_or-set_same, get_or-take}
use Rattle.prefix_trie_bits.specs.BitStrings.{number_of_digits}
use Rattle.prefix_trie_bits.specs.Model.Bits.{digits, number}
use Rattle.prefix_trie_fib.specs.Index.{IsTop}
use Rattle.prefix_trie_fib.specs.Layouts.{widened}
use Rattle.prefix_trie_fib.specs.Line.{value_along}
use Rattle.prefix_trie_fib.proofs.Chunks.{in_chunk}
use Rattle.prefix_trie_fib.proofs.Groups.{each_set, results_more}
use Rattle.prefix_trie_fib.proofs.Layouts.{widened_along}
use Rattle.prefix_trie_fib.proofs.RangeValues.{get_or-any}
use Rattle.prefix_trie_fib.proofs.compact.bulk.group_by_upper.Goals as goal

pub loop-i-preserved : goal.loop-i-preserved
loop-i-preserved g c =
    let w = g.K.Key.bit_width in
    let b = g.K.Key.bits in
    let rs = c.args.indexed.now in
    let all = c.args.addresses.now in
    let from = c.args.from in
    let n = c.min-count.result in
    let i = c.loop-i.i in
    let address = c.index-addresses-from.result in
    let half = c.upper_half-half.result in
    let top = c.top_of.result in
    let tops = c.loop-i.tops in
    let halves = c.loop-i.halves in
    let space : from + i < length all = omega (arith, c.loop-i-test.true, c.min-count.ensures, c.requires.some) in
    let in_tops : i < length tops = omega (arith, c.loop-i-test.true, c.min-count.ensures, c.loop-i.invariant.long) in
    let in_halves : i < length halves = omega (arith, c.loop-i-test.true, c.min-count.ensures, c.loop-i.invariant.halves) in
    let long : length (b address) ≡ w = g.met.K.Key.key_laws.bits_length address c.is_key.ensures.key in
    let bounds = in_chunk w (b address) 64 long in
    let same : value_along None rs (number (digits 64 half)) ≡ value_along None (widened w rs) (number (b address)) =
    ap (value_along None rs) (number_of_digits 64 half c.upper_half-half.type_inv ∙ c.upper_half-half.ensures)
    ∙ sym (widened_along w None rs (number (take 64 (b address))) (number (b address)) bounds.0 bounds.1) in
    record {
      long = length-set tops i top ∙ c.loop-i.invariant.long;
      halves = length-set halves i half ∙ c.loop-i.invariant.halves;
      tops = λ k a d lt.
          each_set (λ j y. (e : ℕ) → IsTop y (digits 64 (get_or (set halves i half) j e))) tops i top in_tops
          (λ e. subst (λ q. IsTop top (digits 64 q)) (sym (get_or-set_same halves i half e in_halves)) c.top_of.ensures)
          (λ j y older e.
          let other : j ≢ i = omega (arith, older) in
          subst (λ q. IsTop (get_or tops j y) (digits 64 q)) (sym (get_or-set_other halves i j half e other)) (c.loop-i.invariant.tops j e y older)) k d lt a;
      values = λ k a d lt.
          each_set (λ j y. (e : _) → value_along None rs (number (digits 64 y)) ≡ value_along None (widened w rs) (number (b (get_or all (from + j) e)))) halves i half in_halves
          (λ e. same ∙ ap (λ q. value_along None (widened w rs) (number (b q))) (c.index-addresses-from.is ∙ get_or-any all (from + i) address e space))
          (λ j y older e. c.loop-i.invariant.values j y e older) k a lt d;
    }

pub lookup_group-requires : goal.lookup_group-requires
lookup_group-requires g c =
    let n = c.min-count.result in
    let halves = c.loop-i.halves in
    let long : length (take n halves) ≡ n = length-take-le n halves (omega (arith, c.min-count.ensures, c.loop-i.invariant.halves)) in
    record {
      tops = record {
        enough = omega (arith, long, c.min-count.ensures, c.loop-i.invariant.long);
        right = λ k a d lt.
            let less : k < n = omega (arith, lt, long) in
            subst (λ q. IsTop (get_or c.loop-i.tops k d) (digits 64 q)) (sym (get_or-take n halves k a less)) (c.loop-i.invariant.tops k a d (omega (arith, less, c.loop-i-test.false)));
      };
      few = omega (arith, long, c.min-count.ensures);
      inside = omega (arith, long, c.min-count.ensures, c.requires.some, c.requires.same_length);
    }

pub returns-clause-results : goal.returns-clause-results
returns-clause-results g c = λ so_far.
    let w = g.K.Key.bit_width in
    let rs = c.args.indexed.now in
    let n = c.min-count.result in
    let all = c.args.addresses.now in
    let from = c.args.from in
    let halves = c.loop-i.halves in
    let value = λ (a : g.row.K.Denot). value_along None (widened w rs) (number (g.K.Key.bits a)) in
    let long : length (take n halves) ≡ n = length-take-le n halves (omega (arith, c.min-count.ensures, c.loop-i.invariant.halves)) in
    results_more value all c.args.out.now c.lookup_group.new.out from n c.lookup_group.ensures.kept
    (λ k d v lt.
    c.lookup_group.ensures.values k 0 v (omega (arith, lt, long)) ∙ ap (λ q. value_along None rs (number (digits 64 q))) (get_or-take n halves k 0 lt)
    ∙ c.loop-i.invariant.values k 0 d (omega (arith, lt, c.loop-i-test.false))) so_far
