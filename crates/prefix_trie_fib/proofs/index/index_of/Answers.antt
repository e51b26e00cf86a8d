-- One more entry, and the next chunk begins where this one ends.
use Rattle.std.proofs.Common.{◌≡◌, ◌∙◌, ◌+◌, ◌-◌, ◌*◌, ◌^◌, ◌<◌, ◌≤◌, ◌∷◌, [], length, length-append, ap, sym, subst, arith, refl, pow_pos}
use Rattle.std.specs.Option.{MatchOption}
use Rattle.prefix_trie_bits.specs.BitStrings.{number-below}
use Rattle.prefix_trie_bits.specs.Model.Bits.{number}
use Rattle.prefix_trie_fib.specs.Index.{IsIndex}
use Rattle.prefix_trie_fib.specs.Search.{IsRangeOfNext, StartsBy}
use Rattle.prefix_trie_fib.proofs.NetworkIntervals.{number_zeros}
use Rattle.prefix_trie_fib.proofs.Entries.{if_some, index_pushed, last_chunk, match_option, more_chunks, next_at, within_line}
use Rattle.prefix_trie_fib.proofs.index.index_of.Goals as goal

pub loop-low-init : goal.loop-low-init
loop-low-init g c =
    let none : length c.in_ok-chunks.chunks.items ≡ 0 = ap length c.in_ok-chunks.ensures.items in
    let size = 2 ^ (g.K.Key.bit_width - c.args.bits) in
    let start : length c.in_ok-chunks.chunks.items * size ≡ 0 = ap (λ n. n * size) none ∙ (let z : 0 * size ≡ 0 = omega arith in z) in
    record {
      right = λ k d lt. absurd (omega (arith, lt, none));
      by = record { inside = c.requires.division.some; by = λ d. let f = c.requires.division.first d in omega (arith, f) };
      next = (ap number c.zero.ensures.value ∙ number_zeros g.K.Key.bit_width ∙ sym start, (let p = pow_pos c.args.bits in omega (arith, none, p)));
      few = λ i of. let e = ap length c.new-parts.ensures.items in omega (arith, e);
    }

pub loop-low-preserved : goal.loop-low-preserved
loop-low-preserved g c =
    let w = g.K.Key.bit_width in
    let bits = c.args.bits in
    let size = 2 ^ (g.K.Key.bit_width - c.args.bits) in
    let count = length c.loop-low.chunks.items in
    let now : (number (g.K.Key.bits c.in-Some.at) ≡ count * size) × (count < 2 ^ bits) =
    subst (λ o. MatchOption o (count ≡ 2 ^ bits) (λ at. (number (g.K.Key.bits at) ≡ count * size) × (count < 2 ^ bits))) c.in-Some.is c.loop-low.invariant.next in
    let step : number (g.K.Key.bits c.power-step.result) ≡ size = c.power-step.ensures.value ∙ ap (λ n. 2 ^ (n - bits)) c.width.ensures in
    let longer : length c.push.new.self.items ≡ count + 1 = ap length c.in_ok-push.ensures.items ∙ length-append c.loop-low.chunks.items (c.in_ok-entry.entry ∷ []) in
    let sum = next_at w bits count (number (g.K.Key.bits c.in-Some.at)) (number (g.K.Key.bits c.power-step.result)) c.requires.within step now.0 in
    let starts : StartsBy c.args.line.now c.range_from-first.result (count * size) = subst (StartsBy c.args.line.now c.range_from-first.result) now.0 c.range_from-first.ensures.starts in
    record {
      right = subst (λ xs. IsIndex w bits c.args.line.now xs c.entry_at.new.parts.items) (sym c.in_ok-push.ensures.items)
          (index_pushed c.args.line.now w bits c.loop-low.chunks.items c.loop-low.parts.items c.entry_at.new.parts.items c.in_ok-entry.entry c.in_ok-entry.ensures.kept c.loop-low.invariant.right
          (c.in_ok-entry.ensures.right count now.0
          (if_some c.plus-next.result _ _ (λ k. (count + 1) * size ≤ number (g.K.Key.bits k)) (λ k h. (let e = h.1 in omega (arith, e, sum))) c.plus-next.ensures)));
      by = record {
        inside = starts.inside;
        by = λ d. (let b = starts.by d in let m : (count + 1) * size ≡ count * size + size = omega arith in
            let e : length c.push.new.self.items * size ≡ (count + 1) * size = ap (λ n. n * size) longer in omega (arith, b, m, e));
      };
      next = match_option c.plus-next.result _ _ _ _
          (λ over. longer ∙ last_chunk w bits count (number (g.K.Key.bits c.in-Some.at)) (number (g.K.Key.bits c.power-step.result)) c.requires.within step now.0 now.1 over)
          (λ k h. (
            h.1 ∙ sum ∙ sym (ap (λ n. n * size) longer),
            (let small = number-below w (g.K.Key.bits k) (g.met.K.Key.key_laws.bits_length k h.0) in
                let e = h.1 in
                let more = more_chunks w bits count (number (g.K.Key.bits c.in-Some.at)) (number (g.K.Key.bits c.power-step.result)) c.requires.within step now.0 (omega (arith, small, e)) in
                omega (arith, longer, more)),
          )) c.plus-next.ensures;
      few = λ i of.
          let grown = c.in_ok-entry.ensures.few i of in
          let so_far = c.loop-low.invariant.few c.range_from-first.result (subst (λ o. IsRangeOfNext g.K.Key.bits c.args.line.now o c.range_from-first.result) (sym c.in-Some.is) c.range_from-first.ensures) in
          omega (arith, grown, so_far);
    }

pub entry_at-requires-clause-line : goal.entry_at-requires-clause-line
entry_at-requires-clause-line g c =
    let w = g.K.Key.bit_width in
    let bits = c.args.bits in
    let size = 2 ^ (g.K.Key.bit_width - c.args.bits) in
    let count = length c.loop-low.chunks.items in
    let now : (number (g.K.Key.bits c.in-Some.at) ≡ count * size) × (count < 2 ^ bits) =
    subst (λ o. MatchOption o (count ≡ 2 ^ bits) (λ at. (number (g.K.Key.bits at) ≡ count * size) × (count < 2 ^ bits))) c.in-Some.is c.loop-low.invariant.next in
    let step : number (g.K.Key.bits c.power-step.result) ≡ size = c.power-step.ensures.value ∙ ap (λ n. 2 ^ (n - bits)) c.width.ensures in
    within_line w bits count (number (g.K.Key.bits c.in-Some.at)) (number (g.K.Key.bits c.power-step.result)) c.requires.within step now.0 now.1

pub returns-clause-right : goal.returns-clause-right
returns-clause-right g c = subst (IsIndex g.K.Key.bit_width c.args.bits c.args.line.now c.loop-low.chunks.items) (sym c.shrink_to_fit.ensures.items) c.loop-low.invariant.right

pub returns-clause-few : goal.returns-clause-few
returns-clause-few g c =
    let so_far = c.loop-low.invariant.few (length c.args.line.now) (subst (λ o. IsRangeOfNext g.K.Key.bits c.args.line.now o (length c.args.line.now)) (sym c.in_default.is) refl) in
    let e = ap length c.shrink_to_fit.ensures.items in
    omega (arith, so_far, e)
