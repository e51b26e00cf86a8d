-- The loop over the outermost entries: the sum is the number of addresses so far, until it exceeds the width.
use Rattle.prefix_trie_map.proofs.Prelude.{◌≡◌, ◌^◌, ◌≤◌, None, ap, ◌∙◌, subst, rules, option_map, number}
use Rattle.prefix_trie_map.proofs.Addresses.{adds-none, adds-more, adds-on, adds-past, adds-root, adds-up, sum-with-power}
use Rattle.prefix_trie_map.proofs.map.counting.addresses_of.Goals as goal

pub loop-len-init : goal.loop-len-init
loop-len-init g c = record {
  key = c.zero-total.ensures.key;
  counted = λ m e. adds-none g.met.K.Key.key_laws m c.args.walk.now c.zero-total.result c.zero-total.ensures.value e;
}

pub returns-then-len-eq0-clause-count : goal.returns-then-len-eq0-clause-count
returns-then-len-eq0-clause-count g c m e =
    adds-root g.met.K.Key.key_laws m _ _ (number (g.K.Key.bits c.loop-len.total)) _ c.in-Some.len c.in-Some.ensures (c.loop-len.invariant.counted m e) c.if-len-eq0.true

pub returns-in_err-total-clause-count : goal.returns-in_err-total-clause-count
returns-in_err-total-clause-count g c m e =
    let past = subst (λ x. 2 ^ g.K.Key.bit_width ≤ x) (sum-with-power (number (g.K.Key.bits c.loop-len.total)) (number (g.K.Key.bits c.power.result)) g.K.Key.bit_width c.width.result c.in-Some.len c.power.ensures.value c.width.ensures) c.in_err-total.ensures in
    let none : c.from_residual.result ≡ None = search rules in
    ap (option_map (λ r. number (g.K.Key.bits r))) none ∙
    adds-past g.met.K.Key.key_laws m _ _ (number (g.K.Key.bits c.loop-len.total)) _ c.in-Some.len c.in-Some.ensures (c.loop-len.invariant.counted m e) past

pub loop-len-smaller : goal.loop-len-smaller
loop-len-smaller g c = adds-on g.met.K.Key.key_laws _ _ _ c.in-Some.len c.in-Some.ensures

pub loop-len-preserved : goal.loop-len-preserved
loop-len-preserved g c =
    let sum = c.in_ok-total.ensures.1 ∙ sum-with-power (number (g.K.Key.bits c.loop-len.total)) (number (g.K.Key.bits c.power.result)) g.K.Key.bit_width c.width.result c.in-Some.len c.power.ensures.value c.width.ensures in
    record {
      key = c.in_ok-total.ensures.0;
      counted = λ m e. adds-more g.met.K.Key.key_laws m _ _ (number (g.K.Key.bits c.loop-len.total)) _ _ c.in-Some.len c.in-Some.ensures (c.loop-len.invariant.counted m e) sum;
    }

pub returns-clause-count : goal.returns-clause-count
returns-clause-count g c m e =
    adds-up g.met.K.Key.key_laws m _ c.loop-len.total c.loop-len.invariant.key c.in_default.ensures.0 (c.loop-len.invariant.counted m e)
