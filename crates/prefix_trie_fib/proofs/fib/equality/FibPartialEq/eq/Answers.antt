-- A range that differs tells the tables apart, and tables with the same ranges are equal.
use Rattle.std.proofs.Common.{◌≡◌, ◌∙◌, None, true, length, get_or, ap, subst, sym, arith, inl, inr}
use Rattle.std.proofs.lemmas.Bool.{cases_lt}
use Rattle.prefix_trie_fib.specs.Equality.{range_eq}
use Rattle.prefix_trie_fib.proofs.Equality.{all_same, one_differs}
use Rattle.prefix_trie_fib.proofs.fib.equality.FibPartialEq.eq.Goals as goal

pub loop-i-init : goal.loop-i-init
loop-i-init g c = λ j d lt. absurd (omega (arith, lt))

pub returns-then-not-is_same_range : goal.returns-then-not-is_same_range
returns-then-not-is_same_range g c =
    let left : length c.args.self.now ≡ c.len-len.result = ap length (sym c.self.view_is) ∙ sym c.len-len.ensures in
    let right : length c.args.other.now ≡ c.len.result = ap length (sym c.other.view_is) ∙ sym c.len.ensures in
    sym (one_differs (range_eq g.T.PartialEq.eq) (0, None) c.args.self.now c.args.other.now c.loop-i.i
    (omega (arith, left, c.loop-i-test.true)) (omega (arith, right, c.loop-i-test.true, c.if-len.false))
    (sym (c.is_same_range.ensures (0, None)) ∙ c.if-not-is_same_range.true))

pub loop-i-preserved : goal.loop-i-preserved
loop-i-preserved g c = λ j d lt. elim (cases_lt j c.loop-i.i) [
  | inl old ↦ c.loop-i.invariant j d old
  | inr at ↦
      let e : c.loop-i.i ≡ j = omega (arith, lt, at) in
      subst (λ k. range_eq g.T.PartialEq.eq (get_or c.args.self.now k d) (get_or c.args.other.now k d) ≡ true) e (sym (c.is_same_range.ensures d) ∙ c.if-not-is_same_range.false)
]

pub returns : goal.returns
returns g c =
    let left : length c.args.self.now ≡ c.len-len.result = ap length (sym c.self.view_is) ∙ sym c.len-len.ensures in
    let right : length c.args.other.now ≡ c.len.result = ap length (sym c.other.view_is) ∙ sym c.len.ensures in
    sym (all_same (range_eq g.T.PartialEq.eq) (0, None) c.args.self.now c.args.other.now (left ∙ c.if-len.false ∙ sym right)
    (λ j lt. c.loop-i.invariant j (0, None) (omega (arith, lt, left, c.loop-i-test.false))))
