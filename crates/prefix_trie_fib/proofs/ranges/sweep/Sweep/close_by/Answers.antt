-- Each interval that ends by the address closes in its turn.
use Rattle.std.proofs.Common.{◌∙◌, ◌+◌, ◌^◌, ◌<◌, ◌++◌, ◌∷◌, [], ap, arith, length, map, rules, subst, sym}
use Rattle.std.specs.Option.{option_to_list}
use Rattle.prefix_trie_bits.specs.Model.Bits.{number}
use Rattle.prefix_trie_fib.specs.Line.{end_of}
use Rattle.prefix_trie_fib.specs.Sweep.{IsSweptTo}
use Rattle.prefix_trie_fib.proofs.Sweeps.{sweep_closed, sweep_smaller}
use Rattle.prefix_trie_fib.proofs.ranges.sweep.Sweep.close_by.Goals as goal

pub loop-end-init : goal.loop-end-init
loop-end-init g c = record { swept = λ of h. h; not_beyond = λ high le _. le }

pub loop-end-smaller : goal.loop-end-smaller
loop-end-smaller g c =
    subst (λ s. length c.pop.new.self.items + length (option_to_list s.0) < length c.loop-end.self.outer.items + length (option_to_list c.loop-end.self.inner.0)) (sym c.unwrap_or-self.ensures)
    (sweep_smaller c.loop-end.self.outer.items c.pop.new.self.items c.loop-end.self.inner.0 c.in-Some.end c.pop.result (sym c.in_ok-go_to.ensures.same.0 ∙ c.pop.ensures.items) (λ n. search (rules, n)) c.in-Some.ensures.0)

pub loop-end-preserved : goal.loop-end-preserved
loop-end-preserved g c = record {
  swept = λ of h.
      let w = g.K.Key.bit_width in
      let b = g.K.Key.bits in
      let now = c.go_to.new.self in
      subst (λ s. IsSweptTo (2 ^ w) g.T.PartialEq.eq of now.line (number (b now.at)) (map (λ s. (end_of w b s.0, s.1)) (c.pop.new.self.items ++ s ∷ []))) (sym c.unwrap_or-self.ensures)
      (sweep_closed w b g.T.PartialEq.eq of now.line (number (b now.at)) now.outer.items c.pop.new.self.items now.inner c.pop.result c.pop.ensures.items (λ n. search (rules, n))
      (let e = ap (end_of w b) (ap (λ s. s.0) c.in_ok-go_to.ensures.same.1 ∙ c.in-Some.ensures.0) in let l = c.in_ok-go_to.ensures.there in omega (arith, e, l))
      (c.in_ok-go_to.ensures.swept of (c.loop-end.invariant.swept of h)));
  not_beyond = λ high le end.
      let before = c.loop-end.invariant.not_beyond high le end in
      let last = c.in-Some.ensures.1 in
      c.in_ok-go_to.ensures.not_beyond high before (omega (arith, last, end));
}

pub returns-clause-swept : goal.returns-clause-swept
returns-clause-swept g c = c.loop-end.invariant.swept

pub returns-clause-not_beyond : goal.returns-clause-not_beyond
returns-clause-not_beyond g c = c.loop-end.invariant.not_beyond
