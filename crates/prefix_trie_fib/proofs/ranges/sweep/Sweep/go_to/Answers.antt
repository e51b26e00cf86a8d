-- The numbers before `to` have the value of the inner interval.
use Rattle.std.proofs.Common.{◌^◌, ◌∷◌, [], Option, map, subst, sym}
use Rattle.std.proofs.lemmas.List.{map-append}
use Rattle.prefix_trie_bits.specs.Model.Bits.{number}
use Rattle.prefix_trie_fib.specs.Line.{end_of}
use Rattle.prefix_trie_fib.specs.Sweep.{IsSweptTo}
use Rattle.prefix_trie_fib.proofs.Sweeps.{swept_to}
use Rattle.prefix_trie_fib.proofs.ranges.sweep.Sweep.go_to.Goals as goal

pub returns-clause-swept : goal.returns-clause-swept
returns-clause-swept g c = λ of swept.
    let w = g.K.Key.bit_width in
    let b = g.K.Key.bits in
    let s = c.args.self.now in
    let parts = map-append {A = Option g.row.K.Denot × Option g.row.T.Denot} (λ s. (end_of w b s.0, s.1)) s.outer.items (s.inner ∷ []) in
    subst (IsSweptTo (2 ^ w) g.T.PartialEq.eq of c.add_range.new.line (number (b c.args.to))) (sym parts)
    (swept_to (2 ^ w) g.T.PartialEq.eq of s.line (number (b s.at)) (number (b c.args.to)) (map (λ s. (end_of w b s.0, s.1)) s.outer.items) (end_of w b s.inner.0, s.inner.1)
    (let later = c.if-is_at_most.ensures in later) c.requires c.add_range.new.line c.in_ok-add_range.ensures
    (subst (IsSweptTo (2 ^ w) g.T.PartialEq.eq of s.line (number (b s.at))) parts swept))
