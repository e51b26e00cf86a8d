-- At first nothing is swept, and no number has a value.
use Rattle.std.proofs.Common.{◌∙◌, ◌^◌, ◌++◌, ◌∷◌, [], None, ap, map, subst, sym}
use Rattle.prefix_trie_bits.specs.Model.Bits.{number}
use Rattle.prefix_trie_fib.specs.Line.{end_of}
use Rattle.prefix_trie_fib.specs.Sweep.{IsSweptTo}
use Rattle.prefix_trie_fib.proofs.NetworkIntervals.{number_zeros}
use Rattle.prefix_trie_fib.proofs.Sweeps.{swept_first}
use Rattle.prefix_trie_fib.proofs.ranges.sweep.Sweep.new.Goals as goal

pub returns-clause-nothing : goal.returns-clause-nothing
returns-clause-nothing g c =
    let w = g.K.Key.bit_width in
    subst (λ ss. IsSweptTo (2 ^ w) g.T.PartialEq.eq (λ n. None) c.args.line (number (g.K.Key.bits c.zero.result)) (map (λ s. (end_of w g.K.Key.bits s.0, s.1)) (ss ++ (None, None) ∷ []))) (sym c.new.ensures.items)
    (swept_first (2 ^ w) g.T.PartialEq.eq c.args.line (number (g.K.Key.bits c.zero.result)) c.requires (ap number c.zero.ensures.value ∙ number_zeros w))

pub returns-clause-at_zero : goal.returns-clause-at_zero
returns-clause-at_zero g c = ap number c.zero.ensures.value ∙ number_zeros g.K.Key.bit_width
