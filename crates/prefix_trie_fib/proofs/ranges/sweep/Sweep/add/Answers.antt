-- The network opens at its first address, which is then the one reached.
use Rattle.std.proofs.Common.{◌≡◌, ◌^◌, ◌++◌, ◌∷◌, [], Some, arith, map, subst, sym}
use Rattle.prefix_trie_bits.specs.Model.Bits.{number}
use Rattle.prefix_trie_fib.specs.Line.{end_of}
use Rattle.prefix_trie_fib.specs.Sweep.{IsSweptTo, with_interval}
use Rattle.prefix_trie_fib.proofs.Sweeps.{sweep_open}
use Rattle.prefix_trie_fib.proofs.ranges.sweep.Sweep.add.Goals as goal

pub returns-clause-swept : goal.returns-clause-swept
returns-clause-swept g c = λ of h.
    let w = g.K.Key.bit_width in
    let b = g.K.Key.bits in
    let now = c.go_to.new.self in
    let first = number (b c.args.first) in
    let closed = c.in_ok-close_by.ensures.not_beyond first c.requires (omega arith) in
    let least = c.in_ok-go_to.ensures.not_beyond first closed (omega arith) in
    let most = c.in_ok-go_to.ensures.there in
    let here : number (b now.at) ≡ number (b c.args.first) = omega (arith, least, most) in
    subst (λ ss. IsSweptTo (2 ^ w) g.T.PartialEq.eq (with_interval (number (b c.args.first)) (end_of w b c.args.past) c.args.value of) now.line (number (b now.at)) (map (λ s. (end_of w b s.0, s.1)) (ss ++ (c.args.past, Some c.args.value) ∷ []))) (sym c.in_ok-push.ensures.items)
    (subst (λ n. IsSweptTo (2 ^ w) g.T.PartialEq.eq (with_interval n (end_of w b c.args.past) c.args.value of) now.line (number (b now.at)) (map (λ s. (end_of w b s.0, s.1)) ((now.outer.items ++ now.inner ∷ []) ++ (c.args.past, Some c.args.value) ∷ []))) here
    (sweep_open w b g.T.PartialEq.eq of now.line (number (b now.at)) (now.outer.items ++ now.inner ∷ []) c.args.past c.args.value (c.in_ok-go_to.ensures.swept of (c.in_ok-close_by.ensures.swept of h))))
