-- The last range goes on to the end of all addresses.
use Rattle.std.proofs.Common.{◌^◌, ◌∷◌, [], Option, map, subst}
use Rattle.std.proofs.lemmas.List.{map-append}
use Rattle.prefix_trie_bits.specs.BitStrings.{number-below}
use Rattle.prefix_trie_bits.specs.Model.Bits.{number}
use Rattle.prefix_trie_fib.specs.Line.{end_of}
use Rattle.prefix_trie_fib.specs.Sweep.{IsSweptTo}
use Rattle.prefix_trie_fib.proofs.Sweeps.{swept_all}
use Rattle.prefix_trie_fib.proofs.ranges.sweep.Sweep.finish.Goals as goal

pub returns : goal.returns
returns g c = λ of h.
    let w = g.K.Key.bit_width in
    let b = g.K.Key.bits in
    let now = c.close_by.new.self in
    let parts = map-append {A = Option g.row.K.Denot × Option g.row.T.Denot} (λ s. (end_of w b s.0, s.1)) now.outer.items (now.inner ∷ []) in
    swept_all (2 ^ w) g.T.PartialEq.eq of now.line (number (b now.at)) (map (λ s. (end_of w b s.0, s.1)) now.outer.items) (end_of w b now.inner.0, now.inner.1)
    (number-below w (b now.at) (g.met.K.Key.key_laws.bits_length now.at c.is_key.ensures.key)) c.in_ok-close_by.ensures.reaches c.add_range.new.line c.in_ok-add_range.ensures
    (subst (IsSweptTo (2 ^ w) g.T.PartialEq.eq of now.line (number (b now.at))) parts (c.in_ok-close_by.ensures.swept of h))
