-- The first address of a range: 0 for the only one, or by its upper 64 bits.
use Rattle.std.proofs.Common.{◌≡◌, ◌∙◌, ◌<◌, ◌∷◌, [], ℕ, None, Option, ap, arith, get_or, length, subst, sym}
use Rattle.prefix_trie_bits.specs.BitStrings.{number_of_digits}
use Rattle.prefix_trie_bits.specs.Model.Bits.{number}
use Rattle.prefix_trie_fib.specs.Layouts.{ranges_in, widened}
use Rattle.prefix_trie_fib.proofs.NetworkIntervals.{number_zeros}
use Rattle.prefix_trie_fib.proofs.Layouts.{widened_start}
use Rattle.prefix_trie_fib.proofs.compact.Compact.start.Goals as goal

pub returns-in-Empty : goal.returns-in-Empty
returns-in-Empty g c = λ d.
    let now : (0, None) ∷ [] ≡ c.args.self.now = sym (ap (ranges_in g.K.Key.bit_width) c.in-Empty.is) ∙ c.self.view_is in
    let first : 0 ≡ c.args.i = (let long = ap length now in let lt = c.requires in omega (arith, long, lt)) in
    ap number c.zero.ensures.value ∙ number_zeros g.K.Key.bit_width
    ∙ ap (λ i. (get_or {A = ℕ × Option g.row.T.Denot} ((0, None) ∷ []) i d).0) first ∙ ap (λ rs. (get_or {A = ℕ × Option g.row.T.Denot} rs c.args.i d).0) now

pub returns-in-Upper : goal.returns-in-Upper
returns-in-Upper g c = λ d.
    let w = g.K.Key.bit_width in
    let now : widened w c.in-Upper.indexed ≡ c.args.self.now = sym (ap (ranges_in w) c.in-Upper.is) ∙ c.self.view_is in
    let inside : c.args.i < length (widened w c.in-Upper.indexed) = subst (λ rs. c.args.i < length rs) (sym now) c.requires in
    c.from_upper.ensures
    ∙ widened_start w c.in-Upper.indexed c.args.i c.start-in-Upper.result d inside (sym (number_of_digits 64 c.start-in-Upper.result c.start-in-Upper.type_inv) ∙ c.start-in-Upper.ensures d)
    ∙ ap (λ rs. (get_or {A = ℕ × Option g.row.T.Denot} rs c.args.i d).0) now
