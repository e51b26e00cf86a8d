-- The value of a range, which is kept by its upper 64 bits.
use Rattle.std.proofs.Common.{◌≡◌, ◌∙◌, ◌<◌, ℕ, Option, ap, get_or, length, subst, sym}
use Rattle.prefix_trie_fib.specs.Layouts.{ranges_in, widened}
use Rattle.prefix_trie_fib.proofs.Layouts.{widened_value}
use Rattle.prefix_trie_fib.proofs.compact.Compact.value.Goals as goal

pub returns-in-Upper : goal.returns-in-Upper
returns-in-Upper g c = λ d.
    let w = g.K.Key.bit_width in
    let now : widened w c.in-Upper.indexed ≡ c.args.self.now = sym (ap (ranges_in w) c.in-Upper.is) ∙ c.self.view_is in
    let inside : c.args.i < length (widened w c.in-Upper.indexed) = subst (λ rs. c.args.i < length rs) (sym now) c.requires in
    c.value-in-Upper.ensures d ∙ widened_value w c.in-Upper.indexed c.args.i d inside ∙ ap (λ rs. (get_or {A = ℕ × Option g.row.T.Denot} rs c.args.i d).1) now
