-- The chunks of an index by the upper 64 bits of addresses are as many. A line where no address has a value has none.
use Rattle.std.proofs.Common.{◌≡◌, ◌∙◌, ◌≤◌, ◌∷◌, [], None, ap, inl, refl, subst, sym}
use Rattle.prefix_trie_fib.specs.Layouts.{HasUpperHalf, ranges_in, widened}
use Rattle.prefix_trie_fib.specs.Sizes.{IsIndexSize}
use Rattle.prefix_trie_fib.proofs.Sizes.{size_of_upper}
use Rattle.prefix_trie_fib.proofs.compact.Compact.chunks.Goals as goal

pub returns-in-Empty : goal.returns-in-Empty
returns-in-Empty g c =
    let now : (0, None) ∷ [] ≡ c.args.self.now = sym (ap (ranges_in g.K.Key.bit_width) c.in-Empty.is) ∙ c.self.view_is in
    inl (sym now, refl)

pub returns-in-Whole : goal.returns-in-Whole
returns-in-Whole g c =
    let w = g.K.Key.bit_width in
    subst (λ rs. IsIndexSize w rs c.chunks.result) (sym (ap (ranges_in w) c.in-Whole.is) ∙ c.self.view_is) c.chunks.ensures

pub returns-in-Upper : goal.returns-in-Upper
returns-in-Upper g c =
    let w = g.K.Key.bit_width in
    let now : widened w c.in-Upper.indexed ≡ c.args.self.now = sym (ap (ranges_in w) c.in-Upper.is) ∙ c.self.view_is in
    let wide : 64 ≤ w = subst (HasUpperHalf w) c.in-Upper.is c.self.invariant in
    subst (λ rs. IsIndexSize w rs c.chunks-in-Upper.result) now (size_of_upper w wide c.in-Upper.indexed c.chunks-in-Upper.result c.chunks-in-Upper.ensures)
