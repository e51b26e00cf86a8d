-- The index has a chunk for each number of the bits that select it.
use Rattle.std.proofs.Common.{◌∙◌, ◌-◌, arith, inr, length, subst}
use Rattle.prefix_trie_fib.specs.Sizes.{AreIndexBits}
use Rattle.prefix_trie_fib.proofs.indexed.Indexed.chunks.Goals as goal

pub returns : goal.returns
returns g c =
    let bits = 30 - c.self.inside.rest in
    inr (bits, omega (arith, c.len.ensures, c.self.inside.index.chunks.ok.0) ∙ c.self.invariant.1.long, subst (λ rs. AreIndexBits g.K.Key.bit_width (length rs) bits) c.self.view_is c.self.invariant.1.sized)
