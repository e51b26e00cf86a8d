-- There is a pair for each range.
use Rattle.std.proofs.Common.{◌∙◌, ap, arith, length, sym}
use Rattle.prefix_trie_bits.specs.Model.Bits.{number}
use Rattle.prefix_trie_fib.specs.Gaps.{is_marked}
use Rattle.prefix_trie_fib.proofs.Gaps.{length-ranges}
use Rattle.prefix_trie_fib.proofs.ranges.line.Line.len.Goals as goal

pub returns : goal.returns
returns g c =
    let all = sym (length-ranges (λ k. number (g.K.Key.bits k)) (is_marked c.self.inside.gaps.items) c.self.inside.pairs.items) ∙ ap length c.self.view_is in
    omega (arith, c.len.ensures, c.self.inside.pairs.ok.0, all)
