-- A range ends after its first address: where the next one starts, or at the end of all addresses.
use Rattle.std.proofs.Common.{◌+◌, ◌<◌, None, arith, subst, sym}
use Rattle.prefix_trie_bits.specs.Model.Bits.{number}
use Rattle.prefix_trie_fib.specs.Line.{end_of}
use Rattle.prefix_trie_fib.proofs.Ends.{below_end}
use Rattle.prefix_trie_fib.proofs.fib.Fib.range.Goals as goal
use Rattle.prefix_trie_fib.proofs.fib.Fib.range.Goals.{then-i-len, else-i-len}

pub returns-clause-some : goal.returns-clause-some
returns-clause-some g c =
    let w = g.P.R.Key.bit_width in
    let bits = g.P.R.Key.bits in
    let i = c.args.i in
    let first = c.start-first.result in
    elim c.if-i-len.branch [
      | then-i-len b ↦
          let here = c.start-first.ensures (0, None) in
          let next = b.start.ensures (0, None) in
          let len = c.len-len.ensures in
          let up = c.self.invariant.0.rising i (i + 1) (0, None) (omega arith) (omega (arith, b.if-i-len.true, len)) in
          subst (λ o. number (bits first) < end_of w bits o) (sym b.past-is) (omega (arith, here, next, up))
      | else-i-len b ↦ subst (λ o. number (bits first) < end_of w bits o) (sym b.past-is) (below_end w bits first (g.met.P.R.Key.key_laws.bits_length first c.is_key.ensures.key))
    ]
