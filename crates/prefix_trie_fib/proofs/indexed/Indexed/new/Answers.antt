-- The bits that do not select a chunk are the others of 30.
use Rattle.std.proofs.Common.{◌≡◌, ◌-◌, arith, rules, subst}
use Rattle.prefix_trie_fib.specs.Compiled.{IsCompiled}
use Rattle.prefix_trie_fib.specs.Sizes.{AreIndexBits}
use Rattle.prefix_trie_fib.proofs.indexed.Indexed.new.Goals as goal

pub invariant_of-result : goal.invariant_of-result
invariant_of-result g c =
    let bits = c.index_bits-bits.result in
    let compiled : IsCompiled g.K.Key.bit_width c.shrink_to_fit.new.self c.in-Ok.index.chunks.items c.in-Ok.index.parts.items bits = record {
      division = search rules;
      few = search rules;
      right = c.in-Ok.ensures.right;
      long = c.in-Ok.ensures.long;
      sized = subst (λ n. AreIndexBits g.K.Key.bit_width n bits) (omega (arith, c.len-2.ensures)) (subst (λ w. AreIndexBits w c.len-2.result bits) c.width.ensures c.index_bits-bits.ensures.right);
      few_parts = c.in-Ok.ensures.few;
    } in
    (omega arith, subst (IsCompiled g.K.Key.bit_width c.shrink_to_fit.new.self c.in-Ok.index.chunks.items c.in-Ok.index.parts.items) (let e : bits ≡ 30 - (30 - bits) = omega (arith, c.index_bits-bits.ensures.right.most) in e) compiled)
