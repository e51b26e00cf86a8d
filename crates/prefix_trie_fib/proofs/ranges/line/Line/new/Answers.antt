-- No place is marked.
use Rattle.std.proofs.Common.{◌∙◌, ap, arith, length}
use Rattle.prefix_trie_fib.specs.Gaps.{is_marked}
use Rattle.prefix_trie_fib.proofs.Gaps.{none_marked}
use Rattle.prefix_trie_fib.proofs.ranges.line.Line.new.Goals as goal

pub invariant_of-result : goal.invariant_of-result
invariant_of-result g c = record {
  enough = (let e = ap length c.new.ensures.items in omega (arith, e));
  clear = λ i _. ap (λ ws. is_marked ws i) c.new-2.ensures.items ∙ none_marked i;
}
