-- A word without a set bit marks no place.
use Rattle.std.proofs.Common.{◌∙◌, ◌∷◌, [], ap, arith, length, length-append}
use Rattle.prefix_trie_fib.specs.Gaps.{is_marked}
use Rattle.prefix_trie_fib.proofs.Gaps.{word_unmarked}
use Rattle.prefix_trie_fib.proofs.ranges.marks.reach.Goals as goal

pub returns-in_ok-push-clause-unchanged : goal.returns-in_ok-push-clause-unchanged
returns-in_ok-push-clause-unchanged g c = λ k. ap (λ ws. is_marked ws k) c.in_ok-push.ensures.items ∙ word_unmarked c.args.words.now.items k

pub returns-in_ok-push-clause-marks : goal.returns-in_ok-push-clause-marks
returns-in_ok-push-clause-marks g c = record {
  enough = (let longer = ap length c.in_ok-push.ensures.items ∙ length-append c.args.words.now.items (0 ∷ []) in omega (arith, longer, c.requires.enough));
  clear = λ i le. returns-in_ok-push-clause-unchanged g c i ∙ c.requires.clear i le;
}
