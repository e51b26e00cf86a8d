-- No network that is left is below another one, so two of them that contain each other are the same.
use Rattle.std.proofs.Common.{◌≡◌, Bool, true, false, List}
use Rattle.std.proofs.lemmas.Result.{IfOk-weaker}
use Rattle.std.specs.FinMap.{contains_key}
use Rattle.prefix_trie.specs.Terms.{begins}
use Rattle.prefix_trie_ops.specs.Covered.{is_below_another}
use Rattle.prefix_trie_ops_tests.proofs.Reducing.{none_begins}
use Rattle.prefix_trie_ops_tests.proofs.examples.reduction.reduce.Goals as goal

pub returns-clause-apart : goal.returns-clause-apart
returns-clause-apart g c =
    let n = c.aggregate_consistent.new.set.entries in
    IfOk-weaker c.aggregate_consistent.result
    (λ _. (s : List Bool) → contains_key n s ≡ true → is_below_another n s ≡ false)
    (λ _. (s t : List Bool) → contains_key n s ≡ true → contains_key n t ≡ true → begins s t ≡ true → s ≡ t)
    (λ _ uncovered. none_begins c.aggregation_laws.ensures n uncovered) c.aggregate_consistent.ensures.uncovered
