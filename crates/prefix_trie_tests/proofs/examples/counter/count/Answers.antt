-- Counting a prefix once more, in two cases: its count grows by 1, or a count of 1 is inserted.
use Rattle.prefix_trie_tests.proofs.Prelude.{rules, ◌+◌, ◌%◌, ◌^◌}
use Rattle.prefix_trie.proofs.Callers.{modified_or_put}
use Rattle.prefix_trie_tests.proofs.examples.counter.count.Goals as goal

pub returns : goal.returns
returns g c =
    modified_or_put _ _ (λ n. (n + 1) % 2 ^ 64) (λ x y h. search rules) c.entry.result c.and_modify.result c.args.counts.now _ 1 c.in_ok-or_insert.field-0.now _
    c.entry.ensures.unchanged c.entry.ensures.path c.and_modify.ensures.update c.and_modify.ensures.key c.in_ok-or_insert.ensures.value (search rules)
