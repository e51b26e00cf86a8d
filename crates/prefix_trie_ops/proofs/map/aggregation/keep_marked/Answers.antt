-- The marks left are the marks of the entries still to be tested, so `retain` keeps exactly the marked ones.
use Rattle.std.proofs.Common.{rules, of_calls, ◌∙◌}
use Rattle.prefix_trie_ops.proofs.Marks.{keeps_marked}
use Rattle.prefix_trie_ops.proofs.map.aggregation.keep_marked.Goals as goal

pub returns-clause-kept : goal.returns-clause-kept
returns-clause-kept g c keep marks =
    keeps_marked _ (λ f. f.0.rest.now) keep _ _ _ (λ e h h' b m ms asked left. (search (rules, of_calls, asked.called, left), search (rules, of_calls, asked.called, left))) (c.iter-left.ensures.rest ∙ marks) c.retain.ensures.kept
