-- The test keeps exactly the entries whose values are at least `least`.
use Rattle.prefix_trie_tests.proofs.Prelude.{rules, nat_le, of_calls}
use Rattle.prefix_trie.proofs.Callers.{keeps_filter}
use Rattle.prefix_trie_tests.proofs.examples.expiry.keep_from.Goals as goal

pub returns-clause-kept : goal.returns-clause-kept
returns-clause-kept g c =
    keeps_filter _ (λ e. nat_le c.args.least e.1) _ _ _
    (λ e b f' h. (search (rules, of_calls, h.called, h.shows), search (rules, of_calls, h.called))) c.retain.ensures.kept
