-- A run of one longest match changes nothing, has the model's match as its reply, and reads the nodes of one path.
use Rattle.prefix_trie_tests.proofs.Prelude.{IfOk-weaker}
use Rattle.prefix_trie_tests.proofs.Ran.{matched}
use Rattle.prefix_trie_tests.proofs.runs.callers.longest_of.Goals as goal

pub returns-clause-reply : goal.returns-clause-reply
returns-clause-reply g c =
    IfOk-weaker c.run_counted.result _ _ (λ ran counted. (matched _ _ _ _ _ _ _ _ counted).0) c.run_counted.ensures.counted

pub returns-clause-reads : goal.returns-clause-reads
returns-clause-reads g c =
    IfOk-weaker c.run_counted.result _ _ (λ ran counted. (matched _ _ _ _ _ _ _ _ counted).1) c.run_counted.ensures.counted

pub returns-clause-unchanged : goal.returns-clause-unchanged
returns-clause-unchanged g c =
    IfOk-weaker c.run_counted.result _ _ (λ ran counted. (matched _ _ _ _ _ _ _ _ counted).2) c.run_counted.ensures.counted
