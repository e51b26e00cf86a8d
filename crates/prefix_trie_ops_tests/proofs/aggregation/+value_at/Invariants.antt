-- The recursion of `value_at` ends, since each call is for an earlier key.
use Rattle.prefix_trie_ops_tests.proofs.aggregation.+value_at.Given as goal

abbrev pub decreases-value_at : goal.decreases-value_at
decreases-value_at l = l.key
