-- The recursion of `least` ends, since each call is for a later key of at most 63.
use Rattle.std.proofs.Common.{◌-◌}
use Rattle.prefix_trie_ops_tests.proofs.aggregation.+least.Given as goal

abbrev pub decreases-least : goal.decreases-least
decreases-least l = 63 - l.key
