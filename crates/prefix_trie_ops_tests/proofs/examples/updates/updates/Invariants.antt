-- The invariant of the loop: the messages so far, with the messages for the items still to come, are all messages.
use Rattle.std.proofs.Common.{◌≡◌, ◌++◌}
use Rattle.std.specs.List.{filter_map}
use Rattle.prefix_trie.specs.Terms.{listing, prefix_pairs}
use Rattle.prefix_trie_ops.specs.Merging.{union_of}
use Rattle.prefix_trie_ops_tests.proofs.Updating.{message_of}
use Rattle.prefix_trie_ops_tests.proofs.examples.updates.updates.Given as goal

abbrev pub invariant-loop-prefix : goal.invariant-loop-prefix
invariant-loop-prefix g l =
    (goal.iterator-loop-prefix g).can_next l.prefix-iterator
    × (goal.iterator-loop-prefix g).is_finite l.prefix-iterator
    × (l.messages.items ++ filter_map message_of l.prefix-iterator ≡ filter_map message_of (prefix_pairs g.P.Prefix.back (listing (union_of l.old.entries l.new.entries))))
