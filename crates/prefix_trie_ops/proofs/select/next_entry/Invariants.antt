-- The invariant of `next_entry`: the entries skipped so far do not pass the test.
use Rattle.std.proofs.Common.{◌≡◌, All, filter}
use Rattle.prefix_trie_ops.proofs.select.next_entry.Given as goal

abbrev pub invariant-loop-prefix : goal.invariant-loop-prefix
invariant-loop-prefix g l =
    (goal.iterator-loop-prefix g).can_next l.entries
    × (goal.iterator-loop-prefix g).is_finite l.entries
    × (g.F.PathTest.outcome l.test ≡ g.F.PathTest.outcome l.initial.test)
    × (filter (λ e. g.F.PathTest.outcome l.initial.test (g.P.Prefix.path e.0)) l.entries ≡ filter (λ e. g.F.PathTest.outcome l.initial.test (g.P.Prefix.path e.0)) l.initial.entries)
    × All (λ e. g.P.Prefix.IsFitting e.0) l.entries
