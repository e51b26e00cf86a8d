-- The invariant of `count_listed`: the count of each length and the networks of that length still to come add up to all.
use Rattle.std.proofs.Common.{◌≡◌, ℕ, ◌+◌, ◌^◌, ◌<◌, ◌≤◌, All, eqb, filter, length, get_or}
use Rattle.prefix_trie.specs.Terms.{listing, prefix_pairs}
use Rattle.route_tables.proofs.stats.count_listed.Given as goal

abbrev pub invariant-loop-network : goal.invariant-loop-network
invariant-loop-network g l =
    (goal.iterator-loop-network g).can_next l.network-iterator
    × (goal.iterator-loop-network g).is_finite l.network-iterator
    × (All (λ e. g.P.Prefix.IsFitting e.0) l.network-iterator)
    × ((k : ℕ) → k ≤ g.P.R.Key.bit_width → get_or l.by_length.items k 0 + length (filter (λ e. eqb (g.P.Prefix.len_of e.0) k) l.network-iterator)
    ≡ length (filter (λ e. eqb (g.P.Prefix.len_of e.0) k) (prefix_pairs g.P.Prefix.back (listing l.table.entries))))
    × (length (prefix_pairs g.P.Prefix.back (listing l.table.entries)) < 2 ^ 64)
    × (length l.by_length.items ≡ g.P.R.Key.bit_width + 1)
