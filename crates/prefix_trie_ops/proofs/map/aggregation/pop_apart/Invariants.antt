-- The invariant of `pop_apart`: what is popped does not contain the prefix, and the rest is still a chain.
use Rattle.std.proofs.Common.{◌≡◌, All, filter}
use Rattle.prefix_trie.specs.Terms.{begins}
use Rattle.prefix_trie_ops.specs.Values.{IsChain}
use Rattle.prefix_trie_ops.proofs.map.aggregation.pop_apart.Given as goal

abbrev pub invariant-loop-covering : goal.invariant-loop-covering
invariant-loop-covering g l =
    (filter (λ e. begins (g.P.Prefix.path e.0) (g.P.Prefix.path l.prefix)) l.above.items ≡ filter (λ e. begins (g.P.Prefix.path e.0) (g.P.Prefix.path l.prefix)) l.initial.above.items)
    × IsChain g.P.Prefix.path l.above.items
    × All (λ e. g.P.Prefix.IsFitting e.0) l.above.items

abbrev pub decreases-loop-covering : goal.decreases-loop-covering
decreases-loop-covering g l = l.above.len
