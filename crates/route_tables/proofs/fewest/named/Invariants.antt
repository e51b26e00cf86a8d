-- The invariant of `named`: the networks so far, with those still to come and the texts of their ranks, are all.
use Rattle.std.proofs.Common.{◌≡◌, ◌++◌, map}
use Rattle.prefix_trie.specs.Terms.{lent_item}
use Rattle.route_tables.specs.Fewest.{named_pairs, text_at, texts_of}
use Rattle.route_tables.proofs.fewest.named.Given as goal

abbrev pub invariant-loop-network : goal.invariant-loop-network
invariant-loop-network g l =
    (goal.iterator-loop-network g).can_next l.network-iterator
    × (goal.iterator-loop-network g).is_finite l.network-iterator
    × (map lent_item l.networks.items ++ map (λ e. (e.0, text_at (texts_of l.texts) e.1)) l.network-iterator ≡ named_pairs g.P.Prefix.back (texts_of l.texts) l.ranks.entries)
