-- The invariant: if all values to come are the first one, all are.
use Rattle.std.proofs.Common.{◌≡◌, All, map}
use Rattle.prefix_trie.specs.Terms.{listing}
use Rattle.route_tables.proofs.fewest.only_value.Given as goal

abbrev pub invariant-loop-value : goal.invariant-loop-value
invariant-loop-value g l =
    (goal.iterator-loop-value g).can_next l.value-iterator
    × (goal.iterator-loop-value g).is_finite l.value-iterator
    × (All (λ v. v ≡ l.first) l.value-iterator → All (λ v. v ≡ l.first) (map (λ e. e.1) (listing l.table.entries)))
