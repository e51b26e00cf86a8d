-- A spot that is entered has all places of its node to come, each of which is one of the node's.
use Rattle.prefix_trie_table.proofs.Prelude.{ap, ◌∙◌, arith, All-weaker, All-contains_itself, to_come, has_bit, IsPlaceOf}
use Rattle.std.specs.List.{Contains}
use Rattle.prefix_trie_table.proofs.Lookup.NodeMatches.{clear-small}
use Rattle.prefix_trie_table.proofs.table.spot.enter.Goals as goal

pub new-places-requires : goal.new-places-requires
new-places-requires g c =
    clear-small c.without_sizes-node.result.value_bitmap (omega arith)
    (ap (λ n. has_bit n.value_bitmap 31) c.without_sizes-node.ensures ∙ ap (λ n. has_bit n.value_bitmap 31) c.visit.ensures.node ∙ c.requires.few)

pub returns-clause-each : goal.returns-clause-each
returns-clause-each g c =
    All-weaker (Contains (to_come c.new-places.result)) (IsPlaceOf c.without_sizes-node.result) (λ s h. (c.new-places.ensures.each s).0 h) (to_come c.new-places.result)
    (All-contains_itself (to_come c.new-places.result))
