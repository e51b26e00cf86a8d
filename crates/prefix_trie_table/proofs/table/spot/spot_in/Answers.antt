-- A spot with masked bitmaps has the node's places that are in the masks.
use Rattle.prefix_trie_table.proofs.Prelude.{◌∙◌, arith, and_le_l, All-weaker, All-contains_itself, to_come, IsPlaceOf}
use Rattle.std.specs.List.{Contains}
use Rattle.prefix_trie_table.proofs.Walk.StartStacks.{masked, in_first}
use Rattle.prefix_trie_table.proofs.Lookup.NodeMatches.{clear-small}
use Rattle.prefix_trie_table.proofs.table.spot.spot_in.Goals as goal

pub new-places-requires : goal.new-places-requires
new-places-requires c =
    let small = clear-small c.args.node.value_bitmap (omega arith) c.requires.few in
    omega (arith, small, and_le_l c.args.node.value_bitmap c.args.chosen.0)

pub returns-clause-places : goal.returns-clause-places
returns-clause-places c = c.new-places.ensures.places ∙ masked c.args.node c.args.chosen.0 c.args.chosen.1

pub returns-clause-each : goal.returns-clause-each
returns-clause-each c =
    All-weaker (Contains (to_come c.new-places.result)) (IsPlaceOf c.args.node)
    (λ s h. let i = (c.new-places.ensures.each s).0 h in (i.0, in_first c.args.node c.args.chosen.0 c.args.chosen.1 s i.1)) (to_come c.new-places.result)
    (All-contains_itself (to_come c.new-places.result))
