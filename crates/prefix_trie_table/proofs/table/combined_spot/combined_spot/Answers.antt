-- The places of the chosen bits are those of both nodes.
use Rattle.prefix_trie_table.proofs.Prelude.{◌∙◌, ap, sym, filter, arith, All-weaker, All-contains_itself, strings, to_come}
use Rattle.std.specs.List.{Contains}
use Rattle.prefix_trie_table.specs.Walking.Combined.{IsCombinedPlace}
use Rattle.prefix_trie_table.proofs.Lookup.NodeMatches.{clear-small}
use Rattle.prefix_trie_table.proofs.Walk.CombinedNodes.{combined-bits}
use Rattle.prefix_trie_table.proofs.table.combined_spot.combined_spot.Goals as goal

pub new-places-requires : goal.new-places-requires
new-places-requires c =
    c.bits-values.ensures.small
    (clear-small c.args.left.value_bitmap (omega arith) c.requires.few)
    (clear-small c.args.right.value_bitmap (omega arith) c.requires.few_right)

pub returns-clause-places : goal.returns-clause-places
returns-clause-places c =
    c.new-places.ensures.places
    ∙ ap (λ test. filter test (strings 5)) (λ i s. combined-bits c.args.combination c.bits-values.result c.bits-children.result c.args.left c.args.right c.bits-values.ensures.bits c.bits-children.ensures.bits s i)

pub returns-clause-each : goal.returns-clause-each
returns-clause-each c =
    All-weaker (Contains (to_come c.new-places.result)) (IsCombinedPlace c.args.combination c.args.left c.args.right)
    (λ s h. let i = (c.new-places.ensures.each s).0 h in
    (i.0, sym (combined-bits c.args.combination c.bits-values.result c.bits-children.result c.args.left c.args.right c.bits-values.ensures.bits c.bits-children.ensures.bits s) ∙ i.1)) (to_come c.new-places.result)
    (All-contains_itself (to_come c.new-places.result))
