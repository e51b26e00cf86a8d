-- The places of the root lead to all entries of the table, so each is tested once, in listing order.
use Rattle.prefix_trie_table.proofs.Prelude.{[], ap, ◌∙◌, arith, All-weaker, All-contains_itself, to_come, has_bit, node_at, IsPlaceOf}
use Rattle.std.specs.List.{Contains}
use Rattle.prefix_trie_table.proofs.Lookup.NodeMatches.{clear-small}
use Rattle.prefix_trie_table.proofs.Retain.FromRoot.{root_site, root_may_ask, root_asked}
use Rattle.prefix_trie_table.proofs.Tree.Subtrees.{root_inside, few_at}
use Rattle.prefix_trie_table.proofs.Tree.Trees.{read-nil}
use Rattle.prefix_trie_table.proofs.table.retain.retain_entries.Goals as goal

pub visit-root-requires : goal.visit-root-requires
visit-root-requires g c = root_inside g.K.Key.bit_width c.args.nodes.now _ c.requires.trie.1

pub new-places-requires : goal.new-places-requires
new-places-requires g c =
    clear-small c.visit-root.result.value_bitmap (omega arith)
    (ap (λ n. has_bit n.value_bitmap 31) c.visit-root.ensures.node
    ∙ few_at g.K.Key.bit_width c.args.nodes.now _ c.requires.trie.1
    [] (node_at c.args.nodes.now.slots 0) (read-nil c.args.nodes.now.slots))

pub retain_places-requires-clause-site : goal.retain_places-requires-clause-site
retain_places-requires-clause-site g c =
    root_site g.K.Key.IsKey g.K.Key.bits g.K.Key.bit_width c.args.nodes.now c.zero.result c.zero.ensures.key
    c.visit-root.result c.visit-root.ensures.node

pub retain_places-requires-clause-each : goal.retain_places-requires-clause-each
retain_places-requires-clause-each g c =
    All-weaker (Contains (to_come c.new-places.result)) (IsPlaceOf c.visit-root.result) (λ u m. (c.new-places.ensures.each u).0 m) (to_come c.new-places.result)
    (All-contains_itself (to_come c.new-places.result))

pub retain_places-requires-clause-may_ask : goal.retain_places-requires-clause-may_ask
retain_places-requires-clause-may_ask g c = λ s trie.
    root_may_ask g.K.Key.IsKey g.K.Key.bits g.K.Key.bit_width c.args.nodes.now c.zero.result c.zero.ensures.key
    c.visit-root.result c.visit-root.ensures.node (g.met.K.Key.key_laws.bits_length c.zero.result c.zero.ensures.key) c.args.entries.now c.args.cells.now s trie (to_come c.new-places.result) c.new-places.ensures.places g.F.Keep.may_return g.F.Keep.accepts c.args.keep.now (c.requires.may_ask s trie)

pub returns-clause-kept : goal.returns-clause-kept
returns-clause-kept g c = λ s trie.
    root_asked g.K.Key.IsKey g.K.Key.bits g.K.Key.bit_width c.args.nodes.now c.zero.result c.zero.ensures.key
    c.visit-root.result c.visit-root.ensures.node (g.met.K.Key.key_laws.bits_length c.zero.result c.zero.ensures.key) c.args.entries.now c.args.cells.now s trie (to_come c.new-places.result) c.new-places.ensures.places g.F.Keep.may_return g.F.Keep.accepts c.args.keep.now
    (λ u m. (c.new-places.ensures.each u).0 m) (λ u m. (c.new-places.ensures.each u).1 m) c.retain_places.new.keep c.retain_places.new.entries
    c.retain_places.new.nodes c.retain_places.new.cells (c.retain_places.ensures.retains s trie)
