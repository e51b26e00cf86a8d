-- Removing an entry removes its value and then prunes its path; if the entry's own node is missing, nothing changes.
use Rattle.prefix_trie_table.proofs.Prelude.{inl, inr, is_some, refl, ap}
use Rattle.prefix_trie_table.proofs.Lookup.SearchPaths.{own_last, own_node, own_short}
use Rattle.prefix_trie_table.proofs.Tree.Invariant.{deepest_there}
use Rattle.prefix_trie_table.proofs.Removal.OneEntry.{nothing_taken, no_value, own_taken, own_end}
use Rattle.prefix_trie_table.proofs.table.removal.remove_entry.Goals as goal

pub returns-in_default-clause-removed : goal.returns-in_default-clause-removed
returns-in_default-clause-removed g c = λ reading paths values holds.
    let none = c.in_default.ensures.missing reading paths holds.hold in
    inl (none, refl, nothing_taken reading values paths c.args.nodes.now c.args.cells.now holds _ _ (no_value reading values paths _ _ holds _ _ none))

pub value_bit-requires : goal.value_bit-requires
value_bit-requires g c = rw c.in-Some.ensures.rest (own_short c.args.path c.in-Some.here c.args.nodes.now c.in-Some.ensures.found.0)

pub take_bit-value-requires-clause-table : goal.take_bit-value-requires-clause-table
take_bit-value-requires-clause-table g c =
    let t = c.requires.table in
    (t.0, t.1, deepest_there (c.in-Some.ensures.found.0.along.deepest t.0.reading t.0.paths t.0.holds.hold))

pub prune_up-requires : goal.prune_up-requires
prune_up-requires g c =
    let t = c.requires.table.0 in
    let end = own_end c.args.path c.in-Some.rest c.in-Some.here c.args.nodes.now
    (own_last _ _ _ c.in-Some.ensures.found.0) c.in-Some.ensures.rest (rw c.in-Some.ensures.rest (own_short _ _ _ c.in-Some.ensures.found.0)) c.value_bit.result c.value_bit.ensures.value c.args.cells.now
    c.take_bit-value.result.0 c.take_bit-value.result.1 c.take_bit-value.new.nodes c.take_bit-value.new.cells c.take_bit-value.ensures.taken
    c.in-Some.ensures.found.0.last c.deref.result.now _ c.deref.ensures.0 c.in-Some.ensures.found.1 t.reading t.paths t.values t.holds in
    record { is_there = end }

pub returns-clause-value : goal.returns-clause-value
returns-clause-value g c = λ reading paths values holds.
    (own_taken c.args.path c.in-Some.rest c.in-Some.here c.args.nodes.now
    (own_last _ _ _ c.in-Some.ensures.found.0) c.in-Some.ensures.rest (rw c.in-Some.ensures.rest (own_short _ _ _ c.in-Some.ensures.found.0)) c.value_bit.result c.value_bit.ensures.value c.args.cells.now
    c.take_bit-value.result.0 c.take_bit-value.result.1 c.take_bit-value.new.nodes c.take_bit-value.new.cells c.take_bit-value.ensures.taken reading paths values holds).0

pub returns-clause-removed : goal.returns-clause-removed
returns-clause-removed g c = λ reading paths values holds.
    let end = own_end c.args.path c.in-Some.rest c.in-Some.here c.args.nodes.now
    (own_last _ _ _ c.in-Some.ensures.found.0) c.in-Some.ensures.rest (rw c.in-Some.ensures.rest (own_short _ _ _ c.in-Some.ensures.found.0)) c.value_bit.result c.value_bit.ensures.value c.args.cells.now
    c.take_bit-value.result.0 c.take_bit-value.result.1 c.take_bit-value.new.nodes c.take_bit-value.new.cells c.take_bit-value.ensures.taken
    c.in-Some.ensures.found.0.last c.deref.result.now _ c.deref.ensures.0 c.in-Some.ensures.found.1 reading paths values holds in
    let taken = own_taken c.args.path c.in-Some.rest c.in-Some.here c.args.nodes.now
    (own_last _ _ _ c.in-Some.ensures.found.0) c.in-Some.ensures.rest (rw c.in-Some.ensures.rest (own_short _ _ _ c.in-Some.ensures.found.0)) c.value_bit.result c.value_bit.ensures.value c.args.cells.now
    c.take_bit-value.result.0 c.take_bit-value.result.1 c.take_bit-value.new.nodes c.take_bit-value.new.cells c.take_bit-value.ensures.taken reading paths values holds in
    inr (c.take_bit-value.new.nodes, ap is_some (own_node _ _ _ c.in-Some.ensures.found.0 reading paths holds.hold), taken.1.0, c.prune_up.ensures.pruned end, c.take_bit-value.ensures.node_blocks)
