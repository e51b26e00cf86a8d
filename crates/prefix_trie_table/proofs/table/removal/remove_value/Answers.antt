-- A value whose own node is missing is not stored. Otherwise it is removed from that node, and all nodes stay.
use Rattle.prefix_trie_table.proofs.Prelude.{◌≤◌, length, refl, sym, arith}
use Rattle.prefix_trie_table.proofs.Insertion.Spaces.{Grows-same}
use Rattle.prefix_trie_table.proofs.Lookup.SearchPaths.{no_value_at_end, last_there}
use Rattle.prefix_trie_table.proofs.Removal.OneEntry.{nothing_taken, own_taken}
use Rattle.prefix_trie_table.proofs.table.removal.remove_value.Goals as goal

pub returns-then-len-ge5 : goal.returns-then-len-ge5
returns-then-len-ge5 g c =
    let e = c.descend-rest.ensures in
    let long : 5 ≤ length c.descend-rest.result.1 = omega (arith, c.len.ensures.len, c.if-len-ge5.true) in
    record {
      value = λ reading paths values holds. sym (no_value_at_end _ _ _ e.last reading paths values c.args.cells.now holds _ e.rest long);
      taken = λ reading paths values holds.
          nothing_taken reading values paths c.args.nodes.now c.args.cells.now holds _ _ (no_value_at_end _ _ _ e.last reading paths values c.args.cells.now holds _ e.rest long);
      counted = omega arith;
      node_blocks = record { space = (refl, refl, refl); tiers = refl };
      cell_space = Grows-same _ _ 24 refl;
    }

pub take_bit-requires-clause-table : goal.take_bit-requires-clause-table
take_bit-requires-clause-table g c =
    let t = c.requires.table in
    (t.0, t.1, last_there _ _ _ c.descend-rest.ensures.last t.0.reading t.0.paths t.0.holds.hold)

pub returns : goal.returns
returns g c =
    let t = c.take_bit.ensures in
    let own = own_taken c.args.path c.descend-rest.result.1 c.descend-rest.result.0 c.args.nodes.now c.descend-rest.ensures.last c.descend-rest.ensures.rest
    (omega (arith, c.len.ensures.len, c.if-len-ge5.false)) c.value_bit.result c.value_bit.ensures.value c.args.cells.now c.take_bit.result.0 c.take_bit.result.1 c.take_bit.new.nodes c.take_bit.new.cells
    c.take_bit.ensures.taken in
    record {
      value = λ reading paths values holds. (own reading paths values holds).0;
      taken = λ reading paths values holds. (own reading paths values holds).1.0;
      counted = t.counted;
      node_blocks = t.node_blocks;
      cell_space = t.cell_space;
    }
