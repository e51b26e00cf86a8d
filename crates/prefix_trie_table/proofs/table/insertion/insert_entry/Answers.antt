-- An insertion either prepares all blocks and adds the entry, or fails in `prepare` and adds nothing.
use Rattle.prefix_trie_table.proofs.Prelude.{◌≡◌, is_some, refl, ap, arith, chunks_of, bit_of, one_if}
use Rattle.prefix_trie_table.proofs.Insertion.Needs.{Made-then}
use Rattle.prefix_trie_table.proofs.Counts.EntryCounts.{entries_bound}
use Rattle.prefix_trie_table.proofs.Lookup.NodeSeats.{missing_value, ends_still}
use Rattle.prefix_trie_table.proofs.Insertion.Spaces.{Grows-then}
use Rattle.prefix_trie_table.proofs.table.insertion.insert_entry.Goals as goal

pub returns-in-Err : goal.returns-in-Err
returns-in-Err g c =
    let grows = c.in-Err.ensures.grows in
    let o = c.in-Err.ensures.obtains in
    record {
      placed = c.prepare.ensures.kept;
      counted = refl;
      answer = refl;
      grows = record { nodes = grows.nodes; cells = grows.cells; range = grows.range };
      obtains = record { nodes_made = o.nodes_made; cells_made = o.cells_made; range = o.range; memory = o.memory; some_missing = o.some_missing };
    }

pub add_entry-seat-requires-clause-table : goal.add_entry-seat-requires-clause-table
add_entry-seat-requires-clause-table g c =
    let t = c.requires.table.0 in
    record { reading = t.reading; values = t.values; paths = t.paths; holds = c.prepare.ensures.kept t.reading t.paths t.values t.holds }

pub add_entry-seat-requires-clause-ends : goal.add_entry-seat-requires-clause-ends
add_entry-seat-requires-clause-ends g c =
    let t = c.requires.table.0 in
    ends_still c.args.path c.args.end.reached c.args.nodes.now c.prepare.new.nodes t.reading t.paths c.requires.ends t.holds.hold
    (c.prepare.ensures.kept t.reading t.paths t.values t.holds).hold

pub returns-clause-placed : goal.returns-clause-placed
returns-clause-placed g c = λ reading paths values holds. c.add_entry-seat.ensures.added reading paths values (c.prepare.ensures.kept reading paths values holds)

pub prove-unreachable-requires : goal.prove-unreachable-requires
prove-unreachable-requires g c =
    let t = c.requires.table.0 in
    let q = c.args.path in
    let added = c.add_entry-seat.ensures.added t.reading t.paths t.values (c.prepare.ensures.kept t.reading t.paths t.values t.holds) in
    let had : one_if (is_some (t.values (chunks_of c.args.path) (bit_of c.args.path))) ≡ 0 =
    ap (λ o. one_if (is_some o)) (missing_value c.args.nodes.now t.reading t.paths t.holds.hold q t.values c.args.cells.now t.holds.cells c.requires.ends.0) in
    let bound = entries_bound added.later _ added.paths c.add_entry-seat.new.cells added.holds.cells in
    omega (arith, bound, added.counted, had, c.requires.table.1, c.len-slots.ensures.len, c.if-prove.true)

pub returns-clause-grows : goal.returns-clause-grows
returns-clause-grows g c = record {
  nodes = Grows-then _ _ _ 56 c.prepare.ensures.grows.nodes c.add_entry-seat.ensures.nodes;
  cells = Grows-then _ _ _ 31 c.prepare.ensures.grows.cells c.add_entry-seat.ensures.cells;
  range = tt;
}

pub returns-clause-obtains : goal.returns-clause-obtains
returns-clause-obtains g c =
    let o = c.in_default.ensures.obtains in record {
      nodes_made = Made-then c.args.nodes.now c.prepare.new.nodes c.add_entry-seat.new.nodes _ o.nodes_made c.add_entry-seat.ensures.nodes;
      cells_made = Made-then c.args.cells.now c.prepare.new.cells c.add_entry-seat.new.cells _ o.cells_made c.add_entry-seat.ensures.cells;
      range = tt;
      memory = tt;
      some_missing = tt;
    }
