-- Lending the value of the longest match keeps the table a table, whatever is written to it.
use Rattle.prefix_trie_table.proofs.Prelude.{◌+◌, take, length}
use Rattle.prefix_trie_table.proofs.Tree.Invariant.{some_table}
use Rattle.prefix_trie_table.proofs.Lookup.EntryMatches.{has_nodes, met_is}
use Rattle.prefix_trie_table.proofs.Lookup.Lending.{can_lend, left_shape, table_left, table_kept, lender_left, longest_seat, longest_written, longest_lent, longest_small}
use Rattle.prefix_trie_table.proofs.table.Table.find_longest_mut.Goals as goal

pub longest_on_path-longest-requires : goal.longest_on_path-longest-requires
longest_on_path-longest-requires g c = record { sound = has_nodes _ _ (some_table c.self.invariant) }

pub seat_of-seat-requires : goal.seat_of-seat-requires
seat_of-seat-requires g c =
    let t = some_table c.self.invariant in
    longest_small t.reading c.args.path (length c.args.path + 1) c.longest_on_path-longest.result (c.longest_on_path-longest.ensures.found t.reading t.paths t.holds.hold)

pub lend_if-requires : goal.lend_if-requires
lend_if-requires g c =
    let i = c.self.inside in
    let t = some_table c.self.invariant in
    let n = c.seat_of-seat.new.found in
    let at = longest_seat _ _ t _ i.shape.1 c.args.path n c.longest_on_path-longest.result c.seat_of-seat.result c.seat_of-seat.ensures (c.longest_on_path-longest.ensures.found t.reading t.paths t.holds.hold) in
    can_lend i.nodes i.cells i.count i.shape c.self.invariant (take n c.args.path) c.seat_of-seat.result at

pub invariant_of-self-inside-lent : goal.invariant_of-self-inside-lent
invariant_of-self-inside-lent g c =
    let i = c.self.inside in
    let t = some_table c.self.invariant in
    let n = c.seat_of-seat.new.found in
    let at = longest_seat _ _ t _ i.shape.1 c.args.path n c.longest_on_path-longest.result c.seat_of-seat.result c.seat_of-seat.ensures (c.longest_on_path-longest.ensures.found t.reading t.paths t.holds.hold) in
    λ r. (
      λ x. (left_shape i.nodes i.cells i.count i.shape c.self.invariant (take n c.args.path) c.seat_of-seat.result at x, (i.sizes, tt)),
      (i.shape, (i.sizes, tt)),
    )

pub invariant_of-self-lent : goal.invariant_of-self-lent
invariant_of-self-lent g c =
    let i = c.self.inside in
    let t = some_table c.self.invariant in
    let n = c.seat_of-seat.new.found in
    let at = longest_seat _ _ t _ i.shape.1 c.args.path n c.longest_on_path-longest.result c.seat_of-seat.result c.seat_of-seat.ensures (c.longest_on_path-longest.ensures.found t.reading t.paths t.holds.hold) in
    λ r. (
      λ x. table_left i.nodes i.cells i.count i.shape c.self.invariant (take n c.args.path) c.seat_of-seat.result at x ((c.self-1.given r).0 x).0,
      table_kept i.nodes i.cells i.count i.shape c.self.invariant (take n c.args.path) (c.self-1.given r).1.0,
    )

pub returns : goal.returns
returns g c =
    let i = c.self.inside in
    let t = some_table c.self.invariant in
    let n = c.seat_of-seat.new.found in
    let held = c.longest_on_path-longest.ensures.found t.reading t.paths t.holds.hold in
    let at = longest_seat _ _ t _ i.shape.1 c.args.path n c.longest_on_path-longest.result c.seat_of-seat.result c.seat_of-seat.ensures held in
    rw (← c.self.view_is) (
      lender_left i.nodes i.cells i.count i.shape c.self.invariant (take n c.args.path) i.sizes c.seat_of-seat.result at c.lend_if.result _ c.lend_if.ensures.value
          (longest_written _ _ t _ i.shape.1 c.args.path n i.sizes c.longest_on_path-longest.result c.seat_of-seat.result c.seat_of-seat.ensures held)
          (λ x. ((c.self-1.given c.lend_if.result).0 x).0) (λ x. ((c.self-1.given c.lend_if.result).0 x).1.0)
          (c.self-1.given c.lend_if.result).1.0 (c.self-1.given c.lend_if.result).1.1.0,
      record {
        writes_back = tt;
        value = longest_lent _ _ t _ i.shape.1 c.args.path n c.longest_on_path-longest.result c.seat_of-seat.result c.seat_of-seat.ensures held c.lend_if.result c.lend_if.ensures.value;
        visits = met_is _ _ t _ i.shape.1 c.args.path _ _ (c.longest_on_path-longest.ensures.visits t.reading t.paths t.holds.hold);
      },
    )
