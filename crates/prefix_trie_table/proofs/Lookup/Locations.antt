-- What contracts see of a place.
use Rattle.prefix_trie_table.proofs.Prelude.{◌≡◌, ℕ, ◌<◌, true, Bool, List, length, get_or, Option, None, Some, is_some, sym, ap, ◌∙◌, get_or_default, get, contains_key, Node, Seat, Location, Stored, Missing, chunks_of, bit_of, Sized, seat_of, Locates, IsLocation, Shaped, IsSeat, Store, IsTable}
use Rattle.prefix_trie_table.proofs.Tree.Invariant.{some_table}
use Rattle.prefix_trie_table.proofs.Lookup.Lending.{seen_of, cell_there, value_there, stored_is}
use Rattle.prefix_trie_table.proofs.Lookup.NodeSeats.{seat_if, is_seat}
use Rattle.prefix_trie_table.proofs.Tree.Shapes.{shape_entries}
use Rattle.prefix_trie_table.proofs.Lookup.PathEnds.{last_ends}

module _ {T : Type 0} (v : Store Node) (w : Store (Option T)) (count : ℕ) (s : Shaped v.slots w.slots) (is : IsTable v w count s.0) where
  -- a string is stored if it has a seat
  pub stored_if : (q : List Bool) → contains_key s.0.entries q ≡ is_some (seat_of v.slots q)
  stored_if q =
      let t = some_table is in
      ap is_some (shape_entries t.reading t.values t.paths v w t.holds s.0 s.1 q) ∙ t.holds.cells.set_where (chunks_of q) (bit_of q)
      ∙ sym (seat_if v t.reading t.paths t.holds.hold q)

  -- what a search found is where the string is
  pub located : {K : Type 0} (z : Sized v.slots) (q : List Bool) (found : Location K) → Locates v q found → IsLocation (seen_of v w s.0 z) q found
  located z q (Stored seat) found = (stored_if q ∙ ap is_some found, found)
  located z q (Missing end) found =
      let t = some_table is in
      (stored_if q ∙ ap is_some found.0.0, (last_ends v t.reading t.paths t.holds.hold q end.reached found.0.1, found.1))

  -- a seat that was found, by the table as contracts see it
  module _ (q : List Bool) (seat : Seat) (build : List Node) (same : v.slots ≡ build) (found : seat_of build q ≡ Some seat) where
    pub seat_found : IsSeat is.reading (chunks_of q) (bit_of q) seat
    seat_found = is_seat v is.reading is.paths is.nodes q seat (ap (λ nodes. seat_of nodes q) same ∙ found)

    -- it is a cell
    pub found_inside : seat.slot < length w.slots
    found_inside = (cell_there v w (some_table is) q seat seat_found).0

    -- what is read there is the value of the string
    pub found_value : (x : Option T) → x ≡ get_or w.slots seat.slot x → get s.0.entries q ≡ x
    found_value x read =
        stored_is v w count s is q ∙ sym (cell_there v w (some_table is) q seat seat_found).1
        ∙ get_or_default w.slots seat.slot None x found_inside ∙ sym read

    -- and there is one
    pub found_some : is_some (get s.0.entries q) ≡ true
    found_some = ap is_some (stored_is v w count s is q) ∙ value_there v w (some_table is) q seat seat_found

    -- so the cell has the value of the string
    pub found_read : get_or w.slots seat.slot None ≡ get s.0.entries q
    found_read = sym (found_value (get_or w.slots seat.slot None) (get_or_default w.slots seat.slot None (get_or w.slots seat.slot None) found_inside))
