-- A table after one of its values was overwritten in its cell.
use Rattle.prefix_trie_table.proofs.Prelude.{◌≡◌, ℕ, ◌+◌, ◌<◌, ◌≤◌, Bool, true, cond, List, length, take, get_or, Option, None, Some, IfSome, MatchOption, is_some, refl, sym, ap, ap₂, ◌∙◌, subst, arith, inr, false≢true, MutBor, option_copied_mut, ghost_name_of, get, get-insert, len-insert, len, listing_total, with_entry, longest_match, State, Node, Seat, Match, has_bit, rank, node_sizes, cell_sizes, chunks_of, bit_of, Store, Holds, SomeTable, CellsHold, with_node, with_value, has_value, IsHeld, NoneHeld, LongestHeld, SeatAt, match_seat, cell_slot, with_slot, with_cell, HasValue, IsSeat, Sized, Sized-prop, Contents, with_value_at, with_match_at, with_longest_at, IsShapeOf, Shaped, same_shape, IsTable}
use Rattle.std.proofs.lemmas.List.{length-set}
use borrow.Follows.Closed.{read_of}
use Rattle.prefix_trie_table.proofs.Tree.Invariant.{some_table}
use Rattle.prefix_trie_table.proofs.Strings.Keys.{same_key}
use Rattle.prefix_trie_table.proofs.Insertion.Additions.{with_same}
use Rattle.prefix_trie_table.proofs.Lookup.EntryMatches.{cell_some, longest_at, longest_there, longest_none}
use Rattle.prefix_trie_table.proofs.Blocks.NodeLayouts.{layout_of}
use Rattle.prefix_trie_table.proofs.Tree.Shapes.{shape_of, shape_nodes, shape_entries}
use Rattle.prefix_trie_table.proofs.Tree.Values.{value_is_there, value_replaced}

module _ {T : Type 0} (v : Store Node) (w : Store (Option T)) (t : SomeTable v w) (q : List Bool) where
  -- the cell of a seat
  module _ (seat : Seat) (at : IsSeat t.reading (chunks_of q) (bit_of q) seat) where
    pub cell_there : (seat.slot < length w.slots) × (get_or w.slots seat.slot None ≡ t.values (chunks_of q) (bit_of q))
    cell_there =
        let there = value_is_there cell_sizes node_sizes t.reading t.paths v t.holds.hold t.values w t.holds.cells (chunks_of q) at.node (bit_of q) at.is at.set in
        (let x = there.2 in let e = at.slot_is in omega arith, ap (λ i. get_or w.slots i None) at.slot_is ∙ there.1)

    pub value_there : is_some (t.values (chunks_of q) (bit_of q)) ≡ true
    value_there = t.holds.cells.set_where (chunks_of q) (bit_of q) ∙ ap (λ o. has_value o (bit_of q)) at.is ∙ at.set

    pub seat_has : HasValue w seat
    seat_has = record { is_there = cell_there.0; stored = ap is_some cell_there.1 ∙ value_there }

    -- the arrays with another value there
    pub written : (x : T) → Holds t.reading (with_value t.values (chunks_of q) (bit_of q) (Some x)) t.paths v (with_cell w (Some seat) x)
    written x =
        let put = value_replaced cell_sizes node_sizes t.reading t.paths v t.holds.hold t.values w t.holds.cells (chunks_of q) at.node (bit_of q) (Some x) at.is at.set refl in
        record {
          hold = t.holds.hold;
          cells = subst (λ f. CellsHold cell_sizes f (with_value t.values (chunks_of q) (bit_of q) (Some x)) t.paths (with_cell w (Some seat) x)) (with_same t.reading (chunks_of q) at.node at.is)
              (subst (λ i. CellsHold cell_sizes (with_node t.reading (chunks_of q) at.node) (with_value t.values (chunks_of q) (bit_of q) (Some x)) t.paths (with_slot w i (Some x))) (sym at.slot_is) put);
        }

-- the state with x at q
abbrev pub state_with : {T : Type 0} → State T → List Bool → T → State T
state_with s q x = record s { entries = with_entry s.entries q x }

-- what contracts see of a table in these arrays
abbrev pub seen_of : {T : Type 0} (v : Store Node) → Store (Option T) → State T → Sized v.slots → Contents T
seen_of v w s z = record {
  entries = s.entries;
  nodes = s.nodes;
  space = record { limit = v.limit; node_slots = length v.slots; cell_slots = length w.slots };
  layout = layout_of v.slots v.tiers w.tiers z;
  build = v.slots;
}

-- a value lent out of a table
module _ {T : Type 0} (v : Store Node) (w : Store (Option T)) (count : ℕ) (s : Shaped v.slots w.slots) (is : IsTable v w count s.0) (q : List Bool) where
  abbrev table : SomeTable v w
  table = some_table is

  pub stored_is : get s.0.entries q ≡ table.values (chunks_of q) (bit_of q)
  stored_is = shape_entries table.reading table.values table.paths v w table.holds s.0 s.1 q

  -- the state that is left if the seat is that of q
  abbrev pub state_left : Option Seat → T → State T
  state_left None x = s.0
  state_left (Some seat) x = state_with s.0 q x

  pub left_is : (o : Option Seat) → IfSome o (λ seat. IsSeat table.reading (chunks_of q) (bit_of q) seat) → (x : T) → IsShapeOf v.slots (with_cell w o x).slots (state_left o x)
  left_is None at x = s.1
  left_is (Some seat) at x =
      shape_of table.reading (with_value table.values (chunks_of q) (bit_of q) (Some x)) table.paths v (with_cell w (Some seat) x) (written v w table q seat at x) (state_with s.0 q x)
      (shape_nodes table.reading table.values table.paths v w table.holds s.0 s.1)
      (λ k. get-insert listing_total s.0.entries q x k ∙ ap₂ (λ t o. cond t (Some x) o) (same_key k q) (shape_entries table.reading table.values table.paths v w table.holds s.0 s.1 k))

  -- so the arrays that are left have a shape
  pub left_shape : (o : Option Seat) → IfSome o (λ seat. IsSeat table.reading (chunks_of q) (bit_of q) seat) → (x : T) → Shaped v.slots (with_cell w o x).slots
  left_shape o at x = (state_left o x, left_is o at x)

  -- and no other
  pub left_only : (o : Option Seat) → IfSome o (λ seat. IsSeat table.reading (chunks_of q) (bit_of q) seat) → (x : T) → (t : Shaped v.slots (with_cell w o x).slots) → t.0 ≡ state_left o x
  left_only o at x t = same_shape v.slots (with_cell w o x).slots t.0 (state_left o x) t.1 (left_is o at x)

  left_table : (o : Option Seat) → IfSome o (λ seat. IsSeat table.reading (chunks_of q) (bit_of q) seat) → (x : T) → IsTable v (with_cell w o x) count (state_left o x)
  left_table None at x = is
  left_table (Some seat) at x = record {
    reading = table.reading;
    values = with_value table.values (chunks_of q) (bit_of q) (Some x);
    paths = table.paths;
    nodes = (written v w table q seat at x).hold;
    cells = (written v w table q seat at x).cells;
    counted = is.counted;
    sized = is.sized ∙ ap (λ b. cond b (len s.0.entries) (len s.0.entries + 1)) (sym (ap is_some stored_is ∙ value_there v w table q seat at))
        ∙ sym (len-insert listing_total s.0.entries q x);
    one_limit = is.one_limit;
    nodes_within = is.nodes_within;
    cells_within = (let l = length-set w.slots seat.slot (Some x) in let h = is.cells_within in omega (arith, l, h));
    cells_first = is.cells_first;
  }

  -- and are a table
  pub table_left : (o : Option Seat) → IfSome o (λ seat. IsSeat table.reading (chunks_of q) (bit_of q) seat) → (x : T) → (t : Shaped v.slots (with_cell w o x).slots) → IsTable v (with_cell w o x) count t.0
  table_left o at x t = subst (λ (y : State T). IsTable v (with_cell w o x) count y) (sym (left_only o at x t)) (left_table o at x)

  -- the seat's value can be lent
  pub can_lend : (o : Option Seat) → IfSome o (λ seat. IsSeat table.reading (chunks_of q) (bit_of q) seat) → IfSome o (λ seat. HasValue w seat)
  can_lend None at = tt
  can_lend (Some seat) at = seat_has v w table q seat at

  -- the table as it was, by any of its shapes
  pub table_kept : (u : Shaped v.slots w.slots) → IsTable v w count u.0
  table_kept u = subst (λ (y : State T). IsTable v w count y) (same_shape v.slots w.slots s.0 u.0 s.1 u.1) is

  pub written_seen : (z : Sized v.slots) (o : Option Seat) → IfSome o (λ seat. IsSeat table.reading (chunks_of q) (bit_of q) seat) → (seat : Seat) (x : T) → o ≡ Some seat → (t : Shaped v.slots (with_cell w o x).slots) (y : Sized v.slots) →
      seen_of v (with_cell w o x) t.0 y ≡ with_value_at (seen_of v w s.0 z) q x
  written_seen z None at seat x e t y = absurd (false≢true (ap is_some e))
  written_seen z (Some there) at seat x e t y =
      let left = left_only (Some there) at x t in
      λ i. record {
        entries = (left i).entries;
        nodes = (left i).nodes;
        space = record { limit = v.limit; node_slots = length v.slots; cell_slots = length-set w.slots there.slot (Some x) i };
        layout = layout_of v.slots v.tiers w.tiers (Sized-prop v.slots y z i);
        build = v.slots;
      }

  -- if a value is lent only at a seat, the table ends with another value at q, or unchanged
  pub lender_left : (z : Sized v.slots) (o : Option Seat) → IfSome o (λ seat. IsSeat table.reading (chunks_of q) (bit_of q) seat) → (r : Option (MutBor T)) (G : T → Contents T) →
      MatchOption o (r ≡ None) (λ seat. option_copied_mut r ≡ get_or w.slots seat.slot None) →
      ((seat : Seat) (x : T) → o ≡ Some seat → with_value_at (seen_of v w s.0 z) q x ≡ G x) →
      (t : (x : T) → Shaped v.slots (with_cell w o x).slots) (y : T → Sized v.slots) (u : Shaped v.slots w.slots) (k : Sized v.slots) →
      read_of (ghost_name_of r) (λ x. seen_of v (with_cell w o x) (t x).0 (y x)) (seen_of v w u.0 k) ≡ read_of (ghost_name_of r) G (seen_of v w s.0 z)
  lender_left z None at r G e same t y u k =
      let kept : seen_of v w u.0 k ≡ seen_of v w s.0 z = λ i. seen_of v w (same_shape v.slots w.slots u.0 s.0 u.1 s.1 i) (Sized-prop v.slots k z i) in
      subst (λ (a : Option (MutBor T)). read_of (ghost_name_of a) (λ x. seen_of v w (t x).0 (y x)) (seen_of v w u.0 k) ≡ read_of (ghost_name_of a) G (seen_of v w s.0 z)) (sym e)
      (λ i. inr (kept i))
  lender_left z (Some seat) at r G e same t y u k =
      let kept : seen_of v w u.0 k ≡ seen_of v w s.0 z = λ i. seen_of v w (same_shape v.slots w.slots u.0 s.0 u.1 s.1 i) (Sized-prop v.slots k z i) in
      λ i. read_of (ghost_name_of r) (λ x. (written_seen z (Some seat) at seat x refl (t x) (y x) ∙ same seat x refl) i) (kept i)

-- the value of the longest match lent
module _ {T : Type 0} (v : Store Node) (w : Store (Option T)) (t : SomeTable v w) (s : State T) (is : IsShapeOf v.slots w.slots s) (q : List Bool) (n : ℕ) where
  module _ (m : Match) (held : IsHeld t.reading q m.len m.bit m.node) where
    own_seat : IsSeat t.reading (chunks_of (take m.len q)) (bit_of (take m.len q)) (match_seat m)
    own_seat = record {
      node = m.node;
      is = held.is;
      set = ap (has_bit m.node.value_bitmap) held.bit_is ∙ held.set;
      slot_is = ap (λ i. m.node.value_block + rank m.node.value_bitmap i) (sym held.bit_is);
    }

    seat_there : (o : Option Seat) → o ≡ Some (match_seat m) → n ≡ m.len → IfSome o (λ seat. IsSeat t.reading (chunks_of (take n q)) (bit_of (take n q)) seat)
    seat_there o e f =
        subst (λ y. IfSome y (λ seat. IsSeat t.reading (chunks_of (take n q)) (bit_of (take n q)) seat)) (sym e)
        (subst (λ k. IsSeat t.reading (chunks_of (take k q)) (bit_of (take k q)) (match_seat m)) (sym f) own_seat)

    split_off_map : NoneHeld t.reading q (m.len + 1) (length q + 1) → n ≡ m.len → (r : Option (MutBor T)) →
        option_copied_mut r ≡ get_or w.slots (cell_slot m) None →
        MatchOption r (longest_match s.entries q ≡ None) (λ x. (n ≤ length q) × (longest_match s.entries q ≡ Some (take n q, x.now)))
    split_off_map none f None e = absurd (false≢true (ap is_some e ∙ cell_some v w t s is q m held))
    split_off_map none f (Some x) e = (
      omega (arith, f, held.within),
      longest_at v w t s is q m held none x.now (sym e) ∙ ap (λ k. Some (take k q, x.now)) (sym f),
    )

  -- the seat is that of a beginning
  pub longest_seat : (longest : Option Match) (o : Option Seat) → SeatAt longest o n → LongestHeld t.reading q 0 (length q + 1) longest →
      IfSome o (λ seat. IsSeat t.reading (chunks_of (take n q)) (bit_of (take n q)) seat)
  longest_seat None o at held = subst (λ y. IfSome y (λ seat. IsSeat t.reading (chunks_of (take n q)) (bit_of (take n q)) seat)) (sym at) tt
  longest_seat (Some m) o at held = seat_there m held.0 o at.0 at.1

  -- a value written there is written at the longest match
  pub longest_written : (z : Sized v.slots) (longest : Option Match) (o : Option Seat) → SeatAt longest o n → LongestHeld t.reading q 0 (length q + 1) longest →
      (seat : Seat) (x : T) → o ≡ Some seat → with_value_at (seen_of v w s z) (take n q) x ≡ with_longest_at (seen_of v w s z) q x
  longest_written z None o at held seat x e = absurd (false≢true (ap is_some (sym at ∙ e)))
  longest_written z (Some m) o at held seat x e =
      let there = longest_there v w t s is q m held.0 held.1 in
      ap (λ k. with_value_at (seen_of v w s z) (take k q) x) at.1 ∙ sym (ap (λ y. with_match_at (seen_of v w s z) y x) there.1)

  -- the value lent is that of the longest match
  pub longest_lent : (longest : Option Match) (o : Option Seat) → SeatAt longest o n → LongestHeld t.reading q 0 (length q + 1) longest →
      (r : Option (MutBor T)) → MatchOption o (r ≡ None) (λ seat. option_copied_mut r ≡ get_or w.slots seat.slot None) →
      MatchOption r (longest_match s.entries q ≡ None) (λ x. (n ≤ length q) × (longest_match s.entries q ≡ Some (take n q, x.now)))
  longest_lent None o at held r e =
      let none : r ≡ None = subst (λ y. MatchOption y (r ≡ None) (λ seat. option_copied_mut r ≡ get_or w.slots seat.slot None)) at e in
      subst (λ y. MatchOption y (longest_match s.entries q ≡ None) (λ x. (n ≤ length q) × (longest_match s.entries q ≡ Some (take n q, x.now)))) (sym none)
      (longest_none v w t s is q held)
  longest_lent (Some m) o at held r e = split_off_map m held.0 held.1 at.1 r (subst (λ y. MatchOption y (r ≡ None) (λ seat. option_copied_mut r ≡ get_or w.slots seat.slot None)) at.0 e)

-- the bit of a match is one of a node's
pub longest_small : (reading : List ℕ → Option Node) (q : List Bool) (end : ℕ) (longest : Option Match) → LongestHeld reading q 0 end longest → IfSome longest (λ m. m.bit < 31)
longest_small reading q end None held = tt
longest_small reading q end (Some m) held = held.0.small
