-- A search path that an insertion extends down to a bit string's own node, and the value there.
use Rattle.prefix_trie_table.proofs.Prelude.{◌≡◌, ℕ, ◌+◌, ◌*◌, ◌<◌, ◌≤◌, Bool, false, List, length, get_or, take, drop, Option, Some, sym, ap, ◌∙◌, subst, arith, number, value_bit, Node, Seat, Reached, has_bit, blank_node, node_at, node_sizes, cell_sizes, chunks_of, bit_of, Store, MakesNone, SomeTable, IsNodeAt, IsSlot, NodesHold, CellsHold, ForHeld, Walked, ChildAdded, EntryAdded, ValueSet, seat_in, seat_of, IsLast, slot_at}
use Rattle.std.proofs.lemmas.List.{drop-drop, take_all}
use Rattle.prefix_trie_table.proofs.Blocks.Turnovers.{none_same}
use Rattle.prefix_trie_table.proofs.Insertion.Spaces.{none_then}
use Rattle.prefix_trie_table.proofs.Lookup.NodeSeats.{entered_seat}
use Rattle.prefix_trie_table.proofs.Lookup.SearchPaths.{left_length, rest_inside, rest_step, rest_ends, rest_bit}
use Rattle.prefix_trie_table.proofs.Tree.GrowthLoop.{walked_start, walked_more, entry_added}
use Rattle.prefix_trie_table.proofs.Tree.Invariant.{deepest_there}

-- the nodes on the search path of a bit string were added down to a level, where these bits are left
pub record IsExtended {T : Type 0} (q : List Bool) (before : Store Node) (w : Store (Option T)) (r : List Bool) (level slot : ℕ) (v : Store Node) : Type 0 where
  pub whole : 5 * level ≤ length q
  pub rest_is : r ≡ drop (5 * level) q
  pub walked : ForHeld before w (λ reading paths values. Walked reading values paths (chunks_of q) level slot v w)
  pub none : MakesNone before v

-- at the end of the path that was there
pub extended_start : {T : Type 0} (q : List Bool) (here : Reached) (v : Store Node) (w : Store (Option T)) (r : List Bool) → IsLast q here v → r ≡ drop (5 * here.level) q →
    IsExtended q v w r here.level (slot_at here) v
extended_start q here v w r at left = record {
  whole = at.along.whole;
  rest_is = left;
  walked = λ reading paths values holds.
      walked_start reading values paths (chunks_of q) here.level (slot_at here) v w holds (at.along.deepest reading paths holds.hold);
  none = none_same v;
}

-- no next node is there
pub next_missing : (q : List Bool) (here : Reached) (v : Store Node) (r : List Bool) → IsLast q here v → r ≡ drop (5 * here.level) q → 5 ≤ length r →
    (x : ℕ) → x ≡ number (take 5 r) → has_bit here.node.child_bitmap x ≡ false
next_missing q here v r at left more x read =
    ap (has_bit here.node.child_bitmap) (sym (rest_step q r here.level left more x read)) ∙ at.missing (omega (arith, left_length q r here.level left, more))

module _ {T : Type 0} (q : List Bool) (before v : Store Node) (w : Store (Option T)) (t : SomeTable before w) (r : List Bool) (level slot : ℕ)
    (at : IsExtended q before w r level slot v) where
  abbrev now : Walked t.reading t.values t.paths (chunks_of q) level slot v w
  now = at.walked t.reading t.paths t.values t.holds

  -- the last node is in its table
  abbrev pub extended_there : (t : SomeTable v w) × IsNodeAt t.reading slot
  extended_there = (record { reading = now.later; values = t.values; paths = now.paths; holds = now.holds }, deepest_there now.deep)

  -- one node more is added, and it is blank
  module _ (v2 : Store Node) (x to : ℕ) (more : 5 ≤ length r) (read : x ≡ number (take 5 r)) (k : Node) (is : k ≡ node_at v.slots slot)
      (missing : has_bit k.child_bitmap x ≡ false) (none : MakesNone v v2)
      (added : (reading : List ℕ → Option Node) (paths : List (List ℕ)) (p : List ℕ) (n : Node) → NodesHold node_sizes reading paths v → IsSlot reading p slot →
      reading p ≡ Some n → ChildAdded reading paths p n x v2 to) where
    step : x ≡ get_or (chunks_of q) level 0
    step = sym (rest_step q r level at.rest_is more x read)

    some_missing : has_bit (node_at v.slots slot).child_bitmap x ≡ false
    some_missing = ap (λ (n : Node). has_bit n.child_bitmap x) (sym is) ∙ missing

    pub extended_more : IsExtended q before w (drop 5 r) (level + 1) to v2 × (node_at v2.slots to ≡ blank_node)
    extended_more = (
      record {
        whole = omega (arith, left_length q r level at.rest_is, more);
        rest_is = ap (drop 5) at.rest_is ∙ drop-drop 5 (5 * level) q ∙ ap (λ n. drop n q) deeper;
        walked = λ reading paths values holds. (walks reading paths values (at.walked reading paths values holds)).0;
        none = none_then before v v2 at.none none;
      },
      (walks t.reading t.paths t.values now).1,
    )
      where
        deeper : 5 * level + 5 ≡ 5 * (level + 1)
        deeper = omega arith

        walks : (reading : List ℕ → Option Node) (paths : List (List ℕ)) (values : List ℕ → ℕ → Option T) → Walked reading values paths (chunks_of q) level slot v w →
            Walked reading values paths (chunks_of q) (level + 1) to v2 w × (node_at v2.slots to ≡ blank_node)
        walks reading paths values walked = walked_more reading values paths (chunks_of q) level slot x to v v2 w walked (rest_inside q r level at.rest_is more) step some_missing added

  -- the value at the end
  module _ (v2 : Store Node) (u : Store (Option T)) (short : length r < 5) (bit : ℕ) (read : bit ≡ value_bit r) (x : Option T)
      (put : (nodes : List ℕ → Option Node) (ps : List (List ℕ)) (vs : List ℕ → ℕ → Option T) (p : List ℕ) (m : Node) → NodesHold node_sizes nodes ps v →
      CellsHold cell_sizes nodes vs ps w → IsSlot nodes p slot → nodes p ≡ Some m → ValueSet nodes ps vs p bit x v2 u) where
    last : length (chunks_of q) ≡ level
    last = rest_ends q r level at.rest_is at.whole short

    own : bit_of q ≡ bit
    own = rest_bit q r level at.rest_is at.whole short bit read

    -- it is an entry more
    pub end_added : ForHeld before w (λ reading paths values. EntryAdded reading values paths (chunks_of q) (bit_of q) x v2 u)
    end_added = λ reading paths values holds.
        subst (λ i. EntryAdded reading values paths (chunks_of q) i x v2 u) (sym own)
        (entry_added reading values paths (chunks_of q) level slot bit x v v2 w u (at.walked reading paths values holds) (sym last)
        (λ nodes ps p m h cells is_there is. put nodes ps values p m h cells is_there is))

    -- it is at the seat of its string
    pub end_seat : (seat : Seat) → seat_in (Some (node_at v2.slots slot)) bit ≡ Some seat → seat_of v2.slots q ≡ Some seat
    end_seat seat found =
        let path : List ℕ = chunks_of q in
        let whole : take level path ≡ path = take_all level path (omega (arith, last)) in
        let is_there : IsSlot now.later (chunks_of q) slot = subst (λ p. IsSlot now.later p slot) whole now.deep.is_there in
        entered_seat now.later t.values now.paths q slot bit x seat v2 u is_there own
        (put now.later now.paths t.values path now.deep.node now.holds.hold now.holds.cells is_there (ap now.later (sym whole) ∙ now.deep.is)) found
