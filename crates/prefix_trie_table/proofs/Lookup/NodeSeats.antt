-- Where the value of a bit string is stored, by the nodes in their array.
use Rattle.prefix_trie_table.proofs.Prelude.{◌≡◌, ℕ, ◌+◌, ◌*◌, ◌<◌, ◌≤◌, Bool, true, false, cond, ◌||◌, nat_eq, List, ◌++◌, length, length-drop, set, drop, Option, None, Some, is_some, refl, sym, ap, ap₂, ◌∙◌, arith, false≢true, has, value_bit, Sets, value_bit-small, Node, Reached, Seat, has_bit, rank, blank_node, node_at, node_sizes, cell_sizes, chunks_of, bit_of, read, SomeTable, IsNodeAt, IsSlot, at_root, at_child, NodesHold, CellsHold, ValueSet, with_node, has_value, EndsAt, value_seat, seat_in, seat_of, IsSeat, Store, slot_at}
use Rattle.std.proofs.lemmas.List.{get_or-set_same}
use Rattle.prefix_trie_table.proofs.Strings.Bits.{has_bit-is, has_bit-sets}
use Rattle.prefix_trie_table.proofs.Strings.BitLists.{rank-same}
use Rattle.prefix_trie_table.proofs.Tree.Children.{same_number, other_number, with_here, with_other}
use Rattle.prefix_trie_table.proofs.Strings.Digits.{bit_of-small}
use Rattle.prefix_trie_table.proofs.Insertion.InsertionEffects.{few_values, last_still}
use Rattle.prefix_trie_table.proofs.Lookup.SearchPaths.{path_own}
use Rattle.prefix_trie_table.proofs.Strings.Paths.{snoc_not_same}
use Rattle.prefix_trie_table.proofs.Strings.ChunkPlaces.{below_node}
use Rattle.prefix_trie_table.proofs.Tree.Invariant.{deepest_there}
use Rattle.prefix_trie_table.proofs.Tree.Trees.{reads, slot_holds, is_none-None}

-- a node has a seat if it has a value
seat_some : (o : Option Node) (b : ℕ) → is_some (seat_in o b) ≡ has_value o b
seat_some None b = refl
seat_some (Some n) b = either (has_bit n.value_bitmap b)
  where
    either : (t : Bool) → is_some (cond t (Some (value_seat n b)) None) ≡ t
    either true = refl
    either false = refl

-- the seat of a value that is there
pub seat_there : (n : Node) (b : ℕ) → has_bit n.value_bitmap b ≡ true → seat_in (Some n) b ≡ Some (value_seat n b)
seat_there n b e = ap (λ t. cond t (Some (value_seat n b)) None) e

pub seat_slot : (n : Node) (b : ℕ) (t : Bool) (seat : Seat) → cond t (Some (value_seat n b)) None ≡ Some seat →
    (t ≡ true) × (seat.slot ≡ n.value_block + rank n.value_bitmap b)
seat_slot n b true seat e = (refl, sym (ap slot_of e))
  where
    slot_of : Option Seat → ℕ
    slot_of None = 0
    slot_of (Some s) = s.slot
seat_slot n b false seat e = absurd (false≢true (ap is_some e))

-- the seat of a string of less than five bits below a node's
pub seat_below : (nodes : List Node) (level : ℕ) (u s : List Bool) (n : Node) → length u ≡ 5 * level → length s ≤ 4 → read nodes (chunks_of u) ≡ Some n →
    has n.value_bitmap (value_bit s) ≡ true → seat_of nodes (u ++ s) ≡ Some (value_seat n (value_bit s))
unfolding seat_of
seat_below nodes level u s n long short is_there set =
    let at = below_node level u s long short in
    let small = value_bit-small s short in
    ap₂ (λ p r. seat_in (read nodes p) (value_bit r)) at.0 at.1 ∙ ap (λ o. seat_in o (value_bit s)) is_there
    ∙ seat_there n (value_bit s) (has_bit-is n.value_bitmap (value_bit s) (omega (arith, small)) ∙ set)

module _ (v : Store Node) (reading : List ℕ → Option Node) (paths : List (List ℕ)) (hold : NodesHold node_sizes reading paths v) (q : List Bool) where
  -- the seat of a string is that at its own node
  pub seat_reads : seat_of v.slots q ≡ seat_in (reading (chunks_of q)) (bit_of q)
  unfolding seat_of
  seat_reads = ap (λ o. seat_in o (bit_of q)) (reads node_sizes reading paths v hold (chunks_of q))

  -- there is a seat if there is a value
  pub seat_if : is_some (seat_of v.slots q) ≡ has_value (reading (chunks_of q)) (bit_of q)
  seat_if = ap is_some seat_reads ∙ seat_some (reading (chunks_of q)) (bit_of q)

  -- no value if there is no seat
  pub no_value_seat : seat_of v.slots q ≡ None → has_value (reading (chunks_of q)) (bit_of q) ≡ false
  no_value_seat e = sym seat_if ∙ ap is_some e

  -- and no seat if there is no value
  pub no_seat : has_value (reading (chunks_of q)) (bit_of q) ≡ false → seat_of v.slots q ≡ None
  no_seat e = seat_reads ∙ is_none-None (seat_in (reading (chunks_of q)) (bit_of q)) (seat_some (reading (chunks_of q)) (bit_of q) ∙ e)

  -- so there is no value
  pub missing_value : {T : Type 0} (values : List ℕ → ℕ → Option T) (w : Store (Option T)) → CellsHold cell_sizes reading values paths w →
      seat_of v.slots q ≡ None → values (chunks_of q) (bit_of q) ≡ None
  missing_value values w cells e = is_none-None (values (chunks_of q) (bit_of q)) (cells.set_where (chunks_of q) (bit_of q) ∙ no_value_seat e)

  -- and the value is there
  pub is_seat : (seat : Seat) → seat_of v.slots q ≡ Some seat → IsSeat reading (chunks_of q) (bit_of q) seat
  is_seat seat e = at (reading (chunks_of q)) refl (sym seat_reads ∙ e)
    where
      at : (o : Option Node) → reading (chunks_of q) ≡ o → seat_in o (bit_of q) ≡ Some seat → IsSeat reading (chunks_of q) (bit_of q) seat
      at None is e = absurd (false≢true (ap is_some e))
      at (Some n) is e =
          let there = seat_slot n (bit_of q) (has_bit n.value_bitmap (bit_of q)) seat e in
          record { node = n; is = is; set = there.0; slot_is = there.1 }

module _ (q : List Bool) (here : Reached) (v : Store Node) (ends : EndsAt v q here) (reading : List ℕ → Option Node) (paths : List (List ℕ)) (hold : NodesHold node_sizes reading paths v)
    (short : length q < 5 * here.level + 5) where
  own : reading (chunks_of q) ≡ Some here.node
  own = path_own q here v ends.1 reading paths hold (drop (5 * here.level) q) refl (omega (arith, length-drop (5 * here.level) q, short))

  -- the value bit of a missing value is clear
  pub missing_bit : has_bit here.node.value_bitmap (bit_of q) ≡ false
  missing_bit = ap (λ o. has_value o (bit_of q)) (sym own) ∙ no_value_seat v reading paths hold q ends.0

  -- so the node takes one more
  pub missing_few : {T : Type 0} (values : List ℕ → ℕ → Option T) (w : Store (Option T)) → CellsHold cell_sizes reading values paths w → rank here.node.value_bitmap 32 < 31
  missing_few values w cells = few_values reading values paths w (chunks_of q) here.node (bit_of q) cells own (bit_of-small q) missing_bit

-- the seat of a value that was added to a node
module _ (v v2 : Store Node) (slot offset b bitmap : ℕ) (k m : Node) (sets : Sets k.value_bitmap b bitmap) (bits_are : m.value_bitmap ≡ bitmap) (small : b < 32) where
  more : (i : ℕ) → has_bit m.value_bitmap i ≡ (nat_eq i b || has_bit k.value_bitmap i)
  more i = ap (λ n. has_bit n i) bits_are ∙ has_bit-sets k.value_bitmap b bitmap i sets small

  added_rank : rank m.value_bitmap b ≡ rank k.value_bitmap b
  added_rank = rank-same k.value_bitmap m.value_bitmap b (λ i h. more i ∙ ap (λ t. t || has_bit k.value_bitmap i) (other_number i b (λ e. omega arith)))

  pub added_seat : offset ≡ rank k.value_bitmap b → slot < length v.slots → v2 ≡ record v { slots = set v.slots slot m } →
      seat_in (Some (node_at v2.slots slot)) b ≡ Some (record { slot = m.value_block + offset })
  added_seat place_is inside v2_is =
      let here : node_at v2.slots slot ≡ m = ap (λ (x : Store Node). node_at x.slots slot) v2_is ∙ get_or-set_same v.slots slot m blank_node inside in
      ap (λ n. seat_in (Some n) b) here ∙ seat_there m b (more b ∙ ap (λ t. t || has_bit k.value_bitmap b) (same_number b))
      ∙ ap (λ i. Some (record { slot = m.value_block + i })) (added_rank ∙ sym place_is)

-- the node is in its slot
own_slot : (reading : List ℕ → Option Node) (p : List ℕ) (m : Node) (q : List ℕ) (s : ℕ) → IsSlot reading q s → q ≡ p → IsSlot (with_node reading p m) q s
own_slot reading p m q s (at_root) e = at_root
own_slot reading p m q s (at_child r d k parent bit) e = at_child r d k (with_other reading p m r (λ f. snoc_not_same r d (e ∙ sym f)) ∙ parent) bit

-- so its value is the string's
pub entered_seat : {T : Type 0} (reading : List ℕ → Option Node) (values : List ℕ → ℕ → Option T) (paths : List (List ℕ)) (q : List Bool) (slot b : ℕ) (x : Option T) (seat : Seat)
    (v2 : Store Node) (w2 : Store (Option T)) → IsSlot reading (chunks_of q) slot → bit_of q ≡ b → (one : ValueSet reading paths values (chunks_of q) b x v2 w2) →
    seat_in (Some (node_at v2.slots slot)) b ≡ Some seat → seat_of v2.slots q ≡ Some seat
entered_seat reading values paths q slot b x seat v2 w2 is_there bit one found =
    let later : List ℕ → Option Node = with_node reading (chunks_of q) one.node in
    let is : later (chunks_of q) ≡ Some one.node = with_here reading (chunks_of q) one.node (chunks_of q) refl in
    let at = slot_holds node_sizes later paths v2 one.hold (chunks_of q) slot one.node (own_slot reading (chunks_of q) one.node (chunks_of q) slot is_there refl) is in
    seat_reads v2 later paths one.hold q ∙ ap₂ (λ o i. seat_in o i) (is ∙ ap Some (sym at.0)) bit ∙ found

-- a search ends where it ended if the nodes are the same
pub ends_still : (q : List Bool) (here : Reached) (v x : Store Node) (reading : List ℕ → Option Node) (paths : List (List ℕ)) →
    EndsAt v q here → NodesHold node_sizes reading paths v → NodesHold node_sizes reading paths x → EndsAt x q here
ends_still q here v x reading paths ends hold later = (
  seat_reads x reading paths later q ∙ sym (seat_reads v reading paths hold q) ∙ ends.0,
  last_still q here v ends.1 x reading paths hold later,
)

-- it is in its table
abbrev pub end_there : (q : List Bool) (here : Reached) {T : Type 0} {v : Store Node} {w : Store (Option T)} (t : SomeTable v w) → EndsAt v q here →
    (t : SomeTable v w) × IsNodeAt t.reading (slot_at here)
end_there q here t ends = (t, deepest_there (ends.1.along.deepest t.reading t.paths t.holds.hold))
