-- The end of a search path, by the nodes in their slots and as `descend` finds it.
use Rattle.prefix_trie_table.proofs.Prelude.{◌≡◌, ℕ, ◌+◌, ◌*◌, ◌/◌, ◌<◌, ◌≤◌, List, Bool, true, false, length, get_or, take, drop, Option, None, Some, is_some, sym, ap, ◌∙◌, subst, arith, has, has_bit, value_bit, Node, Seat, node_sizes, chunks_of, bit_of, IsSlot, NodesHold, Deepest, has_child, node_or_blank, seat_in, seat_of, value_seat, EndsAt, IsEndNode, Locates, Missing, SearchEnd, Store, Reached, take_more, IsLast, slot_at}
use Rattle.prefix_trie_table.proofs.Strings.Bits.{has_bit-is}
use Rattle.prefix_trie_table.proofs.Strings.Digits.{path-length}
use Rattle.prefix_trie_table.proofs.Lookup.Descents.{deepest_is}
use Rattle.prefix_trie_table.proofs.Lookup.NodeSeats.{no_seat, seat_reads, seat_there}
use Rattle.prefix_trie_table.proofs.Lookup.SearchPaths.{path_end, path_own, own_bit, own_value}
use Rattle.prefix_trie_table.proofs.Tree.Trees.{reads, is_some-Some}
use Rattle.prefix_trie_table.proofs.Tree.SearchEnds.{slot_only, slot_is_there}

module _ (v : Store Node) (reading : List ℕ → Option Node) (paths : List (List ℕ)) (hold : NodesHold node_sizes reading paths v) (q : List Bool) (here : Reached) where
  -- the last node reached is the end of the search path
  pub last_ends : IsLast q here v → IsEndNode v.slots q here
  last_ends at =
      let e = path_end q here v at reading paths hold in
      record {
        within = e.within;
        is_there = ap is_some (reads node_sizes reading paths v hold (take here.level (chunks_of q))) ∙ e.is_there;
        stops = λ inside. ap is_some (reads node_sizes reading paths v hold (take (here.level + 1) (chunks_of q))) ∙ e.stops inside;
        slot_is = slot_only v reading paths hold (take here.level (chunks_of q)) (slot_at here) (at.along.deepest reading paths hold).is_there;
        node_is = at.along.node_is;
      }

  -- and the end is the last node reached
  pub ends_last : IsEndNode v.slots q here → IsLast q here v
  ends_last e = record {
    along = record { whole = below here.level (length q) (length (chunks_of q)) (path-length q) e.within; node_is = e.node_is; deepest = deepest };
    missing = λ more.
        let d = get_or (chunks_of q) here.level 0 in
        let inside : here.level < length (chunks_of q) = omega (arith, path-length q, more) in
        ap (λ o. has_child o d) (sym (deepest_is reading paths v (chunks_of q) here.level (slot_at here) hold (deepest reading paths hold) here.node e.node_is))
        ∙ sym (hold.linked (take here.level (chunks_of q)) d) ∙ ap (λ p. is_some (reading p)) (sym (take_more (chunks_of q) here.level 0 inside))
        ∙ ap is_some (sym (reads node_sizes reading paths v hold (take (here.level + 1) (chunks_of q)))) ∙ e.stops inside;
  }
    where
      below : (level l n : ℕ) → n ≡ l / 5 → level ≤ n → 5 * level ≤ l
      below level l n e h = omega (arith, e, h)

      deepest : (other : List ℕ → Option Node) (ps : List (List ℕ)) → NodesHold node_sizes other ps v → Deepest other (chunks_of q) here.level (slot_at here) v
      deepest other ps h =
          let some = ap is_some (sym (reads node_sizes other ps v h (take here.level (chunks_of q)))) ∙ e.is_there in
          record {
            node = node_or_blank (other (take here.level (chunks_of q)));
            is_there = subst (λ s. IsSlot other (take here.level (chunks_of q)) s) (sym e.slot_is) (slot_is_there v other ps h (take here.level (chunks_of q)) some);
            is = is_some-Some (other (take here.level (chunks_of q))) some;
          }

  -- if no whole step is left, the seat of the string is that of its value bit
  module _ (at : IsLast q here v) (r : List Bool) (left : r ≡ drop (5 * here.level) q) (short : length r < 5) (x : ℕ) (small : x < 31) (read : x ≡ value_bit r) where
    pub seat_none : has here.node.value_bitmap x ≡ false → seat_of v.slots q ≡ None
    seat_none clear = no_seat v reading paths hold q (own_value q here v at reading paths hold r left short x small read ∙ clear)

    pub seat_here : has here.node.value_bitmap x ≡ true → (seat : Seat) → seat ≡ value_seat here.node x → seat_of v.slots q ≡ Some seat
    seat_here set seat is =
        let own = own_bit q here v at.along r left short x read in
        seat_reads v reading paths hold q
        ∙ ap (λ o. seat_in o (bit_of q)) (path_own q here v at reading paths hold r left short)
        ∙ seat_there here.node (bit_of q) (ap (has_bit here.node.value_bitmap) own ∙ has_bit-is here.node.value_bitmap x (omega (arith, small)) ∙ set)
        ∙ ap (λ i. Some (value_seat here.node i)) own ∙ ap Some (sym is)

-- the end of a search, by the node and the bits that a descent returned
pub is_end : {K : Type 0} (v : Store Node) (q : List Bool) (here : Reached) (rest : List Bool) (end : SearchEnd K) → seat_of v.slots q ≡ None → IsLast q here v →
    rest ≡ drop (5 * here.level) q → (end.reached ≡ here) × (end.rest ≡ rest) → Locates v q (Missing end)
is_end v q here rest end none at left same = subst (λ r. EndsAt v q r × (end.rest ≡ drop (5 * r.level) q)) (sym same.0) ((none, at), same.1 ∙ left)
