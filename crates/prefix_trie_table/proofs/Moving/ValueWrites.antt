-- Values written into the vacant cells of blocks that were built.
use Rattle.prefix_trie_table.proofs.Prelude.{◌≡◌, ℕ, Bool, true, cond, List, [], ◌∷◌, set, flat_map, Option, None, Some, refl, sym, ap, ◌∙◌, subst, false≢true, All-head, All-tail, Node, Seat, node_sizes, cell_sizes, chunks_of, bit_of, has_value, with_value, NodesHold, value_blocks, value_seat, seat_in, seat_of, filled_with, with_cell, Store, Sound}
use Rattle.std.specs.List.{All}
use Rattle.prefix_trie_table.proofs.Lookup.NodeSeats.{seat_reads}
use Rattle.prefix_trie_table.proofs.Tree.Values.{value_put}

module _ {T : Type 0} (v : Store Node) (reading : List ℕ → Option Node) (paths : List (List ℕ)) (hold : NodesHold node_sizes reading paths v) where
  -- the blocks of these values are in use
  abbrev pub InBlocks : (List ℕ → ℕ → Option T) → Store (Option T) → Type 0
  InBlocks values w = Sound None (flat_map (value_blocks cell_sizes reading values) paths) w

  module _ (values : List ℕ → ℕ → Option T) (w : Store (Option T)) (sound : InBlocks values w) where
    -- a value in the seat of its string
    put_string : (s : List Bool) (x : T) → has_value (reading (chunks_of s)) (bit_of s) ≡ true →
        InBlocks (with_value values (chunks_of s) (bit_of s) (Some x)) (with_cell w (seat_of v.slots s) x)
    put_string s x set = at (reading (chunks_of s)) refl set
      where
        at : (o : Option Node) → reading (chunks_of s) ≡ o → has_value o (bit_of s) ≡ true →
            InBlocks (with_value values (chunks_of s) (bit_of s) (Some x)) (with_cell w (seat_of v.slots s) x)
        at None e set = absurd (false≢true set)
        at (Some n) e set =
            let seat : seat_of v.slots s ≡ Some (value_seat n (bit_of s)) = seat_reads v reading paths hold s ∙ ap (λ o. seat_in o (bit_of s)) e ∙ ap (λ t. cond t (Some (value_seat n (bit_of s))) None) set in
            subst (λ o. InBlocks (with_value values (chunks_of s) (bit_of s) (Some x)) (with_cell w o x)) (sym seat)
            (value_put cell_sizes node_sizes reading paths v hold values w sound (chunks_of s) n (bit_of s) (Some x) reading e set e (λ q ne. refl))

  -- the values with those of these pairs
  abbrev pub with_values : List (List Bool × T) → (List ℕ → ℕ → Option T) → List ℕ → ℕ → Option T
  with_values [] values = values
  with_values (e ∷ es) values = with_values es (with_value values (chunks_of e.0) (bit_of e.0) (Some e.1))

  -- a node has the place of this pair
  abbrev pub HasPlace : List Bool × T → Type 0
  HasPlace e = has_value (reading (chunks_of e.0)) (bit_of e.0) ≡ true

  -- each of these in its seat
  pub put_all : (es : List (List Bool × T)) (values : List ℕ → ℕ → Option T) (w : Store (Option T)) → All HasPlace es → InBlocks values w →
      InBlocks (with_values es values) (filled_with v.slots es w)
  put_all [] values w h sound = sound
  put_all (e ∷ es) values w h sound =
      put_all es (with_value values (chunks_of e.0) (bit_of e.0) (Some e.1)) (with_cell w (seat_of v.slots e.0) e.1) (All-tail HasPlace e es h)
      (put_string values w sound e.0 e.1 (All-head HasPlace e es h))

module _ {T : Type 0} where
  cell_same : (w : Store (Option T)) (o : Option Seat) (x : T) (slots : List (Option T)) →
      ◌≡◌ {A = Store (Option T)} (record (with_cell w o x) { slots = slots }) (record w { slots = slots })
  cell_same w None x slots = refl
  cell_same w (Some seat) x slots = refl

  -- nothing but the slots of the array is another
  pub filled_same : (nodes : List Node) (es : List (List Bool × T)) (w : Store (Option T)) →
      filled_with nodes es w ≡ record w { slots = (filled_with nodes es w).slots }
  filled_same nodes [] w = refl
  filled_same nodes (e ∷ es) w =
      filled_same nodes es (with_cell w (seat_of nodes e.0) e.1)
      ∙ cell_same w (seat_of nodes e.0) e.1 (filled_with nodes es (with_cell w (seat_of nodes e.0) e.1)).slots
