-- The next value comes to a second table.
use Rattle.prefix_trie_table.proofs.Prelude.{◌≡◌, ℕ, ◌<◌, List, [], ◌∷◌, length, take, set, Bool, Option, None, Some, refl, sym, ap, ◌∙◌, subst, arith, len, State, Node, Spot, Seat, seat_of, filled_with, Awaits, HasCome, with_cell, Store, IsTrie, Tree, IsStack, pending, GivesSeat}
use Rattle.std.proofs.lemmas.List.{length-set}
use Rattle.prefix_trie_table.specs.Walking.Walks.{slot_of}

module _ {T : Type 0} where
  long_cell : (w : Store (Option T)) (o : Option Seat) (x : T) → length (with_cell w o x).slots ≡ length w.slots
  long_cell w None x = refl
  long_cell w (Some seat) x = length-set w.slots seat.slot (Some x)

  -- there are as many cells
  pub long_cells : (nodes : List Node) (es : List (List Bool × T)) (w : Store (Option T)) → length (filled_with nodes es w).slots ≡ length w.slots
  long_cells nodes [] w = refl
  long_cells nodes (e ∷ es) w = long_cells nodes es (with_cell w (seat_of nodes e.0) e.1) ∙ long_cell w (seat_of nodes e.0) e.1

  same_first : (e f : List Bool × T) (es fs : List (List Bool × T)) → e ∷ es ≡ f ∷ fs → (e.0 ≡ f.0) × (es ≡ fs)
  same_first e f es fs h = (cc, cc)

  module _ {K : Type 0} (IsKey : K → Type 0) (bits : K → List Bool) (width : ℕ) (v : Store Node) (w : Store (Option T)) (search_path : K) (ps : List Spot) (q : List Bool) (x : T) where
    module _ (shape : State T) (later : List (List Bool × T)) (at : Awaits IsKey bits width shape v w search_path ps ((q, x) ∷ later)) where
      -- the table with all its values
      abbrev pub whole_tree : Tree T
      whole_tree = record { count = len shape.entries; cells = filled_with v.slots ((q, x) ∷ later) w; shape = shape }

      -- a value is to come
      pub some_comes : pending shape.entries (bits search_path) ps ≡ [] → ⊥
      some_comes none = let e : [] ≡ (q, x) ∷ later = sym none ∙ at.come in cc

      -- its seat is in the array
      pub seat_inside : (next : K) (qs : List Spot) (key : K) (size : ℕ) (seat : Seat) →
          GivesSeat IsKey bits width whole_tree key size seat (pending shape.entries (bits search_path) ps) (pending shape.entries (bits next) qs) → slot_of seat < length w.slots
      seat_inside next qs key size seat h = let inside = h.is_there in omega (arith, inside, long_cells v.slots ((q, x) ∷ later) w)

    module _ (next : K) (qs : List Spot) (key : K) (size : ℕ) (seat : Seat)
        (gives : (t : Tree T) → IsTrie width t.count v t.cells t.shape →
        GivesSeat IsKey bits width t key size seat (pending t.shape.entries (bits search_path) ps) (pending t.shape.entries (bits next) qs))
        (found : seat_of v.slots (take size (bits key)) ≡ Some seat) (stack : IsStack width v.slots (bits next) qs)
        (w2 : Store (Option T)) (put : w2 ≡ record w { slots = set w.slots (slot_of seat) (Some x) }) where
      goes_on : (shape : State T) (later : List (List Bool × T)) → Awaits IsKey bits width shape v w search_path ps ((q, x) ∷ later) → Awaits IsKey bits width shape v w2 next qs later
      goes_on shape later at =
          let h = gives (whole_tree shape later at) at.trie in
          let same = same_first (q, x) (take size (bits key), h.value) later (pending shape.entries (bits next) qs) (sym at.come ∙ h.gives.first) in
          let here : seat_of v.slots q ≡ Some seat = ap (seat_of v.slots) same.0 ∙ found in
          let filled : filled_with v.slots ((q, x) ∷ later) w ≡ filled_with v.slots later w2 = ap (λ o. filled_with v.slots later (with_cell w o x)) here ∙ sym (ap (filled_with v.slots later) put) in
          record {
            trie = subst (λ (y : Store (Option T)). IsTrie width (len shape.entries) v y shape) filled at.trie;
            stack = stack;
            come = sym same.1;
          }

      -- and there it is then
      pub has_come : HasCome IsKey bits width v v w w2 search_path ps next qs q x
      has_come = record {
        nodes = refl;
        cells = put ∙ sym (ap (λ (y : Store (Option T)). record w { slots = y.slots }) put);
        goes_on = goes_on;
      }
