-- A walk that moves values out of their cells: for `IntoWalk`.
use Rattle.prefix_trie_table.proofs.Prelude.{◌≡◌, ◌≢◌, ℕ, ◌+◌, Bool, true, false, cond, ◌&&◌, List, [], ◌∷◌, ◌++◌, length, take, get_or, set, map, Option, None, Some, is_some, is_lt, refl, sym, ap, ◌∙◌, subst, arith, AllZip, get, len, entries, entries_sorted, get-entries, is_sorted, below_all, is_sorted-where_key, false≢true, get_or-set_other, get_or_default, All-head, All-tail, All-filter, All-weaker, All-contains_itself, length_all_zip, same_from_all_zip, begins, listing_cmp, pair_of, listing_below, State, and-first, and-second, t-true, true-t, lt-less, not_itself, sorted-head, sorted-tail, find-from_Contains, Node, Seat, Spot, has_bit, rank, chunks_of, bit_of, Store, read, value_in, value_of, GivesFilled, value_seat, seat_in, seat_of, IsShapeOf, same_shape, IsTrie, Seated, cell_of, pairs_in, AreHeld, IsApart, AreApart, IsTaking, Seated-prop, Tree, IsStack, pending, GivesSeat, IsCloned, IsPairCloned}
use lib.Dec.{T as IsT}
use Rattle.std.specs.List.{All, Contains}
use Rattle.std.proofs.lemmas.List.{length-set}
use Rattle.prefix_trie_table.specs.Walking.Walks.{slot_of}
use Rattle.prefix_trie_table.proofs.Tree.Invariant.{some_table}
use Rattle.prefix_trie_table.proofs.Walk.KeySets.{bare, strings_of, has-strings_of, pending_bare}
use Rattle.prefix_trie_table.proofs.Lookup.Locations.{stored_if}
use Rattle.prefix_trie_table.proofs.Lookup.NodeSeats.{is_seat}
use Rattle.prefix_trie_table.proofs.Walk.Seats.{seats_differ}
use Rattle.prefix_trie_table.proofs.Blocks.Capacity.{IsTrie-capacities}
use Rattle.prefix_trie_table.proofs.Tree.TableCopies.{clones_at, cloned_there, cells_cloned}

-- ---- cells and seats

module _ {T : Type 0} where
  -- the content of a seat
  abbrev in_seat : List (Option T) → Option Seat → Option T
  in_seat cells None = None
  in_seat cells (Some seat) = get_or cells (slot_of seat) None

  cell_in : (cells : List (Option T)) (o : Option Node) (b : ℕ) → value_of cells o b ≡ in_seat cells (seat_in o b)
  unfolding value_in
  cell_in cells None b = refl
  cell_in cells (Some n) b = either (has_bit n.value_bitmap b)
    where
      either : (t : Bool) → cond t (get_or cells (n.value_block + rank n.value_bitmap b) None) None ≡ in_seat cells (cond t (Some (value_seat n b)) None)
      either true = refl
      either false = refl

  -- the cell of a string is that at its seat
  cell_at : (nodes : List Node) (cells : List (Option T)) (q : List Bool) → cell_of nodes cells q ≡ in_seat cells (seat_of nodes q)
  unfolding seat_of
  cell_at nodes cells q = cell_in cells (read nodes (chunks_of q)) (bit_of q)

-- ---- sorted strings are apart

module _ {T : Type 0} where
  apart_below : (q : List Bool) (es : List (List Bool × T)) → IsT (below_all listing_cmp q es) → IsApart q (map bare es)
  apart_below q [] h = tt
  apart_below q (e ∷ es) h =
      let all = t-true (is_lt (listing_cmp q e.0) && below_all listing_cmp q es) h in (
        not_itself q e.0 (lt-less (listing_cmp q e.0) (and-first (is_lt (listing_cmp q e.0)) (below_all listing_cmp q es) all)),
        apart_below q es (true-t (below_all listing_cmp q es) (and-second (is_lt (listing_cmp q e.0)) (below_all listing_cmp q es) all)),
      )

  apart_sorted : (es : List (List Bool × T)) → IsT (is_sorted listing_cmp es) → AreApart (map bare es)
  apart_sorted [] h = tt
  apart_sorted (e ∷ es) h = (apart_below e.0 es (sorted-head e es h), apart_sorted es (sorted-tail e es h))

-- ---- a table, and arrays in which some of its cells are vacant

module _ {T : Type 0} (width : ℕ) (v : Store Node) where
  module _ (t : Tree T) (trie : IsTrie width t.count v t.cells t.shape) where
    -- the strings to come are those of the entries of the table
    strings_come : (keys : Seated v.slots) (key : List Bool) (ps : List Spot) → pending keys.0 key ps ≡ map bare (pending t.shape.entries key ps)
    strings_come keys key ps =
        pending_bare t.shape.entries keys.0 (λ q. keys.1 q ∙ sym (stored_if v t.cells t.count (t.shape, trie.shaped) trie.table q)) key ps

    module _ (cells : List (Option T)) (q : List Bool) (x : Seat) (found : seat_of v.slots q ≡ Some x) where
      -- if one cell is made vacant the others are unchanged
      other_cell : (s : List Bool) → q ≢ s → cell_of v.slots (set cells (slot_of x) None) s ≡ cell_of v.slots cells s
      other_cell s ne = cell_at v.slots (set cells (slot_of x) None) s ∙ at (seat_of v.slots s) refl ∙ sym (cell_at v.slots cells s)
        where
          at : (o : Option Seat) → seat_of v.slots s ≡ o → in_seat (set cells (slot_of x) None) o ≡ in_seat cells o
          at None e = refl
          at (Some y) e = get_or-set_other cells (slot_of x) (slot_of y) None None (λ same.
              seats_differ v t.cells (some_table trie.table) q s x y
              (is_seat v trie.table.reading trie.table.paths trie.table.nodes q x found)
              (is_seat v trie.table.reading trie.table.paths trie.table.nodes s y e) ne (sym same))

      pairs_left : (ks : List (List Bool × Unit {0})) → IsApart q ks → pairs_in v.slots (set cells (slot_of x) None) ks ≡ pairs_in v.slots cells ks
      pairs_left [] h = refl
      pairs_left (k ∷ ks) h =
          ap (λ o. pair_of k.0 o ++ pairs_in v.slots (set cells (slot_of x) None) ks) (other_cell k.0 h.0)
          ∙ ap (λ es. pair_of k.0 (cell_of v.slots cells k.0) ++ es) (pairs_left ks h.1)

      held_left : (ks : List (List Bool × Unit {0})) → IsApart q ks → AreHeld v.slots cells ks → AreHeld v.slots (set cells (slot_of x) None) ks
      held_left [] h held = tt
      held_left (k ∷ ks) h held = (ap is_some (other_cell k.0 h.0) ∙ held.0, held_left ks h.1 held.1)

  -- a walk
  module _ (w : Store (Option T)) (s : Seated v.slots) (key : List Bool) (ps : List Spot) (at : IsTaking width v w s.0 key ps) where
    module _ (keys : Seated v.slots) (next : List Bool) (qs : List Spot) where
      -- with nothing left to come
      none_come : pending at.tree.shape.entries next qs ≡ [] → pending keys.0 next qs ≡ []
      none_come none = strings_come at.tree at.trie keys next qs ∙ ap (λ es. map bare es) none

      pub none_given : pending at.tree.shape.entries next qs ≡ [] → pairs_in v.slots w.slots (pending keys.0 next qs) ≡ []
      none_given none = ap (pairs_in v.slots w.slots) (none_come none)

      pub walk_ended : pending at.tree.shape.entries next qs ≡ [] → IsStack width v.slots next qs → IsTaking width v w keys.0 next qs
      walk_ended none stack = record {
        tree = at.tree;
        trie = at.trie;
        long = at.long;
        stack = stack;
        held = subst (AreHeld v.slots w.slots) (sym (none_come none)) tt;
        apart = subst AreApart (sym (none_come none)) tt;
      }

    -- which takes the next value
    module _ {K : Type 0} {IsKey : K → Type 0} {bits : K → List Bool} (next : List Bool) (qs : List Spot) (found_key : K) (size : ℕ) (seat : Seat)
        (h : GivesSeat IsKey bits width at.tree found_key size seat (pending at.tree.shape.entries key ps) (pending at.tree.shape.entries next qs))
        (found : seat_of v.slots (take size (bits found_key)) ≡ Some seat) where
      abbrev q : List Bool
      q = take size (bits found_key)

      come : pending s.0 key ps ≡ (q, tt) ∷ pending s.0 next qs
      come =
          strings_come at.tree at.trie s key ps ∙ ap (λ es. map bare es) h.gives.first
          ∙ ap (λ ks. (q, tt) ∷ ks) (sym (strings_come at.tree at.trie s next qs))

      held : (is_some (cell_of v.slots w.slots q) ≡ true) × AreHeld v.slots w.slots (pending s.0 next qs)
      held = subst (AreHeld v.slots w.slots) come at.held

      apart : IsApart q (pending s.0 next qs) × AreApart (pending s.0 next qs)
      apart = subst AreApart come at.apart

      taken_cell : (x : Option T) → x ≡ get_or w.slots (slot_of seat) x → cell_of v.slots w.slots q ≡ x
      taken_cell x read = cell_at v.slots w.slots q ∙ ap (in_seat w.slots) found ∙ get_or_default w.slots (slot_of seat) None x (let y = h.is_there in omega (arith, y, at.long)) ∙ sym read

      -- it is there
      pub taken_there : (x : Option T) → x ≡ get_or w.slots (slot_of seat) x → is_some x ≡ true
      taken_there x read = ap is_some (sym (taken_cell x read)) ∙ held.0

      module _ (keys : Seated v.slots) (w2 : Store (Option T)) (left : w2 ≡ record w { slots = set w.slots (slot_of seat) None }) where
        same_keys : pending keys.0 next qs ≡ pending s.0 next qs
        same_keys = strings_come at.tree at.trie keys next qs ∙ sym (strings_come at.tree at.trie s next qs)

        left_slots : w2.slots ≡ set w.slots (slot_of seat) None
        left_slots = ap (λ (x : Store (Option T)). x.slots) left

        -- and the walk goes on
        pub walk_goes_on : IsStack width v.slots next qs → IsTaking width v w2 keys.0 next qs
        walk_goes_on stack = record {
          tree = at.tree;
          trie = at.trie;
          long = ap (λ xs. length xs) left_slots ∙ length-set w.slots (slot_of seat) None ∙ at.long;
          stack = stack;
          held = subst (λ xs. AreHeld v.slots xs (pending keys.0 next qs)) (sym left_slots)
              (subst (AreHeld v.slots (set w.slots (slot_of seat) None)) (sym same_keys)
              (held_left at.tree at.trie w.slots q seat found (pending s.0 next qs) apart.0 held.1));
          apart = subst AreApart (sym same_keys) apart.1;
        }

        -- with the rest of the pairs
        pub gives_taken : (x : T) (old : List (List Bool × T)) → Some x ≡ get_or w.slots (slot_of seat) (Some x) →
            pairs_in v.slots w.slots (pending s.0 key ps) ≡ old →
            GivesFilled IsKey bits width found_key size x old (pairs_in v.slots w2.slots (pending keys.0 next qs))
        gives_taken x old read is = record {
          is_key = h.gives.is_key;
          short = h.gives.short;
          first =
              sym is ∙ ap (pairs_in v.slots w.slots) come
              ∙ ap (λ o. pair_of q o ++ pairs_in v.slots w.slots (pending s.0 next qs)) (taken_cell (Some x) read)
              ∙ ap (λ es. (q, x) ∷ es) (sym (pairs_left at.tree at.trie w.slots q seat found (pending s.0 next qs) apart.0)
              ∙ ap (λ xs. pairs_in v.slots xs (pending s.0 next qs)) (sym left_slots) ∙ ap (pairs_in v.slots w2.slots) (sym same_keys));
          filled = h.gives.filled;
        }

  -- a walk whose cells are all there
  module _ (w : Store (Option T)) (s : State T) (trie : IsTrie width (len s.entries) v w s) where
    abbrev whole : Tree T
    whole = record { count = len s.entries; cells = w; shape = s }

    -- the strings of a table have its seats
    pub seated : Seated v.slots
    seated = (strings_of s.entries, λ q. has-strings_of s.entries q ∙ stored_if v w (len s.entries) (s, trie.shaped) trie.table q)

    abbrev IsStored : List Bool × T → Type 0
    IsStored e = get s.entries e.0 ≡ Some e.1

    cell_stored : (e : List Bool × T) → IsStored e → cell_of v.slots w.slots e.0 ≡ Some e.1
    cell_stored e h = sym (trie.shaped.1 e.0) ∙ h

    pairs_stored : (es : List (List Bool × T)) → All IsStored es → pairs_in v.slots w.slots (map bare es) ≡ es
    pairs_stored [] h = refl
    pairs_stored (e ∷ es) h =
        ap (λ o. pair_of e.0 o ++ pairs_in v.slots w.slots (map bare es)) (cell_stored e (All-head IsStored e es h))
        ∙ ap (λ xs. e ∷ xs) (pairs_stored es (All-tail IsStored e es h))

    held_stored : (es : List (List Bool × T)) → All IsStored es → AreHeld v.slots w.slots (map bare es)
    held_stored [] h = tt
    held_stored (e ∷ es) h = (ap is_some (cell_stored e (All-head IsStored e es h)), held_stored es (All-tail IsStored e es h))

    module _ (keys : Seated v.slots) (key : List Bool) (ps : List Spot) (q : List Bool) (rest : pending s.entries key ps ≡ listing_below s.entries q) where
      below_come : pending keys.0 key ps ≡ map bare (listing_below s.entries q)
      below_come = strings_come whole trie keys key ps ∙ ap (λ es. map bare es) rest

      below_stored : All IsStored (listing_below s.entries q)
      below_stored = All-filter (λ e. begins q e.0) IsStored (entries s.entries)
          (All-weaker (Contains (entries s.entries)) IsStored
          (λ e h. get-entries s.entries e.0 ∙ find-from_Contains (entries s.entries) e (entries_sorted s.entries) h) (entries s.entries)
          (All-contains_itself (entries s.entries)))

      pub walk_below : IsStack width v.slots key ps → IsTaking width v w keys.0 key ps
      walk_below stack = record {
        tree = whole;
        trie = trie;
        long = refl;
        stack = stack;
        held = subst (AreHeld v.slots w.slots) (sym below_come) (held_stored (listing_below s.entries q) below_stored);
        apart = subst AreApart (sym below_come)
            (apart_sorted (listing_below s.entries q) (is_sorted-where_key listing_cmp (begins q) (entries s.entries) (entries_sorted s.entries)));
      }

      pub below_given : (x : State T) → IsShapeOf v.slots w.slots x → pairs_in v.slots w.slots (pending keys.0 key ps) ≡ listing_below x.entries q
      below_given x is =
          ap (pairs_in v.slots w.slots) below_come ∙ pairs_stored (listing_below s.entries q) below_stored
          ∙ ap (λ (y : State T). listing_below y.entries q) (same_shape v.slots w.slots s x trie.shaped is)

-- ---- the copy of a walk that takes values out of their cells

module _ {T : Type 0} (C : T → T → Type 0) where
  -- an entry, if there is one, and its clone before others
  pairs_more : (q : List Bool) (x y : Option T) (es fs : List (List Bool × T)) → IsCloned C x y → AllZip (IsPairCloned C) es fs →
      AllZip (IsPairCloned C) (pair_of q x ++ es) (pair_of q y ++ fs)
  pairs_more q None None es fs h rest = rest
  pairs_more q None (Some y) es fs h rest = absurd (false≢true (sym (ap is_some h)))
  pairs_more q (Some x) None es fs h rest = absurd h
  pairs_more q (Some x) (Some y) es fs h rest = ((refl, h), rest)

  -- if a clone is equal to its source the entries are the same
  pub pairs_same : ((x y : T) → C x y → y ≡ x) → (es fs : List (List Bool × T)) → AllZip (IsPairCloned C) es fs → fs ≡ es
  pairs_same law es fs z = same_from_all_zip (IsPairCloned C) es fs z (λ e f h i. (h.0 i, law e.1 f.1 h.1 i))

  module _ (nodes : List Node) (xs ys : List (Option T)) (cloned : (i : ℕ) → IsCloned C (get_or xs i None) (get_or ys i None)) where
    cell_cloned : (q : List Bool) → IsCloned C (cell_of nodes xs q) (cell_of nodes ys q)
    cell_cloned q = cells_cloned C xs ys cloned (read nodes (chunks_of q)) (bit_of q)

    pairs_cloned : (ks : List (List Bool × Unit {0})) → AllZip (IsPairCloned C) (pairs_in nodes xs ks) (pairs_in nodes ys ks)
    pairs_cloned [] = tt
    pairs_cloned (k ∷ ks) =
        pairs_more k.0 (cell_of nodes xs k.0) (cell_of nodes ys k.0) (pairs_in nodes xs ks) (pairs_in nodes ys ks) (cell_cloned k.0) (pairs_cloned ks)

    held_cloned : (ks : List (List Bool × Unit {0})) → AreHeld nodes xs ks → AreHeld nodes ys ks
    held_cloned [] h = tt
    held_cloned (k ∷ ks) h =
        (cloned_there C (cell_of nodes xs k.0) (cell_of nodes ys k.0) (cell_cloned k.0) ∙ h.0, held_cloned ks h.1)

-- the nodes and the spots of a copy are the same, and what is in its cells are clones
module _ {T : Type 0} (width : ℕ) (C : T → T → Type 0) (R : Option T → Option T → Type 0)
    (means : (x y : Option T) → R x y → IsCloned C x y) (v v2 : Store Node) (w w2 : Store (Option T)) (s : Seated v.slots) (key : List Bool) (ps qs : List Spot)
    (at : IsTaking width v w s.0 key ps) (nodes : v2 ≡ record v { capacities = v2.capacities }) (clones : AllZip R w.slots w2.slots) (spots : qs ≡ ps) where
  cloned : (i : ℕ) → IsCloned C (get_or w.slots i None) (get_or w2.slots i None)
  cloned i = clones_at C R means w.slots w2.slots clones i

  -- the strings have the same seats
  pub copied_seats : Seated v2.slots
  copied_seats = subst (λ (y : Store Node). Seated y.slots) (sym nodes) s

  -- what a copy is
  abbrev IsCopy : (y : Store Node) → Seated y.slots → List Spot → Type 0
  IsCopy y keys rs =
      IsTaking width y w2 keys.0 key rs
      × AllZip (IsPairCloned C) (pairs_in v.slots w.slots (pending s.0 key ps)) (pairs_in y.slots w2.slots (pending keys.0 key rs))

  abbrev moved : Store Node
  moved = record v { capacities = v2.capacities }

  -- it is a walk, with clones of the same pairs
  pub copied_walk : (keys : Seated v2.slots) → IsCopy v2 keys qs
  copied_walk =
      subst (λ (y : Store Node). (keys : Seated y.slots) → IsCopy y keys qs) (sym nodes) (λ keys.
      subst (λ (k : Seated v.slots). IsCopy moved k qs) (Seated-prop v.slots s keys) (subst (IsCopy moved s) (sym spots) (
        record {
          tree = at.tree;
          trie = IsTrie-capacities v at.tree.cells v2.capacities at.tree.cells.capacities at.tree.count at.tree.shape width at.trie;
          long = sym (length_all_zip R w.slots w2.slots clones) ∙ at.long;
          stack = at.stack;
          held = held_cloned C v.slots w.slots w2.slots cloned (pending s.0 key ps) at.held;
          apart = at.apart;
        },
        pairs_cloned C v.slots w.slots w2.slots cloned (pending s.0 key ps),
      )))
