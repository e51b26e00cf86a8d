-- The longest and the shortest match of a table's entries, from the beginnings of a bit string that have values.
use Rattle.prefix_trie_table.proofs.Prelude.{◌≡◌, ℕ, ◌+◌, ◌/◌, ◌<◌, ◌≤◌, Bool, true, ◌&&◌, nat_le, List, length, get_or, take, Option, None, Some, is_some, MatchOption, refl, sym, ap, ◌∙◌, arith, inl, inr, true≢false, false≢true, cases_lt, filter_agree, get, contains_key, keys, begins, begins-take, begins-length, take-begins, IsMatch, longest_match, shortest_match, State, visits, visits_of_match, visits_to_match, match_laws, some-value, begins-within, Node, Match, has_bit, node_sizes, cell_sizes, chunks_of, bit_of, Store, SomeTable, SomeNodes, IsEnd, has_value, holds_value, LackLastBit, IsHeld, NoneHeld, cell_slot, IsShapeOf}
use Rattle.std.proofs.lemmas.List.{length-take-le, take_all}
use Rattle.prefix_trie_table.proofs.Strings.SmallFacts.{no_or_yes}
use Rattle.prefix_trie_table.proofs.Tree.Invariant.{some_nodes}
use Rattle.prefix_trie_table.proofs.Strings.Digits.{path-length}
use Rattle.prefix_trie_table.proofs.Tree.Values.{value_is_there}
use Rattle.prefix_trie_table.proofs.Tree.Shapes.{shape_nodes, shape_entries}
use Rattle.prefix_trie_table.proofs.Counts.VisitCounts.{visits_counted}

module _ {T : Type 0} where
  -- a node of a table has no value bit 31
  pub has_nodes : (v : Store Node) (w : Store (Option T)) → SomeTable v w → (n : SomeNodes v) × LackLastBit n.reading
  has_nodes v w t = (
    some_nodes t,
    λ p n is. no_or_yes (has_bit n.value_bitmap 31) (λ e. let h : 31 < 31 = t.holds.cells.within p 31 (t.holds.cells.set_where p 31 ∙ ap (λ o. has_value o 31) is ∙ e) in omega arith),
  )

  -- as many nodes are met on the search path of a string as the model counts
  pub met_on_path : (v : Store Node) (w : Store (Option T)) (t : SomeTable v w) (s : State T) → IsShapeOf v.slots w.slots s → (q : List Bool) (before after : ℕ) →
      (level : ℕ) × IsEnd t.reading (chunks_of q) level × (after ≡ before + (level + 1)) → after ≡ before + visits s.nodes q
  met_on_path v w t s is q before after met =
      met.2 ∙ ap (λ n. before + n) (sym (visits_counted t.reading t.paths v t.holds.hold s.nodes (shape_nodes t.reading t.values t.paths v w t.holds s is) q met.0 met.1))

  -- the cell of a match
  abbrev pub cell_of : Store (Option T) → Match → Option T
  cell_of w m = get_or w.slots (cell_slot m) None

  module _ (v : Store Node) (w : Store (Option T)) (t : SomeTable v w) (s : State T) (is : IsShapeOf v.slots w.slots s) (q : List Bool) where
    -- a beginning is stored if it has a value
    stored-is : (i : ℕ) → contains_key s.entries (take i q) ≡ holds_value t.reading q i
    stored-is i =
        ap is_some (shape_entries t.reading t.values t.paths v w t.holds s is (take i q)) ∙ t.holds.cells.set_where (chunks_of (take i q)) (bit_of (take i q))

    -- a stored string that begins it is such a beginning
    pub match_held : (k : List Bool) → contains_key s.entries k ≡ true → begins k q ≡ true → holds_value t.reading q (length k) ≡ true
    match_held k has e = sym (stored-is (length k)) ∙ ap (contains_key s.entries) (begins-take k q e) ∙ has

    no_match : NoneHeld t.reading q 0 (length q + 1) → (o : Option (List Bool × T)) → ((e : List Bool × T) → o ≡ Some e → IsMatch s.entries q e) → o ≡ None
    no_match none None found = refl
    no_match none (Some e) found =
        let m = found e refl in
        let within : length e.0 ≤ length q = begins-length e.0 q m.begins_it in
        absurd (true≢false (sym (match_held e.0 (ap is_some m.stored) m.begins_it) ∙ none (length e.0) (omega arith) (omega arith) within))

    pub longest_none : NoneHeld t.reading q 0 (length q + 1) → longest_match s.entries q ≡ None
    longest_none none = no_match none (longest_match s.entries q) (λ e h. (((match_laws T).longest_is s.entries q e).0 h).matches)

    pub shortest_none : NoneHeld t.reading q 0 (length q + 1) → shortest_match s.entries q ≡ None
    shortest_none none = no_match none (shortest_match s.entries q) (λ e h. (((match_laws T).shortest_is s.entries q e).0 h).matches)

    -- the nodes met
    pub met_is : (before after : ℕ) → (level : ℕ) × IsEnd t.reading (chunks_of q) level × (after ≡ before + (level + 1)) → after ≡ before + visits s.nodes q
    met_is before after met = met_on_path v w t s is q before after met

    pub met_none : (before after : ℕ) → NoneHeld t.reading q 0 (length q + 1) → (level : ℕ) × IsEnd t.reading (chunks_of q) level × (after ≡ before + (level + 1)) → after ≡ before + visits_to_match s.entries s.nodes q
    met_none before after none met =
        met_is before after met ∙ ap (λ o. before + visits_of_match s.nodes q o) (sym (shortest_none none))

    -- a match, and its cell
    module _ (m : Match) (held : IsHeld t.reading q m.len m.bit m.node) where
      is_there_at : (get_or w.slots (cell_slot m) None ≡ t.values (chunks_of (take m.len q)) m.bit) × (cell_slot m < length w.slots)
      is_there_at =
          let h = value_is_there cell_sizes node_sizes t.reading t.paths v t.holds.hold t.values w t.holds.cells (chunks_of (take m.len q)) m.node m.bit held.is held.set in (h.1, h.2)

      pub cell_inside : cell_slot m < length w.slots
      cell_inside = is_there_at.1

      value_at : get s.entries (take m.len q) ≡ cell_of w m
      value_at =
          shape_entries t.reading t.values t.paths v w t.holds s is (take m.len q) ∙ ap (t.values (chunks_of (take m.len q))) held.bit_is ∙ sym is_there_at.0

      -- the value is there
      pub cell_some : is_some (cell_of w m) ≡ true
      cell_some =
          ap is_some (sym value_at) ∙ stored-is m.len ∙ ap (λ o. has_value o (bit_of (take m.len q))) held.is ∙ ap (has_bit m.node.value_bitmap) held.bit_is ∙ held.set

      pub is_match : (x : T) → cell_of w m ≡ Some x → IsMatch s.entries q (take m.len q, x)
      is_match x e = record { stored = value_at ∙ e; begins_it = take-begins m.len q }

      match_length : length (take m.len q) ≡ m.len
      match_length = length-take-le m.len q held.within

      pub longest_at : NoneHeld t.reading q (m.len + 1) (length q + 1) → (x : T) → cell_of w m ≡ Some x → longest_match s.entries q ≡ Some (take m.len q, x)
      longest_at none x e = ((match_laws T).longest_is s.entries q (take m.len q, x)).1 (record {
        matches = is_match x e;
        longest = λ k has h.
            let within : length k ≤ length q = begins-length k q h in
            elim (cases_lt m.len (length k)) as (λ _. length k ≤ length (take m.len q)) [
              | inl l ↦ absurd (true≢false (sym (match_held k has h) ∙ none (length k) (omega arith) (omega arith) within))
              | inr g ↦ omega (arith, match_length)
            ];
      })

      -- the longest match is at its string
      pub longest_there : NoneHeld t.reading q (m.len + 1) (length q + 1) → (x : T) × (longest_match s.entries q ≡ Some (take m.len q, x))
      longest_there none = let x = some-value (cell_of w m) cell_some in (x.0, longest_at none x.0 x.1)

      shortest_at : NoneHeld t.reading q 0 m.len → (x : T) → cell_of w m ≡ Some x → shortest_match s.entries q ≡ Some (take m.len q, x)
      shortest_at none x e = ((match_laws T).shortest_is s.entries q (take m.len q, x)).1 (record {
        matches = is_match x e;
        shortest = λ k has h.
            elim (cases_lt (length k) m.len) as (λ _. length (take m.len q) ≤ length k) [
              | inl l ↦ absurd (true≢false (sym (match_held k has h) ∙ none (length k) (omega arith) l (begins-length k q h)))
              | inr g ↦ omega (arith, match_length)
            ];
      })

      -- the nodes met down to its own
      own_end : IsEnd t.reading (chunks_of (take m.len q)) (m.len / 5)
      own_end =
          let steps : length (chunks_of (take m.len q)) ≡ m.len / 5 = path-length (take m.len q) ∙ ap (λ n. n / 5) match_length in
          record {
            within = omega (arith, steps);
            is_there = ap (λ p. is_some (t.reading p)) (take_all (m.len / 5) (chunks_of (take m.len q)) (omega (arith, steps))) ∙ ap is_some held.is;
            stops = λ more. absurd (omega (arith, steps));
          }

      met_to_match : (x : T) → shortest_match s.entries q ≡ Some (take m.len q, x) → visits_to_match s.entries s.nodes q ≡ m.len / 5 + 1
      met_to_match x e =
          ap (visits_of_match s.nodes q) e
          ∙ ap length (filter_agree (λ k. begins k q && nat_le (length k) (length (take m.len q))) (λ k. begins k (take m.len q)) (λ k. begins-within (take m.len q) q k (take-begins m.len q)) (keys s.nodes))
          ∙ visits_counted t.reading t.paths v t.holds.hold s.nodes (shape_nodes t.reading t.values t.paths v w t.holds s is) (take m.len q) (m.len / 5) own_end

      pub met_shortest : NoneHeld t.reading q 0 m.len → visits_to_match s.entries s.nodes q ≡ m.len / 5 + 1
      met_shortest none = let x = some-value (cell_of w m) cell_some in met_to_match x.0 (shortest_at none x.0 x.1)

      -- the result of a call that reads the cell
      module _ {R : Type 0} (now : R → T) where
        abbrev Hands : Option (ℕ × R) → Type 0
        Hands r = MatchOption r (cell_of w m ≡ None) (λ f. (f.0 ≡ m.len) × (cell_of w m ≡ Some (now f.1)))

        abbrev Answers : Option (List Bool × T) → Option (ℕ × R) → Type 0
        Answers answer r = MatchOption r (answer ≡ None) (λ f. (f.0 ≤ length q) × (answer ≡ Some (take f.0 q, now f.1)))

        handed : (answer : Option (List Bool × T)) → ((x : T) → cell_of w m ≡ Some x → answer ≡ Some (take m.len q, x)) → (r : Option (ℕ × R)) → Hands r → Answers answer r
        handed answer found None e = absurd (false≢true (sym (ap is_some e) ∙ cell_some))
        handed answer found (Some f) e =
            (omega (arith, e.0, held.within), found (now f.1) e.1 ∙ ap (λ n. Some (take n q, now f.1)) (sym e.0))

        pub longest_returned : NoneHeld t.reading q (m.len + 1) (length q + 1) → (r : Option (ℕ × R)) → Hands r → Answers (longest_match s.entries q) r
        longest_returned none = handed (longest_match s.entries q) (longest_at none)

        pub shortest_returned : NoneHeld t.reading q 0 m.len → (r : Option (ℕ × R)) → Hands r → Answers (shortest_match s.entries q) r
        shortest_returned none = handed (shortest_match s.entries q) (shortest_at none)
