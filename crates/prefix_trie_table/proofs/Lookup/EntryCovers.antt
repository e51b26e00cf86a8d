-- The entries to come of a cover walk: for `cover`.
use Rattle.prefix_trie_table.proofs.Prelude.{◌≡◌, ◌⊎◌, ℕ, ◌+◌, ◌-◌, ◌*◌, ◌<◌, ◌≤◌, Bool, true, false, cond, ◌&&◌, ◌||◌, nat_le, List, [], ◌∷◌, length, length-drop, filter, take, drop, Option, None, Some, is_some, refl, sym, ap, ◌∙◌, subst, add-sub_of_le, arith, inl, inr, le-leb, lt-leb, cases_lt, false≢true, drop-take, Contains-append_left, Contains-append_right, Contains-push, Contains-push_cases, Contains-append_cases, entries, entries_sorted, is_sorted, is_sorted-where_key, begins, begins-take, begins-length, take-begins, listing_cmp, has, value_bit, Entries, covers, IsMatch, State, IsMatch-from_covers, covers-from_IsMatch, each-behind, find-from_Contains, sorted-head, sorted-tail, shorter-first, Node, Reached, Match, Store, SomeTable, holds_value, IsHeld, NoneHeld, cell_slot, IsShapeOf, same_shape, IsCovering, GoesOn, is_ahead, still_covering}
use lib.Dec.{T as IsT}
use Rattle.std.proofs.lemmas.List.{length-take-le}
use Rattle.std.specs.List.{Contains}
use Rattle.prefix_trie_table.proofs.Lookup.NodeMatches.{held_is, along_is}
use Rattle.prefix_trie_table.proofs.Lookup.EntryMatches.{match_held, cell_of, cell_inside, is_match, cell_some}

-- ---- filters of lists

module _ {X : Type 0} where
  here_or : (x : X) (es : List X) (e : X) → Contains (x ∷ es) e → (x ≡ e) ⊎ Contains es e
  here_or x es e has = elim (Contains-append_cases (x ∷ []) es e has) as (λ _. (x ≡ e) ⊎ Contains es e) [
    | inl here ↦ elim (Contains-push_cases [] x e here) [ inl none ↦ absurd (omega (arith, none.1)) | inr is ↦ inl is ]
    | inr there ↦ inr there
  ]

  first_in : (x : X) (es : List X) → Contains (x ∷ es) x
  first_in x es = Contains-append_left (x ∷ []) es x (Contains-push [] x)

  later_in : (x : X) (es : List X) (e : X) → Contains es e → Contains (x ∷ es) e
  later_in x es e has = Contains-append_right (x ∷ []) es e has

  -- tests that agree on the elements
  agree : (p r : X → Bool) (es : List X) → ((e : X) → Contains es e → p e ≡ r e) → filter p es ≡ filter r es
  agree p r [] h = refl
  agree p r (x ∷ es) h =
      ap (λ b. cond b (x ∷ filter p es) (filter p es)) (h x (first_in x es))
      ∙ ap (λ ys. cond (r x) (x ∷ ys) ys) (agree p r es (λ e has. h e (later_in x es e has)))

  none_pass : (p : X → Bool) (es : List X) → ((e : X) → Contains es e → p e ≡ false) → filter p es ≡ []
  none_pass p [] h = refl
  none_pass p (x ∷ es) h = ap (λ b. cond b (x ∷ filter p es) (filter p es)) (h x (first_in x es)) ∙ none_pass p es (λ e has. h e (later_in x es e has))

  all_pass : (p : X → Bool) (es : List X) → ((e : X) → Contains es e → p e ≡ true) → filter p es ≡ es
  all_pass p [] h = refl
  all_pass p (x ∷ es) h = ap (λ b. cond b (x ∷ filter p es) (filter p es)) (h x (first_in x es)) ∙ ap (λ ys. x ∷ ys) (all_pass p es (λ e has. h e (later_in x es e has)))

-- ---- of a list of beginnings, those of at least so many bits

module _ {T : Type 0} where
  -- the entries whose keys have n bits or more
  abbrev pub from_length : ℕ → List (List Bool × T) → List (List Bool × T)
  from_length n es = filter (λ e. nat_le n (length e.0)) es

  module _ (q : List Bool) where
    head_shorter : (x : List Bool × T) (es : List (List Bool × T)) → IsT (is_sorted listing_cmp (x ∷ es)) → ((e : List Bool × T) → Contains (x ∷ es) e → begins e.0 q ≡ true)
        → (e : List Bool × T) → Contains es e → length x.0 < length e.0
    head_shorter x es sorted begin e has =
        shorter-first q x.0 e.0 (begin x (first_in x es)) (begin e (later_in x es e has))
        (each-behind x.0 es e.0 e.1 (sorted-head x es sorted) (find-from_Contains es e (sorted-tail x es sorted) has))

    take_head : (first : ℕ) (x : List Bool × T) (es : List (List Bool × T)) → IsT (is_sorted listing_cmp (x ∷ es)) → ((e : List Bool × T) → Contains (x ∷ es) e → begins e.0 q ≡ true)
        → first ≤ length x.0 → from_length first (x ∷ es) ≡ x ∷ from_length (length x.0 + 1) (x ∷ es)
    take_head first x es sorted begin low =
        ap (λ b. cond b (x ∷ from_length first es) (from_length first es)) (le-leb first (length x.0) low)
        ∙ ap (λ ys. x ∷ ys) (agree (λ e. nat_le first (length e.0)) (λ e. nat_le (length x.0 + 1) (length e.0)) es
        (λ e has. let l : length x.0 < length e.0 = head_shorter x es sorted begin e has in
        le-leb first (length e.0) (omega arith) ∙ sym (le-leb (length x.0 + 1) (length e.0) (omega arith)))
        ∙ ap (λ b. cond b (x ∷ from_length (length x.0 + 1) es) (from_length (length x.0 + 1) es)) (sym (lt-leb (length x.0 + 1) (length x.0) (omega arith))))

    -- the shortest of them comes first
    take_shortest : (first : ℕ) (d : List Bool × T) (es : List (List Bool × T)) → IsT (is_sorted listing_cmp es) → ((e : List Bool × T) → Contains es e → begins e.0 q ≡ true)
        → Contains es d → first ≤ length d.0 → ((e : List Bool × T) → Contains es e → first ≤ length e.0 → length d.0 ≤ length e.0)
        → from_length first es ≡ d ∷ from_length (length d.0 + 1) es
    take_shortest first d [] sorted begin has low least = absurd (omega (arith, has.1))
    take_shortest first d (x ∷ es) sorted begin has low least =
        elim (here_or x es d has) as (λ _. from_length first (x ∷ es) ≡ d ∷ from_length (length d.0 + 1) (x ∷ es)) [
          | inl here ↦ subst (λ y. from_length first (x ∷ es) ≡ y ∷ from_length (length y.0 + 1) (x ∷ es)) here
              (take_head first x es sorted begin (subst (λ y. first ≤ length y.0) (sym here) low))
          | inr there ↦
              let shorter : length x.0 < length d.0 = head_shorter x es sorted begin d there in
              let below : length x.0 < first = elim (cases_lt (length x.0) first) [ inl l ↦ l | inr g ↦ let more = least x (first_in x es) g in absurd (omega (arith, more)) ] in
              ap (λ b. cond b (x ∷ from_length first es) (from_length first es)) (lt-leb first (length x.0) below)
              ∙ take_shortest first d es (sorted-tail x es sorted) (λ e has. begin e (later_in x es e has)) there low (λ e has. least e (later_in x es e has))
              ∙ ap (λ b. d ∷ cond b (x ∷ from_length (length d.0 + 1) es) (from_length (length d.0 + 1) es)) (sym (lt-leb (length d.0 + 1) (length x.0) (omega arith)))
        ]

    -- no two are of one length, so there are not many
    few : (least : ℕ) (es : List (List Bool × T)) → IsT (is_sorted listing_cmp es) → ((e : List Bool × T) → Contains es e → begins e.0 q ≡ true)
        → ((e : List Bool × T) → Contains es e → least ≤ length e.0) → least ≤ length q + 1 → length es + least ≤ length q + 1
    few least [] sorted begin from small = omega arith
    few least (x ∷ es) sorted begin from small =
        let own : least ≤ length x.0 = from x (first_in x es) in
        let short : length x.0 ≤ length q = begins-length x.0 q (begin x (first_in x es)) in
        let rest : length es + (length x.0 + 1) ≤ length q + 1 = few (length x.0 + 1) es (sorted-tail x es sorted) (λ e has. begin e (later_in x es e has))
        (λ e has. let l : length x.0 < length e.0 = head_shorter x es sorted begin e has in omega arith) (omega arith) in
        omega arith

  -- of each length one at most
  pub covers_few : (m : Entries T) (q : List Bool) → length (covers m q) ≤ length q + 1
  covers_few m q =
      let n = few q 0 (covers m q) (is_sorted-where_key listing_cmp (λ k. begins k q) (entries m) (entries_sorted m))
      (λ e has. (IsMatch-from_covers m q e has).begins_it) (λ e has. omega arith) (omega arith) in
      omega (arith, n)

  -- ---- what a table's walk has still to give

  module _ (v : Store Node) (w : Store (Option T)) (t : SomeTable v w) (s : State T) (is : IsShapeOf v.slots w.slots s) (q : List Bool) where
    -- the key of a cover is a beginning that has a value
    module _ (e : List Bool × T) (has : Contains (covers s.entries q) e) where
      cover_match : IsMatch s.entries q e
      cover_match = IsMatch-from_covers s.entries q e has

      cover_within : length e.0 ≤ length q
      cover_within = begins-length e.0 q cover_match.begins_it

      cover_holds : holds_value t.reading q (length e.0) ≡ true
      cover_holds = match_held v w t s is q e.0 (ap is_some cover_match.stored) cover_match.begins_it

    -- none is left if none is held
    none_left : (first : ℕ) → NoneHeld t.reading q first (length q + 1) → from_length first (covers s.entries q) ≡ []
    none_left first none = none_pass (λ e. nat_le first (length e.0)) (covers s.entries q) (λ e has.
        elim (cases_lt (length e.0) first) as (λ _. nat_le first (length e.0) ≡ false) [
          | inl l ↦ lt-leb first (length e.0) l
          | inr g ↦ absurd (false≢true (sym (none (length e.0) g (omega (arith, cover_within e has)) (cover_within e has)) ∙ cover_holds e has))
        ])

    -- the next is the shortest that is held
    next_left : (m : Match) (first : ℕ) → first ≤ m.len → IsHeld t.reading q m.len m.bit m.node → NoneHeld t.reading q first m.len
        → (x : T) → cell_of w m ≡ Some x → from_length first (covers s.entries q) ≡ (take m.len q, x) ∷ from_length (m.len + 1) (covers s.entries q)
    next_left m first low held none x read =
        let d : List Bool × T = (take m.len q, x) in
        let own : length (take m.len q) ≡ m.len = length-take-le m.len q held.within in
        take_shortest q first d (covers s.entries q) (is_sorted-where_key listing_cmp (λ k. begins k q) (entries s.entries) (entries_sorted s.entries))
        (λ e has. (cover_match e has).begins_it)
        (covers-from_IsMatch s.entries q d (is_match v w t s is q m held x read))
        (omega (arith, own))
        (λ e has from. elim (cases_lt (length e.0) m.len) as (λ _. length (take m.len q) ≤ length e.0) [
          | inl l ↦ absurd (false≢true (sym (none (length e.0) from l (cover_within e has)) ∙ cover_holds e has))
          | inr g ↦ omega (arith, own)
        ])
        ∙ ap (λ n. d ∷ from_length (n + 1) (covers s.entries q)) own

    -- what is to come by the matches of the node where the walk is
    module _ (here : Reached) (matches first : ℕ) (at : IsCovering q here matches first v) where
      -- in the node
      match_is : (e : List Bool × T) → Contains (covers s.entries q) e → 5 * here.level ≤ length e.0 → length e.0 < 5 * here.level + 5
          → has matches (value_bit (drop (5 * here.level) e.0)) ≡ nat_le first (length e.0)
      match_is e there from last =
          let i = length e.0 in
          let rest = drop (5 * here.level) q in
          let below = drop (5 * here.level) e.0 in
          let below_is : drop (5 * here.level) e.0 ≡ take (i - 5 * here.level) rest = ap (drop (5 * here.level)) (sym (begins-take e.0 q (cover_match e there).begins_it)) ∙ ap (λ n. drop (5 * here.level) (take n q)) (sym (add-sub_of_le from))
          ∙ drop-take (5 * here.level) (i - 5 * here.level) q in
          let below_long : length (drop (5 * here.level) e.0) ≡ i - 5 * here.level = length-drop (5 * here.level) e.0 in
          let whole : 5 * here.level + length (drop (5 * here.level) e.0) ≡ i = omega (arith, below_long, from) in
          let stored : has here.node.value_bitmap (value_bit (drop (5 * here.level) e.0)) ≡ true = ap (λ k. has here.node.value_bitmap (value_bit k)) below_is
          ∙ sym (held_is q here.level i from (cover_within e there) last t.reading here.node (along_is q here v at.along t.reading t.paths t.holds.hold)) ∙ cover_holds e there in
          at.left.bits below (omega (arith, below_long, last))
          ∙ middle (begins below rest) (nat_le first (5 * here.level + length below)) (has here.node.value_bitmap (value_bit below)) (ap (λ k. begins k rest) below_is ∙ take-begins (i - 5 * here.level) rest) stored
          ∙ ap (λ n. nat_le first n) whole
        where
          middle : (x y z : Bool) → x ≡ true → z ≡ true → (x && (y && z)) ≡ y
          middle true true z e f = f
          middle true false z e f = refl
          middle false y z e f = absurd (false≢true e)

      ahead_is : (e : List Bool × T) → Contains (covers s.entries q) e → is_ahead here.level matches e.0 ≡ nat_le first (length e.0)
      ahead_is e there =
          let own = has matches (value_bit (drop (5 * here.level) e.0)) in
          elim (cases_lt (length e.0) (5 * here.level + 5)) as (λ _. is_ahead here.level matches e.0 ≡ nat_le first (length e.0)) [
            | inl last ↦ ap (λ x. x || (nat_le (5 * here.level) (length e.0) && own)) (lt-leb (5 * here.level + 5) (length e.0) last)
                ∙ elim (cases_lt (length e.0) (5 * here.level)) as (λ _. (nat_le (5 * here.level) (length e.0) && own) ≡ nat_le first (length e.0)) [
                  | inl above ↦ ap (λ x. x && own) (lt-leb (5 * here.level) (length e.0) above) ∙ sym (lt-leb first (length e.0) (let low = at.low in omega (arith, low, above)))
                  | inr from ↦ ap (λ x. x && own) (le-leb (5 * here.level) (length e.0) from) ∙ match_is e there from last
                ]
            | inr past ↦ ap (λ x. x || (nat_le (5 * here.level) (length e.0) && own)) (le-leb (5 * here.level + 5) (length e.0) past)
                ∙ sym (le-leb first (length e.0) (let high = at.high in omega (arith, high, past)))
          ]

      still_is : still_covering s.entries q here.level matches ≡ from_length first (covers s.entries q)
      still_is = agree (λ e. is_ahead here.level matches e.0) (λ e. nat_le first (length e.0)) (covers s.entries q) ahead_is

      -- at the start all of them
      pub all_ahead : first ≡ 0 → still_covering s.entries q here.level matches ≡ covers s.entries q
      all_ahead e = still_is ∙ all_pass (λ e. nat_le first (length e.0)) (covers s.entries q) (λ d has. le-leb first (length d.0) (omega (arith, e)))

      pub none_ahead : NoneHeld t.reading q first (length q + 1) → still_covering s.entries q here.level matches ≡ []
      none_ahead none = still_is ∙ none_left first none

  -- ---- one step of a walk

  module _ (v : Store Node) (w : Store (Option T)) (t : SomeTable v w) (s later : State T) (is : IsShapeOf v.slots w.slots s) (later_is : IsShapeOf v.slots w.slots later)
      (q : List Bool) (here next : Reached) (matches rest first : ℕ) (at : IsCovering q here matches first v) where
    -- there is no further entry, now and afterwards
    pub gives_none : GoesOn q next rest first None v
        → (still_covering s.entries q here.level matches ≡ []) × (still_covering later.entries q next.level rest ≡ [])
    gives_none gone =
        let left = gone.next t.reading t.paths t.holds.hold in (
          none_ahead v w t s is q here matches first at left.0,
          none_ahead v w t later later_is q next rest gone.later gone.is_there left.1,
        )

    -- the next entry is that of the match
    pub gives_next : (m : Match) → GoesOn q next rest first (Some m) v → (x : T) → cell_of w m ≡ Some x
        → still_covering s.entries q here.level matches ≡ (take m.len q, x) ∷ still_covering later.entries q next.level rest
    gives_next m gone x read =
        let left = gone.next t.reading t.paths t.holds.hold in
        let held : IsHeld t.reading q m.len m.bit m.node = left.2 in
        let d : List Bool × T = (take m.len q, x) in
        still_is v w t s is q here matches first at
        ∙ next_left v w t s is q m first left.0 held left.3 x read
        ∙ ap (λ (z : State T). d ∷ from_length (m.len + 1) (covers z.entries q)) (same_shape v.slots w.slots s later is later_is)
        ∙ ap (λ n. d ∷ from_length n (covers later.entries q)) (sym left.1)
        ∙ ap (λ es. d ∷ es) (sym (still_is v w t later later_is q next rest gone.later gone.is_there))

    -- the match has its value
    pub match_there : (m : Match) → GoesOn q next rest first (Some m) v → (m.bit < 31) × (cell_slot m < length w.slots) × (is_some (cell_of w m) ≡ true)
    match_there m gone =
        let held : IsHeld t.reading q m.len m.bit m.node = (gone.next t.reading t.paths t.holds.hold).2 in
        (held.small, cell_inside v w t s is q m held, cell_some v w t s is q m held)

    -- a match is no longer than the string
    pub match_short : (m : Match) → GoesOn q next rest first (Some m) v → m.len ≤ length q
    match_short m gone =
        let held : IsHeld t.reading q m.len m.bit m.node = (gone.next t.reading t.paths t.holds.hold).2 in
        held.within
