-- Questions that go down side by side: before the first round, from one to the next, and after the last.
use Rattle.prefix_trie_table.proofs.Prelude.{◌≡◌, ℕ, zero, suc, ◌+◌, ◌*◌, ◌<◌, ◌≤◌, inl, inr, Bool, List, [], ◌∷◌, Option, None, Some, is_some, Contains, All, map, take, length, get_or, sum, sum_by, refl, sym, ap, ap₂, ◌∙◌, subst, arith, mul-zero, mul-add, mul-one, zero-mul, false≢true, length-map, take_more, get_or_default, get_or-map, get_or-take, All-map, map-map, sum_by_push, sum-map, Node, Found, Descent, Match, HaveMatches, AreMatchesFound, AreCosts, AreRead, EachOf, GoOn, IsAhead, IsMatchFound, IsLongestFound, IsNew, cost_of, found_of, new_descent, question_of, slot_of, node_sizes, chunks_of, IsEnd, NodesHold, SomeNodes, SomeTable, read, IsHeld, NoneHeld, IsShapeOf, Store, Nodes, State, visits}
use Rattle.std.proofs.lemmas.List.{append-nil, length-take-le}
use Rattle.prefix_trie_table.specs.Bulk.{IsDescent}
use Rattle.prefix_trie_table.proofs.Counts.VisitCounts.{visits_counted}
use Rattle.prefix_trie_table.proofs.Tree.Shapes.{shape_nodes}
use Rattle.prefix_trie_table.proofs.Tree.Trees.{reads}
use Rattle.prefix_trie_table.proofs.Lookup.Descents.{deepest_in, deepest_root}

-- the item at a place of a list that reaches there
some_at : {X : Type 0} (xs : List X) (i : ℕ) → i < length xs → (x : X) × (x ≡ get_or xs i x)
some_at [] i inside = absurd (omega (arith, inside))
some_at (x ∷ xs) i inside = (get_or (x ∷ xs) i x, get_or_default (x ∷ xs) i x (get_or (x ∷ xs) i x) inside)

-- ---- before the first round

module _ (descents : List Descent) where
  new_at : (n : ℕ) → n ≤ length descents → EachOf IsNew n descents → (i : ℕ) → i < n → (d : Descent) → get_or descents i d ≡ new_descent i
  new_at n long new i inside d = new i (get_or descents i d) inside (get_or_default descents i d (get_or descents i d) (omega (arith, inside, long)))

  -- each of these questions has a search that goes on
  pub new_under_way : (n : ℕ) → n ≤ length descents → EachOf IsNew n descents → (i : ℕ) → i < n → Contains (map question_of (take n descents)) i
  new_under_way n long new i inside =
      let fits : i < length (take n descents) = omega (arith, inside, length-take-le n descents long) in (
        i,
        omega (arith, fits, length-map (take n descents) question_of),
        get_or-map question_of (take n descents) i (new_descent i) i fits ∙ ap question_of (get_or-take n descents i (new_descent i) inside ∙ new_at n long new i inside (new_descent i)),
      )

  -- they cost what they cost
  pub new_costs : (costs : List ℕ) (n : ℕ) → n ≤ length descents → n ≤ length costs → EachOf IsNew n descents → sum_by (cost_of costs) (take n descents) ≡ sum (take n costs)
  new_costs costs zero long costed new = refl
  new_costs costs (suc n) long costed new =
      let more : suc n ≡ n + 1 = omega arith in
      let earlier = new_costs costs n (omega (arith, long)) (omega (arith, costed)) (λ i x inside is. new i x (omega (arith, inside)) is) in
      ap (λ k. sum_by (cost_of costs) (take k descents)) more ∙ ap (sum_by (cost_of costs)) (take_more descents n (new_descent n) (omega (arith, long))) ∙ sum_by_push (cost_of costs) (take n descents) (get_or descents n (new_descent n))
      ∙ ap₂ (λ a w. a + cost_of costs w) earlier (new_at (suc n) long new n (omega arith) (new_descent n))
      ∙ sym (ap (λ k. sum (take k costs)) more ∙ ap sum (take_more costs n 0 (omega (arith, costed))) ∙ sum_by_push (λ x. x) (take n costs) (get_or costs n 0))

module _ {P : Type 0} (path : P → List Bool) (IsFitting : P → Type 0) (width : ℕ) (short : (p : P) → IsFitting p → length (path p) ≤ width) (v : Store Node) (prefixes : List P) (fit : All IsFitting prefixes) where
  -- no question is longer than the width
  all_short : (i : ℕ) (q : List Bool) → i < length (map path prefixes) → q ≡ get_or (map path prefixes) i q → length q ≤ width
  all_short i q inside is = subst (λ s. length s ≤ width) (sym is) (All-map (λ s. length s ≤ width) path prefixes (λ k d inside. short (get_or prefixes k d) (fit k d inside)) i q inside)

  new_is_descent : (i : ℕ) → i < length (map path prefixes) → IsDescent v (map path prefixes) 0 (new_descent i)
  new_is_descent i inside =
      let q = some_at (map path prefixes) i inside in
      record {
        question = q.0;
        is = q.1;
        inside = inside;
        along = record { whole = omega arith; node_is = refl; deepest = λ reading paths hold. deepest_root reading paths v (chunks_of q.0) hold };
        best = λ reading paths hold. (None, λ i from last within. absurd (omega (arith, last)), refl);
      }

  pub new_descents : (descents : List Descent) (n : ℕ) → n ≤ length descents → n ≤ length prefixes → EachOf IsNew n descents → All (IsDescent v (map path prefixes) 0) (take n descents)
  new_descents descents n long asked new i d inside =
      let within : i < n = omega (arith, inside, length-take-le n descents long) in
      subst (IsDescent v (map path prefixes) 0) (sym (get_or-take n descents i d within ∙ new_at descents n long new i within d)) (new_is_descent i (omega (arith, within, asked, length-map prefixes (path))))

  -- a descent is no deeper than its question is long
  pub level_fits : (level : ℕ) (descents : List Descent) (n : ℕ) → n ≤ length descents → All (IsDescent v (map path prefixes) level) (take n descents) → 0 < n → 5 * level ≤ width
  level_fits level descents n long all some =
      let is = all 0 (new_descent 0) (omega (arith, some, length-take-le n descents long)) in
      let within = all_short _ is.question is.inside is.is in
      let whole = is.along.whole in
      omega (arith, whole, within)

-- ---- from one round to the next

module _ (v : Store Node) (questions : List (List Bool)) (level : ℕ) (descents : List Descent) (n : ℕ) (long : n ≤ length descents)
    (all : All (IsDescent v questions level) (take n descents)) where
  -- the nodes ahead are in the array
  pub ahead_inside : SomeNodes v → All (λ w. slot_of w < length v.slots) (take n descents)
  ahead_inside s i d inside =
      let w : Descent = get_or (take n descents) i d in
      let is = all i d inside in
      deepest_in s.reading s.paths v (chunks_of is.question) level (slot_of w) s.hold (is.along.deepest s.reading s.paths s.hold)

  pub are_read : SomeNodes v → (read : List Node) → EachOf (IsAhead v.slots descents) n read → AreRead v questions level (take n descents) read
  are_read s read each = record {
    sound = s;
    descents_are = all;
    nodes_are = λ i x inside is w w_is.
        let within : i < n = omega (arith, inside, length-take-le n descents long) in
        each i x within is w (w_is ∙ get_or-take n descents i w within);
  }

-- the sums before the first round, from one to the next, and after the last
pub sums_first : (C S Z n : ℕ) → S ≡ Z → C + S ≡ C + Z + n * 0
sums_first C S Z n e = let none = mul-zero n in omega (arith, e, none)

pub sums_last : (C Z level : ℕ) → C + 0 ≡ Z + 0 * level → C ≡ Z
sums_last C Z level e = let none = zero-mul level in omega (arith, e, none)

sums_next : (C C' S S' Z L l A B : ℕ) → C + S ≡ Z + L → C' ≡ C + l → S + A ≡ S' + B → B ≡ L + l → C' + S' ≡ Z + A
sums_next C C' S S' Z L l A B e c s b = omega (arith, e, c, s, b)

module _ (v : Store Node) (questions : List (List Bool)) (level : ℕ) (descents next : List Descent) (before after : List (Option Found))
    (go : GoOn v questions level descents next before after) where
  pub matched_next : HaveMatches v questions (map question_of descents) before → HaveMatches v questions (map question_of next) after
  matched_next h =
      subst (λ l. HaveMatches v questions l after) (append-nil (map question_of next))
      (go.matched [] (subst (λ l. HaveMatches v questions l before) (sym (append-nil (map question_of descents))) h))

  pub counted_next : (costs : List ℕ) → AreCosts v questions costs → (l k count later start : ℕ) → length descents ≡ l → length next ≡ k
      → count + sum_by (cost_of costs) descents ≡ start + l * level → later ≡ count + l → later + sum_by (cost_of costs) next ≡ start + k * (level + 1)
  counted_next costs are l k count later start descents_long next_long so_far read =
      sums_next count later (sum_by (cost_of costs) descents) (sum_by (cost_of costs) next) start (l * level) l (k * (level + 1)) (l * (level + 1)) so_far read
      (subst (λ n. sum_by (cost_of costs) descents + n * (level + 1) ≡ sum_by (cost_of costs) next + l * (level + 1)) next_long
      (subst (λ n. sum_by (cost_of costs) descents + length next * (level + 1) ≡ sum_by (cost_of costs) next + n * (level + 1)) descents_long (go.counted costs are)))
      (mul-add l level 1 ∙ ap (λ n. l * level + n) (mul-one l))

-- ---- after the last

module _ (v : Store Node) (reading : List ℕ → Option Node) (paths : List (List ℕ)) (hold : NodesHold node_sizes reading paths v) where
  -- the node of the array at each path
  reading_is : read v.slots ≡ reading
  reading_is = λ i p. reads node_sizes reading paths v hold p i
      -- a question without a descent has its result

  pub are_matches_found : (questions : List (List Bool)) (found : List (Option Found)) → HaveMatches v questions [] found → AreMatchesFound v.slots questions found
  are_matches_found questions found matched i q a inside q_is a_is = elim (matched i q a inside q_is a_is) as (λ _. IsMatchFound v.slots q a) [
    | inl none ↦ absurd (omega (arith, none.1))
    | inr has ↦ subst (λ r. IsLongestFound r q (length q + 1) a) (sym reading_is) (has reading paths hold)
  ]

  pub answer_is : (q : List Bool) (a : Option Found) → IsMatchFound v.slots q a → IsLongestFound reading q (length q + 1) a
  answer_is q a is = subst (λ r. IsLongestFound r q (length q + 1) a) reading_is is

module _ {T : Type 0} (v : Store Node) (w : Store (Option T)) (t : SomeTable v w) (s : State T) (shaped : IsShapeOf v.slots w.slots s) where
  -- a question costs the nodes on its search path
  pub costs_are : (questions : List (List Bool)) → AreCosts v questions (map (λ q. visits s.nodes q) questions)
  costs_are questions i q inside is reading paths level hold end =
      let same : reading ≡ t.reading = sym (reading_is v reading paths hold) ∙ reading_is v t.reading t.paths t.holds.hold in
      get_or-map (λ x. visits s.nodes x) questions i q 0 inside ∙ ap (λ x. visits s.nodes x) (sym is)
      ∙ visits_counted t.reading t.paths v t.holds.hold s.nodes (shape_nodes t.reading t.values t.paths v w t.holds s shaped) q level
      (subst (λ r. IsEnd r (chunks_of q) level) same end)

-- the sum over the questions for prefixes is that over their paths
pub costs_sum : {P : Type 0} (nodes : Nodes) (path : P → List Bool) (prefixes : List P) → sum (map (λ q. visits nodes q) (map path prefixes)) ≡ sum_by (λ p. visits nodes (path p)) prefixes
costs_sum nodes path prefixes = ap sum (map-map (λ q. visits nodes q) path prefixes) ∙ sum-map (λ p. visits nodes (path p)) prefixes

-- a match that is kept, and what there is if none is
abbrev kept_or : Found → Option Found → Found
kept_or f None = f
kept_or f (Some found) = found

pub found_some : (reading : List ℕ → Option Node) (s : List Bool) (n : ℕ) (f : Found) → IsLongestFound reading s n (Some f)
    → (m : Match) × (f ≡ found_of m) × IsHeld reading s m.len m.bit m.node × NoneHeld reading s (m.len + 1) n
found_some reading s n f (None, held, is) = absurd (false≢true (sym (ap is_some is)))
found_some reading s n f (Some m, held, is) = (m, ap (kept_or f) is, held.0, held.1)

pub found_none : (reading : List ℕ → Option Node) (s : List Bool) (n : ℕ) → IsLongestFound reading s n None → NoneHeld reading s 0 n
found_none reading s n (None, held, is) = held
found_none reading s n (Some m, held, is) = absurd (false≢true (ap is_some is))
