-- Lookups that descend side by side, round by round: for `find_longest_each`.
use Rattle.prefix_trie_table.proofs.Prelude.{◌≡◌, ℕ, ◌+◌, ◌*◌, ◌<◌, ◌≤◌, ◌⊎◌, inl, inr, Bool, List, [], ◌∷◌, ◌++◌, Option, None, Some, IfSome, MatchOption, Contains, option_map, map, take, drop, length, length-drop, get_or, set, sum_by, refl, sym, ap, ◌∙◌, subst, arith, option_or, add-mul, one-mul, cases_eq, length-map, map-append, length_push, take_more, take_more_set, get_or_default, get_or-map, get_or-drop, get_or-take, get_or-set_other, All-nil, All-push, Contains-append_cases, Contains-append_left, Contains-append_right, Contains-push_cases, sum_by_push, Node, Found, Descent, Match, HaveMatches, AreRead, GoOn, HasFound, cost_of, found_of, question_of, reached_by, slot_of, node_at, chunks_of, IsEnd, SomeNodes, Reached, IsAlong, IsLast, LongestHeld, Store}
use Rattle.std.proofs.lemmas.List.{append_assoc, length-take-le, drop-drop, get_or-set_same}
use Rattle.prefix_trie_table.specs.Bulk.{IsDescent}
use Rattle.prefix_trie_table.proofs.Lookup.NodeMatches.{best_now, best_at_last}

-- a match has a value bit
pub match_few : (reading : List ℕ → Option Node) (s : List Bool) (a b : ℕ) (o : Option Match) → LongestHeld reading s a b o → IfSome o (λ m. m.bit < 31)
match_few reading s a b None held = tt
match_few reading s a b (Some m) held = held.0.small

-- what is found in a node is longer than what was found above it
longer_is : (o m : Option Match) (above result : Option Found) → above ≡ option_map found_of m → MatchOption o (result ≡ above) (λ n. result ≡ Some (found_of n))
    → result ≡ option_map found_of (option_or o m)
longer_is None m above result is found = found ∙ is
longer_is (Some n) m above result is found = found

module _ (q : List Bool) (here : Reached) (v : Store Node) where
  pub found_now : IsAlong q here v → (above result : Option Found) (in_node : Option Match) → HasFound v q (5 * here.level) above
      → ((nodes : List ℕ → Option Node) → nodes (take here.level (chunks_of q)) ≡ Some here.node → LongestHeld nodes q (5 * here.level) (5 * here.level + 5) in_node)
      → MatchOption in_node (result ≡ above) (λ m. result ≡ Some (found_of m)) → HasFound v q (5 * here.level + 5) result
  found_now at above result in_node so_far found is reading paths hold =
      let was = so_far reading paths hold in
      (option_or in_node was.0, best_now q here v at reading paths hold was.0 in_node (option_or in_node was.0) was.1 found refl, longer_is in_node was.0 above result was.2 is)

  -- at the end of the descent it is the result
  pub found_end : IsLast q here v → (found : Option Found) → HasFound v q (5 * here.level + 5) found → HasFound v q (length q + 1) found
  found_end at found has reading paths hold =
      let so_far = has reading paths hold in (so_far.0, best_at_last q here v at reading paths hold so_far.0 so_far.1, so_far.2)

-- the question for a prefix is at its index among the questions
pub question_at : {P : Type 0} (path : P → List Bool) (prefixes : List P) (i : ℕ) → i < length prefixes → (p : P) → p ≡ get_or prefixes i p → (q : List Bool) → q ≡ path p
    → q ≡ get_or (map path prefixes) i q
question_at path prefixes i inside p p_is q is = is ∙ ap (path) p_is ∙ sym (get_or-map (path) prefixes i p q inside)

-- ---- one round

-- the sums of a round if one more descent goes on, and if one more ends
sums_on : (S S' T T' A A' B B' c m : ℕ) → S + A ≡ T + B → S' ≡ S + c → T' ≡ T + c → A' ≡ A + m → B' ≡ B + m → S' + A' ≡ T' + B'
sums_on S S' T T' A A' B B' c m e s t a b = omega (arith, e, s, t, a, b)

sums_end : (S S' T A B B' c m : ℕ) → S + A ≡ T + B → S' ≡ S + c → c ≡ m → B' ≡ B + m → S' + A ≡ T + B'
sums_end S S' T A B B' c m e s is b = omega (arith, e, s, is, b)

pushed_times : {X : Type 0} (xs : List X) (x : X) (m : ℕ) → length (xs ++ x ∷ []) * m ≡ length xs * m + m
pushed_times xs x m = ap (λ n. n * m) (length_push xs x) ∙ add-mul (length xs) 1 m ∙ ap (λ n. length xs * m + n) (one-mul m)

-- a list without one of its items has the others
without : (xs ys : List ℕ) (k i : ℕ) → (i ≡ k → ⊥) → Contains (xs ++ (k ∷ ys)) i → Contains (xs ++ ys) i
without xs ys k i other has = elim (Contains-append_cases xs (k ∷ ys) i has) as (λ _. Contains (xs ++ ys) i) [
  | inl h ↦ Contains-append_left xs ys i h
  | inr h ↦ elim (Contains-append_cases (k ∷ []) ys i h) as (λ _. Contains (xs ++ ys) i) [
    | inl e ↦ elim (Contains-push_cases [] k i e) as (λ _. Contains (xs ++ ys) i) [
      | inl none ↦ absurd (omega (arith, none.1))
      | inr same ↦ absurd (other (sym same))
    ]
    | inr e ↦ Contains-append_right xs ys i e
  ]
]

-- the indexes of the questions of these descents, if one is the last or the first of the others
numbers_push : (ws : List Descent) (w : Descent) (others : List ℕ) → map question_of (ws ++ w ∷ []) ++ others ≡ map question_of ws ++ (w.question ∷ others)
numbers_push ws w others = ap (λ l. l ++ others) (map-append question_of ws (w ∷ [])) ∙ append_assoc (map question_of ws) (w.question ∷ []) others

module _ (v : Store Node) (questions : List (List Bool)) where
  -- a question is the one at its place, whatever a read gives past the end
  pub same_question : (i : ℕ) (q r : List Bool) → i < length questions → q ≡ get_or questions i q → r ≡ get_or questions i r → r ≡ q
  same_question i q r inside q_is r_is = r_is ∙ get_or_default questions i r q inside ∙ sym q_is

  module _ (level : ℕ) where
    pub descent_on : (w : Descent) (is : IsDescent v questions level w) (q : List Bool) → q ≡ get_or questions w.question q
        → IsAlong q (reached_by w (node_at v.slots (slot_of w)) level) v
    descent_on w is q q_is =
        subst (λ x. IsAlong x (reached_by w (node_at v.slots (slot_of w)) level) v) (sym (same_question w.question is.question q is.inside is.is q_is)) is.along

    pub descent_best : (w : Descent) (is : IsDescent v questions level w) (q : List Bool) → q ≡ get_or questions w.question q → HasFound v q (5 * level) w.best
    descent_best w is q q_is =
        subst (λ x. HasFound v x (5 * level) w.best) (sym (same_question w.question is.question q is.inside is.is q_is)) is.best

    module _ (before : List (Option Found)) where
      pub go_on_none : GoOn v questions level [] [] before before
      go_on_none = record { descents_are = All-nil (IsDescent v questions (level + 1)); matched = λ others h. h; counted = λ costs are. refl }

      module _ (ws next : List Descent) (after : List (Option Found)) (go : GoOn v questions level ws next before after) (w : Descent) where
        matched_push : (others : List ℕ) → HaveMatches v questions (map question_of (ws ++ w ∷ []) ++ others) before
            → HaveMatches v questions (map question_of next ++ (w.question ∷ others)) after
        matched_push others h = go.matched (w.question ∷ others) (subst (λ l. HaveMatches v questions l before) (numbers_push ws w others) h)

        -- one more descent goes on
        pub go_on_more : (y : Descent) → y.question ≡ w.question → IsDescent v questions (level + 1) y → GoOn v questions level (ws ++ w ∷ []) (next ++ y ∷ []) before after
        go_on_more y same is = record {
          descents_are = All-push (IsDescent v questions (level + 1)) next y go.descents_are is;
          matched = λ others h.
              subst (λ l. HaveMatches v questions l after) (ap (λ n. map question_of next ++ (n ∷ others)) (sym same) ∙ sym (numbers_push next y others)) (matched_push others h);
          counted = λ costs are.
              sums_on _ _ _ _ _ _ _ _ (cost_of costs w) (level + 1) (go.counted costs are) (sum_by_push (cost_of costs) ws w)
              (sum_by_push (cost_of costs) next y ∙ ap (λ n. sum_by (cost_of costs) next + get_or costs n 0) same) (pushed_times next y (level + 1)) (pushed_times ws w (level + 1));
        }

        -- one more is at its end, and its question has its result
        pub go_on_end : (q : List Bool) (best : Option Found) → w.question < length questions → length after ≡ length questions → q ≡ get_or questions w.question q
            → HasFound v q (length q + 1) best → (n : SomeNodes v) → IsEnd n.reading (chunks_of q) level
            → GoOn v questions level (ws ++ w ∷ []) next before (set after w.question best)
        go_on_end q best inside long is found n end = record {
          descents_are = go.descents_are;
          matched = λ others h i r a within r_is a_is.
              elim (cases_eq i w.question) as (λ _. Contains (map question_of next ++ others) i ⊎ HasFound v r (length r + 1) a) [
                | inl e ↦
                    let r_same : r ≡ q = same_question w.question q r inside is (r_is ∙ ap (λ k. get_or questions k r) e) in
                    let a_same : a ≡ best = a_is ∙ ap (λ k. get_or (set after w.question best) k a) e ∙ get_or-set_same after w.question best a (omega (arith, inside, long)) in
                    inr (subst (λ x. HasFound v r (length r + 1) x) (sym a_same) (subst (λ x. HasFound v x (length x + 1) best) (sym r_same) found))
                | inr other ↦
                    elim (matched_push others h i r a within r_is (a_is ∙ get_or-set_other after w.question i best a other)) as (λ _. Contains (map question_of next ++ others) i ⊎ HasFound v r (length r + 1) a) [
                      | inl has ↦ inl (without (map question_of next) others w.question i other has)
                      | inr has ↦ inr has
                    ]
              ];
          counted = λ costs are.
              sums_end _ _ _ _ _ _ (cost_of costs w) (level + 1) (go.counted costs are) (sum_by_push (cost_of costs) ws w)
              (are w.question q inside is n.reading n.paths level n.hold end) (pushed_times ws w (level + 1));
        }

    -- a descent of this round, after those before it were looked at
    module _ (descents : List Descent) (count : ℕ) (read : List Node) (long : count ≤ length descents) (given : AreRead v questions level (take count descents) read)
        (now : List Descent) (j : ℕ) (same : drop j now ≡ drop j descents) (inside : j < count) where
      now_at : (d : Descent) → get_or now j d ≡ get_or descents j d
      now_at d =
          let at : j + 0 ≡ j = omega arith in
          ap (λ i. get_or now i d) (sym at) ∙ sym (get_or-drop j now 0 d) ∙ ap (λ l. get_or l 0 d) same ∙ get_or-drop j descents 0 d ∙ ap (λ i. get_or descents i d) at

      inside_taken : j < length (take count descents)
      inside_taken = omega (arith, inside, length-take-le count descents long)

      pub descent_is : (d : Descent) → IsDescent v questions level (get_or now j d)
      descent_is d = subst (IsDescent v questions level) (get_or-take count descents j d inside ∙ sym (now_at d)) (given.descents_are j d inside_taken)

      node_is : (d : Descent) (n : Node) → n ≡ get_or read j n → n ≡ node_at v.slots (slot_of (get_or now j d))
      node_is d n is =
          let w : Descent = get_or now j d in
          given.nodes_are j n inside_taken is w (sym (get_or-take count descents j w inside ∙ sym (now_at w) ∙ get_or_default now j w d (omega (arith, inside, now_long))))
        where
          now_long : j < length now
          now_long =
              let a = length-drop j now in
              let b = length-drop j descents in
              let c = ap length same in
              omega (arith, a, b, c, inside, long)

      -- the node that was read for it is on the search path
      pub read_on : (d : Descent) (e : Node) → j < length read → (q : List Bool) → q ≡ get_or questions (get_or now j d).question q
          → IsAlong q (reached_by (get_or now j d) (get_or read j e) level) v
      read_on d e long_read q q_is =
          subst (λ n. IsAlong q (reached_by (get_or now j d) n level) v) (sym (node_is d (get_or read j e) (get_or_default read j e (get_or read j e) long_read)))
          (descent_on (get_or now j d) (descent_is d) q q_is)

      one_more : (d : Descent) → take (j + 1) descents ≡ take j descents ++ get_or now j d ∷ []
      one_more d = take_more descents j d (omega (arith, inside, long)) ∙ ap (λ w. take j descents ++ w ∷ []) (sym (now_at d))

      -- the descent one node further
      pub descent_next : (d : Descent) (q : List Bool) → q ≡ get_or questions (get_or now j d).question q → (at : ℕ) (best : Option Found)
          → IsAlong q (record { at = at; node = node_at v.slots at; level = level + 1 }) v → HasFound v q (5 * level + 5) best
          → IsDescent v questions (level + 1) (record { question = (get_or now j d).question; at = at; best = best })
      descent_next d q is at best along has = record {
        question = q;
        is = is;
        inside = (descent_is d).inside;
        along = along;
        best = let deeper : 5 * level + 5 ≡ 5 * (level + 1) = omega arith in subst (λ n. HasFound v q n best) deeper has;
      }

      pub rest_more : drop (j + 1) now ≡ drop (j + 1) descents
      rest_more = sym (drop-drop 1 j now) ∙ ap (λ l. drop 1 l) same ∙ drop-drop 1 j descents

      module _ (kept : ℕ) (before after : List (Option Found)) (go : GoOn v questions level (take j descents) (take kept now) before after) (d : Descent) where
        -- it goes on
        pub round_on : (later : List Descent) (kept_later : ℕ) (found : List (Option Found)) → kept < length now → kept_later ≡ kept + 1 → (y : Descent) → later ≡ set now kept y
            → found ≡ after → y.question ≡ (get_or now j d).question → IsDescent v questions (level + 1) y
            → GoOn v questions level (take (j + 1) descents) (take kept_later later) before found
        round_on later kept_later found space more y put same_found same_question is =
            subst (λ l. GoOn v questions level l (take kept_later later) before found) (sym (one_more d))
            (subst (λ l. GoOn v questions level (take j descents ++ get_or now j d ∷ []) l before found) (sym (ap (λ n. take n later) more ∙ ap (take (kept + 1)) put ∙ take_more_set now kept y space))
            (subst (λ f. GoOn v questions level (take j descents ++ get_or now j d ∷ []) (take kept now ++ y ∷ []) before f) (sym same_found)
            (go_on_more before (take j descents) (take kept now) after go (get_or now j d) y same_question is)))

        -- it is at its end
        pub round_end : (later : List Descent) (kept_later : ℕ) (found : List (Option Found)) → kept_later ≡ kept → later ≡ now → (best : Option Found)
            → found ≡ set after (get_or now j d).question best → length after ≡ length questions → (q : List Bool) → q ≡ get_or questions (get_or now j d).question q
            → HasFound v q (length q + 1) best → ((n : SomeNodes v) → IsEnd n.reading (chunks_of q) level)
            → GoOn v questions level (take (j + 1) descents) (take kept_later later) before found
        round_end later kept_later found same_kept same_descents best put long q is has end =
            subst (λ l. GoOn v questions level l (take kept_later later) before found) (sym (one_more d))
            (subst (λ l. GoOn v questions level (take j descents ++ get_or now j d ∷ []) l before found) (sym (ap (λ n. take n later) same_kept ∙ ap (take kept) same_descents))
            (subst (λ f. GoOn v questions level (take j descents ++ get_or now j d ∷ []) (take kept now) before f) (sym put)
            (go_on_end before (take j descents) (take kept now) after go (get_or now j d) q best (descent_is d).inside long is has given.sound (end given.sound))))

-- the question of a descent of a round is one of those for the prefixes
pub descent_inside : {P : Type 0} (v : Store Node) (path : P → List Bool) (prefixes : List P) (level : ℕ) (descents : List Descent) (count : ℕ) (read : List Node) (long : count ≤ length descents)
    → AreRead v (map path prefixes) level (take count descents) read → (now : List Descent) (j : ℕ) → drop j now ≡ drop j descents → j < count → (d : Descent) → (get_or now j d).question < length prefixes
descent_inside v path prefixes level descents count read long given now j same inside d =
    let is = (descent_is v (map path prefixes) level descents count read long given now j same inside d).inside in
    omega (arith, is, length-map prefixes (path))
