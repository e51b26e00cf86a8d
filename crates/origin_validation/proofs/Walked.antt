-- The walk over the paths that cover a route, and the state that it leaves: for `Vrps::validate`.
use Rattle.std.proofs.Common.{◌≡◌, inl, inr, ℕ, ◌<◌, Bool, true, List, [], ◌∷◌, ◌++◌, Contains, Option, None, Some, is_some, length, map, slice_get, refl, sym, subst, ap, ◌∙◌, arith}
use Rattle.std.proofs.lemmas.List.{append-nil, append_assoc}
use Rattle.std.proofs.lemmas.List.Elements.{Contains-append_right, Contains-push_cases}
use Rattle.std.proofs.lemmas.Option.{get_or_from_slice_get, slice_get-get_or, slice_get_within}
use Rattle.std.specs.FinMap.{get}
use Rattle.prefix_trie.specs.Terms.{begins, covers, Entries, IsLongestMatch, IsMatch}
use Rattle.prefix_trie_bits.specs.Laws.Matches.{MatchLaws}
use Rattle.prefix_trie_joint.specs.Networks.{ip_path}
use Rattle.prefix_trie_joint.specs.declared.prefix.IpPrefix.{IpPrefix}
use Rattle.origin_validation.specs.Chains.{AreIndexed, IsLatest, NoneMatchesFrom, paths_of}
use Rattle.origin_validation.specs.Validation.{Covers, MakesInvalid}
use Rattle.origin_validation.specs.declared.vrp.Vrp.{Vrp}
use Rattle.origin_validation.proofs.Latest.{path_at}
use Rattle.origin_validation.proofs.Lengths.{length_is}

-- the last value of the entries that were passed, if any was
abbrev pub IsLastOf : List (List Bool × ℕ) → Option ℕ → Type 0
IsLastOf front None = front ≡ []
IsLastOf front (Some i) = (before : List (List Bool × ℕ)) × (e : List Bool × ℕ) × (front ≡ before ++ e ∷ []) × (e.1 ≡ i)

module _ (vrps : List Vrp) (m : Entries ℕ) (route : IpPrefix) (origin : Option ℕ) where
  -- no VRP matches whose path was passed in the walk, and these values are left
  pub record HasWalked (left : List ℕ) (longest : Option ℕ) : Type 0 where
    pub front : List (List Bool × ℕ)
    pub back : List (List Bool × ℕ)
    pub split : covers m (ip_path route) ≡ front ++ back
    pub left_is : left ≡ map (λ e. e.1) back
    pub none : (e : List Bool × ℕ) → Contains front e → NoneMatchesFrom 0 vrps e.0 route origin
    pub longest_is : IsLastOf front longest

  pub begins_walk : (left : List ℕ) → left ≡ map (λ e. e.1) (covers m (ip_path route)) → HasWalked left None
  begins_walk left is = record {
    front = [];
    back = covers m (ip_path route);
    split = refl;
    left_is = is;
    none = λ e has. absurd (omega (arith, has.1));
    longest_is = refl;
  }

  module _ (laws : MatchLaws ℕ) where
    match_of : (front back : List (List Bool × ℕ)) (e : List Bool × ℕ) → covers m (ip_path route) ≡ front ++ e ∷ back → IsMatch m (ip_path route) e
    match_of front back e split =
        (laws.are_matches m (ip_path route) e).0
        (subst (λ es. Contains es e) (sym split) (Contains-append_right front (e ∷ back) e (0, omega arith, refl)))

    -- the next value is that of a match
    next_match : (left : List ℕ) (longest : Option ℕ) (x : ℕ) (rest : List ℕ) → left ≡ x ∷ rest → (w : HasWalked left longest)
        → (e : List Bool × ℕ) × (back : List (List Bool × ℕ)) × (w.back ≡ e ∷ back) × (e.1 ≡ x) × (rest ≡ map (λ e. e.1) back) × IsMatch m (ip_path route) e
    next_match left longest x rest is w = of_back w.back refl
      where
        of_back : (back : List (List Bool × ℕ)) → w.back ≡ back
            → (e : List Bool × ℕ) × (rest' : List (List Bool × ℕ)) × (w.back ≡ e ∷ rest') × (e.1 ≡ x) × (rest ≡ map (λ e. e.1) rest') × IsMatch m (ip_path route) e
        of_back [] none =
            let empty : x ∷ rest ≡ [] = sym is ∙ w.left_is ∙ ap (map (λ (e : List Bool × ℕ). e.1)) none in cc
        of_back (e ∷ es) some =
            let same : x ∷ rest ≡ e.1 ∷ map (λ e. e.1) es = sym is ∙ w.left_is ∙ ap (map (λ (e : List Bool × ℕ). e.1)) some in
            let value : e.1 ≡ x = cc in
            let values : rest ≡ map (λ e. e.1) es = cc in
            (e, es, some, value, values, match_of w.front es e (w.split ∙ ap (λ b. w.front ++ b) some))

    -- a value is that of a match, and so the last index of its path
    pub next_latest : (older : List (Option ℕ)) (left : List ℕ) (longest : Option ℕ) (x : ℕ) (rest : List ℕ) → left ≡ x ∷ rest → AreIndexed (length vrps) vrps older m
        → HasWalked left longest → (q : List Bool) × IsLatest (paths_of vrps) (length vrps) q (Some x)
    next_latest older left longest x rest is index w =
        let next = next_match left longest x rest is w in
        let e = next.0 in
        (e.0, subst (IsLatest (paths_of vrps) (length vrps) e.0) (next.5.stored ∙ ap Some next.3) (index.latest_are e.0))

    -- the walk goes on after a path of which no VRP matches
    pub goes_on_walk : (older : List (Option ℕ)) (left : List ℕ) (longest : Option ℕ) (x : ℕ) (rest : List ℕ) → left ≡ x ∷ rest → AreIndexed (length vrps) vrps older m
        → ((q : List Bool) → IsLatest (paths_of vrps) (length vrps) q (Some x) → NoneMatchesFrom 0 vrps q route origin) → HasWalked left longest → HasWalked rest (Some x)
    goes_on_walk older left longest x rest is index fails w =
        let next = next_match left longest x rest is w in
        let e = next.0 in
        let last : IsLatest (paths_of vrps) (length vrps) e.0 (Some x) = subst (IsLatest (paths_of vrps) (length vrps) e.0) (next.5.stored ∙ ap Some next.3) (index.latest_are e.0) in
        record {
          front = w.front ++ e ∷ [];
          back = next.1;
          split = w.split ∙ ap (λ b. w.front ++ b) next.2 ∙ sym (append_assoc w.front (e ∷ []) next.1);
          left_is = next.4;
          none = λ d has. elim (Contains-push_cases w.front e d has) [
            | inl old ↦ w.none d old
            | inr new ↦ subst (λ (y : List Bool × ℕ). NoneMatchesFrom 0 vrps y.0 route origin) new (fails e.0 last)
          ];
          longest_is = (w.front, e, refl, next.3);
        }

    -- all paths were passed
    all_passed : (left : List ℕ) (longest : Option ℕ) → left ≡ [] → (w : HasWalked left longest) → covers m (ip_path route) ≡ w.front
    all_passed left longest end w = w.split ∙ ap (λ b. w.front ++ b) (nothing_left w.back (sym w.left_is ∙ end)) ∙ append-nil w.front
      where
        nothing_left : (back : List (List Bool × ℕ)) → map (λ e. e.1) back ≡ [] → back ≡ []
        nothing_left [] e = refl
        nothing_left (y ∷ back) e = cc

    -- the path of each VRP that covers the route is one of those
    cover_of : (older : List (Option ℕ)) → AreIndexed (length vrps) vrps older m → (vrp : Vrp) → Contains vrps vrp → Covers vrp route → (i : ℕ) × Contains (covers m (ip_path route)) (ip_path vrp.prefix, i)
    cover_of older index vrp (j, less, is) over = of_last (get m (ip_path vrp.prefix)) refl
      where
        here : slice_get (paths_of vrps) j ≡ Some (ip_path vrp.prefix)
        here = path_at vrps j vrp (slice_get-get_or vrps j vrp less ∙ ap Some is)

        of_last : (o : Option ℕ) → get m (ip_path vrp.prefix) ≡ o → (i : ℕ) × Contains (covers m (ip_path route)) (ip_path vrp.prefix, i)
        of_last None none = absurd (subst (IsLatest (paths_of vrps) (length vrps) (ip_path vrp.prefix)) none (index.latest_are (ip_path vrp.prefix)) j less here)
        of_last (Some i) some = (i, (laws.are_matches m (ip_path route) (ip_path vrp.prefix, i)).1 (record { stored = some; begins_it = over }))

    -- no VRP covers the route if no path was passed
    pub none_covers : (older : List (Option ℕ)) (left : List ℕ) → left ≡ [] → AreIndexed (length vrps) vrps older m → HasWalked left None
        → (vrp : Vrp) → Contains vrps vrp → ¬ (Covers vrp route)
    none_covers older left end index w vrp has over =
        let cover = cover_of older index vrp has over in
        let nowhere = subst (λ es. Contains es (ip_path vrp.prefix, cover.0)) (all_passed left None end w ∙ w.longest_is) cover.1 in
        omega (arith, nowhere.1)

    -- the last path that was passed is the longest
    longest_of : (older : List (Option ℕ)) (left : List ℕ) (i : ℕ) → left ≡ [] → (w : HasWalked left (Some i)) → (e : List Bool × ℕ) × (e.1 ≡ i) × IsLongestMatch m (ip_path route) e
    longest_of older left i end w =
        let last = w.longest_is in
        (last.1, last.3, laws.last_cover m (ip_path route) last.0 last.1 (all_passed left (Some i) end w ∙ last.2))

    -- its last VRP is in the list
    pub longest_within : (older : List (Option ℕ)) (left : List ℕ) (i : ℕ) → left ≡ [] → AreIndexed (length vrps) vrps older m → HasWalked left (Some i)
        → (q : List Bool) × IsLatest (paths_of vrps) (length vrps) q (Some i)
    longest_within older left i end index w =
        let found = longest_of older left i end w in
        let e = found.0 in
        (e.0, subst (IsLatest (paths_of vrps) (length vrps) e.0) (found.2.matches.stored ∙ ap Some found.1) (index.latest_are e.0))

    -- and makes the route invalid
    pub makes_invalid : (older : List (Option ℕ)) (left : List ℕ) (i : ℕ) (vrp : Vrp) → left ≡ [] → AreIndexed (length vrps) vrps older m → HasWalked left (Some i)
        → slice_get vrps i ≡ Some vrp → MakesInvalid vrps route origin vrp
    makes_invalid older left i vrp end index w here = record {
      listed = (i, less, get_or_from_slice_get vrps i vrp vrp here);
      covers = subst (λ s. begins s (ip_path route) ≡ true) (sym path) found.2.matches.begins_it;
      longest = λ other has over.
          let cover = cover_of older index other has over in
          let stored = ((laws.are_matches m (ip_path route) (ip_path other.prefix, cover.0)).0 cover.1).stored in
          let at_most = found.2.longest (ip_path other.prefix) (ap is_some stored) over in
          let other_fits = index.fitting has.0 other has.1 (slice_get-get_or vrps has.0 other has.1 ∙ ap Some has.2) in
          let one = length_is other.prefix other_fits in
          let two = length_is vrp.prefix (index.fitting i vrp less here) in
          omega (arith, at_most, one, two, ap length path);
      no_match = λ other has matches.
          let cover = cover_of older index other has matches.covers in
          let passed = subst (λ es. Contains es (ip_path other.prefix, cover.0)) (all_passed left (Some i) end w) cover.1 in
          w.none (ip_path other.prefix, cover.0) passed has.0 other (omega arith) (slice_get-get_or vrps has.0 other has.1 ∙ ap Some has.2) refl matches;
    }
      where
        found : (e : List Bool × ℕ) × (e.1 ≡ i) × IsLongestMatch m (ip_path route) e
        found = longest_of older left i end w

        less : i < length vrps
        less = slice_get_within vrps i vrp here

        last : IsLatest (paths_of vrps) (length vrps) found.0.0 (Some i)
        last = subst (IsLatest (paths_of vrps) (length vrps) found.0.0) (found.2.matches.stored ∙ ap Some found.1) (index.latest_are found.0.0)

        path : ip_path vrp.prefix ≡ found.0.0
        path = cc (last.1, path_at vrps i vrp here)
