-- A walk over a set that remembers the uppermost prefix above the last key read, and what it leaves of the set: for
-- `aggregate_consistent` of sets.
use Rattle.std.proofs.Common.{◌≡◌, ◌∙◌, ◌-◌, ◌++◌, not, eqb, Bool, true, false, true≢false, cond, List, [], ◌∷◌, length, take, map, filter, Option, Some, None, is_some, ap, sym, subst, refl, append_assoc}
use Rattle.std.specs.List.{Contains}
use Rattle.std.specs.Option.{option_map}
use Rattle.std.specs.FinMap.{get, contains_key, get-retain_keys, same_entries_map}
use Rattle.prefix_trie_bits.specs.Begins.{begins-linear, begins-trans}
use Rattle.prefix_trie_bits.specs.Laws.Matches.{MatchLaws}
use Rattle.prefix_trie_bits.specs.Order.{listing_same}
use Rattle.prefix_trie_bits.proofs.Model.SortedListings.{entries-retained}
use Rattle.prefix_trie.specs.Laws.Lookups.{LookupLaws}
use Rattle.prefix_trie.specs.Terms.{Entries, begins, covers, first_item, last_item, listing, shortest_match}
use Rattle.prefix_trie_ops.specs.Covered.{contains_path, is_below_another, is_uppermost, without_covered}
use Rattle.prefix_trie_ops.specs.Values.{are_equal, is_redundant, value_above}
use Rattle.prefix_trie_ops.proofs.Covers.{covers_none, covers_of, covers_push, covers_shorter, next_covers, shorter_covers}
use Rattle.prefix_trie_ops.proofs.Lists.{contains_middle, filter_agrees, filter_none, head_of, tail_of, last_pushed, map_push}
use Rattle.prefix_trie_ops.proofs.RedundantEntries.{none_left, same_values}
use Rattle.prefix_trie_ops.proofs.SmallestSets as sets
use Rattle.prefix_trie_ops.proofs.SmallestSets.{below_is_above, covered_is_value}

module _ {T' : Type 0} where
  -- an entry if its key begins the string, or none
  abbrev pub if_begins : List Bool → Option (List Bool × T') → Option (List Bool × T')
  if_begins q None = None
  if_begins q (Some e) = cond (begins e.0 q) (Some e) None

  -- the first cover begins the other covers
  first_begins : MatchLaws T' → (m : Entries T') (q : List Bool) (head : List Bool × T') (rest : List (List Bool × T')) → covers m q ≡ head ∷ rest
      → (e : List Bool × T') → Contains (covers m q) e → begins head.0 e.0 ≡ true
  first_begins laws m q head rest split e at =
      let first = laws.first_cover m q head rest split in
      let here = (laws.are_matches m q e).0 at in
      begins-linear head.0 e.0 q first.matches.begins_it here.begins_it (first.shortest e.0 (ap is_some here.stored) here.begins_it)

  -- so the first cover alone decides whether some cover begins another string
  first_next : MatchLaws T' → (m : Entries T') (x y : List Bool) (head : List Bool × T') (rest : List (List Bool × T')) → covers m x ≡ head ∷ rest
      → first_item (filter (λ e. begins e.0 y) (covers m x)) ≡ if_begins y (Some head)
  first_next laws m x y head rest split =
      elim (begins head.0 y) as (λ b. begins head.0 y ≡ b → first_item (filter (λ e. begins e.0 y) (covers m x)) ≡ cond b (Some head) None) [
        | true ↦ λ h.
            ap (λ es. first_item (filter (λ e. begins e.0 y) es)) split
            ∙ ap (λ b. first_item (cond b (head ∷ filter (λ e. begins e.0 y) rest) (filter (λ e. begins e.0 y) rest))) h
        | false ↦ λ h. ap first_item (filter_agrees (λ e. begins e.0 y) (λ _. false) (covers m x) (λ e at. no_other e at h) ∙ filter_none (covers m x))
      ] refl
    where
      no_other : (e : List Bool × T') → Contains (covers m x) e → begins head.0 y ≡ false → begins e.0 y ≡ false
      no_other e at h = elim (begins e.0 y) as (λ b. begins e.0 y ≡ b → b ≡ false) [
        | true ↦ λ t. absurd (true≢false (sym (begins-trans head.0 e.0 y (first_begins laws m x head rest split e at) t) ∙ h))
        | false ↦ λ _. refl
      ] refl

  first_of_next : MatchLaws T' → (m : Entries T') (q : List Bool) (o : Option (List Bool × T'))
      → first_item (filter (λ e. begins e.0 q) (covers_of m o)) ≡ if_begins q (first_item (covers_of m o))
  first_of_next laws m q None = refl
  first_of_next laws m q (Some x) = cases (covers m x.0) refl
    where
      cases : (es : List (List Bool × T')) → covers m x.0 ≡ es → first_item (filter (λ e. begins e.0 q) (covers m x.0)) ≡ if_begins q (first_item (covers m x.0))
      cases [] h = ap (λ es. first_item (filter (λ e. begins e.0 q) es)) h ∙ sym (ap (λ es. if_begins q (first_item es)) h)
      cases (head ∷ rest) h = first_next laws m x.0 q head rest h ∙ sym (ap (λ es. if_begins q (first_item es)) h)

  below_is : (m : Entries T') (s : List Bool) → is_below_another m s ≡ is_some (first_item (shorter_covers m s))
  below_is m s =
      elim (eqb (length s) 0) as (λ b. eqb (length s) 0 ≡ b → cond b false (is_some (shortest_match m (take (length s - 1) s))) ≡ is_some (first_item (shorter_covers m s))) [
        | true ↦ λ z. sym (ap (λ es. is_some (first_item es)) (covers_none m s z))
        | false ↦ λ nz. ap (λ es. is_some (first_item es)) (covers_shorter m s nz)
      ] refl

  -- adding an item at the end does not change the first item
  first_pushed : (xs : List (List Bool × T')) (x : List Bool × T') → is_some (first_item xs) ≡ true → first_item (xs ++ x ∷ []) ≡ first_item xs
  first_pushed [] x h = absurd (true≢false (sym h))
  first_pushed (y ∷ xs) x h = refl

  first_alone : (xs : List (List Bool × T')) (x : List Bool × T') → is_some (first_item xs) ≡ false → first_item (xs ++ x ∷ []) ≡ Some x
  first_alone [] x h = refl
  first_alone (y ∷ xs) x h = absurd (true≢false h)

  kept_begins : (q : List Bool) (o : Option (List Bool × T')) → is_some (if_begins q o) ≡ true → if_begins q o ≡ o
  kept_begins q None h = refl
  kept_begins q (Some e) h = elim (begins e.0 q) as (λ b. is_some (cond b (Some e) None) ≡ true → cond b (Some e) None ≡ Some e) [
    | true ↦ λ _. refl
    | false ↦ λ bad. absurd (true≢false (sym bad))
  ] h

  module _ {P : Type 0} (path : P → List Bool) (back : List Bool → P) where
    contains_is : (q : List Bool) (top : Option P) (o : Option (List Bool × T')) → option_map path top ≡ option_map (λ e. e.0) o → contains_path path top q ≡ is_some (if_begins q o)
    contains_is q None None h = refl
    contains_is q None (Some e) h = cc
    contains_is q (Some p) None h = cc
    contains_is q (Some p) (Some e) h =
        let same : path p ≡ e.0 = cc in
        ap (λ s. begins s q) same ∙ elim (begins e.0 q) as (λ b. b ≡ is_some (cond b (Some e) None)) [ true ↦ refl | false ↦ refl ]

    -- the invariant: what was read is marked, and the remembered prefix is the shortest cover of the last key read
    pub record Uppermost (m : Entries T') (left : List P) (top : Option P) (marks : List Bool) : Type 0 where
      pub read : List (List Bool × T')
      pub raw : List (List Bool × T')
      pub split : listing m ≡ read ++ raw
      pub shows : left ≡ map (λ e. back e.0) raw
      pub marked : marks ≡ map (is_uppermost m) read
      pub top_is : option_map path top ≡ option_map (λ e. e.0) (first_item (covers_of m (last_item read)))

    pub uppermost_start : (m : Entries T') (left : List P) (marks : List Bool) → left ≡ map (λ e. back e.0) (listing m) → marks ≡ [] → Uppermost m left None marks
    uppermost_start m left marks l k = record { read = []; raw = listing m; split = refl; shows = l; marked = k; top_is = refl }

    uppermost_next : MatchLaws T' → (m : Entries T') (read raw : List (List Bool × T')) (y : List Bool × T') (top top2 : Option P) (marks marks2 : List Bool) (r : Bool)
        → path (back y.0) ≡ y.0 → listing m ≡ read ++ y ∷ raw → marks ≡ map (is_uppermost m) read
        → option_map path top ≡ option_map (λ e. e.0) (first_item (covers_of m (last_item read)))
        → r ≡ contains_path path top (path (back y.0)) → marks2 ≡ marks ++ not r ∷ [] → top2 ≡ cond r top (Some (back y.0))
        → Uppermost m (map (λ e. back e.0) raw) top2 marks2
    uppermost_next laws m read raw y top top2 marks marks2 r here split marked top_was tests adds sets =
        let above : first_item (shorter_covers m y.0) ≡ if_begins y.0 (first_item (covers_of m (last_item read))) =
        ap first_item (sym (next_covers m read raw y split)) ∙ first_of_next laws m y.0 (last_item read) in
        let is_kept : r ≡ is_some (if_begins y.0 (first_item (covers_of m (last_item read)))) =
        tests ∙ ap (contains_path path top) here ∙ contains_is y.0 top (first_item (covers_of m (last_item read))) top_was in
        let covered : r ≡ is_some (first_item (shorter_covers m y.0)) = is_kept ∙ sym (ap is_some above) in
        let below : r ≡ is_below_another m y.0 = covered ∙ sym (below_is m y.0) in
        let first : first_item (covers_of m (last_item (read ++ y ∷ []))) ≡ first_item (shorter_covers m y.0 ++ y ∷ []) =
        ap (λ o. first_item (covers_of m o)) (last_pushed read y) ∙ ap first_item (covers_push m read raw y split).0 in
        record {
          read = read ++ y ∷ [];
          raw = raw;
          split = split ∙ sym (append_assoc read (y ∷ []) raw);
          shows = refl;
          marked = adds ∙ ap (λ b. marks ++ not b ∷ []) below ∙ ap (λ bs. bs ++ is_uppermost m y ∷ []) marked ∙ map_push (is_uppermost m) read y;
          top_is = ap (option_map path) sets ∙ go r refl is_kept covered above ∙ sym (ap (option_map (λ e. e.0)) first);
        }
      where
        go : (b : Bool) → r ≡ b → r ≡ is_some (if_begins y.0 (first_item (covers_of m (last_item read)))) → r ≡ is_some (first_item (shorter_covers m y.0))
            → first_item (shorter_covers m y.0) ≡ if_begins y.0 (first_item (covers_of m (last_item read)))
            → option_map path (cond r top (Some (back y.0))) ≡ option_map (λ e. e.0) (first_item (shorter_covers m y.0 ++ y ∷ []))
        go true h is_kept covered above =
            ap (λ b. option_map path (cond b top (Some (back y.0)))) h ∙ top_was
            ∙ ap (option_map (λ e. e.0)) (sym (kept_begins y.0 (first_item (covers_of m (last_item read))) (sym is_kept ∙ h)) ∙ sym above ∙ sym (first_pushed (shorter_covers m y.0) y (sym covered ∙ h)))
        go false h is_kept covered above =
            ap (λ b. option_map path (cond b top (Some (back y.0)))) h ∙ ap Some here
            ∙ sym (ap (option_map (λ e. e.0)) (first_alone (shorter_covers m y.0) y (sym covered ∙ h)))

    -- the invariant holds after one more key
    pub uppermost_on : MatchLaws T' → (m : Entries T') (left rest : List P) (x : P) (top top2 : Option P) (marks marks2 : List Bool) (r : Bool)
        → ((e : List Bool × T') → Contains (listing m) e → path (back e.0) ≡ e.0)
        → left ≡ x ∷ rest → r ≡ contains_path path top (path x) → marks2 ≡ marks ++ not r ∷ [] → top2 ≡ cond r top (Some x)
        → Uppermost m left top marks → Uppermost m rest top2 marks2
    uppermost_on laws m left rest x top top2 marks marks2 r known taken tests adds sets is = go is.raw is.split (sym taken ∙ is.shows)
      where
        go : (raw : List (List Bool × T')) → listing m ≡ is.read ++ raw → x ∷ rest ≡ map (λ e. back e.0) raw → Uppermost m rest top2 marks2
        go [] s h = cc
        go (y ∷ raw) s h =
            let first : x ≡ back y.0 = ap (head_of x) h in
            let others : rest ≡ map (λ e. back e.0) raw = ap tail_of h in
            subst (λ es. Uppermost m es top2 marks2) (sym others)
            (uppermost_next laws m is.read raw y top top2 marks marks2 r (known y (subst (λ es. Contains es y) (sym s) (contains_middle is.read raw y))) s is.marked is.top_is
            (tests ∙ ap (λ z. contains_path path top (path z)) first) adds (sets ∙ ap (λ z. cond r top (Some z)) first))

-- the equality of units, which all are equal
abbrev always : Unit {0} → Unit {0} → Bool
always x y = true

-- a set in which exactly the uppermost keys are left
pub uppermost_entries : {T' : Type 0} (m n : Entries T') → listing n ≡ filter (is_uppermost m) (listing m) → n ≡ without_covered m
uppermost_entries m n h = same_entries_map n (without_covered m) (h ∙ sym (entries-retained m (λ s. not (is_below_another m s))))

left_get : (m n : Entries (Unit {0})) → n ≡ without_covered m → (s : List Bool) → get n s ≡ cond (is_redundant always m s) None (get m s)
left_get m n is s =
    ap (λ x. get x s) is ∙ get-retain_keys m (λ t. not (is_below_another m t)) s (λ x e. ap (λ t. not (is_below_another m t)) (sym (listing_same s x e)))
    ∙ ap (λ b. cond (not b) (get m s) None) (below_is_above m s) ∙ go (value_above m s) (get m s)
  where
    go : (above here : Option (Unit {0})) → cond (not (is_some above)) here None ≡ cond (are_equal always above here) None here
    go None None = refl
    go None (Some v) = refl
    go (Some u) None = refl
    go (Some u) (Some v) = refl

-- what is left covers what the whole set covers
pub same_covered : {P : Type 0} → LookupLaws P (Unit {0}) → (m n : Entries (Unit {0})) → n ≡ without_covered m
    → (q : List Bool) → is_some (shortest_match n q) ≡ is_some (shortest_match m q)
same_covered laws m n is q = covered_is_value n q ∙ ap is_some (same_values always m n (left_get m n is) laws (λ x y _. refl) q) ∙ sym (covered_is_value m q)

-- no key that is left is covered by a shorter one
pub none_covered : {P : Type 0} → LookupLaws P (Unit {0}) → (m n : Entries (Unit {0})) → n ≡ without_covered m
    → (s : List Bool) → contains_key n s ≡ true → is_below_another n s ≡ false
none_covered laws m n is = sets.none_covered always (λ _. refl) n (none_left always m n (left_get m n is) laws (λ x y _. refl))
