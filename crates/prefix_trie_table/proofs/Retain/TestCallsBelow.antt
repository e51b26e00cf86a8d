-- Calling a test on one value, on all places of a node, and on what is under a child: for the loop of `retain`.
use Rattle.prefix_trie_table.proofs.Prelude.{◌≡◌, ℕ, ◌+◌, ◌%◌, ◌≤◌, Bool, true, false, cond, ◌||◌, List, [], ◌∷◌, ◌++◌, length, take, drop, get_or, None, Some, refl, sym, ap, ◌∙◌, subst, arith, inl, inr, append-nil, false≢true, cases_Bool, true_from_ne_false, Contains-get_or, list_any_at, get, begins, begins-refl, begins-append, begins-length, begins-same-length, same_string, is_in, places, RetainsEntriesTo, CallableOnEachEntry, Entries, without_entry, listing, listing_below, listing_at_place, listing_at_places, Nodes, AreNodes, has_node, needed, State, get-without_entry, same_string-is, is-same_string, same_nodes, needs_root, listing_by_node_places, listing_at_value, listing_at_no_value, listing_at_child, listing_of_root, is_at, is_at_some, is_under, is_under_some, Needs, AsksUpTo, Retains, or_parts}
use Rattle.std.specs.List.{All, Contains}
use Rattle.prefix_trie_bits.proofs.Model.Members.{needs}
use Rattle.prefix_trie_table.proofs.Strings.SmallFacts.{fifth_more, no_or_yes}
use Rattle.prefix_trie_table.proofs.Retain.TestCalls.{only_one, at_value, at_child, under_value, under_child, under_at_some, at_begins, one_place, place_same, at_some_one, five_further}

-- ---- a value

module _ {F T : Type 0} (may_return : F → List Bool → T → Bool → F → Type 0) (accepts : F → List Bool → T → Type 0) (s t : List Bool) (short : length t ≤ 4)
    (x : State T) (v : T) (stored : get x.entries (s ++ t) ≡ Some v) where
  value_here : listing_at_places x.entries s (t ∷ []) ≡ (s ++ t, v) ∷ []
  value_here = append-nil (listing_at_place x.entries s t) ∙ listing_at_value x.entries s t v short stored

  -- the test may be called on the value
  pub may_ask_value : (f : F) → CallableOnEachEntry may_return accepts f (listing_at_places x.entries s (t ∷ [])) → accepts f (s ++ t) v
  may_ask_value f may = (subst (CallableOnEachEntry may_return accepts f) value_here may).0

  -- if the test returns true, the value stays
  pub value_stays : (f g : F) → may_return f (s ++ t) v true g → Retains may_return accepts s (t ∷ []) f x g x
  value_stays f g called = record {
    kept = (s ++ t, v) ∷ [];
    asked = λ rest later h after. subst (λ es. RetainsEntriesTo may_return f (es ++ rest) ((s ++ t, v) ∷ later) h) (sym value_here) (true, g, later, called, after, refl);
    up_to = subst (λ es. AsksUpTo may_return f es g) (sym value_here) (true, g, called, refl);
    may_ask = λ rest may. (subst (λ es. CallableOnEachEntry may_return accepts f (es ++ rest)) value_here may).1 true g called;
    stays = value_here;
    others = λ q off. refl;
    fewer = λ q there. there;
    off = λ q off. refl;
    needed = λ q under there. absurd (false≢true (sym (ap (λ b. b || false) (under_value s t q short)) ∙ under));
  }

  -- if the test returns false, the value is removed
  pub value_goes : (f g : F) → may_return f (s ++ t) v false g → Retains may_return accepts s (t ∷ []) f x g (record { entries = without_entry x.entries (s ++ t); nodes = x.nodes })
  value_goes f g called = record {
    kept = [];
    asked = λ rest later h after. subst (λ es. RetainsEntriesTo may_return f (es ++ rest) later h) (sym value_here) (false, g, later, called, after, refl);
    up_to = subst (λ es. AsksUpTo may_return f es g) (sym value_here) (false, g, called, refl);
    may_ask = λ rest may. (subst (λ es. CallableOnEachEntry may_return accepts f (es ++ rest)) value_here may).1 false g called;
    stays =
        append-nil (listing_at_place (without_entry x.entries (s ++ t)) s t)
        ∙ listing_at_no_value (without_entry x.entries (s ++ t)) s t short
        (get-without_entry x.entries (s ++ t) (s ++ t) ∙ ap (λ b. cond b None (get x.entries (s ++ t))) (is-same_string (s ++ t) (s ++ t) refl));
    others = λ q off.
        get-without_entry x.entries (s ++ t) q
        ∙ ap (λ b. cond b None (get x.entries q)) (sym (at_value s t q short) ∙ (or_parts (is_at s t q) false off).0);
    fewer = λ q there. there;
    off = λ q off. refl;
    needed = λ q under there. absurd (false≢true (sym (ap (λ b. b || false) (under_value s t q short)) ∙ under));
  }

-- ---- all places of a node

module _ {F T : Type 0} (may_return : F → List Bool → T → Bool → F → Type 0) (accepts : F → List Bool → T → Type 0) (c : List Bool) (values children : ℕ)
    (ts : List (List Bool)) (all : ts ≡ places values children)
    (each : (u : List Bool) → Contains ts u → (length u ≤ 5) × (is_in values children u ≡ true))
    (every : (u : List Bool) → length u ≤ 5 → is_in values children u ≡ true → Contains ts u)
    (f g : F) (x y : State T) (retains : Retains may_return accepts c ts f x g y)
    (unset : (u : List Bool) → length u ≤ 5 → is_in values children u ≡ false → listing_at_place x.entries c u ≡ [])
    (bare : (u q : List Bool) → length u ≡ 5 → is_in values children u ≡ false → begins (c ++ u) q ≡ true → has_node x.nodes q ≡ true → ⊥)
    (whole : length c % 5 ≡ 0) (depths : (q : List Bool) → has_node x.nodes q ≡ true → length q % 5 ≡ 0) where
  each_place : All (λ u. (length u ≤ 5) × (is_in values children u ≡ true)) ts
  each_place = λ k d inside. each (get_or ts k d) (Contains-get_or ts k d inside)

  below_before : listing_at_places x.entries c ts ≡ listing_below x.entries c
  below_before = ap (listing_at_places x.entries c) all ∙ listing_by_node_places x.entries c values children unset

  -- what is at other places of the node is unchanged
  at_other : (u k : List Bool) → length u ≤ 5 → is_in values children u ≡ false → is_at c u k ≡ true → get y.entries k ≡ get x.entries k
  at_other u k short clear at = retains.others k (no_or_yes (is_at_some c ts k) (λ some.
      let one = at_some_one (λ u. (length u ≤ 5) × (is_in values children u ≡ true)) c ts k each_place some in
      false≢true (sym clear ∙ ap (is_in values children) (one_place c u one.0 k short one.1.0 at one.2) ∙ one.1.1)))

  pub below_after : listing_at_places y.entries c ts ≡ listing_below y.entries c
  below_after =
      ap (listing_at_places y.entries c) all
      ∙ listing_by_node_places y.entries c values children
      (λ u short clear. place_same y.entries x.entries c u (λ k at. at_other u k short clear at) ∙ unset u short clear)

  off_at : (q : List Bool) → begins c q ≡ false → is_at_some c ts q ≡ true → ⊥
  off_at q off some =
      let one = at_some_one (λ u. (length u ≤ 5) × (is_in values children u ≡ true)) c ts q each_place some in
      false≢true (sym off ∙ at_begins c one.0 q one.2)

  off_entries : (q : List Bool) → begins c q ≡ false → get y.entries q ≡ get x.entries q
  off_entries q off = retains.others q (no_or_yes (is_at_some c ts q) (off_at q off))

  off_nodes : (q : List Bool) → begins c q ≡ false → has_node y.nodes q ≡ has_node x.nodes q
  off_nodes q off = retains.off q (no_or_yes (is_under_some c ts q) (λ some. off_at q off (under_at_some c ts q q some (begins-refl q))))

  -- each node under the child is needed
  pub needed_below : (q : List Bool) → begins c q ≡ true → (q ≡ c → ⊥) → has_node y.nodes q ≡ true → Needs y.entries q
  needed_below q below ne there = retains.needed q under there
    where
      before : has_node x.nodes q ≡ true
      before = retains.fewer q there

      longer : length c + 5 ≤ length q
      longer = fifth_more (length c) (length q) whole (depths q before) (begins-length c q below) (λ e. ne (sym (begins-same-length c q below (sym e))))

      further : (length (take 5 (drop (length c) q)) ≡ 5) × (begins (c ++ take 5 (drop (length c) q)) q ≡ true)
      further = five_further c q below longer

      among : is_in values children (take 5 (drop (length c) q)) ≡ true
      among = true_from_ne_false (is_in values children (take 5 (drop (length c) q))) (λ miss. bare (take 5 (drop (length c) q)) q further.0 miss further.1 before)

      under : is_under_some c ts q ≡ true
      under =
          let h = every (take 5 (drop (length c) q)) (omega (arith, further.0)) among in
          list_any_at (λ t. is_under c t q) ts h.0 (take 5 (drop (length c) q)) h.1
          (ap (λ t. is_under c t q) h.2 ∙ under_child c (take 5 (drop (length c) q)) q further.0 ∙ further.1)

  -- so the calls on all places of the child are the calls at its place in the node above, and the child is removed
  -- unless it is needed
  module _ (s t : List Bool) (five : length t ≡ 5) (is : c ≡ s ++ t) (later : Nodes) (fewer : (q : List Bool) → has_node later q ≡ true → has_node y.nodes q ≡ true)
      (stays : (q : List Bool) → (q ≡ c → ⊥) → has_node later q ≡ has_node y.nodes q) (own : has_node later c ≡ true → Needs y.entries c) where
    place_is : (m : Entries T) → listing_at_places m s (t ∷ []) ≡ listing_below m c
    place_is m = append-nil (listing_at_place m s t) ∙ listing_at_child m s t five ∙ ap (listing_below m) (sym is)

    begins_is : (q : List Bool) → begins c q ≡ begins (s ++ t) q
    begins_is q = ap (λ p. begins p q) is

    pub child_asked : Retains may_return accepts s (t ∷ []) f x g (record { entries = y.entries; nodes = later })
    child_asked = record {
      kept = retains.kept;
      asked = λ rest after last h.
          subst (λ es. RetainsEntriesTo may_return f (es ++ rest) (retains.kept ++ after) last) (below_before ∙ sym (place_is x.entries)) (retains.asked rest after last h);
      up_to = subst (λ es. AsksUpTo may_return f es g) (below_before ∙ sym (place_is x.entries)) retains.up_to;
      may_ask = λ rest may. retains.may_ask rest (subst (λ es. CallableOnEachEntry may_return accepts f (es ++ rest)) (place_is x.entries ∙ sym below_before) may);
      stays = place_is y.entries ∙ sym below_after ∙ retains.stays;
      others = λ q off. off_entries q (begins_is q ∙ sym (at_child s t q five) ∙ (or_parts (is_at s t q) false off).0);
      fewer = λ q there. retains.fewer q (fewer q there);
      off = λ q off.
          let off_it : begins c q ≡ false = begins_is q ∙ sym (under_child s t q five) ∙ (or_parts (is_under s t q) false off).0 in
          stays q (λ e. false≢true (sym off_it ∙ ap (begins c) e ∙ begins-refl c)) ∙ off_nodes q off_it;
      needed = λ q under there.
          let below_it : begins c q ≡ true = begins_is q ∙ sym (under_child s t q five) ∙ only_one (is_under s t q) under in
          elim (cases_Bool (same_string q c)) as (λ _. Needs y.entries q) [
            | inl same ↦
                let e : q ≡ c = same_string-is q c same in
                subst (Needs y.entries) (sym e) (own (ap (has_node later) (sym e) ∙ there))
            | inr other ↦ needed_below q below_it (λ e. false≢true (sym other ∙ is-same_string q c e)) (fewer q there)
          ];
    }

  -- if the node is the root, they are the calls on the whole listing
  module _ (root : c ≡ []) where
    listing_is : (m : Entries T) → listing_below m c ≡ listing m
    listing_is m = ap (listing_below m) root ∙ listing_of_root m

    pub asked_all : RetainsEntriesTo may_return f (listing x.entries) (listing y.entries) g
    asked_all =
        let kept : retains.kept ≡ listing y.entries = sym retains.stays ∙ below_after ∙ listing_is y.entries in
        let items : listing_at_places x.entries c ts ++ [] ≡ listing x.entries = append-nil (listing_at_places x.entries c ts) ∙ below_before ∙ listing_is x.entries in
        subst (λ es. RetainsEntriesTo may_return f es (listing y.entries) g) items
        (subst (λ es. RetainsEntriesTo may_return f (listing_at_places x.entries c ts ++ []) es g) (append-nil retains.kept ∙ kept) (retains.asked [] [] g (refl, refl)))

    pub nodes_tidy : (width : ℕ) → AreNodes width y.entries y.nodes → y.nodes ≡ needed y.entries
    nodes_tidy width are = same_nodes y.nodes (needed y.entries) (λ q there. elim (cases_Bool (same_string q c)) as (λ _. has_node (needed y.entries) q ≡ true) [
      | inl same ↦ subst (λ p. has_node (needed y.entries) p ≡ true) (sym (same_string-is q c same ∙ root)) (needs_root y.entries)
      | inr other ↦
          let n = needed_below q (subst (λ p. begins p q ≡ true) (sym root) (nil_begins q)) (λ e. false≢true (sym other ∙ is-same_string q c e)) there in
          needs y.entries q n.key (are.depths q there) n.stored n.goes_on
    ]) are.hold_needed
      where
        nil_begins : (q : List Bool) → begins [] q ≡ true
        nil_begins q = begins-append [] q
