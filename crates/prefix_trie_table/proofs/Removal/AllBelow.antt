-- What is left of a table after a test returned false for each entry under a bit string.
use Rattle.prefix_trie_table.proofs.Prelude.{◌≡◌, ◌↔◌, ℕ, ◌+◌, ◌*◌, ◌/◌, ◌<◌, ◌≤◌, Bool, true, false, cond, not, ◌&&◌, ◌||◌, ◌==◌, nat_lt, List, [], ◌∷◌, ◌++◌, length, take, drop, Option, None, Some, is_some, refl, sym, ap, ap₂, ◌∙◌, subst, arith, inl, inr, bit_and, append-nil, append_assoc, length-append, length-drop, false≢true, cases_Bool, cases_lt, le-ltb, append_cancel_left, All-weaker, All-contains_itself, list_any_at, get, find, get-entries, begins, number, digits, digits-number, begins-refl, begins-length, begins-linear, begins-longer, begins-rest, begins-from-rest, begins-same-length, begins-trans, listing_cmp, same_string, HoldsValues, HoldsChildren, is_in, RetainsEntriesTo, Entries, part_below, without_entry, without_below, Nodes, has_node, home, is_node_depth, pruned, nodes_not_below, nodes_without, nodes_without_below, pair_of, listing_at_place, listing_at_places, listing_below, State, is_in-and, home-begins, home-depth, home-length, or-cases, and-join, and-second, same_string-is, is-same_string, has-retained, get-part_below, get-without_entry, get-without_below, same_entries, same_members, entries-retained, Node, chunks_of, read, below, Store, is_at, is_at_some, is_under, is_under_some, Retains, IsTrie}
use Rattle.std.specs.List.{All, Contains}
use Rattle.std.proofs.lemmas.Bool.{lt-ltb}
use Rattle.prefix_trie_table.proofs.Strings.SmallFacts.{fifth_more, no_or_yes, whole_more}
use Rattle.prefix_trie_table.proofs.Retain.TestCalls.{at_value, at_child, under_child, under_at_some, at_goes_on, at_some_one, five_further}
use Rattle.prefix_trie_table.proofs.Strings.Bits.{has_bit-is}
use Rattle.prefix_trie_table.proofs.Strings.ChunkPlaces.{step_below}
use Rattle.prefix_trie_table.proofs.Tree.Subtrees.{nothing_below, unset, is_in-value, is_in-child, number-small}
use Rattle.prefix_trie_table.proofs.Tree.Trees.{read-snoc, child-missing}

pub and-false : (b : Bool) → (b && false) ≡ false
and-false true = refl
and-false false = refl

-- ---- if nothing is listed nothing is stored

append_none : {X : Type 0} (xs ys : List X) → xs ++ ys ≡ [] → (xs ≡ []) × (ys ≡ [])
append_none [] ys h = (refl, h)
append_none (x ∷ xs) ys h = absurd (omega (arith, ap length h))

module _ {T : Type 0} where
  pair_none : (s : List Bool) (o : Option T) → pair_of s o ≡ [] → o ≡ None
  pair_none s None h = refl
  pair_none s (Some x) h = absurd (omega (arith, ap length h))

  -- below a string
  pub below_none : (m : Entries T) (q k : List Bool) → listing_below m q ≡ [] → begins q k ≡ true → get m k ≡ None
  below_none m q k none begun =
      sym (ap (λ b. cond b (get m k) None) begun) ∙ sym (get-part_below m q k) ∙ get-entries (part_below m q) k
      ∙ ap (find listing_cmp k) (entries-retained m (begins q) ∙ none)

  -- at a place
  place_none : (m : Entries T) (s t k : List Bool) → listing_at_place m s t ≡ [] → is_at s t k ≡ true → get m k ≡ None
  place_none m s t k = go (nat_lt (length t) 5)
    where
      go : (b : Bool) → cond b (pair_of (s ++ t) (get m (s ++ t))) (listing_below m (s ++ t)) ≡ [] → cond b (same_string k (s ++ t)) (begins (s ++ t) k) ≡ true → get m k ≡ None
      go true none at = ap (get m) (same_string-is k (s ++ t) at) ∙ pair_none (s ++ t) (get m (s ++ t)) none
      go false none at = below_none m (s ++ t) k none at

  -- at some places
  places_none : (m : Entries T) (s : List Bool) (ts : List (List Bool)) (k : List Bool) → listing_at_places m s ts ≡ [] → is_at_some s ts k ≡ true → get m k ≡ None
  places_none m s [] k none at = absurd (false≢true at)
  places_none m s (t ∷ ts) k none at =
      let both = append_none (listing_at_place m s t) (listing_at_places m s ts) none in
      elim (or-cases (is_at s t k) (is_at_some s ts k) at) as (λ _. get m k ≡ None) [
        | inl here ↦ place_none m s t k both.0 here
        | inr later ↦ places_none m s ts k both.1 later
      ]

-- a node is not below its own places
not_under_itself : (s : List Bool) (ts : List (List Bool)) → is_under_some s ts s ≡ false
not_under_itself s [] = refl
not_under_itself s (t ∷ ts) = ap₂ (λ a b. a || b) not_here (not_under_itself s ts)
  where
    not_here : is_under s t s ≡ false
    not_here = elim (cases_lt (length t) 5) as (λ _. is_under s t s ≡ false) [
      | inl less ↦ ap (λ c. cond c false (begins (s ++ t) s)) (lt-ltb (length t) 5 less)
      | inr most ↦
          ap (λ c. cond c false (begins (s ++ t) s)) (le-ltb (length t) 5 most)
          ∙ begins-longer (s ++ t) s (omega (arith, length-append s t, most))
    ]

-- ---- what is left if each result is false

module _ {T : Type 0} where
  -- the places of the node of q are those at which it has what q begins
  pub record AreBelow (q : List Bool) (ts : List (List Bool)) (before : State T) : Type 0 where
    pub apart : (k : List Bool) → begins q k ≡ false → is_at_some (home q) ts k ≡ false
    pub every : (k : List Bool) → begins q k ≡ true → is_at_some (home q) ts k ≡ false → get before.entries k ≡ None
    pub nodes_apart : (t : List Bool) → begins q t ≡ false → is_under_some (home q) ts t ≡ false
    pub every_node : (t : List Bool) → begins q t ≡ true → same_string t (home q) ≡ false → is_under_some (home q) ts t ≡ false → has_node before.nodes t ≡ false

  -- the entries below q are gone, and all nodes below it but its own
  pub record IsEmptied (q : List Bool) (before after : State T) : Type 0 where
    pub entries : after.entries ≡ without_below before.entries q
    pub nodes : after.nodes ≡ nodes_not_below before.nodes q

module _ {F T : Type 0} (may_return : F → List Bool → T → Bool → F → Type 0) (no : (f : F) (k : List Bool) (x : T) (b : Bool) (g : F) → may_return f k x b g → b ≡ false) where
  none_kept : (f : F) (es kept : List (List Bool × T)) (g : F) → RetainsEntriesTo may_return f es kept g → kept ≡ []
  none_kept f [] kept g h = h.0
  none_kept f (e ∷ es) kept g h = h.5 ∙ ap (λ b. cond b (e ∷ h.2) h.2) (no f e.0 e.1 h.0 h.1 h.3) ∙ none_kept h.1 es h.2 g h.4

  module _ (accepts : F → List Bool → T → Type 0) (q : List Bool) (ts : List (List Bool)) (f g : F) (before after : State T)
      (retains : Retains may_return accepts (home q) ts f before g after) (are : AreBelow q ts before) where
    none_there : (k : List Bool) → is_at_some (home q) ts k ≡ true → get after.entries k ≡ None
    none_there k at =
        let kept : retains.kept ≡ [] = sym (append-nil retains.kept) ∙ none_kept f (listing_at_places before.entries (home q) ts ++ []) (retains.kept ++ []) g (retains.asked [] [] g (refl, refl)) in
        places_none after.entries (home q) ts k (retains.stays ∙ kept) at

    entry_is : (k : List Bool) → get after.entries k ≡ get (without_below before.entries q) k
    entry_is k = go (begins q k) refl ∙ sym (get-without_below before.entries q k)
      where
        go : (b : Bool) → begins q k ≡ b → get after.entries k ≡ cond b None (get before.entries k)
        go true goes_on = elim (cases_Bool (is_at_some (home q) ts k)) as (λ _. get after.entries k ≡ None) [
          | inl at ↦ none_there k at
          | inr off ↦ retains.others k off ∙ are.every k goes_on off
        ]
        go false off = retains.others k (are.apart k off)

    none_is_there : (t : List Bool) → begins q t ≡ true → same_string t (home q) ≡ false → has_node after.nodes t ≡ true → ⊥
    none_is_there t goes_on other there = elim (cases_Bool (is_under_some (home q) ts t)) as (λ _. ⊥) [
      | inl under ↦
          let n = retains.needed t under there in
          false≢true (sym (ap is_some (none_there n.key (under_at_some (home q) ts t n.key under n.goes_on))) ∙ n.stored)
      | inr off ↦ false≢true (sym (are.every_node t goes_on other off) ∙ sym (retains.off t off) ∙ there)
    ]

    node_is : (t : List Bool) → has_node after.nodes t ≡ has_node (nodes_not_below before.nodes q) t
    node_is t =
        go (begins q t) (same_string t (home q)) refl refl
        ∙ sym (has-retained before.nodes (λ u. not (begins q u) || same_string u (home q)) t)
      where
        go : (b own : Bool) → begins q t ≡ b → same_string t (home q) ≡ own → has_node after.nodes t ≡ ((not b || own) && has_node before.nodes t)
        go false own off which = retains.off t (are.nodes_apart t off)
        go true true goes_on same =
            retains.off t (subst (λ u. is_under_some (home q) ts u ≡ false) (sym (same_string-is t (home q) same)) (not_under_itself (home q) ts))
        go true false goes_on other = no_or_yes (has_node after.nodes t) (none_is_there t goes_on other)

    -- the entries below q go, and the nodes below it
    pub emptied : IsEmptied q before after
    emptied = record {
      entries = same_entries after.entries (without_below before.entries q) entry_is;
      nodes = same_members after.nodes (nodes_not_below before.nodes q) node_is;
    }

-- ---- strings below another, from its node on

some_goes_on : (s q k : List Bool) (ts : List (List Bool)) → All (λ t. begins q (s ++ t) ≡ true) ts → is_at_some s ts k ≡ true → begins q k ≡ true
some_goes_on s q k ts all h =
    let one = at_some_one (λ t. begins q (s ++ t) ≡ true) s ts k all h in
    begins-trans q (s ++ one.0) k one.1 (at_goes_on s one.0 k one.2)

pub home_near : (l h : ℕ) → h ≡ 5 * (l / 5) → l ≤ h + 4
home_near l h e = omega (arith, e)

module _ (q : List Bool) where
  -- what q begins goes on from q's node
  pub home_goes_on : (k : List Bool) → begins q k ≡ true → begins (home q) k ≡ true
  home_goes_on k h = begins-trans (home q) q k (home-begins q) h

  home_tail : (k : List Bool) → begins q k ≡ true → k ≡ home q ++ drop (length (home q)) k
  home_tail k h = begins-rest (home q) k (home_goes_on k h)

  -- by five bits at least
  module _ (k : List Bool) (goes_on : begins q k ≡ true) (long : length (home q) + 5 ≤ length k) where
    further : (length (take 5 (drop (length (home q)) k)) ≡ 5) × (begins (home q ++ take 5 (drop (length (home q)) k)) k ≡ true)
    further = five_further (home q) k (home_goes_on k goes_on) long

    five_below : begins q (home q ++ take 5 (drop (length (home q)) k)) ≡ true
    five_below =
        let near = home_near (length q) (length (home q)) (home-length q) in
        begins-linear q (home q ++ take 5 (drop (length (home q)) k)) k goes_on further.1
        (let five = further.0 in omega (arith, near, five, length-append (home q) (take 5 (drop (length (home q)) k))))

  module _ (rest : List Bool) (is : q ≡ home q ++ rest) where
    to_rest : (u : List Bool) → begins q (home q ++ u) ≡ true → begins rest u ≡ true
    to_rest u h =
        begins-from-rest rest u (drop (length q) (home q ++ u))
        (append_cancel_left (home q) u (rest ++ drop (length q) (home q ++ u))
        (begins-rest q (home q ++ u) h ∙ ap (λ p. p ++ drop (length q) (home q ++ u)) is ∙ append_assoc (home q) rest (drop (length q) (home q ++ u))))

    from_rest : (u : List Bool) → begins rest u ≡ true → begins q (home q ++ u) ≡ true
    from_rest u h =
        begins-from-rest q (home q ++ u) (drop (length rest) u)
        (ap (λ r. home q ++ r) (begins-rest rest u h) ∙ sym (append_assoc (home q) rest (drop (length rest) u)) ∙ ap (λ p. p ++ drop (length rest) u) (sym is))

-- ---- the places that two masks leave

module _ {T : Type 0} (width count : ℕ) (v : Store Node) (w : Store (Option T)) (before : State T) (trie : IsTrie width count v w before) (q rest : List Bool)
    (is : q ≡ home q ++ rest) (n : Node) (is_there : read v.slots (chunks_of (home q)) ≡ Some n) (values children : ℕ) (holds_values : HoldsValues values (begins rest))
    (holds_children : HoldsChildren children (begins rest)) (ts : List (List Bool))
    (each : (u : List Bool) → Contains ts u ↔ ((length u ≤ 5) × (is_in (bit_and n.value_bitmap values) (bit_and n.child_bitmap children) u ≡ true))) where
  in_masks : (u : List Bool) → length u ≤ 5 → is_in values children u ≡ begins rest u
  in_masks u most = elim (cases_lt (length u) 5) as (λ _. is_in values children u ≡ begins rest u) [
    | inl less ↦ is_in-value values children u less ∙ holds_values.bits u (let l = less in omega (arith, l))
    | inr more ↦
        let five : length u ≡ 5 = (let l = more in omega (arith, l, most)) in
        is_in-child values children u five ∙ holds_children u five
  ]

  pub in_both : (u : List Bool) → length u ≤ 5 → is_in (bit_and n.value_bitmap values) (bit_and n.child_bitmap children) u ≡ (is_in n.value_bitmap n.child_bitmap u && begins rest u)
  in_both u most =
      is_in-and n.value_bitmap n.child_bitmap values children u
      ∙ ap (λ b. is_in n.value_bitmap n.child_bitmap u && b) (in_masks u most)

  member : (u : List Bool) → length u ≤ 5 → is_in n.value_bitmap n.child_bitmap u ≡ true → begins q (home q ++ u) ≡ true → Contains ts u
  member u most here goes_on = (each u).1 (most, in_both u most ∙ and-join (is_in n.value_bitmap n.child_bitmap u) (begins rest u) here (to_rest q rest is u goes_on))

  all_below : All (λ u. begins q (home q ++ u) ≡ true) ts
  all_below =
      All-weaker (Contains ts) (λ u. begins q (home q ++ u) ≡ true)
      (λ u m. let h = (each u).0 m in from_rest q rest is u (and-second (is_in n.value_bitmap n.child_bitmap u) (begins rest u) (sym (in_both u h.0) ∙ h.1)))
      ts (All-contains_itself ts)

  apart_from : (k : List Bool) → begins q k ≡ false → is_at_some (home q) ts k ≡ false
  apart_from k off = no_or_yes (is_at_some (home q) ts k) (λ some. false≢true (sym off ∙ some_goes_on (home q) q k ts all_below some))

  -- at a place below q that is not among these nothing is stored
  not_among : (k u : List Bool) → length u ≤ 5 → begins q (home q ++ u) ≡ true → is_at (home q) u k ≡ true → is_at_some (home q) ts k ≡ false → get before.entries k ≡ None
  not_among k u most goes_on at off = elim (cases_Bool (is_in n.value_bitmap n.child_bitmap u)) as (λ _. get before.entries k ≡ None) [
    | inl hit ↦
        let m = member u most hit goes_on in
        absurd (false≢true (sym off ∙ list_any_at (λ t. is_at (home q) t k) ts m.0 u m.1 (ap (λ t. is_at (home q) t k) m.2 ∙ at)))
    | inr miss ↦
        place_none before.entries (home q) u k
        (unset width v (record { count = count; cells = w; shape = before }) trie (home q) n (home-depth q) is_there u most miss) at
  ]

  entries_among : (k : List Bool) → begins q k ≡ true → is_at_some (home q) ts k ≡ false → get before.entries k ≡ None
  entries_among k goes_on off = elim (cases_lt (length (drop (length (home q)) k)) 5) as (λ _. get before.entries k ≡ None) [
    | inl less ↦
        let tail = home_tail q k goes_on in
        not_among k (drop (length (home q)) k) (let l = less in omega (arith, l)) (subst (λ p. begins q p ≡ true) tail goes_on)
        (at_value (home q) (drop (length (home q)) k) k (let l = less in omega (arith, l)) ∙ is-same_string k (home q ++ drop (length (home q)) k) tail) off
    | inr more ↦
        let long : length (home q) + 5 ≤ length k = (let l = more in omega (arith, l, length-drop (length (home q)) k)) in
        let five = (further q k goes_on long).0 in
        not_among k (take 5 (drop (length (home q)) k)) (let f = five in omega (arith, f)) (five_below q k goes_on long)
        (at_child (home q) (take 5 (drop (length (home q)) k)) k five ∙ (further q k goes_on long).1) off
  ]

  -- if a child is missing there is no node
  no_child : (u : List Bool) → length u ≡ 5 → is_in n.value_bitmap n.child_bitmap u ≡ false → has_node before.nodes (home q ++ u) ≡ false
  no_child u five clear =
      trie.shaped.0 (home q ++ u) ∙ ap (λ o. is_node_depth (home q ++ u) && is_some o) missing ∙ and-false (is_node_depth (home q ++ u))
    where
      small : number u < 32
      small = number-small u five

      missing : read v.slots (chunks_of (home q ++ u)) ≡ None
      missing =
          ap (λ x. read v.slots (chunks_of (home q ++ x))) (sym (digits-number u) ∙ ap (λ k. digits k (number u)) five)
          ∙ ap (read v.slots) (step_below (length q / 5) (home q) (number u) (home-length q) small)
          ∙ read-snoc v.slots (chunks_of (home q)) (number u) ∙ ap (λ o. below v.slots o (number u)) is_there
          ∙ child-missing v.slots n (number u) (has_bit-is n.child_bitmap (number u) small ∙ sym (is_in-child n.value_bitmap n.child_bitmap u five) ∙ clear)

  nodes_among : (t : List Bool) → begins q t ≡ true → same_string t (home q) ≡ false → is_under_some (home q) ts t ≡ false → has_node before.nodes t ≡ true → ⊥
  nodes_among t goes_on other off there =
      elim (cases_Bool (is_in n.value_bitmap n.child_bitmap (take 5 (drop (length (home q)) t)))) as (λ _. ⊥) [
        | inl hit ↦
            let m = member (take 5 (drop (length (home q)) t)) (let f = five in omega (arith, f)) hit (five_below q t goes_on long) in
            false≢true (sym off ∙ list_any_at (λ u. is_under (home q) u t) ts m.0 (take 5 (drop (length (home q)) t)) m.1
            (ap (λ u. is_under (home q) u t) m.2 ∙ under_child (home q) (take 5 (drop (length (home q)) t)) t five ∙ (further q t goes_on long).1))
        | inr miss ↦
            false≢true (sym (no_child (take 5 (drop (length (home q)) t)) five miss)
            ∙ trie.nodes.closed (home q ++ take 5 (drop (length (home q)) t)) t there (further q t goes_on long).1
            (whole_more (length (home q)) (length (take 5 (drop (length (home q)) t))) (length (home q ++ take 5 (drop (length (home q)) t))) (home-depth q) five
            (length-append (home q) (take 5 (drop (length (home q)) t)))))
      ]
    where
      long : length (home q) + 5 ≤ length t
      long =
          fifth_more (length (home q)) (length t) (home-depth q) (trie.nodes.depths t there) (begins-length (home q) t (home_goes_on q t goes_on))
          (λ e. false≢true (sym other ∙ is-same_string t (home q) (sym (begins-same-length (home q) t (home_goes_on q t goes_on) (sym e)))))

      five : length (take 5 (drop (length (home q)) t)) ≡ 5
      five = (further q t goes_on long).0

  -- the places of a node that the two masks for the end of q leave are those below q
  pub covers_below : AreBelow q ts before
  covers_below = record {
    apart = apart_from;
    every = entries_among;
    nodes_apart = λ t off. no_or_yes (is_under_some (home q) ts t) (λ under. false≢true (sym (apart_from t off) ∙ under_at_some (home q) ts t t under (begins-refl t)));
    every_node = λ t goes_on other off. no_or_yes (has_node before.nodes t) (nodes_among t goes_on other off);
  }

-- ---- if the node of q is missing, and once everything under q is gone

module _ {T : Type 0} where
  -- below a missing node is nothing
  pub no_node_there : (width count : ℕ) (v : Store Node) (w : Store (Option T)) (s : State T) (q : List Bool) → IsTrie width count v w s → read v.slots (chunks_of (home q)) ≡ None →
      (without_below s.entries q ≡ s.entries) × (nodes_without_below s.nodes s.entries q ≡ s.nodes)
  no_node_there width count v w s q trie missing = (
    same_entries (without_below s.entries q) s.entries (λ k. get-without_below s.entries q k ∙ by k (begins q k) refl),
    ap (λ b. cond b (pruned (nodes_not_below s.nodes q) (without_below s.entries q) q) s.nodes) away,
  )
    where
      none : listing_below s.entries (home q) ≡ []
      none = nothing_below width v (record { count = count; cells = w; shape = s }) trie (home q) (home-depth q) missing

      by : (k : List Bool) (b : Bool) → begins q k ≡ b → cond b None (get s.entries k) ≡ get s.entries k
      by k true goes_on = sym (below_none s.entries (home q) k none (home_goes_on q k goes_on))
      by k false off = refl

      away : has_node s.nodes (home q) ≡ false
      away = trie.shaped.0 (home q) ∙ ap (λ o. is_node_depth (home q) && is_some o) missing ∙ and-false (is_node_depth (home q))

  -- and a node that is there is one of the set
  pub home_is_there : (width count : ℕ) (v : Store Node) (w : Store (Option T)) (s : State T) (q : List Bool) (n : Node) → IsTrie width count v w s → read v.slots (chunks_of (home q)) ≡ Some n →
      has_node s.nodes (home q) ≡ true
  home_is_there width count v w s q n trie is_there = trie.shaped.0 (home q) ∙ ap₂ (λ d o. d && is_some o) (ap (λ k. k == 0) (home-depth q)) is_there

  -- once all below q is gone, q itself is not stored
  pub own_gone : (m : Entries T) (q : List Bool) → get (without_below m q) q ≡ None
  own_gone m q = get-without_below m q q ∙ ap (λ b. cond b None (get m q)) (begins-refl q)

  -- so removing it changes no entry
  pub removed_alike : (m : Entries T) (q : List Bool) → without_entry (without_below m q) q ≡ without_below m q
  removed_alike m q = same_entries (without_entry (without_below m q) q) (without_below m q) (λ k.
      get-without_entry (without_below m q) q k ∙ by k (same_string k q) refl)
    where
      by : (k : List Bool) (b : Bool) → same_string k q ≡ b → cond b None (get (without_below m q) k) ≡ get (without_below m q) k
      by k true same = sym (ap (get (without_below m q)) (same_string-is k q same) ∙ own_gone m q)
      by k false other = refl

  -- and prunes as the removal of all below q does
  pub pruned_alike : (m : Entries T) (n : Nodes) (q : List Bool) → has_node n (home q) ≡ true →
      nodes_without (nodes_not_below n q) (without_below m q) q ≡ nodes_without_below n m q
  pruned_alike m n q there =
      ap (λ e. pruned (nodes_not_below n q) e q) (removed_alike m q)
      ∙ sym (ap (λ b. cond b (pruned (nodes_not_below n q) (without_below m q) q) n) there)
