-- The stack of a walk that starts at a bit string.
use Rattle.prefix_trie_table.proofs.Prelude.{◌≡◌, ◌≢◌, ℕ, ◌+◌, ◌-◌, ◌*◌, ◌^◌, ◌%◌, ◌<◌, ◌≤◌, Bool, true, false, not, ◌&&◌, List, [], ◌∷◌, ◌++◌, length, take, drop, filter, Some, inl, inr, refl, sym, ap, ap₂, ◌∙◌, subst, arith, length-append, length-drop, bit_and, append-nil, append_assoc, Ordering, Less, Equal, Greater, take-add, take_all, drop-take, All-nil, All-push, All-weaker, filter_passes, ordering_reverse, cases_lt, false≢true, eqb_tells, take-take, number, listing_cmp, listing_total, listing_same, listing-refl, has, value_bit, is_in, is_before, places, strings, HoldsPlaces, Sets, to_come, listing_at_places, listing_below, is_in-and, value_bit-injective, and-first, and-second, listing_at_child, Node, Spot, Start, At, After, Below, node_at, selected, behind, kept, places_in, chunks_of, read, child_slot, Store, IsTrie, Tree, IsSpot, IsStackFrom, IsStack, IsPlaceOf, IsOther, IsPassed, ArePassed, still, pending}
use Rattle.std.specs.List.{All}
use Rattle.std.specs.Ordering.{is_lt}
use Rattle.std.proofs.lemmas.List.{length-take-le, take-append-drop}
use Rattle.prefix_trie_table.specs.Blocks.Cells.{without_sizes}
use Rattle.prefix_trie_table.proofs.Walk.Stacks.{passed-above, pending-push, cursor-push, restart}
use Rattle.prefix_trie_table.proofs.Walk.Selections.{wanted_below, wanted_at_root, wanted_passed, wanted_ended, wanted_none, at_some_places}
use Rattle.prefix_trie_table.proofs.Tree.Subtrees.{is_in-value, is_in-child, child_is, child_inside, unset}
use Rattle.prefix_trie_table.proofs.Tree.Trees.{read-nil}

-- ---- masks

-- of two strings one is before the other
before-other : (s r : List Bool) → s ≢ r → not (is_before s r) ≡ is_before r s
before-other s r ne = at (listing_cmp s r) refl ∙ sym (ap is_lt (listing_total.antisymm r s))
  where
    at : (o : Ordering) → listing_cmp s r ≡ o → not (is_lt o) ≡ is_lt (ordering_reverse o)
    at Less e = refl
    at Equal e = absurd (ne (listing_same s r e))
    at Greater e = refl

not-itself : (s : List Bool) → is_before s s ≡ false
not-itself s = ap is_lt (listing-refl s)

module _ (values children : ℕ) (r : List Bool) (short : length r ≤ 4) (from : HoldsPlaces values children (λ s. not (is_before s r))) where
  -- the string's own bit is in the masks from it on
  pub own_bit : has values (value_bit r) ≡ true
  own_bit = sym (is_in-value values children r (omega arith)) ∙ from.bits r (omega arith) ∙ ap not (not-itself r)

  -- and without it they are those after it
  pub masks_after : (less : ℕ) → Sets less (value_bit r) values → less < 2 ^ 31 → HoldsPlaces less children (is_before r)
  masks_after less sets small = record { bits = each; small = small }
    where
      other : (s : List Bool) → length s ≤ 5 → s ≢ r → is_in less children s ≡ is_in values children s → is_in less children s ≡ is_before r s
      other s most ne same = same ∙ from.bits s most ∙ before-other s r ne

      each : (s : List Bool) → length s ≤ 5 → is_in less children s ≡ is_before r s
      each s most = elim (cases_lt (length s) 5) as (λ _. is_in less children s ≡ is_before r s) [
        | inl l ↦ elim (eqb_tells (value_bit s) (value_bit r)) as (λ _. is_in less children s ≡ is_before r s) [
          | inl t ↦
              let same = value_bit-injective s r t.1 in
              is_in-value less children s l ∙ ap (has less) t.1 ∙ sets.clear ∙ sym (not-itself r) ∙ ap (is_before r) (sym same)
          | inr t ↦ other s most (λ e. t.1 (ap value_bit e)) (is_in-value less children s l ∙ sym (sets.others (value_bit s) t.1) ∙ sym (is_in-value values children s l))
        ]
        | inr g ↦
            let five : length s ≡ 5 = omega arith in
            other s most (λ e. absurd (let l = ap length e in omega (arith, l))) (is_in-child less children s five ∙ sym (is_in-child values children s five))
      ]

-- the places of a node that two masks leave
pub masked : (n : Node) (values children : ℕ) → places (bit_and n.value_bitmap values) (bit_and n.child_bitmap children) ≡ places_in n values children
masked n values children = λ i. filter (λ s. is_in-and n.value_bitmap n.child_bitmap values children s i) (strings 5)

-- they are places of the node
pub in_first : (n : Node) (values children : ℕ) (s : List Bool) → is_in (bit_and n.value_bitmap values) (bit_and n.child_bitmap children) s ≡ true → is_in n.value_bitmap n.child_bitmap s ≡ true
in_first n values children s h = and-first (is_in n.value_bitmap n.child_bitmap s) (is_in values children s) (sym (is_in-and n.value_bitmap n.child_bitmap values children s) ∙ h)

-- ---- the search path

-- all bits that are left
pub all_left : (rest some : List Bool) (depth len : ℕ) → length rest + depth ≡ len → some ≡ take (len - depth) rest → some ≡ rest
all_left rest some depth len left is = is ∙ take_all (len - depth) rest (omega (arith, left))

-- a key is as long as a bit string that it begins with
pub key_reach : (n l width : ℕ) → l ≡ width → n ≤ width → n ≤ l
key_reach n l width long within = omega (arith, long, within)

-- nothing comes after itself
behind-itself : (x : Start) (s : List Bool) → behind x s s ≡ false
behind-itself At s = not-itself s
behind-itself After s = not-itself s
behind-itself Below s = refl

module _ (width : ℕ) (v : Store Node) (search_path q : List Bool) (from : Start) where
  -- at the next node of the path: what is above it, and what is selected under it, is the selection
  pub record IsBuilt (T : Type 0) (depth : ℕ) (node : Node) (ps : List Spot) : Type 0 where
    pub level : ℕ
    pub depth_is : depth ≡ 5 * level
    pub inside : depth ≤ length q
    pub high : length ps ≡ level
    pub is_there : read v.slots (chunks_of (take depth q)) ≡ Some node
    pub cursor : IsStackFrom width v.slots 0 search_path ps
    pub passed : All (IsPassed search_path) ps
    pub rest : (t : Tree T) → IsTrie width t.count v t.cells t.shape →
        selected from t.shape.entries q ≡ wanted_below from t.shape.entries q (take depth q) ++ pending t.shape.entries search_path ps

  pub built_root : {T : Type 0} (node : Node) (ps : List Spot) → node ≡ node_at v.slots 0 → ps ≡ [] → IsBuilt T 0 node ps
  built_root node ps is none = record {
    level = 0;
    depth_is = refl;
    inside = omega arith;
    high = ap length none;
    is_there = read-nil v.slots ∙ ap Some (sym is);
    cursor = subst (λ qs. IsStackFrom width v.slots 0 search_path qs) (sym none) tt;
    passed = subst (All (IsPassed search_path)) (sym none) (All-nil (IsPassed search_path));
    rest = λ t tree.
        sym (wanted_at_root from t.shape.entries q) ∙ sym (append-nil (wanted_below from t.shape.entries q []))
        ∙ ap (λ qs. wanted_below from t.shape.entries q [] ++ pending t.shape.entries search_path qs) (sym none);
  }

  module _ {T : Type 0} (begun : take (length q) search_path ≡ q) (within : length q ≤ width) (reach : length q ≤ length search_path) (depth : ℕ) (node : Node) (ps : List Spot) (built : IsBuilt T depth node ps) where
    string_length : length (take depth q) ≡ depth
    string_length = length-take-le depth q built.inside

    whole : length (take depth q) % 5 ≡ 0
    whole = let d = built.depth_is in omega (arith, d, string_length)

    -- what is left of the string here
    left_is : q ≡ take depth q ++ drop depth q
    left_is = sym (take-append-drop depth q)

    -- the key begins in the same way
    same_start : (n : ℕ) → n ≤ length q → take n search_path ≡ take n q
    same_start n h = sym (take-take n (length q) search_path h) ∙ ap (take n) begun

    -- the path goes on
    module _ (more : depth + 5 ≤ length q) where
      five : length (take 5 (drop depth q)) ≡ 5
      five = length-take-le 5 (drop depth q) (omega (arith, length-drop depth q, more))

      same_child : take 5 (drop depth search_path) ≡ take 5 (drop depth q)
      same_child = sym (drop-take depth 5 search_path) ∙ ap (drop depth) (same_start (depth + 5) more) ∙ drop-take depth 5 q

      deeper_string : take (depth + 5) q ≡ take depth q ++ take 5 (drop depth q)
      deeper_string = take-add depth 5 q

      search_path_is : q ≡ take depth q ++ take 5 (drop depth q) ++ drop (depth + 5) q
      search_path_is = sym (take-append-drop (depth + 5) q) ∙ ap (λ s. s ++ drop (depth + 5) q) deeper_string

      module _ (t : Tree T) (tree : IsTrie width t.count v t.cells t.shape) (k : ℕ) (k_is : k ≡ number (take 5 (drop depth q))) where
        -- the next node, if its bit is set
        module _ (set : has node.child_bitmap k ≡ true) (slot : ℕ) (slot_is : slot ≡ child_slot node k) where
          bit_set : has node.child_bitmap (number (take 5 (drop depth q))) ≡ true
          bit_set = ap (has node.child_bitmap) (sym k_is) ∙ set

          own_slot : child_slot node (number (take 5 (drop depth q))) ≡ slot
          own_slot = ap (child_slot node) (sym k_is) ∙ sym slot_is

          pub next_inside : slot < length v.slots
          next_inside = subst (λ n. n < length v.slots) own_slot (child_inside width v t tree (take depth q) node whole built.is_there (take 5 (drop depth q)) five bit_set)

          next_is_there : (next : Node) → next ≡ node_at v.slots slot → read v.slots (chunks_of (take (depth + 5) q)) ≡ Some next
          next_is_there next is =
              ap (λ s. read v.slots (chunks_of s)) deeper_string
              ∙ child_is width v t tree (take depth q) node whole built.is_there (take 5 (drop depth q)) five bit_set
              ∙ ap (λ n. Some (node_at v.slots n)) own_slot ∙ ap Some (sym is)

        -- if it is clear nothing is stored under it
        none_below : has node.child_bitmap k ≡ false → listing_below t.shape.entries (take (depth + 5) q) ≡ []
        none_below clear =
            ap (listing_below t.shape.entries) deeper_string
            ∙ sym (listing_at_child t.shape.entries (take depth q) (take 5 (drop depth q)) five)
            ∙ unset width v t tree (take depth q) node whole built.is_there (take 5 (drop depth q)) (omega (arith, five))
            (is_in-child node.value_bitmap node.child_bitmap (take 5 (drop depth q)) five ∙ ap (has node.child_bitmap) (sym k_is) ∙ clear)

    -- a spot is put at this node
    module _ (p : Spot) (node_is : p.node ≡ without_sizes node) (depth_is : p.depth ≡ depth) (each : All (IsPlaceOf node) (to_come p.places)) (qs : List Spot) (pushed : qs ≡ ps ++ p ∷ []) where
      spot : IsSpot width v.slots search_path p
      spot = record {
        node = node;
        level = built.level;
        depth_is = depth_is ∙ built.depth_is;
        within = (let i = built.inside in omega (arith, i, depth_is, within));
        long = (let i = built.inside in omega (arith, i, depth_is, reach));
        is_there = ap (λ d. read v.slots (chunks_of (take d search_path))) depth_is ∙ ap (λ s. read v.slots (chunks_of s)) (same_start depth built.inside) ∙ built.is_there;
        node_is = node_is;
        each = subst (λ n. All (IsPlaceOf n) (to_come p.places)) (sym node_is) each;
      }

      pub stack_from_pushed : IsStackFrom width v.slots 0 search_path qs
      stack_from_pushed =
          subst (IsStackFrom width v.slots 0 search_path) (sym pushed)
          (cursor-push width v.slots search_path 0 ps p built.cursor (let d = built.depth_is in let h = built.high in omega (arith, d, h, depth_is)) spot)

      pub stack_pushed : IsStack width v.slots search_path qs
      stack_pushed = restart width v.slots search_path 0 qs stack_from_pushed

      pub passed_pushed : ArePassed search_path qs
      passed_pushed = passed-above search_path qs ps p pushed built.passed

      module _ (values children : ℕ) (all : to_come p.places ≡ places_in node values children) (test : List Bool → Bool) (holds : HoldsPlaces values children test)
          (t : Tree T) (tree : IsTrie width t.count v t.cells t.shape) where
        still_is : still t.shape.entries search_path p ≡ filter (λ e. test (take 5 (drop (length (take depth q)) e.0))) (listing_below t.shape.entries (take depth q))
        still_is =
            ap (λ d. listing_at_places t.shape.entries (take d search_path) (to_come p.places)) depth_is
            ∙ ap (λ s. listing_at_places t.shape.entries s (to_come p.places)) (same_start depth built.inside)
            ∙ ap (listing_at_places t.shape.entries (take depth q)) all
            ∙ at_some_places t.shape.entries (take depth q) test (λ s. is_in node.value_bitmap node.child_bitmap s && is_in values children s) (is_in node.value_bitmap node.child_bitmap)
            (λ s h. ap (λ b. is_in node.value_bitmap node.child_bitmap s && b) (holds.bits s h))
            (unset width v t tree (take depth q) node whole built.is_there)

        pending_is : pending t.shape.entries search_path qs ≡ still t.shape.entries search_path p ++ pending t.shape.entries search_path ps
        pending_is = ap (pending t.shape.entries search_path) pushed ∙ pending-push t.shape.entries search_path ps p

      -- the node is passed: what comes after the child taken is left there
      module _ (more : depth + 5 ≤ length q) (values children : ℕ) (all : to_come p.places ≡ places_in node values children) (k : ℕ) (k_is : k ≡ number (take 5 (drop depth q)))
          (masks : (s : List Bool) → length s ≡ 5 → number s ≡ k → HoldsPlaces values children (behind from s)) where
        holds : HoldsPlaces values children (behind from (take 5 (drop depth q)))
        holds = masks (take 5 (drop depth q)) (five more) (sym k_is)

        -- the child is not
        child_taken : IsPassed search_path p
        child_taken =
            subst (All (IsOther (take 5 (drop p.depth search_path)))) (sym all)
            (All-weaker (λ s. (is_in node.value_bitmap node.child_bitmap s && is_in values children s) ≡ true) (IsOther (take 5 (drop p.depth search_path)))
            (λ s h e. taken s h (e ∙ ap (λ d. take 5 (drop d search_path)) depth_is ∙ same_child more))
            (places_in node values children) (filter_passes (λ s. is_in node.value_bitmap node.child_bitmap s && is_in values children s) (strings 5)))
          where
            taken : (s : List Bool) → (is_in node.value_bitmap node.child_bitmap s && is_in values children s) ≡ true → s ≡ take 5 (drop depth q) → ⊥
            taken s h e =
                let five : length s ≡ 5 = ap length e ∙ five more in
                let none : is_in values children s ≡ false = holds.bits s (omega (arith, five)) ∙ ap (behind from (take 5 (drop depth q))) e ∙ behind-itself from (take 5 (drop depth q)) in
                false≢true (sym none ∙ and-second (is_in node.value_bitmap node.child_bitmap s) (is_in values children s) h)

        passed_is : (t : Tree T) → IsTrie width t.count v t.cells t.shape → wanted_below from t.shape.entries q (take depth q)
            ≡ wanted_below from t.shape.entries q (take (depth + 5) q) ++ still t.shape.entries search_path p
        passed_is t tree =
            subst (λ z. wanted_below from t.shape.entries z (take depth q) ≡ wanted_below from t.shape.entries z (take (depth + 5) q) ++ still t.shape.entries search_path p) (sym (search_path_is more))
            (wanted_passed from t.shape.entries (take depth q) (take 5 (drop depth q)) (drop (depth + 5) q)
            ∙ ap₂ (λ s es. wanted_below from t.shape.entries (take depth q ++ take 5 (drop depth q) ++ drop (depth + 5) q) s ++ es) (sym (deeper_string more))
            (ap (λ n. filter (λ e. behind from (take 5 (drop depth q)) (take n (drop (length (take depth q)) e.0))) (listing_below t.shape.entries (take depth q))) (five more)
            ∙ sym (still_is values children all (behind from (take 5 (drop depth q))) holds t tree)))

        rest_pushed : (t : Tree T) → IsTrie width t.count v t.cells t.shape → selected from t.shape.entries q
            ≡ wanted_below from t.shape.entries q (take (depth + 5) q) ++ pending t.shape.entries search_path qs
        rest_pushed t tree =
            built.rest t tree ∙ ap (λ es. es ++ pending t.shape.entries search_path ps) (passed_is t tree)
            ∙ append_assoc (wanted_below from t.shape.entries q (take (depth + 5) q)) (still t.shape.entries search_path p) (pending t.shape.entries search_path ps)
            ∙ ap (λ es. wanted_below from t.shape.entries q (take (depth + 5) q) ++ es) (sym (pending_is values children all (behind from (take 5 (drop depth q))) holds t tree))

        -- if the child is missing that is all
        pub rest_missing : has node.child_bitmap k ≡ false → (t : Tree T) → IsTrie width t.count v t.cells t.shape → pending t.shape.entries search_path qs ≡ selected from t.shape.entries q
        rest_missing clear t tree =
            sym (rest_pushed t tree
            ∙ ap (λ es. es ++ pending t.shape.entries search_path qs) (wanted_none from t.shape.entries q (take (depth + 5) q) (none_below more t tree k k_is clear)))

        -- if it is there it is the next node
        pub built_next : (t : Tree T) → IsTrie width t.count v t.cells t.shape → has node.child_bitmap k ≡ true → (slot : ℕ) → slot ≡ child_slot node k → (next : Node) → next ≡ node_at v.slots slot →
            IsBuilt T (depth + 5) next qs
        built_next t tree set slot slot_is next is = record {
          level = built.level + 1;
          depth_is = (let d = built.depth_is in omega (arith, d));
          inside = more;
          high = (let h = built.high in omega (arith, h, ap length pushed, length-append ps (p ∷ [])));
          is_there = next_is_there more t tree k k_is set slot slot_is next is;
          cursor = stack_from_pushed;
          passed = subst (All (IsPassed search_path)) (sym pushed) (All-push (IsPassed search_path) ps p built.passed child_taken);
          rest = rest_pushed;
        }

      -- the string ends at this node
      pub rest_ended : length q < depth + 5 → (values children : ℕ) → to_come p.places ≡ places_in node values children → HoldsPlaces values children (kept from (drop depth q)) →
          (t : Tree T) → IsTrie width t.count v t.cells t.shape → pending t.shape.entries search_path qs ≡ selected from t.shape.entries q
      rest_ended last values children all masks t tree =
          pending_is values children all (kept from (drop depth q)) masks t tree
          ∙ ap (λ es. es ++ pending t.shape.entries search_path ps) (sym ended)
          ∙ sym (built.rest t tree)
        where
          ended : wanted_below from t.shape.entries q (take depth q) ≡ still t.shape.entries search_path p
          ended =
              ap (λ z. wanted_below from t.shape.entries z (take depth q)) left_is
              ∙ wanted_ended from t.shape.entries (take depth q) (drop depth q)
              (let i = built.inside in omega (arith, length-drop depth q, i, last))
              ∙ sym (still_is values children all (kept from (drop depth q)) masks t tree)
