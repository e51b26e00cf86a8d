-- What contracts see of a removal that prunes: the nodes left are those of the model.
use Rattle.prefix_trie_table.proofs.Prelude.{◌≡◌, ℕ, ◌+◌, ◌*◌, ◌/◌, ◌%◌, ◌≤◌, ◌⊎◌, inl, inr, Bool, true, false, cond, not, ◌&&◌, ◌||◌, List, [], ◌∷◌, ◌++◌, length, take, Option, None, Some, is_some, refl, sym, ap, ap₂, ◌∙◌, subst, arith, eqb-true, eq-eqb, length-append, false≢true, cases_Bool, cases_lt, true_from_ne_false, false_from_ne_true, nil_from_length, take_at, take-take, contains_key, retain_keys, begins-trans, begins, digits, length-digits, IsPrunedNode, PruningLaws, without_entry, has_node, is_node_depth, home, is_pruned, nodes_without, State, value_bit, home-begins, home-depth, home-longest, and-first, and-second, and-join, pruning_laws, Node, has_bit, node_sizes, chunks_of, bit_of, Store, is_start, same_path, one_if, entry_count, SomeTable, Holds, has_child, has_value, with_value, EntryTaken, Pruned, EntryRemoved, IsShapeOf, Shaped, IsTable, ForHeld}
use Rattle.std.proofs.lemmas.List.{take_all, length-take-le}
use Rattle.prefix_trie_table.proofs.Strings.SmallFacts.{fifths}
use Rattle.prefix_trie_table.proofs.Tree.Invariant.{some_table}
use Rattle.prefix_trie_table.proofs.Strings.BareBitmaps.{some_bit}
use Rattle.prefix_trie_table.proofs.Strings.Bits.{has_bit-below}
use Rattle.prefix_trie_table.proofs.Strings.Digits.{path-length, path-take}
use Rattle.prefix_trie_table.proofs.Removal.OneEntry.{TakenOut, left_without, entries_without, shape_taken}
use Rattle.prefix_trie_table.proofs.Lookup.DescentEnds.{prefix_some}
use Rattle.prefix_trie_table.proofs.Strings.Keys.{begins-search_path}
use Rattle.prefix_trie_table.proofs.Strings.ChunkPlaces.{below_node, step_below, string_at}
use Rattle.prefix_trie_table.proofs.Removal.Pruning.{drops_cells, drops_count}
use Rattle.prefix_trie_table.proofs.Tree.Shapes.{shape_of, shape_nodes}
use Rattle.prefix_trie_table.proofs.Strings.Beginnings.{is_start-is, is_start_take, is_start-snoc}

-- a beginning of a path is its first steps
pub start_is : (x path : List ℕ) → is_start x path ≡ true → (take (length x) path ≡ x) × (length x ≤ length path)
start_is x path h =
    let r = is_start-is x path h in (
      ap (take (length x)) r.1 ∙ take_at x r.0 (length x) refl,
      omega (arith, ap (λ (xs : List ℕ). length xs) r.1, length-append x r.0),
    )

-- the first steps are a beginning of more of them
start_of_more : (x path : List ℕ) (n : ℕ) → is_start x path ≡ true → length x ≤ n → is_start x (take n path) ≡ true
start_of_more x path n h short =
    let s = start_is x path h in
    subst (λ y. is_start y (take n path) ≡ true) (take-take (length x) n path short ∙ s.0) (is_start_take (length x) (take n path))

clash : (b : Bool) → b ≡ false → b ≡ true → ⊥
clash b e f = false≢true (sym e ∙ f)

needs : (o : Option Node) (b : ℕ) → has_value o b ≡ true → is_some o ≡ true
needs None b h = absurd (false≢true h)
needs (Some n) b h = refl

-- a string's own node has the string's path
pub home_path : (q : List Bool) → chunks_of (home q) ≡ chunks_of q
home_path q =
    path-take (length q / 5) q (fifths (length q) (length q / 5) (length q / 5) (omega arith) refl)
    ∙ take_all (length q / 5) (chunks_of q) (omega (arith, path-length q))

five_more : (l k : ℕ) → l ≡ 5 * k + 5 → l % 5 ≡ 0
five_more l k e = omega (arith, e)

no_steps : (l n : ℕ) → n ≡ l / 5 → l % 5 ≡ 0 → n ≡ 0 → l ≡ 0
no_steps l n e f z = omega (arith, e, f, z)

module _ {T : Type 0} (q : List Bool) (reading : List ℕ → Option Node) (values : List ℕ → ℕ → Option T) (paths : List (List ℕ)) (v : Store Node)
    (w : Store (Option T)) (holds : Holds reading values paths v w) (s : State T) (is : IsShapeOf v.slots w.slots s) where
  home_is : has_node s.nodes (home q) ≡ is_some (reading (chunks_of q))
  home_is = shape_nodes reading values paths v w holds s is (home q)
      ∙ ap₂ (λ a p. a && is_some (reading p)) (eq-eqb (length (home q) % 5) 0 (home-depth q)) (home_path q)

  -- if the node of the string is missing, nothing is pruned
  pub none_pruned : reading (chunks_of q) ≡ None → nodes_without s.nodes s.entries q ≡ s.nodes
  none_pruned missing = ap (λ b. cond b (retain_keys s.nodes (λ t. not (is_pruned s.nodes (without_entry s.entries q) (home q) t))) s.nodes) (home_is ∙ ap is_some missing)

  module _ (there : is_some (reading (chunks_of q)) ≡ true) (v1 v2 : Store Node) (w2 : Store (Option T))
      (t : EntryTaken reading paths values (chunks_of q) (bit_of q) v1 w w2) (p : Pruned t.later paths (chunks_of q) v1 v2) where
    -- the arrays hold what is left
    pub pruned_holds : Holds p.to.later (with_value values (chunks_of q) (bit_of q) None) p.to.left v2 w2
    pruned_holds = record {
      hold = p.to.hold;
      cells = drops_cells (with_value values (chunks_of q) (bit_of q) None) w2 t.later paths p.to.later p.to.left p.to.drops t.holds.cells;
    }

    depth_of : (u : List Bool) → has_node s.nodes u ≡ true → is_node_depth u ≡ true
    depth_of u h = and-first (is_node_depth u) (is_some (reading (chunks_of u))) (sym (shape_nodes reading values paths v w holds s is u) ∙ h)

    five_of : (u : List Bool) → has_node s.nodes u ≡ true → length u % 5 ≡ 0
    five_of u h = eqb-true (length u % 5) 0 (depth_of u h)

    stood : (u : List Bool) → has_node s.nodes u ≡ true → is_some (reading (chunks_of u)) ≡ true
    stood u h = and-second (is_node_depth u) (is_some (reading (chunks_of u))) (sym (shape_nodes reading values paths v w holds s is u) ∙ h)

    -- off the path nodes are unchanged
    off_path : (x : List ℕ) → is_start x (chunks_of q) ≡ false → is_some (p.to.later x) ≡ is_some (reading x)
    off_path x off = ap is_some (p.to.off x off) ∙ t.same x

    -- no node is new
    only_old : (x : List ℕ) → is_some (p.to.later x) ≡ true → is_some (reading x) ≡ true
    only_old x some = elim (cases_Bool (is_start x (chunks_of q))) as (λ _. is_some (reading x) ≡ true) [
      | inl on ↦ prefix_some node_sizes reading paths v holds.hold x (chunks_of q) there on
      | inr off ↦ sym (off_path x off) ∙ some
    ]

    -- above a node that is left all are left
    above_left : (x y : List ℕ) → is_some (p.to.later y) ≡ true → is_start x y ≡ true → is_some (p.to.later x) ≡ true
    above_left x y = prefix_some node_sizes p.to.later p.to.left v2 p.to.hold x y

    -- q's own string begins with a string on the path
    begins_home : (u : List Bool) → length u % 5 ≡ 0 → is_start (chunks_of u) (chunks_of q) ≡ true → begins u (home q) ≡ true
    begins_home u five on = home-longest u q (sym (begins-search_path u q five) ∙ on) five

    on_path_of : (u : List Bool) → length u % 5 ≡ 0 → begins u (home q) ≡ true → is_start (chunks_of u) (chunks_of q) ≡ true
    on_path_of u five h = begins-search_path u q five ∙ begins-trans u (home q) q h (home-begins q)

    -- a node that is not left was removed as the model states
    pub gone_out : (u : List Bool) → has_node s.nodes u ≡ true → is_some (p.to.later (chunks_of u)) ≡ false →
        IsPrunedNode s.nodes (without_entry s.entries q) q u
    gone_out u h gone =
        let five = five_of u h in
        record {
          home_there = home_is ∙ there;
          on_path = elim (cases_Bool (is_start (chunks_of u) (chunks_of q))) as (λ _. begins u (home q) ≡ true) [
            | inl on ↦ begins_home u five on
            | inr off ↦ absurd (clash _ gone (off_path (chunks_of u) off ∙ stood u h))
          ];
          not_root = λ e. clash _ gone (ap (λ x. is_some (p.to.later (chunks_of x))) e ∙ ap is_some p.to.hold.rooted);
          no_key = λ k has. false_from_ne_true (begins u k) (λ hit.
              let value : is_some (with_value values (chunks_of q) (bit_of q) None (chunks_of k) (bit_of k)) ≡ true = ap is_some (sym (entries_without reading values paths v w holds q s is k)) ∙ has in
              let node : is_some (p.to.later (chunks_of k)) ≡ true = needs (p.to.later (chunks_of k)) (bit_of k) (sym (pruned_holds.cells.set_where (chunks_of k) (bit_of k)) ∙ value) in
              clash _ gone (above_left (chunks_of u) (chunks_of k) node (begins-search_path u k five ∙ hit)));
          alone = λ x there_x below. elim (cases_Bool (is_start (chunks_of x) (chunks_of q))) as (λ _. begins x (home q) ≡ true) [
            | inl on ↦ begins_home x (five_of x there_x) on
            | inr off ↦ absurd (clash _ gone (above_left (chunks_of u) (chunks_of x) (off_path (chunks_of x) off ∙ stood x there_x) (begins-search_path u x five ∙ below)))
          ];
        }

    stop_within : 5 * p.level ≤ length q
    stop_within = fifths (length q) p.level (length (chunks_of q)) p.to.within (path-length q)

    stop_long : length (take (5 * p.level) q) ≡ 5 * p.level
    stop_long = length-take-le (5 * p.level) q stop_within

    stop_path : chunks_of (take (5 * p.level) q) ≡ take p.level (chunks_of q)
    stop_path = path-take p.level q stop_within

    -- a value at that node is that of a remaining key, which begins with each string on the path
    -- above
    value_left : (u : List Bool) (b : ℕ) → length u % 5 ≡ 0 → is_start (chunks_of u) (take p.level (chunks_of q)) ≡ true → has_bit p.node.value_bitmap b ≡ true →
        ((k : List Bool) → contains_key (without_entry s.entries q) k ≡ true → begins u k ≡ false) → ⊥
    value_left u b five start set none =
        let value : is_some (with_value values (chunks_of q) (bit_of q) None (take p.level (chunks_of q)) b) ≡ true = pruned_holds.cells.set_where (take p.level (chunks_of q)) b ∙ ap (λ o. has_value o b) p.to.is ∙ set in
        let r = string_at b (pruned_holds.cells.within (take p.level (chunks_of q)) b value) in
        let at = below_node p.level (take (5 * p.level) q) r.0 stop_long r.1 in
        let key : List Bool = take (5 * p.level) q ++ r.0 in
        let key_path : chunks_of (take (5 * p.level) q ++ r.0) ≡ take p.level (chunks_of q) = at.0 ∙ stop_path in
        let key_bit : bit_of (take (5 * p.level) q ++ r.0) ≡ b = ap value_bit at.1 ∙ r.2 in
        let stored : contains_key (without_entry s.entries q) (take (5 * p.level) q ++ r.0) ≡ true = ap is_some (entries_without reading values paths v w holds q s is (take (5 * p.level) q ++ r.0))
        ∙ ap₂ (λ x i. is_some (with_value values (chunks_of q) (bit_of q) None x i)) key_path key_bit ∙ value in
        clash (begins u (take (5 * p.level) q ++ r.0)) (none (take (5 * p.level) q ++ r.0) stored)
        (sym (begins-search_path u (take (5 * p.level) q ++ r.0) five) ∙ ap (is_start (chunks_of u)) key_path ∙ start)

    -- a child of that node is a node off the path, which begins with each string on the path above
    child_left : (u : List Bool) (c : ℕ) → length u % 5 ≡ 0 → is_start (chunks_of u) (take p.level (chunks_of q) ++ c ∷ []) ≡ true → has_bit p.node.child_bitmap c ≡ true →
        ((x : List Bool) → has_node s.nodes x ≡ true → begins u x ≡ true → begins x (home q) ≡ true) → ⊥
    child_left u c five start set alone =
        let child : List Bool = take (5 * p.level) q ++ digits 5 c in
        let child_path : chunks_of (take (5 * p.level) q ++ digits 5 c) ≡ take p.level (chunks_of q) ++ c ∷ [] = step_below p.level (take (5 * p.level) q) c stop_long (has_bit-below p.node.child_bitmap c set) ∙ ap (λ x. x ++ c ∷ []) stop_path in
        let long : length (take (5 * p.level) q ++ digits 5 c) ≡ 5 * p.level + 5 = omega (arith, length-append (take (5 * p.level) q) (digits 5 c), length-digits 5 c, stop_long) in
        let five_child : length (take (5 * p.level) q ++ digits 5 c) % 5 ≡ 0 = five_more (length (take (5 * p.level) q ++ digits 5 c)) p.level long in
        let some : is_some (p.to.later (take p.level (chunks_of q) ++ c ∷ [])) ≡ true = p.to.hold.linked (take p.level (chunks_of q)) c ∙ ap (λ o. has_child o c) p.to.is ∙ set in
        let node : has_node s.nodes (take (5 * p.level) q ++ digits 5 c) ≡ true = shape_nodes reading values paths v w holds s is (take (5 * p.level) q ++ digits 5 c)
        ∙ and-join (is_node_depth (take (5 * p.level) q ++ digits 5 c)) (is_some (reading (chunks_of (take (5 * p.level) q ++ digits 5 c))))
        (eq-eqb (length (take (5 * p.level) q ++ digits 5 c) % 5) 0 five_child)
        (ap (λ x. is_some (reading x)) child_path ∙ only_old (take p.level (chunks_of q) ++ c ∷ []) some) in
        let begun : begins u (take (5 * p.level) q ++ digits 5 c) ≡ true = sym (begins-search_path u (take (5 * p.level) q ++ digits 5 c) five) ∙ ap (is_start (chunks_of u)) child_path ∙ start in
        let on : is_start (take p.level (chunks_of q) ++ c ∷ []) (chunks_of q) ≡ true = ap (λ x. is_start x (chunks_of q)) (sym child_path) ∙ on_path_of (take (5 * p.level) q ++ digits 5 c) five_child (alone (take (5 * p.level) q ++ digits 5 c) node begun) in
        let at = start_is (take p.level (chunks_of q) ++ c ∷ []) (chunks_of q) on in
        let deep : length (take p.level (chunks_of q) ++ c ∷ []) ≡ p.level + 1 = length-append (take p.level (chunks_of q)) (c ∷ []) ∙ ap (λ n. n + 1) (length-take-le p.level (chunks_of q) p.to.within) in
        let none : p.to.later (take p.level (chunks_of q) ++ c ∷ []) ≡ None = ap p.to.later (sym at.0) ∙ p.to.gone (length (take p.level (chunks_of q) ++ c ∷ [])) (omega arith) at.1 in
        clash (is_some (p.to.later (take p.level (chunks_of q) ++ c ∷ []))) (ap is_some none) some

    -- what the model removes is gone
    out_gone : (u : List Bool) → has_node s.nodes u ≡ true → IsPrunedNode s.nodes (without_entry s.entries q) q u → is_some (p.to.later (chunks_of u)) ≡ true → ⊥
    out_gone u h out left =
        let five = five_of u h in
        let on : is_start (chunks_of u) (chunks_of q) ≡ true = on_path_of u five out.on_path in
        let at = start_is (chunks_of u) (chunks_of q) on in
        elim (cases_lt p.level (length (chunks_of u))) as (λ _. ⊥) [
          | inl deep ↦ clash (is_some (p.to.later (chunks_of u))) (ap is_some (ap p.to.later (sym at.0) ∙ p.to.gone (length (chunks_of u)) deep at.1)) left
          | inr high ↦
              let start : is_start (chunks_of u) (take p.level (chunks_of q)) ≡ true = start_of_more (chunks_of u) (chunks_of q) p.level on high in
              elim p.stops as (λ _. ⊥) [
                | inl root ↦ out.not_root (nil_from_length u (no_steps (length u) (length (chunks_of u)) (path-length u) five (omega arith)))
                | inr (inl some) ↦ let b = some_bit p.node.value_bitmap some in value_left u b.0 five start b.1 out.no_key
                | inr (inr some) ↦
                    let c = some_bit p.node.child_bitmap some in
                    child_left u c.0 five (start_longer (chunks_of u) (take p.level (chunks_of q)) c.0 start) c.1 out.alone
              ]
        ]
      where
        start_longer : (x y : List ℕ) (c : ℕ) → is_start x y ≡ true → is_start x (y ++ c ∷ []) ≡ true
        start_longer x y c e = is_start-snoc x y c ∙ ap (λ b. b || (same_path x (y ++ c ∷ []) || false)) e

    -- so the nodes left are those of the model
    nodes_are : (u : List Bool) → has_node (nodes_without s.nodes s.entries q) u ≡ (is_node_depth u && is_some (p.to.later (chunks_of u)))
    nodes_are u = elim (cases_Bool (has_node s.nodes u)) as
        (λ _. has_node (nodes_without s.nodes s.entries q) u ≡ (is_node_depth u && is_some (p.to.later (chunks_of u)))) [
          | inl is_there ↦ with_depth u is_there (cases_Bool (is_some (p.to.later (chunks_of u))))
          | inr some_missing ↦
              false_from_ne_true _ (λ h. clash (has_node s.nodes u) some_missing (laws.none_added s.nodes (without_entry s.entries q) q u h))
              ∙ sym (false_from_ne_true _ (λ h. clash (has_node s.nodes u) some_missing
              (shape_nodes reading values paths v w holds s is u
              ∙ and-join (is_node_depth u) (is_some (reading (chunks_of u))) (and-first (is_node_depth u) (is_some (p.to.later (chunks_of u))) h)
              (only_old (chunks_of u) (and-second (is_node_depth u) (is_some (p.to.later (chunks_of u))) h)))))
        ]
      where
        laws : PruningLaws T
        laws = pruning_laws T

        with_depth : (u : List Bool) → has_node s.nodes u ≡ true → (is_some (p.to.later (chunks_of u)) ≡ true) ⊎ (is_some (p.to.later (chunks_of u)) ≡ false) →
            has_node (nodes_without s.nodes s.entries q) u ≡ (is_node_depth u && is_some (p.to.later (chunks_of u)))
        with_depth u is_there (inl left) =
            true_from_ne_false (has_node (nodes_without s.nodes s.entries q) u)
            (λ out. out_gone u is_there ((laws.in_words s.nodes (without_entry s.entries q) q u is_there).0 out) left)
            ∙ sym (and-join (is_node_depth u) (is_some (p.to.later (chunks_of u))) (depth_of u is_there) left)
        with_depth u is_there (inr gone) =
            (laws.in_words s.nodes (without_entry s.entries q) q u is_there).1 (gone_out u is_there gone)
            ∙ sym (ap₂ (λ a b. a && b) (depth_of u is_there) gone)

    -- the shape that is left
    pub shape_pruned : IsShapeOf v2.slots w2.slots (record { entries = without_entry s.entries q; nodes = nodes_without s.nodes s.entries q })
    shape_pruned =
        shape_of p.to.later (with_value values (chunks_of q) (bit_of q) None) p.to.left v2 w2 pruned_holds
        (record { entries = without_entry s.entries q; nodes = nodes_without s.nodes s.entries q }) nodes_are
        (entries_without reading values paths v w holds q s is)

  -- the shape that a removal leaves
  shape_removed : (v2 : Store Node) (w2 : Store (Option T)) → EntryRemoved reading paths values (chunks_of q) (bit_of q) v w v2 w2 →
      IsShapeOf v2.slots w2.slots (record { entries = without_entry s.entries q; nodes = nodes_without s.nodes s.entries q })
  shape_removed v2 w2 (inl kept) =
      subst (λ n. IsShapeOf v2.slots w2.slots (record { entries = without_entry s.entries q; nodes = n })) (sym (none_pruned kept.0))
      (shape_taken reading values paths v w holds q v2 w2 s is kept.2)
  shape_removed v2 w2 (inr gone) = shape_pruned gone.1 gone.0 v2 w2 gone.2 gone.3

  -- what it leaves is a table with these entries
  left_holds : (v2 : Store Node) (w2 : Store (Option T)) → EntryRemoved reading paths values (chunks_of q) (bit_of q) v w v2 w2 →
      (t : SomeTable v2 w2) × (entry_count t.reading t.paths + one_if (is_some (values (chunks_of q) (bit_of q))) ≡ entry_count reading paths)
  left_holds v2 w2 (inl kept) = (record { reading = kept.2.later; values = _; paths = paths; holds = kept.2.holds }, kept.2.counted)
  left_holds v2 w2 (inr gone) = (
    record { reading = gone.3.to.later; values = _; paths = gone.3.to.left; holds = pruned_holds gone.1 gone.0 v2 w2 gone.2 gone.3 },
    ap (λ n. n + one_if (is_some (values (chunks_of q) (bit_of q)))) (drops_count gone.2.later paths gone.3.to.later gone.3.to.left gone.3.to.drops)
        ∙ gone.2.counted,
  )

-- a removal that prunes: what it leaves of the table
pub removed_without : {T : Type 0} (key : List Bool) (v v2 : Store Node) (w w2 : Store (Option T)) (count count2 : ℕ) (s : Shaped v.slots w.slots)
    (is : IsTable v w count s.0) (removed : Option T) → ForHeld v w (λ reading paths values. removed ≡ values (chunks_of key) (bit_of key)) →
    count2 + one_if (is_some removed) ≡ count → ForHeld v w (λ reading paths values. EntryRemoved reading paths values (chunks_of key) (bit_of key) v w v2 w2) →
    TakenOut key v v2 w w2 count2 s.0 (record { entries = without_entry s.0.entries key; nodes = nodes_without s.0.nodes s.0.entries key }) removed
removed_without key v v2 w w2 count count2 s is removed before fewer done =
    let t = some_table is in
    let gone = done t.reading t.paths t.values t.holds in
    left_without key v v2 w w2 count count2 s is removed before fewer _ (shape_removed key t.reading t.values t.paths v w t.holds s.0 s.1 v2 w2 gone) refl
    (left_holds key t.reading t.values t.paths v w t.holds s.0 s.1 v2 w2 gone)
