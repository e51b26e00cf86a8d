-- An insertion adds the missing nodes of the search path one level at a time: the invariant of its loop.
use Rattle.prefix_trie_table.proofs.Prelude.{◌≡◌, ◌≢◌, ℕ, ◌+◌, ◌<◌, ◌≤◌, ◌⊎◌, inl, inr, ⊎_elim, Bool, true, false, cond, not, nat_lt, ◌&&◌, ◌||◌, List, [], ◌∷◌, ◌++◌, length, get_or, take, Option, None, Some, is_some, refl, sym, ap, ap₂, ◌∙◌, subst, arith, length-take-le, take_more, take_at, take-take, false≢true, cases_lt, cases_eq, le-ltb, option_or, child_block_sizes, value_block_sizes, block_needed, child_need, value_need, Node, has_bit, rank, one_of, how_many, Tier, Store, AreFree, free_in, size_in, size_if_any, many_of, needs, same_path, is_start, gains, size_gained, one_if, IsSlot, NodesHold, CellsHold, Holds, Walked, EntryAdded, Deepest, ChildAdded, ValueSet, with_child, with_node, has_child, blank_node, node_at, node_sizes, cell_sizes}
use Rattle.std.proofs.lemmas.List.{take_all}
use Rattle.std.proofs.lemmas.Bool.{lt-ltb}
use Rattle.prefix_trie_table.specs.OwnBlocks.{child_block_size, value_block_size}
use Rattle.prefix_trie_table.proofs.Strings.Paths.{same_path-equal, same_path-not}
use Rattle.prefix_trie_table.proofs.Strings.Beginnings.{is_start-snoc, is_start_take, is_start-is}
use Rattle.prefix_trie_table.proofs.Lookup.DescentEnds.{prefix_some}
use Rattle.prefix_trie_table.proofs.Counts.EntryCounts.{count_with_child, count_with_node}
use Rattle.prefix_trie_table.proofs.Blocks.BySize.{many_here, many_other, many-none}
use Rattle.prefix_trie_table.proofs.Blocks.Preparations.{how_many-needs}
use Rattle.prefix_trie_table.proofs.Strings.BitLists.{rank-zero-all}
use Rattle.prefix_trie_table.proofs.Tree.Trees.{slot_holds, is_none-None}
use Rattle.prefix_trie_table.proofs.Tree.Children.{changed_below, changed_here, changed_other, same_or, some_stays, with_here, with_other}
use Rattle.prefix_trie_table.proofs.Tree.Values.{cells_with_child}

or_same : (a b : Bool) → (b ≡ true → a ≡ true) → a ≡ (a || b)
or_same true b h = refl
or_same false true h = h refl
or_same false false h = refl

or_new : (a b : Bool) → true ≡ (a || (b || (true || false)))
or_new true b = refl
or_new false true = refl
or_new false false = refl

or_old : (a b : Bool) → (a || b) ≡ (a || (b || (false || false)))
or_old true b = refl
or_old false true = refl
or_old false false = refl

-- a conjunction with a false test is false
and_false : (a b : Bool) → (a && (b && false)) ≡ false
and_false true true = refl
and_false true false = refl
and_false false b = refl

and_none : (a b : Bool) → (a && (false && b)) ≡ false
and_none true b = refl
and_none false b = refl

module _ (reading : List ℕ → Option Node) (path : List ℕ) where
  -- a node at the depth of the loop or under it gets no child yet, and neither does a node whose next node exists
  gains_deep : (depth : ℕ) (q : List ℕ) → depth ≤ length q → gains reading path depth q ≡ false
  gains_deep depth q h =
      ap (λ b. is_start q path && (b && not (is_some (reading (take (length q + 1) path))))) (le-ltb (length q) depth h)
      ∙ and_none (is_start q path) (not (is_some (reading (take (length q + 1) path))))

  gains_there : (depth : ℕ) (q : List ℕ) → is_some (reading (take (length q + 1) path)) ≡ true → gains reading path depth q ≡ false
  gains_there depth q some = ap (λ b. is_start q path && (nat_lt (length q) depth && not b)) some ∙ and_false (is_start q path) (nat_lt (length q) depth)

  -- the node at which the search ends gets a child
  gains_here : (depth : ℕ) → depth < length path → is_some (reading (take (depth + 1) path)) ≡ false → gains reading path (depth + 1) (take depth path) ≡ true
  gains_here depth inside missing =
      let long : length (take depth path) ≡ depth = length-take-le depth path (omega arith) in
      ap (λ b. b && (nat_lt (length (take depth path)) (depth + 1) && not (is_some (reading (take (length (take depth path) + 1) path))))) (is_start_take depth path)
      ∙ ap (λ n. nat_lt n (depth + 1) && not (is_some (reading (take (n + 1) path)))) long
      ∙ ap₂ (λ a b. a && not b) (lt-ltb depth (depth + 1) (omega arith)) missing

  start_long : (q : List ℕ) → is_start q path ≡ true → q ≡ take (length q) path
  start_long q h =
      let r = is_start-is q path h in
      sym (ap (take (length q)) r.1 ∙ take_at q r.0 (length q) refl)

  -- each other node gets a child if it did before
  gains_other : (depth : ℕ) (q : List ℕ) → q ≢ take depth path → gains reading path (depth + 1) q ≡ gains reading path depth q
  gains_other depth q other = ⊎_elim (λ (e : length q ≡ depth). by_start e (is_start q path) refl)
      (λ (ne : length q ≢ depth). ap (λ b. is_start q path && (b && not (is_some (reading (take (length q + 1) path))))) (same_lt (length q) depth ne)) (cases_eq (length q) depth)
    where
      by_start : length q ≡ depth → (b : Bool) → is_start q path ≡ b →
          (is_start q path && (nat_lt (length q) (depth + 1) && not (is_some (reading (take (length q + 1) path)))))
          ≡ (is_start q path && (nat_lt (length q) depth && not (is_some (reading (take (length q + 1) path)))))
      by_start e true h = absurd (other (start_long q h ∙ ap (λ n. take n path) e))
      by_start e false h =
          ap (λ b. b && (nat_lt (length q) (depth + 1) && not (is_some (reading (take (length q + 1) path))))) h
          ∙ sym (ap (λ b. b && (nat_lt (length q) depth && not (is_some (reading (take (length q + 1) path))))) h)

      same_lt : (n d : ℕ) → n ≢ d → nat_lt n (d + 1) ≡ nat_lt n d
      same_lt n d ne = elim (cases_lt n d) as (λ _. nat_lt n (d + 1) ≡ nat_lt n d) [
        | inl less ↦ lt-ltb n (d + 1) (omega arith) ∙ sym (lt-ltb n d less)
        | inr more ↦ le-ltb n (d + 1) (omega arith) ∙ sym (le-ltb n d more)
      ]

  -- the size of a node's block, if it gets a child and if it does not
  size_kept : (depth : ℕ) (q : List ℕ) → gains reading path depth q ≡ false → size_gained reading path depth q ≡ child_block_size (reading q)
  size_kept depth q e = ap (λ b. option_or (cond b (child_need (reading q)) None) (child_block_size (reading q))) e

  size_new : (depth : ℕ) (q : List ℕ) → gains reading path depth q ≡ true →
      size_gained reading path depth q ≡ option_or (child_need (reading q)) (child_block_size (reading q))
  size_new depth q e = ap (λ b. option_or (cond b (child_need (reading q)) None) (child_block_size (reading q))) e

-- a blank node has no block, and needs what a missing node needs
blank_children : child_block_size (Some blank_node) ≡ None
blank_children = ap (λ n. size_if_any n (size_in node_sizes 0)) rank-zero-all

blank_values : value_block_size (Some blank_node) ≡ None
blank_values = ap (λ n. size_if_any n (size_in cell_sizes 0)) rank-zero-all

blank_needs : child_need (Some blank_node) ≡ child_need None
blank_needs = ap (λ n. block_needed child_block_sizes (size_if_any n (size_in node_sizes 0)) n) rank-zero-all

blank_value_needs : value_need (Some blank_node) ≡ value_need None
blank_value_needs = ap (λ n. block_needed value_block_sizes (size_if_any n (size_in cell_sizes 0)) n) rank-zero-all

or_none : (a b : Bool) → false ≡ (a || b) → a ≡ false
or_none true b e = absurd (false≢true e)
or_none false b e = refl

module _ {T : Type 0} where
  -- the invariant holds before the first level
  pub walked_start : (reading : List ℕ → Option Node) (values : List ℕ → ℕ → Option T) (paths : List (List ℕ)) (path : List ℕ) (depth slot : ℕ)
      (v : Store Node) (w : Store (Option T)) → Holds reading values paths v w → Deepest reading path depth slot v →
      Walked reading values paths path depth slot v w
  walked_start reading values paths path depth slot v w holds deep = record {
    later = reading;
    paths = paths;
    holds = holds;
    deep = deep;
    grown = λ q. or_same (is_some (reading q)) (is_start q (take depth path))
        (λ h. prefix_some node_sizes reading paths v holds.hold q (take depth path) (ap is_some deep.is) h);
    counted = refl;
    children = λ q. sym (size_kept reading path depth q (none_gained q));
    sized = λ q. refl;
    needs = (refl, refl);
  }
    where
      none_gained : (q : List ℕ) → gains reading path depth q ≡ false
      none_gained q = elim (cases_lt (length q) depth) as (λ _. gains reading path depth q ≡ false) [
        | inl less ↦ gains_there reading path depth q
            (prefix_some node_sizes reading paths v holds.hold (take (length q + 1) path) (take depth path) (ap is_some deep.is)
            (ap (λ p. is_start p (take depth path)) (sym (take-take (length q + 1) depth path (omega arith))) ∙ is_start_take (length q + 1) (take depth path)))
        | inr deep_enough ↦ gains_deep reading path depth q deep_enough
      ]

-- adding a child keeps the invariant, one level further down
module _ {T : Type 0} (reading : List ℕ → Option Node) (values : List ℕ → ℕ → Option T) (before : List (List ℕ)) (path : List ℕ) (depth slot c slot2 : ℕ)
    (v v2 : Store Node) (w : Store (Option T)) (a : Walked reading values before path depth slot v w) (inside : depth < length path)
    (digit : c ≡ get_or path depth 0) (missing : has_bit (node_at v.slots slot).child_bitmap c ≡ false)
    (added : (nodes : List ℕ → Option Node) (paths : List (List ℕ)) (p : List ℕ) (n : Node) → NodesHold node_sizes nodes paths v → IsSlot nodes p slot →
    nodes p ≡ Some n → ChildAdded nodes paths p n c v2 slot2) where
  abbrev search_path : List ℕ
  search_path = take depth path

  abbrev one : ChildAdded a.later a.paths (take depth path) a.deep.node c v2 slot2
  one = added a.later a.paths (take depth path) a.deep.node a.holds.hold a.deep.is_there a.deep.is

  abbrev more : List ℕ → Option Node
  more = with_child a.later search_path one.node c

  some_missing : has_bit a.deep.node.child_bitmap c ≡ false
  some_missing =
      let at = slot_holds node_sizes a.later a.paths v a.holds.hold search_path slot a.deep.node a.deep.is_there a.deep.is in
      ap (λ (k : Node). has_bit k.child_bitmap c) (sym at.0) ∙ missing

  gone : is_some (a.later (search_path ++ c ∷ [])) ≡ false
  gone = a.holds.hold.linked search_path c ∙ ap (λ o. has_child o c) a.deep.is ∙ some_missing

  longer : take (depth + 1) path ≡ search_path ++ c ∷ []
  longer = take_more path depth 0 inside ∙ ap (λ d. search_path ++ d ∷ []) (sym digit)

  is_new : (q : List ℕ) → q ≡ search_path ++ c ∷ [] → more q ≡ Some blank_node
  is_new q e = changed_below a.later search_path one.node c (Some blank_node) q e

  was_none : (q : List ℕ) → q ≡ search_path ++ c ∷ [] → reading q ≡ None
  was_none q e = is_none-None (reading q) (or_none (is_some (reading q)) (is_start q search_path) (sym (ap (λ p. is_some (a.later p)) e ∙ gone) ∙ a.grown q))

  child_sizes : (q : List ℕ) → (q ≡ search_path ++ c ∷ []) ⊎ (q ≢ search_path ++ c ∷ []) → (q ≡ search_path) ⊎ (q ≢ search_path) →
      child_block_size (more q) ≡ size_gained reading path (depth + 1) q
  child_sizes q (inl e) at =
      let deep : depth + 1 ≤ length q = (let l = ap (λ (xs : List ℕ). length xs) (e ∙ sym longer) in let f = length-take-le (depth + 1) path (omega arith) in omega arith) in
      ap child_block_size (is_new q e) ∙ blank_children
      ∙ sym (size_kept reading path (depth + 1) q (gains_deep reading path (depth + 1) q deep) ∙ ap child_block_size (was_none q e))
  child_sizes q (inr ne) (inl e) =
      let old : child_block_size (Some a.deep.node) ≡ child_block_size (reading search_path) = ap child_block_size (sym a.deep.is) ∙ a.children search_path
      ∙ size_kept reading path depth search_path (gains_deep reading path depth search_path (let l = length-take-le depth path (omega arith) in omega arith)) in
      ap child_block_size (changed_here a.later search_path one.node c (Some blank_node) q e) ∙ one.children ∙ ap₂ option_or (ap child_need (sym a.deep.is) ∙ a.needs.0) old
      ∙ sym (size_new reading path (depth + 1) search_path (gains_here reading path depth inside (ap is_some (was_none (take (depth + 1) path) longer))))
      ∙ ap (size_gained reading path (depth + 1)) (sym e)
  child_sizes q (inr ne) (inr other) =
      ap child_block_size (changed_other a.later search_path one.node c (Some blank_node) q other ne) ∙ a.children q
      ∙ ap (λ b. option_or (cond b (child_need (reading q)) None) (child_block_size (reading q))) (sym (gains_other reading path depth q other))

  value_sizes : (q : List ℕ) → (q ≡ search_path ++ c ∷ []) ⊎ (q ≢ search_path ++ c ∷ []) → (q ≡ search_path) ⊎ (q ≢ search_path) → value_block_size (more q) ≡ value_block_size (reading q)
  value_sizes q (inl e) at = ap value_block_size (is_new q e) ∙ blank_values ∙ sym (ap value_block_size (was_none q e))
  value_sizes q (inr ne) (inl e) =
      ap value_block_size (changed_here a.later search_path one.node c (Some blank_node) q e)
      ∙ (λ i. size_if_any (rank (one.value_bitmap i) 32) (size_in cell_sizes (one.value_tier i)))
      ∙ ap value_block_size (sym a.deep.is) ∙ a.sized search_path ∙ ap (λ p. value_block_size (reading p)) (sym e)
  value_sizes q (inr ne) (inr other) = ap value_block_size (changed_other a.later search_path one.node c (Some blank_node) q other ne) ∙ a.sized q

  grow : (q : List ℕ) → (q ≡ search_path ++ c ∷ []) ⊎ (q ≢ search_path ++ c ∷ []) →
      is_some (more q) ≡ (is_some (reading q) || (is_start q search_path || (same_path q (search_path ++ c ∷ []) || false)))
  grow q (inl e) = ap is_some (is_new q e) ∙ or_new (is_some (reading q)) (is_start q search_path)
      ∙ ap (λ s. is_some (reading q) || (is_start q search_path || (s || false))) (sym (same_path-equal q (search_path ++ c ∷ []) e))
  grow q (inr ne) = some_stays a.later search_path a.deep.node one.node c (Some blank_node) a.deep.is q ne ∙ a.grown q ∙ or_old (is_some (reading q)) (is_start q search_path)
      ∙ ap (λ s. is_some (reading q) || (is_start q search_path || (s || false))) (sym (same_path-not q (search_path ++ c ∷ []) ne))

  pub walked_more : Walked reading values before path (depth + 1) slot2 v2 w × (node_at v2.slots slot2 ≡ blank_node)
  walked_more = (
    record {
      later = more;
      paths = (search_path ++ c ∷ []) ∷ a.paths;
      holds = record {
        hold = one.hold;
        cells = cells_with_child cell_sizes node_sizes a.later a.paths v a.holds.hold values w a.holds.cells search_path a.deep.node one.node
            a.deep.is one.value_bitmap one.value_block one.value_tier c some_missing;
      };
      deep = record { node = blank_node; is_there = subst (λ q. IsSlot more q slot2) (sym longer) one.is_there; is = is_new (take (depth + 1) path) longer };
      grown = λ q. grow q (same_or q (search_path ++ c ∷ [])) ∙ sym (ap (λ b. is_some (reading q) || b) (ap (is_start q) longer ∙ is_start-snoc q search_path c));
      counted = count_with_child a.later search_path a.deep.node one.node c a.paths a.deep.is one.value_bitmap (a.holds.hold.listed (search_path ++ c ∷ []) ∙ ap one_if gone) ∙ a.counted;
      children = λ q. child_sizes q (same_or q (search_path ++ c ∷ [])) (same_or q search_path);
      sized = λ q. value_sizes q (same_or q (search_path ++ c ∷ [])) (same_or q search_path);
      needs =
          let new = is_new (take (depth + 1) path) longer in
          let old = was_none (take (depth + 1) path) longer in
          (ap child_need new ∙ blank_needs ∙ sym (ap child_need old), ap value_need new ∙ blank_value_needs ∙ sym (ap value_need old));
    },
    (slot_holds node_sizes more ((search_path ++ c ∷ []) ∷ a.paths) v2 one.hold (search_path ++ c ∷ []) slot2 blank_node one.is_there (is_new (search_path ++ c ∷ []) refl)).0,
  )

-- storing the value at the end of the path adds the entry
module _ {T : Type 0} (reading : List ℕ → Option Node) (values : List ℕ → ℕ → Option T) (before : List (List ℕ)) (path : List ℕ) (depth slot b : ℕ) (x : Option T)
    (v v2 : Store Node) (w u : Store (Option T)) (a : Walked reading values before path depth slot v w) (all : depth ≡ length path)
    (put : (nodes : List ℕ → Option Node) (paths : List (List ℕ)) (p : List ℕ) (n : Node) → NodesHold node_sizes nodes paths v →
    CellsHold cell_sizes nodes values paths w → IsSlot nodes p slot → nodes p ≡ Some n → ValueSet nodes paths values p b x v2 u) where
  whole : take depth path ≡ path
  whole = take_all depth path (omega arith)

  end_is : a.later path ≡ Some a.deep.node
  end_is = ap a.later (sym whole) ∙ a.deep.is

  abbrev set_there : ValueSet a.later a.paths values path b x v2 u
  set_there = put a.later a.paths path a.deep.node a.holds.hold a.holds.cells (subst (λ p. IsSlot a.later p slot) whole a.deep.is_there) end_is

  abbrev changed_nodes : List ℕ → Option Node
  changed_nodes = with_node a.later path set_there.node

  child_stays : (q : List ℕ) → (q ≡ path) ⊎ (q ≢ path) → child_block_size (changed_nodes q) ≡ child_block_size (a.later q)
  child_stays q (inl e) = ap child_block_size (with_here a.later path set_there.node q e) ∙ set_there.children ∙ ap (λ p. child_block_size (a.later p)) (sym e)
  child_stays q (inr ne) = ap child_block_size (with_other a.later path set_there.node q ne)

  value_grows : values path b ≡ None → (q : List ℕ) → (q ≡ path) ⊎ (q ≢ path) →
      value_block_size (changed_nodes q) ≡ option_or (cond (same_path q path) (value_need (reading q)) None) (value_block_size (reading q))
  value_grows none q (inl e) =
      ap value_block_size (with_here a.later path set_there.node q e) ∙ set_there.sized none
      ∙ ap₂ option_or (ap (λ p. value_need (a.later p)) (sym whole) ∙ a.needs.1 ∙ ap (λ p. value_need (reading p)) whole) (a.sized path)
      ∙ ap (λ p. option_or (value_need (reading p)) (value_block_size (reading p))) (sym e)
      ∙ sym (ap (λ b. option_or (cond b (value_need (reading q)) None) (value_block_size (reading q))) (same_path-equal q path e))
  value_grows none q (inr ne) =
      ap value_block_size (with_other a.later path set_there.node q ne) ∙ a.sized q
      ∙ sym (ap (λ b. option_or (cond b (value_need (reading q)) None) (value_block_size (reading q))) (same_path-not q path ne))

  stays : (q : List ℕ) → (q ≡ path) ⊎ (q ≢ path) → is_some (changed_nodes q) ≡ is_some (a.later q)
  stays q (inl e) = ap is_some (with_here a.later path set_there.node q e) ∙ sym (ap is_some (ap a.later e ∙ end_is))
  stays q (inr ne) = ap is_some (with_other a.later path set_there.node q ne)

  pub entry_added : EntryAdded reading values before path b x v2 u
  entry_added = record {
    later = changed_nodes;
    paths = a.paths;
    holds = record { hold = set_there.hold; cells = set_there.cells };
    grown = λ q. stays q (same_or q path) ∙ a.grown q ∙ ap (λ p. is_some (reading q) || is_start q p) whole;
    counted =
        omega (arith, count_with_node a.later path set_there.node a.paths (a.holds.hold.listed path ∙ ap (λ o. one_if (is_some o)) end_is), set_there.counted, a.counted);
    children = λ q. child_stays q (same_or q path) ∙ a.children q ∙ ap (λ d. size_gained reading path d q) all;
    sized = λ none q. value_grows none q (same_or q path);
  }

-- the blocks that are still free after one list took its block
pub free_next : (ts us : List Tier) (o : Option ℕ) (lists : ℕ) → AreFree ts (needs o lists) → ((size : ℕ) → free_in ts size ≤ free_in us size + one_of o size) → lists ≤ free_in us 1
free_next ts us o lists free left =
    let d = many_here 1 lists in omega (arith, free 1, left 1, how_many-needs o lists 1, d)

-- a blank node needs a block of one slot for its child
pub blank_child : (n : Node) → n ≡ blank_node → child_need (Some n) ≡ Some 1
blank_child n e = ap (λ (k : Node). child_need (Some k)) e ∙ blank_needs

pub blank_value : (n : Node) → n ≡ blank_node → value_need (Some n) ≡ Some 1
blank_value n e = ap (λ (k : Node). value_need (Some k)) e ∙ blank_value_needs

-- it is free if some block of one slot is
pub free_one : (ts : List Tier) (o : Option ℕ) → o ≡ Some 1 → 0 < free_in ts 1 → AreFree ts (needs o 0)
free_one ts o e some = λ size.
    let a = how_many-needs o 0 size in
    let own : one_of o size ≡ many_of 1 1 size = ap (λ p. one_of p size) e in
    let none = many-none 1 0 size refl in
    elim (cases_eq 1 size) as (λ _. how_many size (needs o 0) ≤ free_in ts size) [
      | inl is ↦ (let h = many_here 1 1 in let f : free_in ts 1 ≡ free_in ts size = ap (free_in ts) is in let m : many_of 1 1 size ≡ many_of 1 1 1 = ap (many_of 1 1) (sym is) in omega (arith, a, own, none, h, f, m, some))
      | inr ne ↦ (let h = many_other 1 1 size ne in omega (arith, a, own, none, h))
    ]
