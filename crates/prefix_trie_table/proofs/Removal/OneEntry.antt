-- An entry removed, and what contracts see of it.
use Rattle.prefix_trie_table.proofs.Prelude.{◌≡◌, ◌≢◌, ℕ, ◌+◌, ◌-◌, ◌*◌, ◌<◌, ◌⊎◌, inl, inr, Bool, true, false, cond, ◌&&◌, List, [], ◌∷◌, ◌++◌, length, take, drop, Option, None, Some, is_some, refl, sym, ap, ap₂, ◌∙◌, subst, arith, false≢true, get, len, len-remove, listing_total, without_entry, is_node_depth, State, get-without_entry, value_bit, Node, Reached, has_bit, rank, cell_sizes, chunks_of, bit_of, Store, one_if, Holds, IsSlot, at_root, at_child, child_slot, node_or_blank, own_count, has_value, with_node, with_value, SomeTable, entry_count, ShrinksList, ValueTaken, EntryTaken, AreAbove, IsAtEnd, slot_in, MakesEntered, IsShapeOf, IsLast, Shaped, same_shape, slot_at, IsTable, Grows, ForHeld, own_children, child_block_size}
use Rattle.prefix_trie_table.specs.OwnBlocks.{value_block_size}
use Rattle.prefix_trie_table.proofs.Removal.ShrinkingLists.{shrinks_none, values_none, same_children}
use Rattle.prefix_trie_table.proofs.Tree.Invariant.{some_table}
use Rattle.prefix_trie_table.proofs.Tree.Children.{same_or, with_here, with_other}
use Rattle.prefix_trie_table.proofs.Counts.EntryCounts.{count_with_node}
use Rattle.prefix_trie_table.proofs.Lookup.SearchPaths.{own_bit, path_own, path_slot}
use Rattle.prefix_trie_table.proofs.Tree.Trees.{is_none-None}
use Rattle.prefix_trie_table.proofs.Strings.Keys.{same_key}
use Rattle.prefix_trie_table.proofs.Strings.Paths.{same_path-equal, same_path-not, snoc_inj}
use Rattle.prefix_trie_table.proofs.Tree.Shapes.{shape_of, shape_nodes, shape_entries}

-- each node is in its slot if a node keeps its children
pub slots_same : (reading : List ℕ → Option Node) (p : List ℕ) (n m : Node) (q : List ℕ) (s : ℕ) → IsSlot reading q s → reading p ≡ Some n →
    m.child_bitmap ≡ n.child_bitmap → m.child_block ≡ n.child_block → IsSlot (with_node reading p m) q s
slots_same reading p n m q s (at_root) is bits block = at_root
slots_same reading p n m q s (at_child r d k parent bit) is bits block = go (same_or r p)
  where
    same : r ≡ p → k ≡ n
    same e = ap node_or_blank (sym parent ∙ ap reading e ∙ is)

    go : (r ≡ p) ⊎ (r ≢ p) → IsSlot (with_node reading p m) (r ++ d ∷ []) (child_slot k d)
    go (inl e) =
        let slot : child_slot m d ≡ child_slot k d = (λ i. block i + rank (bits i) d) ∙ ap (λ (x : Node). child_slot x d) (sym (same e)) in
        subst (λ t. IsSlot (with_node reading p m) (r ++ d ∷ []) t) slot
        (at_child r d m (with_here reading p m r e) (ap (λ b. has_bit b d) bits ∙ ap (λ (x : Node). has_bit x.child_bitmap d) (sym (same e)) ∙ bit))
    go (inr ne) = at_child r d k (with_other reading p m r ne ∙ parent) bit

module _ {T : Type 0} (reading : List ℕ → Option Node) (values : List ℕ → ℕ → Option T) (paths : List (List ℕ)) (v : Store Node) (w : Store (Option T))
    (holds : Holds reading values paths v w) where
  -- nothing is there, so nothing changes
  pub nothing_taken : (path : List ℕ) (b : ℕ) → values path b ≡ None → EntryTaken reading paths values path b v w w
  nothing_taken path b none = record {
    later = reading;
    holds = subst (λ f. Holds reading f paths v w) (λ i q j. unchanged q j (same_or (q ++ j ∷ []) (path ++ b ∷ [])) i) holds;
    same = λ q. refl;
    others = λ q ne. refl;
    is_there = λ q slot at. at;
    counted = (let z : one_if (is_some (values path b)) ≡ 0 = ap (λ o. one_if (is_some o)) none in omega arith);
    kept = λ none. refl;
    children = (refl, refl);
    shrinks = shrinks_none MakesEntered cell_sizes w w (own_count (reading path)) (value_block_size (reading path)) (values_none (reading path)) refl
        (λ size there. omega arith);
  }
    where
      unchanged : (q : List ℕ) (j : ℕ) → (q ++ j ∷ [] ≡ path ++ b ∷ []) ⊎ (q ++ j ∷ [] ≢ path ++ b ∷ []) → values q j ≡ with_value values path b None q j
      unchanged q j (inl e) =
          (λ i. values ((snoc_inj q path j b e).0 i) ((snoc_inj q path j b e).1 i)) ∙ none
          ∙ sym (ap (λ t. cond t None (values q j)) (same_path-equal (q ++ j ∷ []) (path ++ b ∷ []) e))
      unchanged q j (inr ne) = sym (ap (λ t. cond t None (values q j)) (same_path-not (q ++ j ∷ []) (path ++ b ∷ []) ne))

  -- if the node is missing, there is no value
  pub no_value : (path : List ℕ) (b : ℕ) → reading path ≡ None → values path b ≡ None
  no_value path b none = is_none-None (values path b) (holds.cells.set_where path b ∙ ap (λ o. has_value o b) none)

  -- the bit of a node tells whether there is a value
  pub some_at : (path : List ℕ) (n : Node) → reading path ≡ Some n → (b : ℕ) → is_some (values path b) ≡ has_bit n.value_bitmap b
  some_at path n is b = holds.cells.set_where path b ∙ ap (λ o. has_value o b) is

  pub none_at : (path : List ℕ) (n : Node) → reading path ≡ Some n → (b : ℕ) → has_bit n.value_bitmap b ≡ false → values path b ≡ None
  none_at path n is b clear = is_none-None (values path b) (some_at path n is b ∙ clear)

  pub kept_at : (path : List ℕ) (n : Node) → reading path ≡ Some n → (b : ℕ) → values path b ≡ None → (t : EntryTaken reading paths values path b v w w) × (t.later path ≡ Some n)
  unfolding nothing_taken
  kept_at path n is b none = (nothing_taken path b none, is)

  -- a value that its node has lost is taken
  pub value_taken : (path : List ℕ) (b : ℕ) (n m : Node) (v2 : Store Node) (w2 : Store (Option T)) → reading path ≡ Some n →
      is_some (values path b) ≡ true → ValueTaken reading paths values path b n m v2 w w2 →
      (t : EntryTaken reading paths values path b v2 w w2) × (t.later path ≡ Some m)
  value_taken path b n m v2 w2 is there a = (
    record {
      later = with_node reading path m;
      holds = record { hold = a.hold; cells = a.cells };
      same = λ q. stays q (same_or q path);
      others = λ q ne. with_other reading path m q ne;
      is_there = λ q slot at. slots_same reading path n m q slot at is a.children.bitmap a.children.block;
      counted =
          (let c = count_with_node reading path m paths (holds.hold.listed path ∙ ap (λ o. one_if (is_some o)) is) in
          let o : own_count (reading path) ≡ own_count (Some n) = ap own_count is in
          let one : one_if (is_some (values path b)) ≡ 1 = ap one_if there in
          let f = a.fewer in omega arith);
      kept = λ none. absurd (false≢true (sym none ∙ there));
      children =
          (let s = same_children n m a.children in
          let now = with_here reading path m path refl in
          (ap own_children now ∙ s.0 ∙ sym (ap own_children is), ap child_block_size now ∙ s.1 ∙ sym (ap child_block_size is)));
      shrinks = subst (λ o. ShrinksList MakesEntered cell_sizes w w2 (own_count o) (own_count (with_node reading path m path)) (value_block_size o) (value_block_size (with_node reading path m path))) (sym is)
          (subst (λ o. ShrinksList MakesEntered cell_sizes w w2 (own_count (Some n)) (own_count o) (value_block_size (Some n)) (value_block_size o)) (sym (with_here reading path m path refl)) a.shrinks);
    },
    with_here reading path m path refl,
  )
    where
      stays : (q : List ℕ) → (q ≡ path) ⊎ (q ≢ path) → is_some (with_node reading path m q) ≡ is_some (reading q)
      stays q (inl e) = ap is_some (with_here reading path m q e) ∙ sym (ap is_some (ap reading e ∙ is))
      stays q (inr ne) = ap is_some (with_other reading path m q ne)

  -- the values without that of a key are the entries without it
  pub entries_without : (key : List Bool) (s : State T) → IsShapeOf v.slots w.slots s → (q : List Bool) →
      get (without_entry s.entries key) q ≡ with_value values (chunks_of key) (bit_of key) None (chunks_of q) (bit_of q)
  entries_without key s is q =
      get-without_entry s.entries key q
      ∙ ap₂ (λ t o. cond t None o) (same_key q key) (shape_entries reading values paths v w holds s is q)

  -- the shape once an entry is taken
  pub shape_taken : (key : List Bool) (v2 : Store Node) (w2 : Store (Option T)) (s : State T) → IsShapeOf v.slots w.slots s →
      EntryTaken reading paths values (chunks_of key) (bit_of key) v2 w w2 →
      IsShapeOf v2.slots w2.slots (record { entries = without_entry s.entries key; nodes = s.nodes })
  shape_taken key v2 w2 s is a =
      shape_of a.later (with_value values (chunks_of key) (bit_of key) None) paths v2 w2 a.holds (record { entries = without_entry s.entries key; nodes = s.nodes })
      (λ q. shape_nodes reading values paths v w holds s is q ∙ ap (λ b. is_node_depth q && b) (sym (a.same (chunks_of q))))
      (entries_without key s is)

-- one entry less, or as many
one_less : (c n l : ℕ) (b : Bool) → c ≡ l → n + one_if b ≡ c → n ≡ cond b (l - 1) l
one_less c n l true e f = omega (arith, e, f)
one_less c n l false e f = omega (arith, e, f)

-- what a removal with this result leaves of a table with these entries: arrays that are a table of
-- this state and of no other
pub record TakenOut {T : Type 0} (key : List Bool) (v v2 : Store Node) (w w2 : Store (Option T)) (count2 : ℕ) (s left : State T) (removed : Option T) : Type 0 where
  pub was : removed ≡ get s.entries key
  pub shape : IsShapeOf v2.slots w2.slots left
  pub only : (t : Shaped v2.slots w2.slots) → t.0 ≡ left
  pub some : SomeTable v2 w2
  pub table : Grows v v2 24 → Grows w w2 24 → (t : Shaped v2.slots w2.slots) → IsTable v2 w2 count2 t.0

module _ {T : Type 0} (key : List Bool) (v v2 : Store Node) (w w2 : Store (Option T)) (count count2 : ℕ) (s : Shaped v.slots w.slots)
    (is : IsTable v w count s.0) (removed : Option T)
    (before : ForHeld v w (λ reading paths values. removed ≡ values (chunks_of key) (bit_of key))) (fewer : count2 + one_if (is_some removed) ≡ count) where
  -- arrays that have a shape with the other entries are a table
  pub left_without : (left : State T) → IsShapeOf v2.slots w2.slots left → left.entries ≡ without_entry s.0.entries key →
      (t : SomeTable v2 w2) × (entry_count t.reading t.paths + one_if (is_some (is.values (chunks_of key) (bit_of key))) ≡ entry_count is.reading is.paths) →
      TakenOut key v v2 w w2 count2 s.0 left removed
  left_without left shape entries counted =
      let t = some_table is in
      let was : removed ≡ is.values (chunks_of key) (bit_of key) = before t.reading t.paths t.values t.holds in
      let stored : removed ≡ get s.0.entries key = was ∙ sym (shape_entries t.reading t.values t.paths v w t.holds s.0 s.1 key) in
      record {
        was = stored;
        shape = shape;
        only = λ t. same_shape v2.slots w2.slots t.0 left t.1 shape;
        some = counted.0;
        table = λ nodes cells t. record {
          reading = counted.0.reading;
          values = counted.0.values;
          paths = counted.0.paths;
          nodes = counted.0.holds.hold;
          cells = counted.0.holds.cells;
          counted = omega (arith, counted.1, is.counted, ap (λ o. one_if (is_some o)) was, fewer);
          sized = one_less count count2 (len s.0.entries) (is_some removed) is.sized fewer
              ∙ ap (λ b. cond b (len s.0.entries - 1) (len s.0.entries)) (ap is_some stored)
              ∙ sym (len-remove listing_total s.0.entries key)
              ∙ ap len (sym entries) ∙ ap (λ (y : State T). len y.entries) (sym (same_shape v2.slots w2.slots t.0 left t.1 shape));
          cells_first = cells.first_is ∙ is.cells_first;
          one_limit = cells.limit_is ∙ is.one_limit ∙ sym nodes.limit_is;
          nodes_within = nodes.within is.nodes_within;
          cells_within = cells.within is.cells_within;
        };
      }

  -- if the nodes stay
  pub kept_without : ForHeld v w (λ reading paths values. EntryTaken reading paths values (chunks_of key) (bit_of key) v2 w w2) →
      TakenOut key v v2 w w2 count2 s.0 (record { entries = without_entry s.0.entries key; nodes = s.0.nodes }) removed
  kept_without taken =
      let t = some_table is in
      let a = taken t.reading t.paths t.values t.holds in
      left_without _ (shape_taken t.reading t.values t.paths v w t.holds key v2 w2 s.0 s.1 a) refl
      (record { reading = a.later; values = with_value t.values (chunks_of key) (bit_of key) None; paths = t.paths; holds = a.holds }, a.counted)

-- the value of a string's own node is taken, if there is one
module _ {T : Type 0} (q rest : List Bool) (here : Reached) (v : Store Node) (at : IsLast q here v) (left : rest ≡ drop (5 * here.level) q) (short : length rest < 5) (x : ℕ) (read : x ≡ value_bit rest)
    (w : Store (Option T)) (removed : Option T) (m : Node) (v2 : Store Node) (w2 : Store (Option T))
    (taken : ForHeld v w (λ reading paths values. (p : List ℕ) → IsSlot reading p (slot_at here) → reading p ≡ Some here.node →
    (removed ≡ values p x) × ((t : EntryTaken reading paths values p x v2 w w2) × (t.later p ≡ Some m)))) where
  pub own_taken : ForHeld v w (λ reading paths values.
      (removed ≡ values (chunks_of q) (bit_of q)) × ((t : EntryTaken reading paths values (chunks_of q) (bit_of q) v2 w w2) × (t.later (chunks_of q) ≡ Some m)))
  own_taken reading paths values holds =
      rw (own_bit q here v at.along rest left short x read)
      (taken reading paths values holds (chunks_of q) (path_slot q here v at reading paths holds.hold rest left short) (path_own q here v at reading paths holds.hold rest left short))

  -- that is at the end of the search path then
  module _ (last : here.level ≡ length (chunks_of q)) (ancestors items : List ℕ) (same : ancestors ≡ items) (above : AreAbove q here.level items v)
      (reading : List ℕ → Option Node) (paths : List (List ℕ)) (values : List ℕ → ℕ → Option T) (holds : Holds reading values paths v w) where
    abbrev pub own_end : IsAtEnd (chunks_of q) ancestors m v2
    own_end = record {
      reading = (own_taken reading paths values holds).1.0.later;
      paths = paths;
      hold = (own_taken reading paths values holds).1.0.holds.hold;
      long = ap (λ (xs : List ℕ). length xs) same ∙ above.long ∙ last;
      slots = λ k low.
          subst (λ xs. IsSlot (own_taken reading paths values holds).1.0.later (take k (chunks_of q)) (slot_in xs k)) (sym same)
          ((own_taken reading paths values holds).1.0.is_there _ _ (above.slots reading paths holds.hold k (omega (arith, low, last))));
      is = (own_taken reading paths values holds).1.1;
    }
