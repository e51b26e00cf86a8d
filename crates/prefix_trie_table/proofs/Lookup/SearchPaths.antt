-- The search path of a bit string, as `descend` follows it.
use Rattle.prefix_trie_table.proofs.Prelude.{◌≡◌, ◌≢◌, ℕ, ◌+◌, ◌-◌, ◌*◌, ◌/◌, ◌<◌, ◌≤◌, Bool, true, false, List, length, length-drop, get_or, take, drop, Option, None, Some, sym, ap, ◌∙◌, subst, arith, number, has, value_bit, Node, has_bit, rank, node_sizes, chunks_of, bit_of, Store, Reached, IsSlot, IsNodeAt, Holds, child_slot, NodesHold, Deepest, IsEnd, has_value, IsSeat, Seat, value_seat, IsAlong, IsLast, ReadsAlong, slot_at, refl, IsOwn}
use Rattle.std.proofs.lemmas.List.{drop-drop, take_all}
use Rattle.prefix_trie_table.proofs.Strings.Bits.{has_bit-is}
use Rattle.prefix_trie_table.proofs.Strings.Digits.{path-length, step-is, rest-is}
use Rattle.prefix_trie_table.proofs.Lookup.Descents.{deepest_is, deepest_more, deepest_end}
use Rattle.prefix_trie_table.proofs.Lookup.DescentEnds.{none_below}
use Rattle.prefix_trie_table.proofs.Tree.Invariant.{deepest_there}
use Rattle.prefix_trie_table.proofs.Tree.Trees.{is_none-None}

-- a search path was followed to this node, and each node on it was visited once
pub record IsFollowed (q : List Bool) (here : Reached) (v : Store Node) (rest : List Bool) (before now : ℕ) : Type 0 where
  pub along : IsAlong q here v
  pub rest_is : rest ≡ drop (5 * here.level) q
  pub short : length q ≤ 128
  pub counted : now ≡ before + (here.level + 1)

-- so many bits are left
pub left_length : (q r : List Bool) (level : ℕ) → r ≡ drop (5 * level) q → length r ≡ length q - 5 * level
left_length q r level e = ap length e ∙ length-drop (5 * level) q

-- how levels and lengths compare, above the level of a string's own node and there
pub deeper_fits : (level last n : ℕ) → last ≡ n / 5 → level < last → 5 * (level + 1) ≤ n
deeper_fits level last n is h = omega (arith, is, h)

pub own_level : (level last n : ℕ) → last ≡ n / 5 → last ≤ level → 5 * level + 5 ≤ n → ⊥
own_level level last n is h more = omega (arith, is, h, more)

pub above_own : (level len n : ℕ) → len ≡ n → 5 * level ≤ n → level ≢ len / 5 → (level < len / 5) × (5 * level + 5 ≤ n)
above_own level len n is whole other = let less : level < len / 5 = omega (arith, is, whole, other) in (less, omega (arith, is, less))

pub at_own : (level len n : ℕ) → len ≡ n → level ≡ len / 5 → n < 5 * level + 5
at_own level len n is last = omega (arith, is, last)

-- a whole step is left above the level of a string's own node
pub step_left : (q r : List Bool) (level last : ℕ) → r ≡ drop (5 * level) q → last ≡ length q / 5 → level < last → 5 ≤ length r
step_left q r level last left is h = let fits = deeper_fits level last (length q) is h in omega (arith, fits, left_length q r level left)

-- and none at that level
pub none_left : (q r : List Bool) (level last : ℕ) → r ≡ drop (5 * level) q → last ≡ length q / 5 → last ≤ level → length r < 5
none_left q r level last left is h = omega (arith, is, h, left_length q r level left)

-- what is left of a bit string after so many steps
module _ (q r : List Bool) (level : ℕ) (left : r ≡ drop (5 * level) q) where
  -- one more step is on the path if five bits are left, and it is their number
  pub rest_inside : 5 ≤ length r → level < length (chunks_of q)
  rest_inside more = omega (arith, path-length q, left_length q r level left, more)

  pub rest_step : 5 ≤ length r → (x : ℕ) → x ≡ number (take 5 r) → get_or (chunks_of q) level 0 ≡ x
  rest_step more x read = step-is q level (rest_inside more) ∙ ap (λ s. number (take 5 s)) (sym left) ∙ sym read

  -- if fewer are left, the path is at its end, and they give the value bit
  module _ (whole : 5 * level ≤ length q) (short : length r < 5) where
    pub rest_ends : length (chunks_of q) ≡ level
    rest_ends = omega (arith, path-length q, left_length q r level left, short, whole)

    pub rest_bit : (x : ℕ) → x ≡ value_bit r → bit_of q ≡ x
    rest_bit x read = ap value_bit (rest-is q ∙ ap (λ n. drop (5 * n) q) rest_ends ∙ sym left) ∙ sym read

-- a node at the level of the string's own node is the last
pub last_at_own : (q : List Bool) (here : Reached) (v : Store Node) → IsAlong q here v → (last : ℕ) → last ≡ length q / 5 → last ≤ here.level → IsLast q here v
last_at_own q here v at last is ends = record { along = at; missing = λ more. absurd (own_level here.level last _ is ends more) }

-- at the root
pub followed_root : (q : List Bool) (here : Reached) (v : Store Node) → here.level ≡ 0 → IsAlong q here v → length q ≤ 128 → (before now : ℕ) → now ≡ before + 1 → IsFollowed q here v q before now
followed_root q here v top along short before now met =
    record { along = along; rest_is = ap (λ n. drop (5 * n) q) (sym top); short = short; counted = omega (arith, top, met) }

-- what is left one step further
pub left_next : (q r : List Bool) (level next : ℕ) → r ≡ drop (5 * level) q → next ≡ level + 1 → drop 5 r ≡ drop (5 * next) q
left_next q r level next left is =
    let deeper : 5 * level + 5 ≡ 5 * next = omega (arith, is) in
    ap (drop 5) left ∙ drop-drop 5 (5 * level) q ∙ ap (λ n. drop n q) deeper

-- one step more
pub followed_next : (q : List Bool) (here next : Reached) (v : Store Node) (r : List Bool) (before now after : ℕ) → IsFollowed q here v r before now
    → (next.level ≡ here.level + 1) × IsAlong q next v → after ≡ now + 1 → IsFollowed q next v (drop 5 r) before after
followed_next q here next v r before now after at step met =
    record {
      along = step.1;
      rest_is = left_next q r here.level next.level at.rest_is step.0;
      short = at.short;
      counted = omega (arith, met, step.0, at.counted);
    }

module _ (q : List Bool) (here : Reached) (v : Store Node) (at : IsAlong q here v) (r : List Bool) (left : r ≡ drop (5 * here.level) q) where
  -- the bit read of what is left is that of the next step, and the child there the next node
  module _ (x : ℕ) (small : x < 32) (read : x ≡ number (take 5 r)) (more : 5 ≤ length r) where
    step : get_or (chunks_of q) here.level 0 ≡ x
    step = rest_step q r here.level left more x read

    pub next_bit : has_bit here.node.child_bitmap (get_or (chunks_of q) here.level 0) ≡ has here.node.child_bitmap x
    next_bit = ap (has_bit here.node.child_bitmap) step ∙ has_bit-is here.node.child_bitmap x small

    pub next_deep : has here.node.child_bitmap x ≡ true → (to : ℕ) → to ≡ child_slot here.node x → (reading : List ℕ → Option Node) (paths : List (List ℕ))
        → NodesHold node_sizes reading paths v → Deepest reading (chunks_of q) (here.level + 1) to v
    next_deep set to is reading paths hold =
        subst (λ i. Deepest reading (chunks_of q) (here.level + 1) i v) (sym is)
        (deepest_more reading paths v (chunks_of q) here.level (slot_at here) hold (at.deepest reading paths hold) (rank here.node.child_bitmap x) here.node (rest_inside q r here.level left more) at.node_is
        (next_bit ∙ set) (ap (rank here.node.child_bitmap) (sym step)))

  -- the value bit read of what is left is the string's own
  pub own_bit : length r < 5 → (x : ℕ) → x ≡ value_bit r → bit_of q ≡ x
  own_bit short x read = rest_bit q r here.level left at.whole short x read

module _ (q : List Bool) (here : Reached) (v : Store Node) (at : IsLast q here v) (reading : List ℕ → Option Node) (paths : List (List ℕ)) (hold : NodesHold node_sizes reading paths v) where
  -- the search path was followed to its end
  pub path_end : IsEnd reading (chunks_of q) here.level
  path_end =
      let whole = at.along.whole in
      deepest_end reading paths v (chunks_of q) here.level (slot_at here) hold (at.along.deepest reading paths hold) here.node (omega (arith, path-length q, whole)) at.along.node_is
      (λ more. at.missing (omega (arith, path-length q, more)))

  -- if a whole step is left, the string's own node is missing
  pub path_none : (r : List Bool) → r ≡ drop (5 * here.level) q → 5 ≤ length r → reading (chunks_of q) ≡ None
  path_none r left more = none_below reading paths v (chunks_of q) here.level hold path_end (omega (arith, path-length q, left_length q r here.level left, more))

  -- so there is no value
  pub none_at_end : (r : List Bool) → r ≡ drop (5 * here.level) q → 5 ≤ length r → has_value (reading (chunks_of q)) (bit_of q) ≡ false
  none_at_end r left more = ap (λ o. has_value o (bit_of q)) (path_none r left more)

  -- if no whole step is left, the last node is the string's own
  module _ (r : List Bool) (left : r ≡ drop (5 * here.level) q) (short : length r < 5) where
    steps : length (chunks_of q) ≤ here.level
    steps = let ends = rest_ends q r here.level left at.along.whole short in omega (arith, ends)

    pub path_own : reading (chunks_of q) ≡ Some here.node
    path_own = ap reading (sym (take_all here.level (chunks_of q) steps))
        ∙ deepest_is reading paths v (chunks_of q) here.level (slot_at here) hold (at.along.deepest reading paths hold) here.node at.along.node_is

    pub path_slot : IsSlot reading (chunks_of q) (slot_at here)
    path_slot = subst (λ p. IsSlot reading p (slot_at here)) (take_all here.level (chunks_of q) steps) (at.along.deepest reading paths hold).is_there

    -- and the value bit tells whether there is one
    module _ (x : ℕ) (small : x < 31) (read : x ≡ value_bit r) where
      pub own_value : has_value (reading (chunks_of q)) (bit_of q) ≡ has here.node.value_bitmap x
      own_value = ap (λ o. has_value o (bit_of q)) path_own ∙ ap (has_bit here.node.value_bitmap) (own_bit q here v at.along r left short x read) ∙ has_bit-is here.node.value_bitmap x (omega (arith, small))

      pub own_seat : has here.node.value_bitmap x ≡ true → (seat : Seat) → seat ≡ value_seat here.node x → IsSeat reading (chunks_of q) (bit_of q) seat
      own_seat set seat is = record {
        node = here.node;
        is = path_own;
        set = ap (λ o. has_value o (bit_of q)) (sym path_own) ∙ own_value ∙ set;
        slot_is = ap (λ s. s.slot) is ∙ ap (λ i. here.node.value_block + rank here.node.value_bitmap i) (sym (own_bit q here v at.along r left short x read));
      }

  -- there is a node
  pub last_there : IsNodeAt reading (slot_at here)
  last_there = deepest_there (at.along.deepest reading paths hold)

-- there is no value if the node is missing
pub no_value_at_end : {T : Type 0} (q : List Bool) (here : Reached) (v : Store Node) (at : IsLast q here v) (reading : List ℕ → Option Node) (paths : List (List ℕ)) (values : List ℕ → ℕ → Option T)
    (w : Store (Option T)) (holds : Holds reading values paths v w) (r : List Bool) → r ≡ drop (5 * here.level) q → 5 ≤ length r → values (chunks_of q) (bit_of q) ≡ None
no_value_at_end q here v at reading paths values w holds r left more =
    is_none-None (values (chunks_of q) (bit_of q)) (holds.cells.set_where (chunks_of q) (bit_of q) ∙ none_at_end q here v at reading paths holds.hold r left more)

-- and as many nodes were visited as levels were passed
pub path_read : (q : List Bool) (here : Reached) (v : Store Node) → IsLast q here v → (before after : ℕ) → after ≡ before + (here.level + 1) → ReadsAlong q v before after
path_read q here v at before after visits reading paths hold = (here.level, path_end q here v at reading paths hold, visits)

-- a string's own node was reached
module _ (q : List Bool) (here : Reached) (v : Store Node) (at : IsOwn q here v) where
  pub own_short : length (drop (5 * here.level) q) < 5
  own_short = let last = at.last in omega (arith, last, path-length q, length-drop (5 * here.level) q)

  pub own_last : IsLast q here v
  own_last = record { along = at.along; missing = λ more. absurd (let last = at.last in omega (arith, last, path-length q, more)) }

  module _ (reading : List ℕ → Option Node) (paths : List (List ℕ)) (hold : NodesHold node_sizes reading paths v) where
    pub own_node : reading (chunks_of q) ≡ Some here.node
    own_node = path_own q here v own_last reading paths hold (drop (5 * here.level) q) refl own_short

    pub own_slot : IsSlot reading (chunks_of q) (slot_at here)
    own_slot = path_slot q here v own_last reading paths hold (drop (5 * here.level) q) refl own_short
