-- Which beginnings of a bit string have values, node by node on its search path.
use Rattle.prefix_trie_table.proofs.Prelude.{◌≡◌, ℕ, ◌+◌, ◌-◌, ◌*◌, ◌/◌, ◌^◌, ◌<◌, ◌≤◌, Bool, true, false, List, length, length-drop, take, drop, Option, None, Some, is_some, refl, sym, ap, ap₂, ◌∙◌, subst, arith, inl, inr, add-sub_of_le, bit_at, option_or, false≢true, cases_Bool, cases_lt, take-take, drop-take, digits, length-digits, has, value_bit, has_first, IsLongest, IsShortest, NoneBegins, bit-clear, value_bit-small, Node, Match, has_bit, node_sizes, chunks_of, bit_of, Store, NodesHold, IsEnd, has_value, holds_value, NoneHeld, IsHeld, LongestHeld, ShortestHeld, Reached, IsAlong, IsLast, ReadsAlong, slot_at, IfSome, MatchOption, SomeNodes, LackLastBit}
use Rattle.std.proofs.Math.Nat.{min-le_right}
use Rattle.std.proofs.lemmas.List.{take_all, length-take, length-take-le}
use Rattle.prefix_trie_table.proofs.Strings.Bits.{has_bit-is}
use Rattle.prefix_trie_table.proofs.Strings.Digits.{path-length, path-take, rest-is}
use Rattle.prefix_trie_table.proofs.Strings.Beginnings.{is_start_take}
use Rattle.prefix_trie_table.proofs.Tree.Trees.{is_none-None}
use Rattle.prefix_trie_table.proofs.Lookup.Descents.{level_past, deepest_is}
use Rattle.prefix_trie_table.proofs.Lookup.DescentEnds.{prefix_some}
use Rattle.prefix_trie_table.proofs.Lookup.SearchPaths.{path_end}

-- a bitmap without bit 31
pub clear-small : (m : ℕ) → m < 2 ^ 32 → has_bit m 31 ≡ false → m < 2 ^ 31
clear-small m fits clear =
    let z : bit_at m 31 ≡ 0 = bit-clear m 31 (sym (has_bit-is m 31 (omega arith)) ∙ clear) in omega arith

-- the value bit of some first bits
bit-small : (n bit : ℕ) (rest : List Bool) → n ≤ 4 → n ≤ length rest → bit ≡ value_bit (take n rest) → bit < 31
bit-small n bit rest short within is = subst (λ x. x < 31) (sym is) (value_bit-small (take n rest) (omega (arith, length-take-le n rest within)))

-- ---- what a bit string matches in a node, by its first four bits

module _ (r s : List Bool) (same : take 4 r ≡ take 4 s) where
  first_bits : (i : ℕ) → i ≤ 4 → take i s ≡ take i r
  first_bits i few = sym (take-take i 4 s few) ∙ ap (take i) (sym same) ∙ take-take i 4 r few

  first_within : (i : ℕ) → i ≤ 4 → i ≤ length s → i ≤ length r
  first_within i few within = omega (arith, length-take-le i s within, ap length (first_bits i few), length-take i r, min-le_right i (length r))

module _ (m : ℕ) (r s : List Bool) (same : take 4 r ≡ take 4 s) where
  first_has : (i : ℕ) → i ≤ 4 → has_first m s i ≡ has_first m r i
  first_has i few = ap (λ t. has m (value_bit t)) (first_bits r s same i few)

  pub none_first : NoneBegins m r → NoneBegins m s
  none_first none i few within = first_has i few ∙ none i few (first_within r s same i few within)

  pub longest_first : (b : ℕ) → IsLongest m r b → IsLongest m s b
  longest_first b l = record {
    len = l.len;
    short = l.short;
    within = first_within s r (sym same) l.len l.short l.within;
    bit_is = l.bit_is ∙ ap value_bit (sym (first_bits r s same l.len l.short));
    set = l.set;
    none_longer = λ i more few within. first_has i few ∙ l.none_longer i more few (first_within r s same i few within);
  }

  pub shortest_first : (b : ℕ) → IsShortest m r b → IsShortest m s b
  shortest_first b l = record {
    len = l.len;
    short = l.short;
    within = first_within s r (sym same) l.len l.short l.within;
    bit_is = l.bit_is ∙ ap value_bit (sym (first_bits r s same l.len l.short));
    set = l.set;
    none_shorter = λ i less. let short : l.len ≤ 4 = l.short in first_has i (omega (arith, less, short)) ∙ l.none_shorter i less;
  }

-- the first four bits have the same first four as the whole
pub first_left : {first rest left : List Bool} → first ≡ take 4 rest → rest ≡ left → take 4 first ≡ take 4 left
first_left {first} {rest} {left} first_is is = ap (take 4) first_is ∙ take-take 4 4 rest (omega arith) ∙ ap (take 4) is

-- ---- a beginning of i bits, at least as many as lead to a node

module _ (q : List Bool) (level i : ℕ) (from : 5 * level ≤ i) (within : i ≤ length q) where
  -- it has the same path down to that node
  pub take_search_path : take level (chunks_of (take i q)) ≡ take level (chunks_of q)
  take_search_path = sym (path-take level (take i q) (omega (arith, length-take-le i q within))) ∙ ap chunks_of (take-take (5 * level) i q from) ∙ path-take level q (omega arith)

  module _ (last : i < 5 * level + 5) where
    own_steps : length (chunks_of (take i q)) ≡ level
    own_steps = path-length (take i q) ∙ ap (λ n. n / 5) (length-take-le i q within) ∙ sym (level_past level i last from)

    -- the node is its own
    pub own_search_path : chunks_of (take i q) ≡ take level (chunks_of q)
    own_search_path = sym (take_all level (chunks_of (take i q)) (omega (arith, own_steps))) ∙ take_search_path

    -- and its value bit there
    pub own_bit : bit_of (take i q) ≡ value_bit (take (i - 5 * level) (drop (5 * level) q))
    own_bit =
        ap value_bit (rest-is (take i q) ∙ ap (λ n. drop (5 * n) (take i q)) own_steps ∙ ap (λ n. drop (5 * level) (take n q)) (sym (add-sub_of_le from)) ∙ drop-take (5 * level) (i - 5 * level) q)

    -- whether it has a value
    pub held_is : (reading : List ℕ → Option Node) (node : Node) → reading (take level (chunks_of q)) ≡ Some node → holds_value reading q i ≡ has_first node.value_bitmap (drop (5 * level) q) (i - 5 * level)
    held_is reading node e =
        ap₂ (λ o b. has_value o b) (ap reading own_search_path ∙ e) own_bit ∙ has_bit-is node.value_bitmap (value_bit (take (i - 5 * level) (drop (5 * level) q))) (omega (arith, bit-small (i - 5 * level) _ (drop (5 * level) q) (omega arith) (omega (arith, length-drop (5 * level) q)) refl))

pub none_join : (reading : List ℕ → Option Node) (q : List Bool) (a b c : ℕ) → NoneHeld reading q a b → NoneHeld reading q b c → NoneHeld reading q a c
none_join reading q a b c low high i from to within = elim (cases_lt i b) [
  | inl l ↦ low i from l within
  | inr g ↦ high i g to within
]

-- ---- what the node on the path has

module _ (q : List Bool) (level : ℕ) (whole : 5 * level ≤ length q) (reading : List ℕ → Option Node) (node : Node) (is : reading (take level (chunks_of q)) ≡ Some node) where
  rest-length : length (drop (5 * level) q) ≡ length q - 5 * level
  rest-length = length-drop (5 * level) q

  pub none_here : NoneBegins node.value_bitmap (drop (5 * level) q) → NoneHeld reading q (5 * level) (5 * level + 5)
  none_here none i from last within = held_is q level i from within last reading node is ∙ none (i - 5 * level) (omega arith) (omega (arith, rest-length))

  -- a value after the first n bits of the rest
  pub held_here : (n bit : ℕ) → n ≤ 4 → n ≤ length (drop (5 * level) q) → bit ≡ value_bit (take n (drop (5 * level) q)) → has node.value_bitmap bit ≡ true → IsHeld reading q (5 * level + n) bit node
  held_here n bit short within bit_is set =
      let inside : 5 * level + n ≤ length q = omega (arith, rest-length) in
      let own : bit_of (take (5 * level + n) q) ≡ bit = own_bit q level (5 * level + n) (omega arith) inside (omega arith) ∙ ap (λ k. value_bit (take k (drop (5 * level) q))) (back (5 * level) n) ∙ sym bit_is in
      let small : bit < 31 = bit-small n bit (drop (5 * level) q) short within bit_is in
      record {
        within = inside;
        is = ap reading (own_search_path q level (5 * level + n) (omega arith) inside (omega arith)) ∙ is;
        bit_is = own;
        small = small;
        set = has_bit-is node.value_bitmap bit (omega arith) ∙ set;
      }
    where
      back : (a b : ℕ) → a + b - a ≡ b
      back a b = omega arith

  -- the length that a value bit tells
  bit-length : (n bit d x : ℕ) → n ≤ length (drop (5 * level) q) → bit ≡ value_bit (take n (drop (5 * level) q)) → ((s : List Bool) → value_bit s ≡ bit → s ≡ digits d x) → n ≡ d
  bit-length n bit d x within bit_is only = sym (length-take-le n (drop (5 * level) q) within) ∙ ap length (only (take n (drop (5 * level) q)) (sym bit_is)) ∙ length-digits d x

  module _ (bit d x : ℕ) (only : (s : List Bool) → value_bit s ≡ bit → s ≡ digits d x) where
    pub longest_here : IsLongest node.value_bitmap (drop (5 * level) q) bit → IsHeld reading q (5 * level + d) bit node × NoneHeld reading q (5 * level + d + 1) (5 * level + 5)
    longest_here l =
        let e : l.len ≡ d = bit-length l.len bit d x l.within l.bit_is only in
        subst (λ n. IsHeld reading q (5 * level + n) bit node × NoneHeld reading q (5 * level + n + 1) (5 * level + 5)) e (
          held_here l.len bit l.short l.within l.bit_is l.set,
          λ i from last within. held_is q level i (omega arith) within last reading node is ∙ l.none_longer (i - 5 * level) (omega arith) (omega arith) (omega (arith, rest-length)),
        )

    pub shortest_here : IsShortest node.value_bitmap (drop (5 * level) q) bit → IsHeld reading q (5 * level + d) bit node × NoneHeld reading q (5 * level) (5 * level + d)
    shortest_here l =
        let e : l.len ≡ d = bit-length l.len bit d x l.within l.bit_is only in
        let short : l.len ≤ 4 = l.short in
        subst (λ n. IsHeld reading q (5 * level + n) bit node × NoneHeld reading q (5 * level) (5 * level + n)) e (
          held_here l.len bit l.short l.within l.bit_is l.set,
          λ i from last within. held_is q level i from within (omega arith) reading node is ∙ l.none_shorter (i - 5 * level) (omega arith),
        )

pub longest-small : (bitmap bit : ℕ) (rest : List Bool) → IsLongest bitmap rest bit → bit < 31
longest-small bitmap bit rest l = bit-small l.len bit rest l.short l.within l.bit_is

pub shortest-small : (bitmap bit : ℕ) (rest : List Bool) → IsShortest bitmap rest bit → bit < 31
shortest-small bitmap bit rest l = bit-small l.len bit rest l.short l.within l.bit_is

-- nothing has a value past the end of the search path
pub none_past : (reading : List ℕ → Option Node) (paths : List (List ℕ)) (v : Store Node) (q : List Bool) (level end : ℕ) → NodesHold node_sizes reading paths v → IsEnd reading (chunks_of q) level → NoneHeld reading q (5 * level + 5) end
none_past reading paths v q level end hold at i from last within =
    let inside : level < length (chunks_of q) = further level i (length q) (length (chunks_of q)) from within (path-length q) in
    let search_path : take (level + 1) (chunks_of (take i q)) ≡ take (level + 1) (chunks_of q) = take_search_path q (level + 1) i (omega arith) within in
    elim (cases_Bool (is_some (reading (chunks_of (take i q))))) as (λ _. holds_value reading q i ≡ false) [
      | inl e ↦ absurd (false≢true (sym (at.stops inside) ∙ ap (λ p. is_some (reading p)) (sym search_path) ∙ prefix_some node_sizes reading paths v hold (take (level + 1) (chunks_of (take i q))) (chunks_of (take i q)) e (is_start_take (level + 1) (chunks_of (take i q)))))
      | inr e ↦ ap (λ o. has_value o (bit_of (take i q))) (is_none-None (reading (chunks_of (take i q))) e)
    ]
  where
    further : (k i l n : ℕ) → 5 * k + 5 ≤ i → i ≤ l → n ≡ l / 5 → k < n
    further k i l n a b c = omega (arith, a, b, c)

-- ---- the longest of two parts

module _ (reading : List ℕ → Option Node) (q : List Bool) (a b c : ℕ) where
  -- nothing after
  longest_none : (o : Option Match) → LongestHeld reading q a b o → NoneHeld reading q b c → LongestHeld reading q a c o
  longest_none None low high = none_join reading q a b c low high
  longest_none (Some m) low high = (low.0, none_join reading q (m.len + 1) b c low.1 high)

  -- what is found after is longer
  longest_or : (o later : Option Match) → LongestHeld reading q a b o → LongestHeld reading q b c later → LongestHeld reading q a c (option_or later o)
  longest_or o None low high = longest_none o low high
  longest_or o (Some m) low high = high

  shortest_none : (o : Option Match) → ShortestHeld reading q a b o → NoneHeld reading q b c → ShortestHeld reading q a c o
  shortest_none None low high = none_join reading q a b c low high
  shortest_none (Some m) low high = low

  -- nothing before, and what is found after is the first
  pub shortest_behind : NoneHeld reading q a b → (o : Option Match) → ShortestHeld reading q b c o → ShortestHeld reading q a c o
  shortest_behind low None high = none_join reading q a b c low high
  shortest_behind low (Some m) high = (high.0, none_join reading q a b m.len low high.1)

-- the node on the search path is the one at its path
pub along_is : (q : List Bool) (here : Reached) (v : Store Node) → IsAlong q here v → (reading : List ℕ → Option Node) (paths : List (List ℕ)) → NodesHold node_sizes reading paths v → reading (take here.level (chunks_of q)) ≡ Some here.node
along_is q here v at reading paths hold = deepest_is reading paths v (chunks_of q) here.level (slot_at here) hold (at.deepest reading paths hold) here.node at.node_is

-- so it has no value bit 31
pub no_last_bit : (q : List Bool) (here : Reached) (v : Store Node) → IsAlong q here v → (n : SomeNodes v) → LackLastBit n.reading → has_bit here.node.value_bitmap 31 ≡ false
no_last_bit q here v at n lack = lack (take here.level (chunks_of q)) here.node (along_is q here v at n.reading n.paths n.hold)

-- the best match so far, after this node was searched
pub best_now : (q : List Bool) (here : Reached) (v : Store Node) → IsAlong q here v → (reading : List ℕ → Option Node) (paths : List (List ℕ)) → NodesHold node_sizes reading paths v
    → (best found result : Option Match) → LongestHeld reading q 0 (5 * here.level) best
    → ((nodes : List ℕ → Option Node) → nodes (take here.level (chunks_of q)) ≡ Some here.node → LongestHeld nodes q (5 * here.level) (5 * here.level + 5) found)
    → result ≡ option_or found best → LongestHeld reading q 0 (5 * here.level + 5) result
best_now q here v at reading paths hold best found result so_far in_node is =
    subst (LongestHeld reading q 0 (5 * here.level + 5)) (sym is)
    (longest_or reading q 0 (5 * here.level) (5 * here.level + 5) best found so_far (in_node reading (along_is q here v at reading paths hold)))

-- and after the last node was searched
pub best_at_last : (q : List Bool) (here : Reached) (v : Store Node) → IsLast q here v → (reading : List ℕ → Option Node) (paths : List (List ℕ)) → NodesHold node_sizes reading paths v
    → (best : Option Match) → LongestHeld reading q 0 (5 * here.level + 5) best → LongestHeld reading q 0 (length q + 1) best
best_at_last q here v last reading paths hold best found =
    longest_none reading q 0 (5 * here.level + 5) (length q + 1) best found (none_past reading paths v q here.level (length q + 1) hold (path_end q here v last reading paths hold))

-- the shortest match, which only the last node can have
pub shortest_at_last : (q : List Bool) (here : Reached) (v : Store Node) → IsLast q here v → (reading : List ℕ → Option Node) (paths : List (List ℕ)) → NodesHold node_sizes reading paths v
    → (found : Option Match) → NoneHeld reading q 0 (5 * here.level)
    → ((nodes : List ℕ → Option Node) → nodes (take here.level (chunks_of q)) ≡ Some here.node → ShortestHeld nodes q (5 * here.level) (5 * here.level + 5) found)
    → ShortestHeld reading q 0 (length q + 1) found
shortest_at_last q here v last reading paths hold found none in_node =
    shortest_behind reading q 0 (5 * here.level) (length q + 1) none found
    (shortest_none reading q (5 * here.level) (5 * here.level + 5) (length q + 1) found (in_node reading (along_is q here v last.along reading paths hold))
    (none_past reading paths v q here.level (length q + 1) hold (path_end q here v last reading paths hold)))

-- the nodes read down to the one of a match are as many as its length tells
pub match_read : (q : List Bool) (v : Store Node) (level before after : ℕ) (o : Option Match) → IfSome o (λ m. (5 * level ≤ m.len) × (m.len < 5 * level + 5)) → after ≡ before + (level + 1)
    → ReadsAlong q v before after → MatchOption o (ReadsAlong q v before after) (λ m. after ≡ before + (m.len / 5 + 1))
match_read q v level before after None own counted read = read
match_read q v level before after (Some m) own counted read = omega (arith, own.0, own.1, counted)
