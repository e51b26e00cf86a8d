-- After an insertion each list has its block again: for `total_laws`.
use Rattle.prefix_trie_bits.proofs.Prelude.{◌≡◌, ℕ, ◌+◌, ◌%◌, ◌<◌, ◌≤◌, ◌==◌, inl, inr, Bool, true, false, cond, not, ◌&&◌, ◌||◌, nat_lt, List, length, take, drop, filter, Option, None, Some, refl, sym, ap, ◌∙◌, subst, arith, eqb-true, eq-eqb, ltb-true, true≢false, length-take-le, length-drop, cases_Bool, lt-ltb, Contains, option_or, list_any, get, insert, retain_keys, contains_key, len, same_bool, begins-length, begins-linear, begins-take, begins-trans, take-begins, begins, same_string, strings, IsMap, Sizes, child_block_sizes, value_block_sizes, child_count, own_entries, smallest_size, HasBlock, NodesHaveBlocks, Entries, with_entry, block_needed, gains_child, TakesBlocks, Nodes, has_node, home, is_node_depth, with_needed, State, Storage, HaveBlocks, InsertsInStorage, and-true, and_assoc, or_comm}
use Rattle.prefix_trie_bits.proofs.Checks.{each, at_string}
use Rattle.prefix_trie_bits.proofs.Model.Storage.KeyCounts.{passing-len, passing-inserted, few_behind}
use Rattle.prefix_trie_bits.proofs.Model.Homes.{home-begins, home-length, home-depth, own_home}
use Rattle.prefix_trie_bits.proofs.Model.Levels.{no_children, no_entries}
use Rattle.prefix_trie_bits.proofs.Model.Members.{or-right, and-first, and-second, and-join, same_string-is, is-same_string, has-retained, has-inserted, same_members}
use Rattle.prefix_trie_bits.proofs.Model.NodeSets.{has-with_needed}
use Rattle.prefix_trie_bits.proofs.Model.Storage.PreparedInsertions.{goes_up}
use Rattle.prefix_trie_bits.proofs.Model.Storage.ShrunkBlocks.{has_none, has_some, has_cases, smallest_of}

-- ---- one more item

-- a list that gets one more item and takes the block that it then needs has its block
needed_has : (sizes : List ℕ) → goes_up 0 sizes ≡ true → (top : ℕ) → Contains sizes top → (count : ℕ) (block : Option ℕ) → count + 1 ≤ top → HasBlock sizes count block →
    HasBlock sizes (count + 1) (option_or (block_needed sizes block count) block)
needed_has sizes up top largest count block most has = let small = smallest_of 0 sizes up (count + 1) top largest most in elim (has_cases sizes count block has) as (λ _. HasBlock sizes (count + 1) (option_or (block_needed sizes block count) block)) [
  | inl none ↦ has_some sizes (count + 1) (option_or (block_needed sizes block count) block) small.size (omega arith)
      (ap (λ o. option_or (block_needed sizes o count) o) none.1 ∙ ap (λ o. option_or o None) small.found) small.among small.holds
  | inr holds ↦ elim (cases_Bool (nat_lt count holds.size)) as (λ _. HasBlock sizes (count + 1) (option_or (block_needed sizes block count) block)) [
    | inl space ↦ has_some sizes (count + 1) (option_or (block_needed sizes block count) block) holds.size (omega arith)
        (ap (λ o. option_or (block_needed sizes o count) o) holds.is ∙ ap (λ b. option_or (cond b None (smallest_size sizes (count + 1))) (Some holds.size)) space) holds.among
        (let less = ltb-true count holds.size space in omega (arith, less))
    | inr full ↦ has_some sizes (count + 1) (option_or (block_needed sizes block count) block) small.size (omega arith)
        (ap (λ o. option_or (block_needed sizes o count) o) holds.is ∙ ap (λ b. option_or (cond b None (smallest_size sizes (count + 1))) (Some holds.size)) full
        ∙ ap (λ o. option_or o (Some holds.size)) small.found) small.among small.holds
  ]
]

-- the counts of all nodes after nodes were added and some lists got one more item
record Grows (n later : Nodes) (count count_later : List Bool → ℕ) (gains : List Bool → Bool) (top : ℕ) : Type 0 where
  counts : (p : List Bool) → has_node later p ≡ true → count_later p ≡ count p + cond (gains p) 1 0
  most : (p : List Bool) → has_node later p ≡ true → count_later p ≤ top
  bare : (p : List Bool) → has_node later p ≡ true → has_node n p ≡ false → count p ≡ 0
  stay : (p : List Bool) → has_node n p ≡ true → has_node later p ≡ true
  inside : (p : List Bool) → gains p ≡ true → has_node later p ≡ true

module _ (sizes : List ℕ) (up : goes_up 0 sizes ≡ true) (top : ℕ) (largest : Contains sizes top) (n later : Nodes) (count count_later : List Bool → ℕ) (gains : List Bool → Bool)
    (old new : Sizes) (have : NodesHaveBlocks sizes n count old) (grows : Grows n later count count_later gains top)
    (takes : TakesBlocks (λ p. cond (gains p) (block_needed sizes (get old p) (count p)) None) old new) where
  had : (p : List Bool) → has_node later p ≡ true → HasBlock sizes (count p) (get old p)
  had p there = elim (cases_Bool (has_node n p)) as (λ _. HasBlock sizes (count p) (get old p)) [
    | inl stood ↦ have.at_nodes p stood
    | inr new_one ↦ has_none sizes (count p) (get old p) (grows.bare p there new_one) (have.elsewhere p new_one)
  ]

  taken : (p : List Bool) (b : Bool) → gains p ≡ b → get new p ≡ option_or (cond b (block_needed sizes (get old p) (count p)) None) (get old p)
  taken p b e = takes p ∙ ap (λ c. option_or (cond c (block_needed sizes (get old p) (count p)) None) (get old p)) e

  counted : (p : List Bool) → has_node later p ≡ true → (b : Bool) → gains p ≡ b → count_later p ≡ count p + cond b 1 0
  counted p there b e = grows.counts p there ∙ ap (λ c. count p + cond c 1 0) e

  grows_have : NodesHaveBlocks sizes later count_later new
  grows_have = record {
    at_nodes = λ p there. elim (cases_Bool (gains p)) as (λ _. HasBlock sizes (count_later p) (get new p)) [
      | inl more ↦ subst (λ o. HasBlock sizes (count_later p) o) (sym (taken p true more)) (subst (λ k. HasBlock sizes k (option_or (block_needed sizes (get old p) (count p)) (get old p))) (sym (counted p there true more))
          (needed_has sizes up top largest (count p) (get old p) (let few = grows.most p there in let is = counted p there true more in omega (arith, few, is)) (had p there)))
      | inr same ↦ subst (λ o. HasBlock sizes (count_later p) o) (sym (taken p false same))
          (subst (λ k. HasBlock sizes k (get old p)) (let is = counted p there false same in let e : count p ≡ count_later p = omega (arith, is) in e) (had p there))
    ];
    elsewhere = λ p missing. elim (cases_Bool (gains p)) as (λ _. get new p ≡ None) [
      | inl more ↦ absurd (true≢false (sym (grows.inside p more) ∙ missing))
      | inr same ↦ taken p false same ∙ elim (cases_Bool (has_node n p)) as (λ _. get old p ≡ None) [
        | inl stood ↦ absurd (true≢false (sym (grows.stay p stood) ∙ missing))
        | inr none ↦ have.elsewhere p none
      ]
    ];
  }

-- ---- a node has 32 children at most, and 31 entries of its own

abbrev of_five : List (List Bool)
of_five = filter (λ s. length s == 5) (strings 5)

any-five : (s : List Bool) → length s ≡ 5 → list_any (same_string s) of_five ≡ true
unfolding each strings
any-five s e = elim (cases_Bool (length s == 5)) as (λ _. list_any (same_string s) of_five ≡ true) [
  | inl is ↦ sym (ap (λ b. not b || list_any (same_string s) of_five) is) ∙ at_string 5 (λ r. not (length r == 5) || list_any (same_string r) of_five) refl s (omega (arith, e))
  | inr other ↦ absurd (true≢false (sym (eq-eqb (length s) 5 e) ∙ other))
]

any-short : (s : List Bool) → length s ≤ 4 → list_any (same_string s) (strings 4) ≡ true
unfolding each strings
any-short s h = at_string 4 (λ r. list_any (same_string r) (strings 4)) refl s h

behind : (p k : List Bool) (l : ℕ) → length k ≡ length p + l → length (drop (length p) k) ≡ l
behind p k l e = (let d = length-drop (length p) k in omega (arith, d, e))

pub children_most : (n : Nodes) (p : List Bool) → child_count n p ≤ 32
unfolding strings
children_most n p =
    let test : List Bool → Bool = λ k. begins p k && (length k == length p + 5) in
    let few = few_behind p of_five (retain_keys n test) (λ k has.
    let child = and-first (test k) (contains_key n k) (sym (has-retained n test k) ∙ has) in
    let long = eqb-true (length k) (length p + 5) (and-second (begins p k) (length k == length p + 5) child) in
    (and-first (begins p k) (length k == length p + 5) child, any-five (drop (length p) k) (behind p k 5 long))) in
    let is = passing-len test n in
    let count : length of_five ≡ 32 = refl in
    omega (arith, few, is, count)

pub entries_most : {T : Type 0} (m : Entries T) (p : List Bool) → own_entries m p ≤ 31
unfolding strings
entries_most m p =
    let test : List Bool → Bool = λ k. begins p k && nat_lt (length k) (length p + 5) in
    let few = few_behind p (strings 4) (retain_keys m test) (λ k has.
    let own = and-first (test k) (contains_key m k) (sym (has-retained m test k) ∙ has) in
    let less = ltb-true (length k) (length p + 5) (and-second (begins p k) (nat_lt (length k) (length p + 5)) own) in
    let d = length-drop (length p) k in
    (and-first (begins p k) (nat_lt (length k) (length p + 5)) own, any-short (drop (length p) k) (omega (arith, less, d)))) in
    let is = passing-len test m in
    let count : length (strings 4) ≡ 31 = refl in
    omega (arith, few, is, count)

-- ---- the nodes and entries after an insertion

module _ (n : Nodes) (q p : List Bool) (depth : length p % 5 ≡ 0) where
  abbrev next : List Bool
  next = take (length p + 5) q

  abbrev is_child : List Bool → Bool
  is_child k = begins p k && (length k == length p + 5)

  -- the only child of p on the search path is the next node of the path
  child_on_path : (k : List Bool) → is_child k ≡ true → (begins k q && is_node_depth k) ≡ same_string k next
  child_on_path k child =
      let long = eqb-true (length k) (length p + 5) (and-second (begins p k) (length k == length p + 5) child) in
      same_bool (begins k q && is_node_depth k) (same_string k next)
      (λ on. is-same_string k next (sym (begins-take k q (and-first (begins k q) (is_node_depth k) on)) ∙ ap (λ l. take l q) long))
      (λ same.
      let is = same_string-is k next same in
      and-join (begins k q) (is_node_depth k) (subst (λ x. begins x q ≡ true) (sym is) (take-begins (length p + 5) q)) (eq-eqb (length k % 5) 0 (let e : length k % 5 ≡ 0 = omega (arith, depth, long) in e)))

  children_as_one : child_count (with_needed n q) p ≡ child_count (insert n next tt) p
  children_as_one = passing-len is_child (with_needed n q) ∙ ap (λ x. len x)
      (same_members (retain_keys (with_needed n q) is_child) (retain_keys (insert n next tt) is_child)
      (λ k. has-retained (with_needed n q) is_child k ∙ alike k (is_child k) refl ∙ sym (has-retained (insert n next tt) is_child k))) ∙ sym (passing-len is_child (insert n next tt))
    where
      alike : (k : List Bool) (b : Bool) → is_child k ≡ b → (b && has_node (with_needed n q) k) ≡ (b && has_node (insert n next tt) k)
      alike k true e =
          has-with_needed n q k ∙ ap (λ x. has_node n k || x) (child_on_path k e) ∙ or_comm (has_node n k) (same_string k next) ∙ sym (has-inserted n next tt k)
      alike k false e = refl

  next_child : is_child next ≡ (begins p q && nat_lt (length p) (length (home q)))
  next_child = same_bool (is_child next) (begins p q && nat_lt (length p) (length (home q)))
      (λ child.
      let long = eqb-true (length next) (length p + 5) (and-second (begins p next) (length next == length p + 5) child) in
      let short = begins-length next q (take-begins (length p + 5) q) in
      let less : length p < length (home q) = (let h = home-length q in omega (arith, h, long, short, depth)) in
      and-join (begins p q) (nat_lt (length p) (length (home q))) (begins-trans p next q (and-first (begins p next) (length next == length p + 5) child) (take-begins (length p + 5) q))
      (lt-ltb (length p) (length (home q)) less))
      (λ on.
      let less = ltb-true (length p) (length (home q)) (and-second (begins p q) (nat_lt (length p) (length (home q))) on) in
      let inside : length p + 5 ≤ length q = (let h = home-length q in omega (arith, h, less, depth)) in
      let long = length-take-le (length p + 5) q inside in
      and-join (begins p next) (length next == length p + 5)
      (begins-linear p next q (and-first (begins p q) (nat_lt (length p) (length (home q))) on) (take-begins (length p + 5) q) (omega (arith, long)))
      (eq-eqb (length next) (length p + 5) long))

  -- a node that gets a child has one more
  pub children_grow : child_count (with_needed n q) p ≡ child_count n p + cond (gains_child n q p) 1 0
  children_grow = children_as_one ∙ passing-inserted is_child n next tt
      ∙ ap (λ b. child_count n p + cond (b && not (has_node n next)) 1 0) next_child
      ∙ ap (λ b. child_count n p + cond b 1 0) (and_assoc (begins p q) (nat_lt (length p) (length (home q))) (not (has_node n next))
      ∙ sym (ap (λ b. (b && begins p q) && (nat_lt (length p) (length (home q)) && not (has_node n next))) (eq-eqb (length p % 5) 0 depth)))

module _ {T : Type 0} (m : Entries T) (q p : List Bool) (v : T) (depth : length p % 5 ≡ 0) where
  own_is_home : (begins p q && nat_lt (length q) (length p + 5)) ≡ same_string p (home q)
  own_is_home = same_bool (begins p q && nat_lt (length q) (length p + 5)) (same_string p (home q))
      (λ own. is-same_string p (home q) (own_home p q depth (and-first (begins p q) (nat_lt (length q) (length p + 5)) own)
      (ltb-true (length q) (length p + 5) (and-second (begins p q) (nat_lt (length q) (length p + 5)) own))))
      (λ same.
      let is = same_string-is p (home q) same in
      let less : length q < length p + 5 = (let e = ap (λ s. length s) is ∙ home-length q in omega (arith, e)) in
      and-join (begins p q) (nat_lt (length q) (length p + 5)) (subst (λ x. begins x q ≡ true) (sym is) (home-begins q)) (lt-ltb (length q) (length p + 5) less))

  -- the node of a new key has one more entry of its own
  pub entries_grow : own_entries (with_entry m q v) p ≡ own_entries m p + cond (same_string p (home q) && not (contains_key m q)) 1 0
  entries_grow = passing-inserted (λ k. begins p k && nat_lt (length k) (length p + 5)) m q v ∙ ap (λ b. own_entries m p + cond (b && not (contains_key m q)) 1 0) own_is_home

-- ---- the law

module _ {T : Type 0} (width : ℕ) (s : State T) (q : List Bool) (v : T) where
  abbrev set : State T
  set = record { entries = with_entry s.entries q v; nodes = with_needed s.nodes q }

  pub supplied : IsMap width s → (before after : Storage) → contains_key s.entries q ≡ false → IsMap width set → HaveBlocks s before.layout → InsertsInStorage s q before after → HaveBlocks set after.layout
  supplied map before after new is have inserted = record {
    child_blocks = grows_have child_block_sizes refl 32 (6, omega arith, refl) s.nodes set.nodes (child_count s.nodes) (child_count set.nodes) (gains_child s.nodes q)
        before.layout.child_blocks after.layout.child_blocks have.child_blocks (record {
          counts = λ p there. children_grow s.nodes q p (depths p there);
          most = λ p there. children_most set.nodes p;
          bare = λ p there missing. no_children width s.entries s.nodes map.are_nodes p (depths p there) missing;
          stay = stays;
          inside = λ p gains. on_path p (and-first (is_node_depth p && begins p q) _ gains);
        }) inserted.child_blocks;
    value_blocks = grows_have value_block_sizes refl 31 (6, omega arith, refl) s.nodes set.nodes (own_entries s.entries) (own_entries set.entries) (λ p. same_string p (home q))
        before.layout.value_blocks after.layout.value_blocks have.value_blocks (record {
          counts = λ p there. entries_grow s.entries q p v (depths p there) ∙ ap (λ b. own_entries s.entries p + cond b 1 0) (ap (λ b. same_string p (home q) && not b) new ∙ and-true (same_string p (home q)));
          most = λ p there. entries_most set.entries p;
          bare = λ p there missing. no_entries width s.entries s.nodes map.are_nodes p (depths p there) missing;
          stay = stays;
          inside = λ p same. on_path p (subst (λ x. (is_node_depth x && begins x q) ≡ true) (sym (same_string-is p (home q) same))
              (and-join (is_node_depth (home q)) (begins (home q) q) (eq-eqb (length (home q) % 5) 0 (home-depth q)) (home-begins q)));
        }) inserted.value_blocks;
  }
    where
      depths : (p : List Bool) → has_node set.nodes p ≡ true → length p % 5 ≡ 0
      depths p there = is.are_nodes.depths p there

      stays : (p : List Bool) → has_node s.nodes p ≡ true → has_node set.nodes p ≡ true
      stays p stood = has-with_needed s.nodes q p ∙ ap (λ b. b || (begins p q && is_node_depth p)) stood

      on_path : (p : List Bool) → (is_node_depth p && begins p q) ≡ true → has_node set.nodes p ≡ true
      on_path p h = has-with_needed s.nodes q p ∙ or-right (has_node s.nodes p) (begins p q && is_node_depth p)
          (and-join (begins p q) (is_node_depth p) (and-second (is_node_depth p) (begins p q) h) (and-first (is_node_depth p) (begins p q) h))

  -- setting a stored key again changes no number of items
  pub stored_have : (before : Storage) → IsMap width s → contains_key s.entries q ≡ true → HaveBlocks s before.layout →
      HaveBlocks (record { entries = with_entry s.entries q v; nodes = s.nodes }) before.layout
  stored_have before is stored have = record {
    child_blocks = have.child_blocks;
    value_blocks = record {
      at_nodes = λ p there. subst (λ k. HasBlock value_block_sizes k (get before.layout.value_blocks p)) (sym (same p (is.are_nodes.depths p there))) (have.value_blocks.at_nodes p there);
      elsewhere = have.value_blocks.elsewhere;
    };
  }
    where
      none_more : (b : Bool) (n : ℕ) → n + cond (b && false) 1 0 ≡ n
      none_more true n = omega arith
      none_more false n = omega arith

      same : (p : List Bool) → length p % 5 ≡ 0 → own_entries (with_entry s.entries q v) p ≡ own_entries s.entries p
      same p depth = entries_grow s.entries q p v depth ∙ ap (λ b. own_entries s.entries p + cond (same_string p (home q) && not b) 1 0) stored ∙ none_more (same_string p (home q)) (own_entries s.entries p)
