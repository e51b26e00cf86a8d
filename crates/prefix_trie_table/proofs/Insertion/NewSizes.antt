-- The sizes of the blocks after an insertion.
use Rattle.prefix_trie_table.proofs.Prelude.{◌≡◌, ℕ, ◌+◌, ◌*◌, ◌/◌, ◌%◌, ◌≤◌, inl, inr, Bool, true, false, cond, not, nat_lt, ◌&&◌, List, length, take, Option, None, Some, is_some, Result, Ok, Err, MatchResult, refl, sym, ap, ap₂, ◌∙◌, arith, eqb-true, eq-eqb, false≢true, cases_Bool, cases_lt, le-ltb, false_from_ne_true, get, contains_key, option_or, begins, same_bool, same_string, child_block_sizes, value_block_sizes, child_count, own_entries, block_needed, gains_child, child_block_needed, value_block_needed, TakesBlocks, has_node, is_node_depth, home, State, home-depth, home-length, same_string-is, is-same_string, same_entries, Node, node_sizes, chunks_of, bit_of, read, same_path, is_start, gains, Holds, EntryAdded, Sized, child_need, value_need, IsShapeOf, Shaped, Store, IsTable, ForHeld}
use Rattle.std.proofs.lemmas.Bool.{lt-ltb}
use Rattle.std.proofs.lemmas.List.{take_all}
use Rattle.prefix_trie_table.specs.OwnBlocks.{child_block_size, value_block_size}
use Rattle.prefix_trie_table.proofs.Strings.SmallFacts.{five_times}
use Rattle.prefix_trie_table.proofs.Tree.Invariant.{some_table}
use Rattle.prefix_trie_table.proofs.Strings.Digits.{path-length, path-take}
use Rattle.prefix_trie_table.proofs.Insertion.PredictedNeeds.{child_size, value_size, children_are, no_children, values_are, no_values, node_is}
use Rattle.prefix_trie_table.proofs.Strings.Keys.{same_above, begins-search_path}
use Rattle.prefix_trie_table.proofs.Strings.Paths.{same_path-true, same_path-equal}
use Rattle.prefix_trie_table.proofs.Tree.Shapes.{shape_entries}
use Rattle.prefix_trie_table.proofs.Tree.Trees.{reads, is_none-None}

module _ {T : Type 0} (reading : List ℕ → Option Node) (values : List ℕ → ℕ → Option T) (paths : List (List ℕ)) (v : Store Node) (w : Store (Option T))
    (holds : Holds reading values paths v w) (s : State T) (is : IsShapeOf v.slots w.slots s) (sized : Sized v.slots) where
  module _ (p : List Bool) (depth : is_node_depth p ≡ true) where
    child_need_is : (o : Option Node) → reading (chunks_of p) ≡ o → child_need o ≡ block_needed child_block_sizes (get sized.0 p) (child_count s.nodes p)
    child_need_is None e =
        sym (ap₂ (block_needed child_block_sizes) (child_size reading values paths v w holds s is sized p depth None e)
        (no_children reading values paths v w holds s is sized p depth e))
    child_need_is (Some n) e =
        sym (ap₂ (block_needed child_block_sizes) (child_size reading values paths v w holds s is sized p depth (Some n) e)
        (children_are reading values paths v w holds s is sized p depth n e))

    value_need_is : (o : Option Node) → reading (chunks_of p) ≡ o → value_need o ≡ block_needed value_block_sizes (get sized.1.0 p) (own_entries s.entries p)
    value_need_is None e =
        sym (ap₂ (block_needed value_block_sizes) (value_size reading values paths v w holds s is sized p depth None e)
        (no_values reading values paths v w holds s is sized p depth e))
    value_need_is (Some n) e =
        sym (ap₂ (block_needed value_block_sizes) (value_size reading values paths v w holds s is sized p depth (Some n) e)
        (values_are reading values paths v w holds s is sized p depth n e))

    five : length p ≡ 5 * length (chunks_of p)
    five = five_times (length p) (length (chunks_of p)) (eqb-true (length p % 5) 0 depth) (path-length p)

    home_five : (q : List Bool) → length (home q) ≡ 5 * length (chunks_of q)
    home_five q = home-length q ∙ ap (λ k. 5 * k) (sym (path-length q))

    gains_is : (q : List Bool) → gains_child s.nodes q p ≡ gains reading (chunks_of q) (length (chunks_of q)) (chunks_of p)
    gains_is q =
        ap₂ (λ d b. (d && b) && (nat_lt (length p) (length (home q)) && not (has_node s.nodes (take (length p + 5) q)))) depth
        (sym (begins-search_path p q (eqb-true (length p % 5) 0 depth)))
        ∙ ap (λ b. is_start (chunks_of p) (chunks_of q) && b) (elim (cases_lt (length (chunks_of p)) (length (chunks_of q))) as
        (λ _. (nat_lt (length p) (length (home q)) && not (has_node s.nodes (take (length p + 5) q)))
        ≡ (nat_lt (length (chunks_of p)) (length (chunks_of q)) && not (is_some (reading (take (length (chunks_of p) + 1) (chunks_of q)))))) [
          | inl less ↦
              ap₂ (λ a b. a && not b) (lt-ltb (length p) (length (home q)) (omega (arith, five, home_five q, less)))
              (ap (λ n. has_node s.nodes (take n q)) (let next : length p + 5 ≡ 5 * (length (chunks_of p) + 1) = omega (arith, five) in next)
              ∙ node_is reading values paths v w holds s is sized q (length (chunks_of p) + 1) (let e = path-length q in omega arith))
              ∙ ap (λ b. b && not (is_some (reading (take (length (chunks_of p) + 1) (chunks_of q))))) (sym (lt-ltb (length (chunks_of p)) (length (chunks_of q)) less))
          | inr more ↦
              ap (λ b. b && not (has_node s.nodes (take (length p + 5) q)))
              (le-ltb (length p) (length (home q)) (omega (arith, five, home_five q, more)))
              ∙ ap (λ b. b && not (is_some (reading (take (length (chunks_of p) + 1) (chunks_of q))))) (sym (le-ltb (length (chunks_of p)) (length (chunks_of q)) more))
        ])

    home_path : (q : List Bool) → chunks_of (home q) ≡ chunks_of q
    home_path q = path-take (length q / 5) q (within (length q)) ∙ take_all (length q / 5) (chunks_of q) (let e = path-length q in omega arith)
      where
        within : (l : ℕ) → 5 * (l / 5) ≤ l
        within l = omega arith

    same_home : (q : List Bool) → same_string p (home q) ≡ same_path (chunks_of p) (chunks_of q)
    same_home q = same_bool _ _
        (λ h. same_path-equal (chunks_of p) (chunks_of q) (ap chunks_of (same_string-is p (home q) h) ∙ home_path q))
        (λ h. is-same_string p (home q) (same_above p (home q) (eqb-true (length p % 5) 0 depth) (home-depth q) (same_path-true (chunks_of p) (chunks_of q) h ∙ sym (home_path q))))

  no_size : (p : List Bool) → is_node_depth p ≡ false → (get sized.0 p ≡ None) × (get sized.1.0 p ≡ None)
  no_size p shallow = (
    sized.1.1.0 p ∙ ap (λ d. cond d (child_block_size (read v.slots (chunks_of p))) None) shallow,
    sized.1.1.1 p ∙ ap (λ d. cond d (value_block_size (read v.slots (chunks_of p))) None) shallow,
  )

  module _ (v2 : Store Node) (w2 : Store (Option T)) (later : Sized v2.slots) where
    -- refused, the sizes are those that were there
    pub sizes_kept : Holds reading values paths v2 w2 → (later.0 ≡ sized.0) × (later.1.0 ≡ sized.1.0)
    sizes_kept after = (
      same_entries later.0 sized.0 (λ p. later.1.1.0 p ∙ ap (λ o. cond (is_node_depth p) (child_block_size o) None) (same p) ∙ sym (sized.1.1.0 p)),
      same_entries later.1.0 sized.1.0 (λ p. later.1.1.1 p ∙ ap (λ o. cond (is_node_depth p) (value_block_size o) None) (same p) ∙ sym (sized.1.1.1 p)),
    )
      where
        same : (p : List Bool) → read v2.slots (chunks_of p) ≡ read v.slots (chunks_of p)
        same p = reads node_sizes reading paths v2 after.hold (chunks_of p) ∙ sym (reads node_sizes reading paths v holds.hold (chunks_of p))

    module _ (q : List Bool) (x : Option T) (a : EntryAdded reading values paths (chunks_of q) (bit_of q) x v2 w2) where
      -- done, the nodes that needed a block for a child have it
      pub children_taken : TakesBlocks (child_block_needed s.nodes sized.0 q) sized.0 later.0
      children_taken p = elim (cases_Bool (is_node_depth p)) as (λ _. get later.0 p ≡ option_or (child_block_needed s.nodes sized.0 q p) (get sized.0 p)) [
        | inl depth ↦
            later.1.1.0 p ∙ ap₂ (λ d o. cond d (child_block_size o) None) depth (reads node_sizes a.later a.paths v2 a.holds.hold (chunks_of p))
            ∙ a.children (chunks_of p)
            ∙ ap₂ (λ b need. option_or (cond b need None) (child_block_size (reading (chunks_of p)))) (sym (gains_is p depth q))
            (child_need_is p depth (reading (chunks_of p)) refl)
            ∙ ap (option_or (child_block_needed s.nodes sized.0 q p))
            (sym (child_size reading values paths v w holds s is sized p depth (reading (chunks_of p)) refl))
        | inr shallow ↦
            later.1.1.0 p ∙ ap (λ d. cond d (child_block_size (read v2.slots (chunks_of p))) None) shallow
            ∙ sym (ap₂ (λ d o. option_or (cond ((d && begins p q) && (nat_lt (length p) (length (home q)) && not (has_node s.nodes (take (length p + 5) q))))
            (block_needed child_block_sizes (get sized.0 p) (child_count s.nodes p)) None) o) shallow (no_size p shallow).0)
      ]

      -- and so has q's own node, if it needed one for a value
      pub values_taken : values (chunks_of q) (bit_of q) ≡ None → TakesBlocks (value_block_needed s.entries sized.1.0 q) sized.1.0 later.1.0
      values_taken none p = elim (cases_Bool (is_node_depth p)) as (λ _. get later.1.0 p ≡ option_or (value_block_needed s.entries sized.1.0 q p) (get sized.1.0 p)) [
        | inl depth ↦
            later.1.1.1 p ∙ ap₂ (λ d o. cond d (value_block_size o) None) depth (reads node_sizes a.later a.paths v2 a.holds.hold (chunks_of p))
            ∙ a.sized none (chunks_of p)
            ∙ ap₂ (λ b need. option_or (cond b need None) (value_block_size (reading (chunks_of p)))) (sym (same_home p depth q))
            (value_need_is p depth (reading (chunks_of p)) refl)
            ∙ ap (option_or (value_block_needed s.entries sized.1.0 q p))
            (sym (value_size reading values paths v w holds s is sized p depth (reading (chunks_of p)) refl))
        | inr shallow ↦
            let other : same_string p (home q) ≡ false = false_from_ne_true (same_string p (home q)) (λ h.
            false≢true (sym shallow ∙ eq-eqb (length p % 5) 0 (ap (λ t. length t % 5) (same_string-is p (home q) h) ∙ home-depth q))) in
            later.1.1.1 p ∙ ap (λ d. cond d (value_block_size (read v2.slots (chunks_of p))) None) shallow
            ∙ sym (ap₂ (λ b o. option_or (cond b (block_needed value_block_sizes (get sized.1.0 p) (own_entries s.entries p)) None) o) other (no_size p shallow).1)
      ]

-- what an insertion of a new key leaves of the sizes
module _ {T E : Type 0} (q : List Bool) (x : T) (v v2 : Store Node) (w w2 : Store (Option T)) (count : ℕ) (s : Shaped v.slots w.slots)
    (is : IsTable v w count s.0) (sized : Sized v.slots) (later : Sized v2.slots) (new : contains_key s.0.entries q ≡ false) where
  pub sizes_left : (r : Result (Option T) E) → ForHeld v w (λ reading paths values. MatchResult r
      (λ before. (before ≡ values (chunks_of q) (bit_of q)) × EntryAdded reading values paths (chunks_of q) (bit_of q) (Some x) v2 w2)
      (λ _. Holds reading values paths v2 w2)) →
      MatchResult r (λ _. TakesBlocks (child_block_needed s.0.nodes sized.0 q) sized.0 later.0) (λ _. later.0 ≡ sized.0)
      × MatchResult r (λ _. TakesBlocks (value_block_needed s.0.entries sized.1.0 q) sized.1.0 later.1.0) (λ _. later.1.0 ≡ sized.1.0)
  sizes_left (Ok before) left =
      let t = some_table is in
      let none : t.values (chunks_of q) (bit_of q) ≡ None = sym (shape_entries t.reading t.values t.paths v w t.holds s.0 s.1 q) ∙ is_none-None (get s.0.entries q) new in
      let a = (left t.reading t.paths t.values t.holds).1 in (
        children_taken t.reading t.values t.paths v w t.holds s.0 s.1 sized v2 w2 later q (Some x) a,
        values_taken t.reading t.values t.paths v w t.holds s.0 s.1 sized v2 w2 later q (Some x) a none,
      )
  sizes_left (Err e) left =
      let t = some_table is in
      sizes_kept t.reading t.values t.paths v w t.holds s.0 s.1 sized v2 w2 later (left t.reading t.paths t.values t.holds)
