-- The places of the current node, and one iteration of the loop over them: for `retain`.
use Rattle.prefix_trie_table.proofs.Prelude.{◌≡◌, ℕ, ◌/◌, ◌≤◌, Bool, true, false, cond, ◌&&◌, ◌==◌, List, [], ◌∷◌, ◌++◌, length, take, Option, is_some, refl, sym, ap, ap₂, ◌∙◌, subst, arith, inl, inr, append-nil, length-append, Less, IsStrictlySortedBy, false≢true, cases_lt, le-ltb, All-head, All-tail, All-weaker, All-from_recursion, list_any-append, get, begins, number, digits, digits-number, listing_cmp, has, value_bit, is_in, place_of, Child, CallableOnEachEntry, listing_at_place, listing_at_places, has_node, is_node_depth, State, value_bit-injective, value_bit-small, or-cases, or-left, or-right, is-same_string, not_itself, begins-refl, Node, Site, chunks_of, bit_of, Store, read, has_value, has_child, same_shape, IsPlaceOf, is_at, is_at_some, is_under_some, IsSite, Retains, RetainsIn, MayAskAt, PreservesBelow, IsTrie, Value}
use Rattle.std.specs.List.{All}
use Rattle.std.proofs.lemmas.Bool.{lt-ltb}
use Rattle.prefix_trie_table.proofs.Strings.SmallFacts.{no_or_yes, whole_more}
use Rattle.prefix_trie_table.proofs.Blocks.Soundness.{All-both}
use Rattle.prefix_trie_table.proofs.Tree.Invariant.{some_table}
use Rattle.prefix_trie_table.proofs.Removal.SizeBounds.{blocks_still, blocks_then, stays_none, stays_then}
use Rattle.prefix_trie_table.proofs.Retain.TestCalls.{only_one, at_value, at_child, under_at_some, one_place, apart_first, asked_both, may_ask_first, may_ask_then}
use Rattle.prefix_trie_table.proofs.Strings.Bits.{has_bit-is}
use Rattle.prefix_trie_table.proofs.Strings.ChunkPlaces.{below_node, step_below}
use Rattle.prefix_trie_table.proofs.Removal.GrowthBounds.{bounds_growth_none, bounds_growth_then}
use Rattle.prefix_trie_table.proofs.Retain.RetainedTables.{here_levels, here_whole}
use Rattle.prefix_trie_table.proofs.Tree.Shapes.{shape_entries, shape_nodes, reads_node}
use Rattle.prefix_trie_table.proofs.Walk.NextPlaces.{place-value, place-child}
use Rattle.prefix_trie_table.proofs.Tree.Subtrees.{unset, is_in-value, is_in-child, number-small}

-- strings with the same place are equal
pub same_place : (s t : List Bool) → length s ≤ 5 → length t ≤ 5 → place_of s ≡ place_of t → s ≡ t
same_place s t short_s short_t e = elim (cases_lt (length s) 5) as (λ _. s ≡ t) [
  | inl less ↦
      let is : Value (value_bit s) ≡ place_of s = sym (ap (λ c. cond c (Value (value_bit s)) (Child (number s))) (lt-ltb (length s) 5 less)) in
      value_bit-injective s t (place-value t (value_bit s) short_t (is ∙ e)).1
  | inr most ↦
      let is : Child (number s) ≡ place_of s = sym (ap (λ c. cond c (Value (value_bit s)) (Child (number s))) (le-ltb (length s) 5 most)) in
      let other = place-child t (number s) short_t (is ∙ e) in
      let five : length s ≡ 5 = omega arith in
      sym (digits-number s) ∙ ap₂ digits (five ∙ sym other.0) other.1 ∙ digits-number t
]

module _ {K T : Type 0} (IsKey : K → Type 0) (bits : K → List Bool) (width : ℕ) (v : Store Node) (p : Site K) (n : Node) (at : IsSite IsKey bits width v p n)
    (long : length (bits p.key) ≡ width) (count : ℕ) (w : Store (Option T)) (s : State T) (trie : IsTrie width count v w s) where
  -- a value bit is set exactly if an entry is stored
  pub value_iff : (t : List Bool) → length t ≤ 4 → is_some (get s.entries (take p.depth (bits p.key) ++ t)) ≡ has n.value_bitmap (value_bit t)
  value_iff t short =
      let h = some_table trie.table in
      let where_is = below_node (p.depth / 5) (take p.depth (bits p.key)) t (here_levels IsKey bits width v p n at long) short in
      let small = value_bit-small t short in
      ap is_some (shape_entries h.reading h.values h.paths v w h.holds s trie.shaped (take p.depth (bits p.key) ++ t))
      ∙ h.holds.cells.set_where (chunks_of (take p.depth (bits p.key) ++ t)) (bit_of (take p.depth (bits p.key) ++ t))
      ∙ ap₂ has_value
      (ap h.reading where_is.0 ∙ sym (reads_node h.reading h.values h.paths v w h.holds (chunks_of (take p.depth (bits p.key)))) ∙ at.is_there)
      (ap value_bit where_is.1)
      ∙ has_bit-is n.value_bitmap (value_bit t) (omega (arith, small))

  -- a child bit is set exactly if there is a node
  pub child_iff : (t : List Bool) → length t ≡ 5 → has_node s.nodes (take p.depth (bits p.key) ++ t) ≡ has n.child_bitmap (number t)
  child_iff t five =
      let h = some_table trie.table in
      let small = number-small t five in
      let search_path : chunks_of (take p.depth (bits p.key) ++ t) ≡ chunks_of (take p.depth (bits p.key)) ++ number t ∷ [] = ap (λ u. chunks_of (take p.depth (bits p.key) ++ u)) (sym (digits-number t) ∙ ap (λ k. digits k (number t)) five)
      ∙ step_below (p.depth / 5) (take p.depth (bits p.key)) (number t) (here_levels IsKey bits width v p n at long) small in
      let depth : is_node_depth (take p.depth (bits p.key) ++ t) ≡ true =
      ap (λ k. k == 0) (whole_more (length (take p.depth (bits p.key))) (length t) (length (take p.depth (bits p.key) ++ t)) (here_whole IsKey bits width v p n at long) five (length-append (take p.depth (bits p.key)) t)) in
      shape_nodes h.reading h.values h.paths v w h.holds s trie.shaped (take p.depth (bits p.key) ++ t)
      ∙ ap (λ b. b && is_some (h.reading (chunks_of (take p.depth (bits p.key) ++ t)))) depth
      ∙ ap (λ q. is_some (h.reading q)) search_path
      ∙ h.holds.hold.linked (chunks_of (take p.depth (bits p.key))) (number t)
      ∙ ap (λ o. has_child o (number t)) (sym (reads_node h.reading h.values h.paths v w h.holds (chunks_of (take p.depth (bits p.key)))) ∙ at.is_there)
      ∙ has_bit-is n.child_bitmap (number t) small

  -- nothing is listed at a place whose bit is clear
  pub nothing_at : (u : List Bool) → length u ≤ 5 → is_in n.value_bitmap n.child_bitmap u ≡ false → listing_at_place s.entries (take p.depth (bits p.key)) u ≡ []
  nothing_at = unset width v (record { count = count; cells = w; shape = s }) trie (take p.depth (bits p.key)) n (here_whole IsKey bits width v p n at long) at.is_there

  -- there is no node under such a place
  pub none_below_it : (u q : List Bool) → length u ≡ 5 → is_in n.value_bitmap n.child_bitmap u ≡ false → begins (take p.depth (bits p.key) ++ u) q ≡ true → has_node s.nodes q ≡ true → ⊥
  none_below_it u q five clear begun there =
      false≢true (sym clear ∙ is_in-child n.value_bitmap n.child_bitmap u five ∙ sym (child_iff u five)
      ∙ trie.nodes.closed (take p.depth (bits p.key) ++ u) q there begun
      (whole_more (length (take p.depth (bits p.key))) (length u) (length (take p.depth (bits p.key) ++ u)) (here_whole IsKey bits width v p n at long) five (length-append (take p.depth (bits p.key)) u)))

module _ {K T F : Type 0} (IsKey : K → Type 0) (bits : K → List Bool) (width : ℕ) (may_return : F → List Bool → T → Bool → F → Type 0) (accepts : F → List Bool → T → Type 0)
    (p : Site K) (long : length (bits p.key) ≡ width) (v : Store Node) (n : Node) (at : IsSite IsKey bits width v p n) (count : ℕ) (w : Store (Option T)) (s : State T)
    (trie : IsTrie width count v w s) (v2 : Store Node) (m : Node) (later : IsSite IsKey bits width v2 p m) (count2 : ℕ) (w2 : Store (Option T)) (s2 : State T)
    (trie2 : IsTrie width count2 v2 w2 s2) (f g : F) (u : List Bool) (few : length u ≤ 5) (retains : Retains may_return accepts (take p.depth (bits p.key)) (u ∷ []) f s g s2) where
  not_there : (t q : List Bool) → length t ≤ 5 → (t ≡ u → ⊥) → is_at (take p.depth (bits p.key)) t q ≡ true → is_at_some (take p.depth (bits p.key)) (u ∷ []) q ≡ false
  not_there t q short ne here = no_or_yes (is_at_some (take p.depth (bits p.key)) (u ∷ []) q) (λ e.
      ne (one_place (take p.depth (bits p.key)) t u q short few here (only_one (is_at (take p.depth (bits p.key)) u q) e)))

  not_under : (t q : List Bool) → length t ≤ 5 → (t ≡ u → ⊥) → is_at (take p.depth (bits p.key)) t q ≡ true → is_under_some (take p.depth (bits p.key)) (u ∷ []) q ≡ false
  not_under t q short ne here = no_or_yes (is_under_some (take p.depth (bits p.key)) (u ∷ []) q) (λ e.
      false≢true (sym (not_there t q short ne here) ∙ under_at_some (take p.depth (bits p.key)) (u ∷ []) q q e (begins-refl q)))

  -- after the calls at one of its places, the node still has its other places
  pub place_kept : (t : List Bool) → (t ≡ u → ⊥) → IsPlaceOf n t → IsPlaceOf m t
  place_kept t ne is = (
    is.0,
    elim (cases_lt (length t) 5) as (λ _. is_in m.value_bitmap m.child_bitmap t ≡ true) [
      | inl less ↦
          let short : length t ≤ 4 = (let l = less in omega (arith, l)) in
          is_in-value m.value_bitmap m.child_bitmap t less
          ∙ sym (value_iff IsKey bits width v2 p m later long count2 w2 s2 trie2 t short)
          ∙ ap is_some (retains.others (take p.depth (bits p.key) ++ t)
          (not_there t (take p.depth (bits p.key) ++ t) is.0 ne (at_value (take p.depth (bits p.key)) t (take p.depth (bits p.key) ++ t) short
          ∙ is-same_string (take p.depth (bits p.key) ++ t) (take p.depth (bits p.key) ++ t) refl)))
          ∙ value_iff IsKey bits width v p n at long count w s trie t short
          ∙ sym (is_in-value n.value_bitmap n.child_bitmap t less) ∙ is.1
      | inr most ↦
          let five : length t ≡ 5 = (let l = most in let h = is.0 in omega (arith, l, h)) in
          is_in-child m.value_bitmap m.child_bitmap t five
          ∙ sym (child_iff IsKey bits width v2 p m later long count2 w2 s2 trie2 t five)
          ∙ retains.off (take p.depth (bits p.key) ++ t)
          (not_under t (take p.depth (bits p.key) ++ t) is.0 ne (at_child (take p.depth (bits p.key)) t (take p.depth (bits p.key) ++ t) five ∙ begins-refl (take p.depth (bits p.key) ++ t)))
          ∙ child_iff IsKey bits width v p n at long count w s trie t five
          ∙ sym (is_in-child n.value_bitmap n.child_bitmap t five) ∙ is.1
    ],
  )

-- ---- one turn

-- if the places that are done and those to come are apart, they are so after one more is done
pub apart_more : (s u : List Bool) (before rest : List (List Bool)) → length u ≤ 5 → All (λ t. length t ≤ 5) rest → IsStrictlySortedBy listing_cmp (u ∷ rest) →
    ((q : List Bool) → is_at_some s before q ≡ true → is_at_some s (u ∷ rest) q ≡ true → ⊥) →
    (q : List Bool) → is_at_some s (before ++ u ∷ []) q ≡ true → is_at_some s rest q ≡ true → ⊥
apart_more s u before rest short all sorted apart q done coming =
    elim (or-cases (is_at_some s before q) (is_at_some s (u ∷ []) q) (sym (list_any-append (λ t. is_at s t q) before (u ∷ [])) ∙ done)) as (λ _. ⊥) [
      | inl earlier ↦ apart q earlier (or-right (is_at s u q) (is_at_some s rest q) coming)
      | inr now ↦ apart_first s u rest q short all sorted (only_one (is_at s u q) now) coming
    ]

pub not_in_rest : (u : List Bool) (rest : List (List Bool)) → IsStrictlySortedBy listing_cmp (u ∷ rest) → All (λ t. t ≡ u → ⊥) rest
unfolding IsStrictlySortedBy
not_in_rest u rest sorted = All-weaker (λ t. listing_cmp u t ≡ Less) (λ t. t ≡ u → ⊥) (λ t less e. not_itself u t less (sym e)) rest (All-from_recursion (λ t. listing_cmp u t ≡ Less) rest sorted.0)

module _ {K T F : Type 0} (IsKey : K → Type 0) (bits : K → List Bool) (width : ℕ) (may_return : F → List Bool → T → Bool → F → Type 0) (accepts : F → List Bool → T → Type 0)
    (p : Site K) (long : length (bits p.key) ≡ width) (ts before : List (List Bool)) (u : List Bool) (rest : List (List Bool)) (first : ts ≡ u ∷ rest) (short : length u ≤ 5)
    (sorted : IsStrictlySortedBy listing_cmp ts) (apart : (q : List Bool) → is_at_some (take p.depth (bits p.key)) before q ≡ true → is_at_some (take p.depth (bits p.key)) ts q ≡ true → ⊥)
    (n : Node) (each : All (IsPlaceOf n) ts) (f0 f : F) (count0 count : ℕ) (v0 v : Store Node) (w0 w : Store (Option T))
    (done : RetainsIn may_return accepts width (take p.depth (bits p.key)) before f0 count0 v0 w0 f count v w) where
  pub each_now : All (IsPlaceOf n) (u ∷ rest)
  each_now = subst (All (IsPlaceOf n)) first each

  pub this_place : IsPlaceOf n u
  this_place = All-head (IsPlaceOf n) u rest each_now

  sorted_now : IsStrictlySortedBy listing_cmp (u ∷ rest)
  sorted_now = subst (IsStrictlySortedBy listing_cmp) first sorted

  apart_now : (q : List Bool) → is_at_some (take p.depth (bits p.key)) before q ≡ true → is_at_some (take p.depth (bits p.key)) (u ∷ rest) q ≡ true → ⊥
  apart_now = subst (λ (us : List (List Bool)). (q : List Bool) → is_at_some (take p.depth (bits p.key)) before q ≡ true → is_at_some (take p.depth (bits p.key)) us q ≡ true → ⊥) first apart

  apart_this : (q : List Bool) → is_at_some (take p.depth (bits p.key)) before q ≡ true → is_at_some (take p.depth (bits p.key)) (u ∷ []) q ≡ true → ⊥
  apart_this q earlier now =
      apart_now q earlier (or-left (is_at (take p.depth (bits p.key)) u q) (is_at_some (take p.depth (bits p.key)) rest q) (only_one (is_at (take p.depth (bits p.key)) u q) now))

  pub apart_next : (q : List Bool) → is_at_some (take p.depth (bits p.key)) (before ++ u ∷ []) q ≡ true → is_at_some (take p.depth (bits p.key)) rest q ≡ true → ⊥
  apart_next =
      apart_more (take p.depth (bits p.key)) u before rest short
      (All-weaker (IsPlaceOf n) (λ t. length t ≤ 5) (λ t h. h.0) rest (All-tail (IsPlaceOf n) u rest each_now)) sorted_now apart_now

  module _ (s : State T) (trie : IsTrie width count0 v0 w0 s) where
    -- the test may be called at the next place
    pub may_ask_this : MayAskAt may_return accepts width (take p.depth (bits p.key)) (before ++ ts) f0 count0 v0 w0 → (t : List Bool) → length t ≤ 5 → place_of u ≡ place_of t →
        MayAskAt may_return accepts width (take p.depth (bits p.key)) (t ∷ []) f count v w
    may_ask_this may t few same x is =
        let now = done s trie in
        let state : now.after ≡ x = same_shape v.slots w.slots now.after x now.trie.shaped is.shaped in
        let all = may_ask_then may_return accepts (take p.depth (bits p.key)) before ts f0 f s now.after now.retains apart (may s trie) in
        let one : CallableOnEachEntry may_return accepts f (listing_at_place now.after.entries (take p.depth (bits p.key)) u) =
        may_ask_first may_return accepts f (listing_at_place now.after.entries (take p.depth (bits p.key)) u) (listing_at_places now.after.entries (take p.depth (bits p.key)) rest)
        (subst (λ us. CallableOnEachEntry may_return accepts f (listing_at_places now.after.entries (take p.depth (bits p.key)) us)) first all) in
        subst (λ (y : State T). CallableOnEachEntry may_return accepts f (listing_at_places y.entries (take p.depth (bits p.key)) (t ∷ []))) state
        (subst (λ r. CallableOnEachEntry may_return accepts f (listing_at_places now.after.entries (take p.depth (bits p.key)) (r ∷ []))) (same_place u t short few same)
        (subst (CallableOnEachEntry may_return accepts f) (sym (append-nil (listing_at_place now.after.entries (take p.depth (bits p.key)) u))) one))

    module _ (at : IsSite IsKey bits width v p n) (m : Node) (g : F) (count2 : ℕ) (v2 : Store Node) (w2 : Store (Option T)) (later : IsSite IsKey bits width v2 p m)
        (turn : RetainsIn may_return accepts width (take p.depth (bits p.key)) (u ∷ []) f count v w g count2 v2 w2) where
      -- the node still has the places to come
      pub each_next : All (IsPlaceOf m) rest
      each_next =
          let one = done s trie in
          let two = turn one.after one.trie in
          All-both (IsPlaceOf n) (λ t. t ≡ u → ⊥) (IsPlaceOf m) rest
          (λ t here ne. place_kept IsKey bits width may_return accepts p long v n at count w one.after one.trie v2 m later count2 w2 two.after two.trie f g u short two.retains t ne here)
          (All-tail (IsPlaceOf n) u rest each_now) (not_in_rest u rest sorted_now)

  -- one more place is done
  pub done_next : (g : F) (count2 : ℕ) (v2 : Store Node) (w2 : Store (Option T)) →
      RetainsIn may_return accepts width (take p.depth (bits p.key)) (u ∷ []) f count v w g count2 v2 w2 →
      RetainsIn may_return accepts width (take p.depth (bits p.key)) (before ++ u ∷ []) f0 count0 v0 w0 g count2 v2 w2
  done_next g count2 v2 w2 turn s trie =
      let one = done s trie in
      let two = turn one.after one.trie in
      record {
        after = two.after;
        trie = two.trie;
        retains = asked_both may_return accepts (take p.depth (bits p.key)) before (u ∷ []) f0 f g s one.after two.after one.retains two.retains apart_this;
      }

-- two calls that preserve the arrays preserve them together
pub preserves_both : {T : Type 0} (level : ℕ) (v v2 v3 : Store Node) (w w2 w3 : Store (Option T)) → PreservesBelow level v v2 w w2 → PreservesBelow level v2 v3 w2 w3 → PreservesBelow level v v3 w w3
preserves_both level v v2 v3 w w2 w3 a b = record {
  above = λ q less. b.above q less ∙ a.above q less;
  nodes = stays_then v v2 v3 a.nodes b.nodes;
  cells = stays_then w w2 w3 a.cells b.cells;
  bounds_growth = bounds_growth_then v v2 v3 _ _ _ a.bounds_growth b.bounds_growth;
  blocks = λ x. blocks_then _ _ _ (a.blocks x) (b.blocks x);
}

pub preserves_none : {T : Type 0} (level : ℕ) (v : Store Node) (w : Store (Option T)) → PreservesBelow level v v w w
preserves_none level v w = record {
  above = λ q less. refl;
  nodes = stays_none v;
  cells = stays_none w;
  bounds_growth = bounds_growth_none v (length w.slots);
  blocks = λ x. blocks_still (read v.slots x) (read v.slots x) refl;
}
