-- The sizes of the blocks of nodes, by the strings of the nodes: the layout that contracts see.
use Rattle.prefix_trie_table.proofs.Prelude.{◌≡◌, ℕ, ◌+◌, Bool, true, false, cond, sum_by, arith, ◌&&◌, ◌||◌, List, [], ◌∷◌, map, length, Option, None, Some, is_some, refl, sym, ap, ◌∙◌, ap₂, option_or, list_any, get, empty, get-insert, get-empty, entries, values, contains_key, sum_by-cons, entries-empty, listing_total, same_string, Sizes, Layout, no_layout, is_node_depth, Storage, same_string-is, Node, chunks_of, node_sizes, cell_sizes, Store, Tier, no_blocks, size_in, size_if_any, free_counts, NodesHold, Holds, SomeTable, of_any, AreSizesBy, Sized, Sized-prop, child_block_size, value_block_size}
use Rattle.std.specs.FinMap.{insert}
use Rattle.prefix_trie_table.proofs.Strings.KeySums.{sum-fresh}
use Rattle.prefix_trie_table.proofs.Blocks.SlotSums.{sum_by-mapped}
use Rattle.prefix_trie_table.proofs.Strings.PathStrings.{string_at, string_path, AreSteps, AreOnce, first_steps, other_steps, other_once, fresh_string, paths_steps, listed_at}
use Rattle.prefix_trie_table.proofs.Strings.BitLists.{rank-zero-all}
use Rattle.prefix_trie_table.proofs.Tree.Shapes.{root_reading, no_values, root_here}
use Rattle.prefix_trie_table.proofs.Tree.Trees.{reads}

-- the sizes with that of one more string, if it has one
abbrev pub with_size : Sizes → List Bool → Option ℕ → Sizes
with_size m s None = m
with_size m s (Some n) = insert m s n

-- the sizes that a function gives for a list of paths, by their strings
abbrev pub sizes_at : (List ℕ → Option ℕ) → List (List ℕ) → Sizes
sizes_at size [] = empty
sizes_at size (p ∷ ps) = with_size (sizes_at size ps) (string_at p) (size p)

get-with_size : (m : Sizes) (s t : List Bool) (o : Option ℕ) → get (with_size m t o) s ≡ cond (same_string s t) (option_or o (get m s)) (get m s)
get-with_size m s t None = elim (same_string s t) as (λ b. get m s ≡ cond b (get m s) (get m s)) [ true ↦ refl | false ↦ refl ]
get-with_size m s t (Some n) = get-insert listing_total m t n s

here_or : (b : Bool) (o : Option ℕ) → option_or o (cond b o None) ≡ o
here_or true None = refl
here_or false None = refl
here_or b (Some n) = refl

module _ (size : List ℕ → Option ℕ) where
  -- a string has the size of its path if the path is listed
  pub get-sizes_at : (paths : List (List ℕ)) → AreSteps paths → (s : List Bool) →
      get (sizes_at size paths) s ≡ cond (list_any (same_string s) (map string_at paths)) (size (chunks_of s)) None
  get-sizes_at [] steps s = get-empty _ s
  get-sizes_at (x ∷ paths) steps s =
      get-with_size (sizes_at size paths) s (string_at x) (size x) ∙ by (same_string s (string_at x)) refl (get-sizes_at paths (other_steps x paths steps) s)
    where
      by : (b : Bool) → same_string s (string_at x) ≡ b → get (sizes_at size paths) s ≡ cond (list_any (same_string s) (map string_at paths)) (size (chunks_of s)) None →
          cond b (option_or (size x) (get (sizes_at size paths) s)) (get (sizes_at size paths) s)
          ≡ cond (b || list_any (same_string s) (map string_at paths)) (size (chunks_of s)) None
      by true hit rest =
          let path : chunks_of s ≡ x = ap chunks_of (same_string-is s (string_at x) hit) ∙ string_path x (first_steps x paths steps) in
          ap₂ option_or (ap size (sym path)) rest ∙ here_or (list_any (same_string s) (map string_at paths)) (size (chunks_of s))
      by false miss rest = rest

-- counting the sizes counts the paths, since each path is listed once
module _ (f : ℕ → ℕ) (size : List ℕ → Option ℕ) where
  more_sized : (m : Sizes) (s : List Bool) (o : Option ℕ) → contains_key m s ≡ false →
      sum_by (λ (e : List Bool × ℕ). f e.1) (entries (with_size m s o)) ≡ of_any f o + sum_by (λ (e : List Bool × ℕ). f e.1) (entries m)
  more_sized m s None fresh = omega arith
  more_sized m s (Some n) fresh = sum-fresh (λ (e : List Bool × ℕ). f e.1) m s n fresh

  entries_sum : (paths : List (List ℕ)) → AreSteps paths → AreOnce paths →
      sum_by (λ (e : List Bool × ℕ). f e.1) (entries (sizes_at size paths)) ≡ sum_by (λ p. of_any f (size p)) paths
  entries_sum [] steps once = ap (sum_by (λ (e : List Bool × ℕ). f e.1)) (entries-empty ℕ)
  entries_sum (x ∷ paths) steps once =
      more_sized (sizes_at size paths) (string_at x) (size x)
      (ap is_some (get-sizes_at size paths (other_steps x paths steps) (string_at x))
      ∙ ap (λ b. is_some (cond b (size (chunks_of (string_at x))) None)) (fresh_string x paths steps once))
      ∙ ap (λ n. of_any f (size x) + n) (entries_sum paths (other_steps x paths steps) (other_once x paths once))
      ∙ sym (sum_by-cons (λ p. of_any f (size p)) x paths)

  pub sizes_sum : (paths : List (List ℕ)) → AreSteps paths → AreOnce paths → sum_by f (values (sizes_at size paths)) ≡ sum_by (λ p. of_any f (size p)) paths
  sizes_sum paths steps once = sum_by-mapped f (λ (e : List Bool × ℕ). e.1) (entries (sizes_at size paths)) ∙ entries_sum paths steps once

module _ (sizes : List ℕ) (nodes : List ℕ → Option Node) (paths : List (List ℕ)) (v : Store Node) (hold : NodesHold sizes nodes paths v) where
  -- the sizes at the paths of nodes are the sizes of the nodes
  pub sizes_are : (size : Option Node → Option ℕ) → size None ≡ None → AreSizesBy size v.slots (sizes_at (λ p. size (nodes p)) paths)
  sizes_are size none s =
      get-sizes_at (λ p. size (nodes p)) paths (paths_steps sizes nodes paths v hold) s
      ∙ ap (λ b. cond b (size (nodes (chunks_of s))) None) (listed_at sizes nodes paths v hold s)
      ∙ there (is_node_depth s) (nodes (chunks_of s))
      ∙ ap (λ o. cond (is_node_depth s) (size o) None) (sym (reads sizes nodes paths v hold (chunks_of s)))
    where
      there : (d : Bool) (o : Option Node) → cond (d && is_some o) (size o) None ≡ cond d (size o) None
      there true None = sym none
      there true (Some n) = refl
      there false o = refl

  -- so the nodes have sizes
  pub sizes_of : Sized v.slots
  sizes_of = (
    sizes_at (λ p. child_block_size (nodes p)) paths,
    (sizes_at (λ p. value_block_size (nodes p)) paths, (sizes_are child_block_size refl, sizes_are value_block_size refl)),
  )

  -- the nodes have no other sizes
  pub sizes_only : (x : Sized v.slots) →
      (x.0 ≡ sizes_at (λ p. child_block_size (nodes p)) paths) × (x.1.0 ≡ sizes_at (λ p. value_block_size (nodes p)) paths)
  unfolding sizes_of
  sizes_only x =
      let same : x ≡ sizes_of = Sized-prop v.slots x sizes_of in
      (ap (λ (y : Sized v.slots). y.0) same, ap (λ (y : Sized v.slots). y.1.0) same)

-- the nodes of a table have sizes
pub table_sizes : {T : Type 0} (v : Store Node) (w : Store (Option T)) → SomeTable v w → Sized v.slots
table_sizes v w t = sizes_of node_sizes t.reading t.paths v t.holds.hold

-- the layout of arrays with these nodes and tiers
abbrev pub layout_of : (nodes : List Node) → List Tier → List Tier → Sized nodes → Layout
layout_of nodes ts us sized = record { child_blocks = sized.0; value_blocks = sized.1.0; free_child_blocks = free_counts ts; free_value_blocks = free_counts us }

-- the storage of arrays with such a layout
abbrev pub storage_of : {T : Type 0} (v : Store Node) → Store (Option T) → Sized v.slots → Storage
storage_of v w sized = record {
  space = record { limit = v.limit; node_slots = length v.slots; cell_slots = length w.slots };
  layout = layout_of v.slots v.tiers w.tiers sized;
}

-- the root alone has no block
root_sizes : (size : Option Node → Option ℕ) → size (root_reading []) ≡ None → sizes_at (λ p. size (root_reading p)) ([] ∷ []) ≡ empty
root_sizes size none = ap (λ o. with_size empty [] o) none

-- a table with the root alone has no block, used or free
pub root_layout : {T : Type 0} (v : Store Node) (w : Store (Option T)) → Holds root_reading no_values ([] ∷ []) v w → v.tiers ≡ map no_blocks node_sizes →
    w.tiers ≡ map no_blocks cell_sizes → (x : Sized v.slots) → layout_of v.slots v.tiers w.tiers x ≡ no_layout
root_layout v w holds tiers cell_tiers x =
    let only = sizes_only node_sizes root_reading ([] ∷ []) v holds.hold x in
    let children : x.0 ≡ empty = only.0 ∙ root_sizes child_block_size (ap child_block_size root_here ∙ ap (λ n. size_if_any n (size_in node_sizes 0)) rank-zero-all) in
    let values : x.1.0 ≡ empty = only.1 ∙ root_sizes value_block_size (ap value_block_size root_here ∙ ap (λ n. size_if_any n (size_in cell_sizes 0)) rank-zero-all) in
    λ i. record { child_blocks = children i; value_blocks = values i; free_child_blocks = free_counts (tiers i); free_value_blocks = free_counts (cell_tiers i) }
