-- What is still to come of a walk that moves the values of a table out of their cells. This project's own.
use Rattle.std.specs.Prelude.{◌≡◌, ◌≢◌, ℕ, Bool, true, List, [], ◌∷◌, ◌++◌, length, Option, is_some, ⊤}
use Rattle.std.proofs.Common.{sym, ◌∙◌}
use Rattle.std.specs.Coded.{coded_bool, Coded-set}
use mathlib.Core.HLevel.{Π_prop, Σ_prop_path}
use Rattle.prefix_trie_bits.specs.Calls.NodeListings.{pair_of}
use Rattle.prefix_trie_bits.specs.Model.Nodes.{Nodes, has_node}
use Rattle.prefix_trie_bits.proofs.Model.Members.{same_members}
use Rattle.prefix_trie_table.specs.declared.allocator.node.Node.{Node}
use Rattle.prefix_trie_table.specs.declared.table.spot.Spot.{Spot}
use Rattle.prefix_trie_table.specs.Digits.{chunks_of, bit_of}
use Rattle.prefix_trie_table.specs.Blocks.Store.{Store}
use Rattle.prefix_trie_table.specs.Forest.{read, value_of}
use Rattle.prefix_trie_table.specs.Locations.{seat_of}
use Rattle.prefix_trie_table.specs.Tables.{IsTrie}
use Rattle.prefix_trie_table.specs.Walking.Walks.{Tree, IsStack, pending}

-- the strings for whose values an array of nodes has a seat
abbrev pub AreSeated : List Node → Nodes → Type 0
AreSeated nodes keys = (q : List Bool) → has_node keys q ≡ is_some (seat_of nodes q)

-- the set of the strings that have a seat
abbrev pub Seated : List Node → Type 0
Seated nodes = (keys : Nodes) × AreSeated nodes keys

-- there is at most one such set
pub Seated-prop : (nodes : List Node) → IsProp (Seated nodes)
Seated-prop nodes = λ x y. Σ_prop_path (λ keys. Π_prop (λ _. Coded-set coded_bool _ _)) (same_members x.0 y.0 (λ q. x.1 q ∙ sym (y.1 q)))

module _ {T : Type 0} where
  -- the content of the cell of a string
  abbrev pub cell_of : List Node → List (Option T) → List Bool → Option T
  cell_of nodes cells q = value_of cells (read nodes (chunks_of q)) (bit_of q)

  -- these strings with the values in their cells
  abbrev pub pairs_in : List Node → List (Option T) → List (List Bool × Unit {0}) → List (List Bool × T)
  pairs_in nodes cells [] = []
  pairs_in nodes cells (k ∷ ks) = pair_of k.0 (cell_of nodes cells k.0) ++ pairs_in nodes cells ks

  -- there is a value in the cell of each
  abbrev pub AreHeld : List Node → List (Option T) → List (List Bool × Unit {0}) → Type 0
  AreHeld nodes cells [] = ⊤
  AreHeld nodes cells (k ∷ ks) = (is_some (cell_of nodes cells k.0) ≡ true) × AreHeld nodes cells ks

-- the string is not among these
abbrev pub IsApart : List Bool → List (List Bool × Unit {0}) → Type 0
IsApart q [] = ⊤
IsApart q (k ∷ ks) = (q ≢ k.0) × IsApart q ks

-- no string occurs twice
abbrev pub AreApart : List (List Bool × Unit {0}) → Type 0
AreApart [] = ⊤
AreApart (k ∷ ks) = IsApart k.0 ks × AreApart ks

-- these are the nodes of a table; some of its values were moved out of their cells, but none that is still to come
pub record IsTaking {T : Type 0} (width : ℕ) (v : Store Node) (w : Store (Option T)) (keys : Nodes) (search_path : List Bool) (ps : List Spot) : Type 0 where
  -- the table
  pub tree : Tree T
  pub trie : IsTrie width tree.count v tree.cells tree.shape
  pub long : length w.slots ≡ length tree.cells.slots
  -- the spots, and the strings still to come at them
  pub stack : IsStack width v.slots search_path ps
  pub held : AreHeld v.slots w.slots (pending keys search_path ps)
  pub apart : AreApart (pending keys search_path ps)
