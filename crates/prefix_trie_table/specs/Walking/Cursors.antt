-- A position of a walk apart from its table, and what is still to come of the walk. This project's own.
use Rattle.std.specs.Prelude.{◌≡◌, ℕ, ◌+◌, ◌*◌, ◌-◌, ◌≤◌, Bool, List, [], ◌∷◌, ◌++◌, take, map, Some}
use Rattle.std.proofs.Common.{arith, sym, ◌∙◌}
use Rattle.std.specs.Coded.{Coded-set, coded_ℕ, coded_bool, coded_option}
use Rattle.std.proofs.Math.Bridge.{le_prop}
use mathlib.Core.HLevel.{Π_prop, is_prop→PathP}
use Rattle.prefix_trie_bits.specs.Model.Bits.{zeros}
use Rattle.prefix_trie_bits.specs.Model.Entries.{Entries}
use Rattle.prefix_trie_table.specs.declared.allocator.node.Node.{Node}
use Rattle.prefix_trie_table.specs.declared.table.seat.Seat.{Seat}
use Rattle.prefix_trie_table.specs.declared.table.spot.Spot.{Spot}
use Rattle.prefix_trie_table.specs.declared.table.cursor.Cursor.{Cursor}
use Rattle.prefix_trie_table.specs.Blocks.Cells.{without_sizes}
use Rattle.prefix_trie_table.specs.Digits.{chunks_of}
use Rattle.prefix_trie_table.specs.Forest.{read}
use Rattle.prefix_trie_table.specs.Locations.{seat_of}
use Rattle.prefix_trie_table.specs.Shape.{coded_node}
use Rattle.prefix_trie_table.specs.Walking.Walks.{IsSpot, IsStackFrom, IsStack, start, pending}

same_level : (d l m : ℕ) → d ≡ 5 * l → d ≡ 5 * m → l ≡ m
same_level d l m e f = omega (arith, e, f)

module _ {K : Type 0} where
  -- the cursor is in these nodes
  abbrev pub IsCursorIn : (K → List Bool) → ℕ → List Node → Cursor K → Type 0
  IsCursorIn bits width nodes cursor = IsStack width nodes (bits cursor.key) cursor.stack.items

  -- the keys still to come, in a table with these entries
  abbrev pub keys_to_come : {T : Type 0} → (K → List Bool) → Entries T → Cursor K → List (List Bool)
  keys_to_come bits m cursor = map (λ e. e.0) (pending m (bits cursor.key) cursor.stack.items)

  -- a step gives the first key still to come and the seat of its value
  -- The key is the first len bits of a number, with zeros after them.
  pub record GivesKey (IsKey : K → Type 0) (bits : K → List Bool) (width : ℕ) (nodes : List Node) (key : K) (len : ℕ) (seat : Seat) (old new : List (List Bool)) : Type 0 where
    pub is_key : IsKey key
    pub short : len ≤ width
    pub filled : bits key ≡ take len (bits key) ++ zeros (width - len)
    pub first : old ≡ take len (bits key) ∷ new
    pub seated : seat_of nodes (take len (bits key)) ≡ Some seat

module _ (width : ℕ) (nodes : List Node) (search_path : List Bool) where
  spot-prop : (p : Spot) → IsProp (IsSpot width nodes search_path p)
  spot-prop p x y =
      let node : x.node ≡ y.node = (let e : Some x.node ≡ Some y.node = sym x.is_there ∙ y.is_there in cc) in
      let level : x.level ≡ y.level = same_level p.depth x.level y.level x.depth_is y.depth_is in λ i. record {
        node = node i;
        level = level i;
        depth_is = is_prop→PathP (λ j. p.depth ≡ 5 * level j) (λ j. Coded-set coded_ℕ _ _) x.depth_is y.depth_is i;
        within = le_prop x.within y.within i;
        long = le_prop x.long y.long i;
        is_there = is_prop→PathP (λ j. read nodes (chunks_of (take p.depth search_path)) ≡ Some (node j)) (λ j. Coded-set (coded_option coded_node) (read nodes (chunks_of (take p.depth search_path))) (Some (node j))) x.is_there y.is_there i;
        node_is = is_prop→PathP (λ j. p.node ≡ without_sizes (node j)) (λ j. Coded-set coded_node p.node (without_sizes (node j))) x.node_is y.node_is i;
        each = Π_prop (λ k. Π_prop (λ d. Π_prop (λ h a b j. (le_prop a.0 b.0 j, Coded-set coded_bool _ _ a.1 b.1 j)))) x.each y.each i;
      }

  stack-prop : (n : ℕ) (ps : List Spot) → IsProp (IsStackFrom width nodes n search_path ps)
  stack-prop n [] = λ x y i. tt
  stack-prop n (p ∷ ps) = λ x y i. (Coded-set coded_ℕ _ _ x.0 y.0 i, spot-prop p x.1 y.1 i, stack-prop (n + 5) ps x.2 y.2 i)

-- there is at most one proof that a cursor is in these nodes
pub IsCursorIn-prop : {K : Type 0} (bits : K → List Bool) (width : ℕ) (nodes : List Node) (cursor : Cursor K) → IsProp (IsCursorIn bits width nodes cursor)
IsCursorIn-prop bits width nodes cursor = stack-prop width nodes (bits cursor.key) (start cursor.stack.items) cursor.stack.items
