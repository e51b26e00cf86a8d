-- The contents of a table with a value set, and the entries and nodes that its two arrays determine. This project's own.
use Rattle.std.specs.Prelude.{◌≡◌, ℕ, Bool, List, ◌&&◌, is_some, Option, None, Some, if◌then◌else◌, refl}
use Rattle.std.proofs.Common.{sym, ◌∙◌}
use Rattle.std.specs.Coded.{Coded, code_by, coded×, coded_list, coded_ℕ, coded_bool, coded_option, Coded-set}
use base.Stored.{coded_unit}
use Rattle.std.specs.FinMap.{get, contains_key, code}
use mathlib.Core.HLevel.{Π_prop, Σ_prop_path}
use Rattle.prefix_trie_bits.specs.Model.Entries.{Entries, with_entry}
use Rattle.prefix_trie_bits.specs.Model.Matches.{longest_match}
use Rattle.prefix_trie_bits.specs.Model.Nodes.{Nodes, has_node, is_node_depth}
use Rattle.prefix_trie_bits.specs.Model.Step.{State}
use Rattle.prefix_trie_bits.specs.Model.Blocks.{Layout}
use Rattle.prefix_trie_bits.proofs.Model.Members.{same_entries, same_members}
use Rattle.prefix_trie_table.specs.declared.allocator.node.Node.{Node}
use Rattle.prefix_trie_table.specs.Digits.{chunks_of, bit_of}
use Rattle.prefix_trie_table.specs.Forest.{read, value_of}
use Rattle.prefix_trie_table.specs.Layouts.{coded_layout}
use Rattle.prefix_trie_table.specs.Model.Contents.{Contents}

-- the contents with the value x at a bit string
abbrev pub with_value_at : {T : Type 0} → Contents T → List Bool → T → Contents T
with_value_at s q x = record s { entries = with_entry s.entries q x }

-- the contents with the value x at a bit string if a value is stored there, and otherwise unchanged
abbrev pub with_stored_at : {T : Type 0} → Contents T → List Bool → T → Contents T
with_stored_at s q x = if contains_key s.entries q then with_value_at s q x else s

-- the contents with the value x at the key of a match, if there is a match
abbrev pub with_match_at : {T : Type 0} → Contents T → Option (List Bool × T) → T → Contents T
with_match_at s None x = s
with_match_at s (Some e) x = with_value_at s e.0 x

-- the contents with the value x at the longest key that begins q, if there is one
abbrev pub with_longest_at : {T : Type 0} → Contents T → List Bool → T → Contents T
with_longest_at s q x = with_match_at s (longest_match s.entries q) x

-- nodes are given by their numbers
abbrev pub coded_node : Coded Node
coded_node =
    code_by ((ℕ × ℕ) × ((ℕ × ℕ) × (ℕ × ℕ)))
    (coded× (coded× coded_ℕ coded_ℕ) (coded× (coded× coded_ℕ coded_ℕ) (coded× coded_ℕ coded_ℕ)))
    (λ n. ((n.value_bitmap, n.child_bitmap), ((n.value_block, n.child_block), (n.value_tier, n.child_tier))))
    (λ p. record {
      value_bitmap = p.0.0;
      child_bitmap = p.0.1;
      value_block = p.1.0.0;
      child_block = p.1.0.1;
      value_tier = p.1.1.0;
      child_tier = p.1.1.1;
    }) (λ _. refl)

-- contents are given by their parts
abbrev pub contents_code : {T : Type 0} → Coded T → Coded (Contents T)
contents_code {T} c =
    code_by (Entries T × (Nodes × ((ℕ × (ℕ × ℕ)) × (Layout × List Node))))
    (coded× (code (coded_list coded_bool) c) (coded× (code (coded_list coded_bool) coded_unit)
    (coded× (coded× coded_ℕ (coded× coded_ℕ coded_ℕ)) (coded× coded_layout (coded_list coded_node)))))
    (λ s. (s.entries, (s.nodes, ((s.space.limit, (s.space.node_slots, s.space.cell_slots)), (s.layout, s.build)))))
    (λ p. record {
      entries = p.0;
      nodes = p.1.0;
      space = record { limit = p.1.1.0.0; node_slots = p.1.1.0.1.0; cell_slots = p.1.1.0.1.1 };
      layout = p.1.1.1.0;
      build = p.1.1.1.1;
    }) (λ _. refl)

module _ {T : Type 0} where
  -- the entries and the nodes are those of these arrays: each string is looked up in its own node
  abbrev pub IsShapeOf : List Node → List (Option T) → State T → Type 0
  IsShapeOf nodes cells shape =
      ((s : List Bool) → has_node shape.nodes s ≡ (is_node_depth s && is_some (read nodes (chunks_of s))))
      × ((s : List Bool) → get shape.entries s ≡ value_of cells (read nodes (chunks_of s)) (bit_of s))

  -- there is at most one proof of this
  pub IsShapeOf-prop : Coded T → (nodes : List Node) (cells : List (Option T)) (shape : State T) → IsProp (IsShapeOf nodes cells shape)
  IsShapeOf-prop c nodes cells shape = λ x y i. (
    Π_prop (λ _. Coded-set coded_bool _ _) x.0 y.0 i,
    Π_prop (λ _. Coded-set (coded_option c) _ _) x.1 y.1 i,
  )

  -- two shapes of the same arrays are equal
  pub same_shape : (nodes : List Node) (cells : List (Option T)) (s t : State T) → IsShapeOf nodes cells s → IsShapeOf nodes cells t → s ≡ t
  same_shape nodes cells s t h k =
      let entries : s.entries ≡ t.entries = same_entries s.entries t.entries (λ q. h.1 q ∙ sym (k.1 q)) in
      let nodes : s.nodes ≡ t.nodes = same_members s.nodes t.nodes (λ q. h.0 q ∙ sym (k.0 q)) in
      λ i. record { entries = entries i; nodes = nodes i }

  -- the shape that the nodes and the cells have
  abbrev pub Shaped : List Node → List (Option T) → Type 0
  Shaped nodes cells = (shape : State T) × IsShapeOf nodes cells shape

  -- the arrays have at most one shape
  pub Shaped-prop : Coded T → (nodes : List Node) (cells : List (Option T)) → IsProp (Shaped nodes cells)
  Shaped-prop c nodes cells = λ x y. Σ_prop_path (IsShapeOf-prop c nodes cells) (same_shape nodes cells x.0 y.0 x.1 y.1)
