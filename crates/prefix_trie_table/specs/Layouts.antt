-- Which blocks the nodes in an array have, and how many blocks of each tier are free. This project's own.
use Rattle.std.specs.Prelude.{◌≡◌, ℕ, Bool, cond, List, Option, None, Some}
use Rattle.std.proofs.Common.{refl, sym, ◌∙◌}
use Rattle.std.specs.Coded.{Coded, coded_ℕ, coded_option, coded_list, coded_bool, coded×, code_by, Coded-set}
use Rattle.std.specs.FinMap.{get, code}
use mathlib.Core.HLevel.{Π_prop, Σ_prop_path}
use Rattle.prefix_trie_bits.specs.Model.Blocks.{Sizes, Layout}
use Rattle.prefix_trie_bits.specs.Model.Nodes.{is_node_depth}
use Rattle.prefix_trie_bits.proofs.Model.Members.{same_entries}
use Rattle.prefix_trie_table.specs.declared.allocator.node.Node.{Node}
use Rattle.prefix_trie_bits.specs.Bitmaps.{rank}
use Rattle.prefix_trie_table.specs.Digits.{chunks_of}
use Rattle.prefix_trie_table.specs.Forest.{read}
pub use Rattle.prefix_trie_table.specs.OwnBlocks.{child_block_size, value_block_size}

-- how many children a node has
abbrev pub own_children : Option Node → ℕ
own_children None = 0
own_children (Some n) = rank n.child_bitmap 32

-- the sizes, by the strings of nodes, are those that a function gives for the nodes in an array
abbrev pub AreSizesBy : (Option Node → Option ℕ) → List Node → Sizes → Type 0
AreSizesBy size nodes sizes = (s : List Bool) → get sizes s ≡ cond (is_node_depth s) (size (read nodes (chunks_of s))) None

-- the sizes of the blocks of children and of values that the nodes have
abbrev pub Sized : List Node → Type 0
Sized nodes = (children : Sizes) × ((values : Sizes) × (AreSizesBy child_block_size nodes children × AreSizesBy value_block_size nodes values))

AreSizesBy-prop : (size : Option Node → Option ℕ) (nodes : List Node) (sizes : Sizes) → IsProp (AreSizesBy size nodes sizes)
AreSizesBy-prop size nodes sizes = λ x y. Π_prop (λ _. Coded-set (coded_option coded_ℕ) _ _) x y

same_sizes : (size : Option Node → Option ℕ) (nodes : List Node) (x y : Sizes) → AreSizesBy size nodes x → AreSizesBy size nodes y → x ≡ y
same_sizes size nodes x y h k = same_entries x y (λ s. h s ∙ sym (k s))

-- the nodes have at most one such pair of sizes
pub Sized-prop : (nodes : List Node) → IsProp (Sized nodes)
Sized-prop nodes = λ x y. Σ_prop_path
    (λ children. λ u w. Σ_prop_path (λ values. λ a b i. (
      AreSizesBy-prop child_block_size nodes children a.0 b.0 i,
      AreSizesBy-prop value_block_size nodes values a.1 b.1 i,
    )) (same_sizes value_block_size nodes u.0 w.0 u.1.1 w.1.1))
    (same_sizes child_block_size nodes x.0 y.0 x.1.1.0 y.1.1.0)

-- layouts are given by their parts
abbrev pub coded_layout : Coded Layout
coded_layout =
    code_by (Sizes × (Sizes × (List ℕ × List ℕ)))
    (coded× (code (coded_list coded_bool) coded_ℕ) (coded× (code (coded_list coded_bool) coded_ℕ) (coded× (coded_list coded_ℕ) (coded_list coded_ℕ))))
    (λ l. (l.child_blocks, (l.value_blocks, (l.free_child_blocks, l.free_value_blocks))))
    (λ p. record { child_blocks = p.0; value_blocks = p.1.0; free_child_blocks = p.1.1.0; free_value_blocks = p.1.1.1 }) (λ _. refl)
