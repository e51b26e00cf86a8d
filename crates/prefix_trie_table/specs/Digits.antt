-- The chunks of a bit string, which are the path from the root to its own node, five bits at a time, and its bit in that node.
-- A node has five levels, as in the Rust crate.
use Rattle.std.specs.Prelude.{ℕ, Bool, List, [], ◌∷◌}
use Rattle.prefix_trie_bits.specs.Model.Bits.{number}
use Rattle.prefix_trie_bits.specs.Places.{value_bit}

-- the string's five-bit chunks as numbers: the path of its own node
abbrev pub chunks_of : List Bool → List ℕ
chunks_of (a ∷ b ∷ c ∷ d ∷ e ∷ s) = number (a ∷ b ∷ c ∷ d ∷ e ∷ []) ∷ chunks_of s
chunks_of s = []

-- the bits after the last whole chunk
abbrev pub rest_of : List Bool → List Bool
rest_of (a ∷ b ∷ c ∷ d ∷ e ∷ s) = rest_of s
rest_of s = s

-- the string's value bit in its own node
abbrev pub bit_of : List Bool → ℕ
bit_of s = value_bit (rest_of s)
