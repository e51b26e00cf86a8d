-- The entries of a walk that starts at a bit string, and their places in the nodes on the search path. This project's own.
use Rattle.std.specs.Prelude.{ℕ, Bool, false, not, ◌&&◌, List, filter}
use Rattle.prefix_trie_bits.specs.Model.Bits.{begins}
use Rattle.prefix_trie_bits.specs.Places.{strings, is_in, is_before}
use Rattle.prefix_trie_bits.specs.Model.Entries.{Entries}
use Rattle.prefix_trie_bits.specs.Model.Selections.{listing_from, listing_after, listing_below}
use Rattle.prefix_trie_table.specs.declared.allocator.node.Node.{Node}
use Rattle.prefix_trie_table.specs.declared.table.walk_start.Start.{Start}
use Rattle.prefix_trie_table.specs.declared.table.walk_start.Start.TheVariants.{At, After, Below}

-- the entries that a walk from q gives
abbrev pub selected : {T : Type 0} → Start → Entries T → List Bool → List (List Bool × T)
selected At m q = listing_from m q
selected After m q = listing_after m q
selected Below m q = listing_below m q

-- whether everything at the place s is selected in a node that the search path leaves by the child t
abbrev pub behind : Start → List Bool → List Bool → Bool
behind At t s = is_before t s
behind After t s = is_before t s
behind Below t s = false

-- whether everything at the place s is selected in the string's own node, in which it has the bits r
abbrev pub kept : Start → List Bool → List Bool → Bool
kept At r s = not (is_before s r)
kept After r s = is_before r s
kept Below r s = begins r s

-- the places of a node that are in these masks
abbrev pub places_in : Node → ℕ → ℕ → List (List Bool)
places_in n values children = filter (λ s. is_in n.value_bitmap n.child_bitmap s && is_in values children s) (strings 5)
