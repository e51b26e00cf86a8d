-- The blocks that an insertion needs in the two arrays. This project's own.
use Rattle.std.specs.Prelude.{◌≡◌, ◌⊎◌, ℕ, ◌+◌, ◌-◌, ◌*◌, ◌/◌, ◌<◌, ◌≤◌, Bool, List, [], Option, None, Some, length, nat_lt, if◌then◌else◌, Result, MatchResult, IfErr, OnErr}
use Rattle.prefix_trie_table.specs.declared.allocator.node.Node.{Node}
use Rattle.prefix_trie_table.specs.declared.table.lookup.Reached.{Reached}
use Rattle.prefix_trie_table.specs.OwnBlocks.{child_need, value_need}
use Rattle.prefix_trie_table.specs.Blocks.Store.{Store, AreFree, made_in, needs, missing_in, missing_slots}

-- the sizes of the node blocks that a bit string needs, if this node is the last on its search path
abbrev pub nodes_needed : Reached → List Bool → List ℕ
nodes_needed here q = if nat_lt (length q) (5 * here.level + 5) then [] else needs (child_need (Some here.node)) (length q / 5 - (here.level + 1))

-- the sizes of the blocks of values that a bit string needs, if this node is the last on its search path
abbrev pub cells_needed : Reached → List Bool → List ℕ
cells_needed here q = needs (if nat_lt (length q) (5 * here.level + 5) then value_need (Some here.node) else value_need None) 0

-- all these blocks are free
abbrev pub HasFreeBlocks : {T : Type 0} → Store Node → Store (Option T) → Reached → List Bool → Type 0
HasFreeBlocks v w here q = AreFree v.tiers (nodes_needed here q) × AreFree w.tiers (cells_needed here q)

-- exactly the missing blocks were made, and the array is longer by their slots
pub record Made {S : Type 0} (v w : Store S) (needed : List ℕ) : Type 0 where
  pub made_is : (size : ℕ) → made_in w.tiers size ≡ made_in v.tiers size + missing_in v needed size
  pub longer : length w.slots ≡ length v.slots + missing_slots v needed

-- at most the missing blocks were made, and the array is longer by at most their slots
pub record MadeAtMost {S : Type 0} (v w : Store S) (needed : List ℕ) : Type 0 where
  pub made_is : (size : ℕ) → (made_in v.tiers size ≤ made_in w.tiers size) × (made_in w.tiers size ≤ made_in v.tiers size + missing_in v needed size)
  pub longer : (length v.slots ≤ length w.slots) × (length w.slots ≤ length v.slots + missing_slots v needed)

-- on success exactly the missing blocks were made, on refusal at most these
abbrev pub Makes : {X E S : Type 0} → Result X E → Store S → Store S → List ℕ → Type 0
Makes r v w needed = MatchResult r (λ _. Made v w needed) (λ _. MadeAtMost v w needed)

-- the missing blocks would exceed the limit
abbrev pub Passes : {S : Type 0} → Store S → List ℕ → Type 0
Passes v needed = v.limit < length v.slots + missing_slots v needed

-- one of the missing blocks would fit
abbrev pub MissingFits : {S : Type 0} → Store S → List ℕ → Type 0
MissingFits v needed = (size : ℕ) × (0 < missing_in v needed size) × (length v.slots + size ≤ v.limit)

-- a call that needs free blocks of these sizes in two arrays made the missing ones, or is refused for this reason
pub record ObtainsBoth {T X E : Type 0} (for_limit for_memory : E → Type 0) (r : Result X E) (v v2 : Store Node) (w w2 : Store (Option T))
    (nodes cells : List ℕ) : Type 0 where
  pub nodes_made : Makes r v v2 nodes
  pub cells_made : Makes r w w2 cells
  pub range : IfErr r (λ e. for_limit e → Passes v nodes ⊎ Passes w cells)
  pub memory : IfErr r (λ e. for_memory e → MissingFits v2 nodes ⊎ MissingFits w2 cells)
  pub some_missing : OnErr r (0 < missing_slots v nodes + missing_slots w cells)
