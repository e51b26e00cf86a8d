-- A table after everything was removed.
use Rattle.prefix_trie_table.proofs.Prelude.{◌≡◌, ℕ, ◌<◌, List, [], ◌∷◌, length, map, Option, refl, ap, ◌∙◌, Node, node_sizes, cell_sizes, Store, Tier, no_blocks, tier_sizes, SomeTable, at_root}
use Rattle.prefix_trie_table.proofs.Tree.Trees.{slot_holds}

all_sizes : (ts : List Tier) → map (λ t. no_blocks t.size) ts ≡ map no_blocks (tier_sizes ts)
all_sizes [] = refl
all_sizes (t ∷ ts) = ap (λ us. no_blocks t.size ∷ us) (all_sizes ts)

-- the tiers of these sizes, with no blocks made
pub cleared_tiers : (ts : List Tier) (sizes : List ℕ) → tier_sizes ts ≡ sizes → map (λ t. no_blocks t.size) ts ≡ map no_blocks sizes
cleared_tiers ts sizes e = all_sizes ts ∙ ap (λ ns. map no_blocks ns) e

module _ {T : Type 0} (v : Store Node) (w : Store (Option T)) (t : SomeTable v w) where
  -- the root has a slot
  pub root_slot : 0 < length v.slots
  root_slot = (slot_holds node_sizes t.reading t.paths v t.holds.hold [] 0 _ at_root t.holds.hold.rooted).1

-- an empty array of cells under the same limit, as another names it
pub under_limit : {T : Type 0} (w : Store (Option T)) (limit other : ℕ)
    → w ≡ record { slots = []; first = 0; tiers = map no_blocks cell_sizes; limit = limit; capacities = w.capacities } → limit ≡ other
    → w ≡ record { slots = []; first = 0; tiers = map no_blocks cell_sizes; limit = other; capacities = w.capacities }
under_limit w limit other e same = e ∙ (λ i. record { slots = []; first = 0; tiers = map no_blocks cell_sizes; limit = same i; capacities = w.capacities })
