-- Which nodes a removal leaves: for `pruning_laws`.
use Rattle.std.specs.Prelude.{◌≡◌, ◌≢◌, ◌↔◌, ℕ, Bool, true, false, List, []}
use Rattle.std.specs.FinMap.{contains_key}
use Rattle.prefix_trie_bits.specs.Model.Bits.{begins}
use Rattle.prefix_trie_bits.specs.Model.Entries.{Entries, without_entry, without_below}
use Rattle.prefix_trie_bits.specs.Model.Nodes.{Nodes, has_node, home, needed, pruned, IsTidy, nodes_without, nodes_without_below}
use Rattle.prefix_trie_bits.specs.Calls.Nodes.{AreNodes}

module _ {T : Type 0} where
  -- the node t is removed by a removal at q that leaves the entries m
  -- The own node of q is there. The node t is on its search path but is not the root, begins no key
  -- that is left, and has nodes under it only on that path.
  pub record IsPrunedNode (n : Nodes) (m : Entries T) (q t : List Bool) : Type 0 where
    pub home_there : has_node n (home q) ≡ true
    pub on_path : begins t (home q) ≡ true
    pub not_root : t ≢ []
    pub no_key : (k : List Bool) → contains_key m k ≡ true → begins t k ≡ false
    pub alone : (u : List Bool) → has_node n u ≡ true → begins t u ≡ true → begins u (home q) ≡ true

  -- the nodes left lie between the needed ones and those before, are tidy if they were tidy before,
  -- and are nodes of a map
  pub record IsPruning (width : ℕ) (m left : Entries T) (n nodes_left : Nodes) : Type 0 where
    pub none_new : (s : List Bool) → has_node nodes_left s ≡ true → has_node n s ≡ true
    pub needed_stay : (s : List Bool) → has_node (needed left) s ≡ true → has_node nodes_left s ≡ true
    pub stays_tidy : IsTidy m n → IsTidy left nodes_left
    pub are_nodes : AreNodes width left nodes_left

pub record PruningLaws (T : Type 0) : Type 0 where
  -- pruning removes exactly these nodes and adds none
  pub in_words : (n : Nodes) (m : Entries T) (q t : List Bool) → has_node n t ≡ true
      → (has_node (pruned n m q) t ≡ false) ↔ IsPrunedNode n m q t
  pub none_added : (n : Nodes) (m : Entries T) (q t : List Bool) → has_node (pruned n m q) t ≡ true → has_node n t ≡ true
  -- `remove` and `remove_children` prune in this sense
  pub of_remove : (width : ℕ) (m : Entries T) (n : Nodes) (q : List Bool) → AreNodes width m n
      → IsPruning width m (without_entry m q) n (nodes_without n m q)
  pub of_remove_children : (width : ℕ) (m : Entries T) (n : Nodes) (q : List Bool) → AreNodes width m n
      → IsPruning width m (without_below m q) n (nodes_without_below n m q)
