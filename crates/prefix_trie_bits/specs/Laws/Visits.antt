-- How many nodes a lookup reads: for `visit_laws`.
use Rattle.std.specs.Prelude.{◌≡◌, ◌⊎◌, ℕ, ◌+◌, ◌*◌, ◌/◌, ◌<◌, ◌≤◌, Bool, true, false, List, length, take, Some}
use Rattle.prefix_trie_bits.specs.Model.Entries.{Entries}
use Rattle.prefix_trie_bits.specs.Model.Matches.{shortest_match}
use Rattle.prefix_trie_bits.specs.Model.Nodes.{Nodes, has_node}
use Rattle.prefix_trie_bits.specs.Calls.Nodes.{AreNodes}
use Rattle.prefix_trie_bits.specs.Model.Visits.{visits, visits_to_match}

pub record VisitLaws (T : Type 0) : Type 0 where
  -- a lookup reads at most one node for each five bits of q, plus one
  pub at_most : (width : ℕ) (m : Entries T) (n : Nodes) (q : List Bool) → AreNodes width m n → visits n q ≤ length q / 5 + 1
  -- it reads at least the root
  pub at_least_root : (width : ℕ) (m : Entries T) (n : Nodes) (q : List Bool) → AreNodes width m n → 1 ≤ visits n q
  -- it reads exactly k + 1 nodes, if the node k levels under the root exists and the next one is missing or would be
  -- longer than q
  pub exact : (width : ℕ) (m : Entries T) (n : Nodes) (q : List Bool) (k : ℕ) → AreNodes width m n
      → 5 * k ≤ length q → has_node n (take (5 * k) q) ≡ true
      → (length q < 5 * (k + 1)) ⊎ (has_node n (take (5 * (k + 1)) q) ≡ false) → visits n q ≡ k + 1
  -- a lookup that stops at the shortest match reads no more
  pub fewer_to_match : (m : Entries T) (n : Nodes) (q : List Bool) → visits_to_match m n q ≤ visits n q
  -- if there is a match, its own node is the last one read
  pub to_match : (width : ℕ) (m : Entries T) (n : Nodes) (q : List Bool) (e : List Bool × T) → AreNodes width m n
      → shortest_match m q ≡ Some e → visits_to_match m n q ≡ length e.0 / 5 + 1
