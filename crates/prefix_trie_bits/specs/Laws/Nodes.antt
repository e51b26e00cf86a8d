-- Sets of nodes, and the nodes that keys need: for `node_laws`.
use Rattle.std.specs.Prelude.{◌≡◌, ◌≢◌, ◌↔◌, ◌⊎◌, ℕ, ◌%◌, ◌≤◌, Bool, true, ◌&&◌, ◌||◌, List, [], length}
use Rattle.std.specs.FinMap.{contains_key}
use Rattle.prefix_trie_bits.specs.Model.Bits.{begins}
use Rattle.prefix_trie_bits.specs.Model.Entries.{Entries, no_entries, with_entry, without_entry}
use Rattle.prefix_trie_bits.specs.Calls.Entries.{AreWithin}
use Rattle.prefix_trie_bits.specs.Model.Nodes.{Nodes, has_node, root_alone, is_node_depth, home, needed, with_needed, IsTidy}
use Rattle.prefix_trie_bits.specs.Calls.Nodes.{AreNodes}

-- s is the longest beginning of q whose length is a multiple of five
pub record IsHome (q s : List Bool) : Type 0 where
  pub begins_it : begins s q ≡ true
  pub five : length s % 5 ≡ 0
  pub longest : (t : List Bool) → begins t q ≡ true → length t % 5 ≡ 0 → length t ≤ length s

module _ {T : Type 0} where
  -- some stored key has s as a beginning
  abbrev pub BeginsKey : Entries T → List Bool → Type 0
  BeginsKey m s = (k : List Bool) × (contains_key m k ≡ true) × (begins s k ≡ true)

pub record NodeLaws (T : Type 0) : Type 0 where
  -- the string of q's own node, in words
  pub home_in_words : (q : List Bool) → IsHome q (home q)
  -- the needed nodes in words: the root, and each beginning of a key whose length is a multiple of five
  pub needed_in_words : (m : Entries T) (s : List Bool)
      → (has_node (needed m) s ≡ true) ↔ ((s ≡ []) ⊎ ((length s % 5 ≡ 0) × BeginsKey m s))
  -- tidy in words: each node except the root has an entry in it or under it
  pub tidy_in_words : (width : ℕ) (m : Entries T) (n : Nodes) → AreNodes width m n
      → IsTidy m n ↔ ((s : List Bool) → has_node n s ≡ true → s ≢ [] → BeginsKey m s)
  -- what an insertion adds to the nodes: the beginnings of the key whose lengths are multiples of five
  pub has_with_needed : (n : Nodes) (s t : List Bool)
      → has_node (with_needed n s) t ≡ (has_node n t || (begins t s && is_node_depth t))
  -- the nodes that keys within the width need can be the nodes of a map
  pub needed_are_nodes : (width : ℕ) (m : Entries T) → AreWithin width m → AreNodes width m (needed m)
  -- so can the root alone without entries, and that map is tidy
  pub of_no_entries : (width : ℕ) → AreNodes width (no_entries {T = T}) root_alone
  pub no_entries_tidy : IsTidy (no_entries {T = T}) root_alone
  -- the nodes can still be those of a map after a new key is set, after a stored key is set again, and after a key is
  -- removed and all nodes stay
  pub key_set : (width : ℕ) (m : Entries T) (n : Nodes) (s : List Bool) (v : T) → AreNodes width m n → length s ≤ width
      → AreNodes width (with_entry m s v) (with_needed n s)
  pub key_set_again : (width : ℕ) (m : Entries T) (n : Nodes) (s : List Bool) (v : T) → AreNodes width m n
      → contains_key m s ≡ true → AreNodes width (with_entry m s v) n
  pub key_removed : (width : ℕ) (m : Entries T) (n : Nodes) (s : List Bool) → AreNodes width m n
      → AreNodes width (without_entry m s) n
  -- the needed nodes after a key is set, and after a stored key is set again
  pub needed_with : (m : Entries T) (s : List Bool) (v : T) → with_needed (needed m) s ≡ needed (with_entry m s v)
  pub needed_again : (m : Entries T) (s : List Bool) (v : T) → contains_key m s ≡ true → needed m ≡ needed (with_entry m s v)
