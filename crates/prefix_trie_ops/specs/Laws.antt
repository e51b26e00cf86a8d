-- What the maps made of two maps have at a key, and what it means that an entry is redundant. This project's own.
use Rattle.std.specs.Prelude.{◌≡◌, ◌<◌, ◌≤◌, ◌↔◌, Bool, true, false, cond, List, length, Option, None, Some, is_some}
use Rattle.std.specs.FinMap.{contains_key, get}
use Rattle.prefix_trie.specs.Terms.{Entries, begins, shortest_match}
use Rattle.prefix_trie_ops.specs.Combining.{both_values, common, minus, not_covered, restricted_to}
use Rattle.prefix_trie_ops.specs.Covered.{is_below_another}
use Rattle.prefix_trie_ops.specs.Merging.{sides, union_of}
use Rattle.prefix_trie_ops.specs.Values.{is_redundant, value_above}

-- what each map that is made of two maps has at a key: the laws pin `union_of`, `common`, `minus`, `restricted_to` and
-- `not_covered`
pub record CombiningLaws (T U : Type 0) : Type 0 where
  pub union_at : (m : Entries T) (n : Entries U) (s : List Bool) → get (union_of m n) s ≡ sides (get m s) (get n s)
  pub common_at : (m : Entries T) (n : Entries U) (s : List Bool) → get (common m n) s ≡ both_values (get m s) (get n s)
  pub minus_at : (m : Entries T) (n : Entries U) (s : List Bool) → get (minus m n) s ≡ cond (contains_key n s) None (get m s)
  pub restricted_at : (m : Entries T) (n : Entries U) (s : List Bool) → get (restricted_to m n) s ≡ cond (contains_key n s) (get m s) None
  pub not_covered_at : (m : Entries T) (n : Entries U) (s : List Bool) → get (not_covered m n) s ≡ cond (is_some (shortest_match n s)) None (get m s)

module _ {T : Type 0} (m : Entries T) (s : List Bool) where
  -- a key is shorter than s and begins it
  pub record IsAbove (p : List Bool) : Type 0 where
    pub stored : contains_key m p ≡ true
    pub begins_it : begins p s ≡ true
    pub shorter : length p < length s

  -- it is the longest of these keys, and has this value
  pub record IsLongestAbove (p : List Bool) (v : T) : Type 0 where
    pub above : IsAbove p
    pub value : get m p ≡ Some v
    pub longest : (q : List Bool) → IsAbove q → length q ≤ length p

-- what the definitions of aggregation mean: the laws pin `value_above`, `is_redundant` and `is_below_another`
pub record AggregationLaws (T : Type 0) : Type 0 where
  -- the value above a string is that of the longest shorter key that begins it, and there is none exactly if there is no such key
  pub value_above_is : (m : Entries T) (s : List Bool) (v : T) → (value_above m s ≡ Some v) ↔ ((p : List Bool) × IsLongestAbove m s p v)
  pub none_above : (m : Entries T) (s : List Bool) → (value_above m s ≡ None) ↔ ((p : List Bool) → IsAbove m s p → ⊥)
  -- an entry is redundant exactly if the longest shorter key has an equal value
  pub redundant : (eq : T → T → Bool) (m : Entries T) (s : List Bool) (w : T) → get m s ≡ Some w
      → (is_redundant eq m s ≡ true) ↔ ((p : List Bool) × (v : T) × IsLongestAbove m s p v × (eq v w ≡ true))
  -- a key is below another one exactly if a shorter key begins it
  pub below_another : (m : Entries T) (s : List Bool) → (is_below_another m s ≡ true) ↔ ((p : List Bool) × IsAbove m s p)
