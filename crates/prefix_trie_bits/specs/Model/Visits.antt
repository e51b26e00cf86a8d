-- How many nodes a lookup reads, each counted once.
-- The bound is from Eatherton, Dittia and Varghese's tree bitmap; the exact number is this
-- project's own.
use Rattle.std.specs.Prelude.{◌≡◌, ℕ, ◌+◌, ◌/◌, ◌≤◌, ◌&&◌, Bool, List, Option, Some, None, length, filter, nat_le}
use Rattle.std.specs.FinMap.{keys}
use Rattle.prefix_trie_bits.specs.Model.Bits.{begins}
use Rattle.prefix_trie_bits.specs.Model.Entries.{Entries}
use Rattle.prefix_trie_bits.specs.Model.Matches.{shortest_match}
use Rattle.prefix_trie_bits.specs.Model.Nodes.{Nodes}

-- the number of nodes on the search path of q, which a lookup of q reads
abbrev pub visits : Nodes → List Bool → ℕ
visits n q = length (filter (λ s. begins s q) (keys n))

-- the number of those whose strings have at most k bits
abbrev pub visits_within : Nodes → List Bool → ℕ → ℕ
visits_within n q k = length (filter (λ s. begins s q && nat_le (length s) k) (keys n))

module _ {T : Type 0} where
  -- the number that a lookup reads which stops at a match, or at the end of the path if there is
  -- none
  abbrev pub visits_of_match : Nodes → List Bool → Option (List Bool × T) → ℕ
  visits_of_match n q None = visits n q
  visits_of_match n q (Some e) = visits_within n q (length e.0)

  -- the number that a lookup reads which stops at the shortest match, as `get_spm`,
  -- `get_spm_prefix` and `is_covered` do
  abbrev pub visits_to_match : Entries T → Nodes → List Bool → ℕ
  visits_to_match m n q = visits_of_match n q (shortest_match m q)

-- exactly n nodes were read, and at most one for each five bits of q plus one
pub record ReadsExactly (q : List Bool) (n count : ℕ) : Type 0 where
  pub exact : count ≡ n
  pub bound : count ≤ length q / 5 + 1

-- each node on the search path of q was read once
abbrev pub ReadsPath : Nodes → List Bool → ℕ → Type 0
ReadsPath n q count = ReadsExactly q (visits n q) count

-- each node on the search path of q down to the shortest match was read once
abbrev pub ReadsToMatch : {T : Type 0} → Entries T → Nodes → List Bool → ℕ → Type 0
ReadsToMatch m n q count = ReadsExactly q (visits_to_match m n q) count
