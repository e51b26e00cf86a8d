-- Many lookups in one call. This project's own.
use Rattle.std.specs.Prelude.{◌≡◌, ℕ, ◌+◌, ◌<◌, Bool, List, Option, map, slice_index_or, sum_by, take}
use Rattle.prefix_trie_bits.specs.Model.Entries.{Entries}
use Rattle.prefix_trie_bits.specs.Model.Matches.{longest_match}
use Rattle.prefix_trie_bits.specs.Model.Nodes.{Nodes}
use Rattle.prefix_trie_bits.specs.Model.Visits.{visits}
use Rattle.prefix_trie_table.specs.declared.allocator.node.Node.{Node}
use Rattle.prefix_trie_table.specs.declared.table.bulk.Found.{Found}
use Rattle.prefix_trie_table.specs.Bulk.{IsMatchFound}

-- the number of nodes on the search paths of these prefixes; a node on several paths counts once
-- for each
abbrev pub visits_of_all : {P : Type 0} → (P → List Bool) → Nodes → List P → ℕ
visits_of_all path n prefixes = sum_by (λ p. visits n (path p)) prefixes

-- the right result for a prefix, given the right result for each match
abbrev pub right_for : {P T Y : Type 0} → (Option (List Bool × T) → Y) → (P → List Bool) → Entries T → P → Y
right_for right path m p = right (longest_match m (path p))

-- the first n results are right for the first n prefixes
abbrev pub HaveMatches : {P X Y : Type 0} → (X → Y) → (P → Y) → List P → List X → ℕ → Type 0
HaveMatches shows right prefixes out n = map shows (take n out) ≡ map right (take n prefixes)

-- between the two counts, the nodes for the prefixes between the two indices were read
abbrev pub ReadsMore : {P : Type 0} → (P → List Bool) → Nodes → List P → ℕ → ℕ → ℕ → ℕ → Type 0
ReadsMore path n prefixes from to before after =
    after + visits_of_all path n (take from prefixes) ≡ before + visits_of_all path n (take to prefixes)

-- what the table found for these prefixes
abbrev pub AreFound : {P : Type 0} → (P → List Bool) → List Node → List P → ℕ → ℕ → List (Option Found) → Type 0
AreFound {P} path nodes prefixes from n found =
    (i : ℕ) (p : P) (a : Option Found) → i < n → p ≡ slice_index_or prefixes (from + i) p → a ≡ slice_index_or found i a → IsMatchFound nodes (path p) a
