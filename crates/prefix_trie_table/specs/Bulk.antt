-- The searches of one bulk lookup, side by side, and how far each has come. This project's own.
use Rattle.std.specs.Prelude.{◌≡◌, ℕ, ◌+◌, ◌*◌, ◌<◌, ◌⊎◌, Bool, List, Option, None, All, Contains, ◌++◌, length, map, option_map, slice_index_or, sum_by}
use Rattle.prefix_trie_table.specs.declared.allocator.node.Node.{Node}
use Rattle.prefix_trie_table.specs.declared.table.bulk.Found.{Found}
use Rattle.prefix_trie_table.specs.declared.table.bulk.Descent.{Descent}
use Rattle.prefix_trie_table.specs.declared.table.lookup.Reached.{Reached}
use Rattle.prefix_trie_table.specs.declared.table.matching.Match.{Match}
use Rattle.prefix_trie_table.specs.Blocks.Cells.{node_at, node_sizes}
use Rattle.prefix_trie_table.specs.Digits.{chunks_of}
use Rattle.prefix_trie_table.specs.Forest.{NodesHold, IsEnd, SomeNodes, read}
use Rattle.prefix_trie_table.specs.Matching.{LackLastBit, LongestHeld, match_seat}
use Rattle.prefix_trie_table.specs.SearchPaths.{IsAlong}
use Rattle.prefix_trie_table.specs.Blocks.Store.{Store}

-- P holds for each of the first n items and its index
abbrev pub EachOf : {X : Type 0} → (ℕ → X → Type 0) → ℕ → List X → Type 0
EachOf {X} P n xs = (i : ℕ) (x : X) → i < n → x ≡ slice_index_or xs i x → P i x

-- what is kept of a match: the length of its string, and where its value is stored
abbrev pub found_of : Match → Found
found_of m = record { len = m.len; seat = match_seat m }

-- what was found is the longest beginning of s that is shorter than n and has a value
abbrev pub IsLongestFound : (List ℕ → Option Node) → List Bool → ℕ → Option Found → Type 0
IsLongestFound reading s n found = (m : Option Match) × LongestHeld reading s 0 n m × (found ≡ option_map found_of m)

-- the same for the nodes in an array
abbrev pub HasFound : Store Node → List Bool → ℕ → Option Found → Type 0
HasFound v s n found = (reading : List ℕ → Option Node) (paths : List (List ℕ)) → NodesHold node_sizes reading paths v → IsLongestFound reading s n found

-- a descent at the root that has found nothing yet
abbrev pub new_descent : ℕ → Descent
new_descent i = record { question = i; at = 0; best = None }

-- the index of the question of a descent
abbrev pub question_of : Descent → ℕ
question_of w = w.question

-- the slot of the node ahead
abbrev pub slot_of : Descent → ℕ
slot_of w = w.at

-- the node is the one ahead of the descent of this index
abbrev pub IsAhead : List Node → List Descent → ℕ → Node → Type 0
IsAhead slots descents i n = (w : Descent) → w ≡ slice_index_or descents i w → n ≡ node_at slots (slot_of w)

-- the descent belongs to the question of its index, and is at the root
abbrev pub IsNew : ℕ → Descent → Type 0
IsNew i w = w ≡ new_descent i

-- the cost of a descent, from a list of the costs of all questions
abbrev pub cost_of : List ℕ → Descent → ℕ
cost_of costs w = slice_index_or costs w.question 0

-- the array of nodes is as lookups require it
abbrev pub IsSound : Store Node → Type 0
IsSound v = (n : SomeNodes v) × LackLastBit n.reading

-- the node that a descent has reached, at this level
abbrev pub reached_by : Descent → Node → ℕ → Reached
reached_by w n level = record { at = w.at; node = n; level = level }

-- what was found is the match of a question, in these nodes
abbrev pub IsMatchFound : List Node → List Bool → Option Found → Type 0
IsMatchFound nodes q found = IsLongestFound (read nodes) q (length q + 1) found

-- each question has its match
abbrev pub AreMatchesFound : List Node → List (List Bool) → List (Option Found) → Type 0
AreMatchesFound nodes questions found =
    (i : ℕ) (q : List Bool) (a : Option Found) → i < length questions → q ≡ slice_index_or questions i q → a ≡ slice_index_or found i a → IsMatchFound nodes q a

module _ (v : Store Node) (questions : List (List Bool)) where
  -- the search for a question is at the next node, and the longest match above that node is known
  pub record IsDescent (level : ℕ) (w : Descent) : Type 0 where
    pub question : List Bool
    pub is : question ≡ slice_index_or questions w.question question
    pub inside : w.question < length questions
    pub along : IsAlong question (reached_by w (node_at v.slots (slot_of w)) level) v
    pub best : HasFound v question (5 * level) w.best

  -- a question whose search has ended has its match
  abbrev pub HaveMatches : List ℕ → List (Option Found) → Type 0
  HaveMatches under_way found =
      (i : ℕ) (q : List Bool) (a : Option Found) → i < length questions → q ≡ slice_index_or questions i q → a ≡ slice_index_or found i a
      → Contains under_way i ⊎ HasFound v q (length q + 1) a

  -- the number of nodes on the search path of each question
  abbrev pub AreCosts : List ℕ → Type 0
  AreCosts costs =
      (i : ℕ) (q : List Bool) → i < length questions → q ≡ slice_index_or questions i q
      → (reading : List ℕ → Option Node) (paths : List (List ℕ)) (level : ℕ) → NodesHold node_sizes reading paths v → IsEnd reading (chunks_of q) level
      → slice_index_or costs i 0 ≡ level + 1

  -- the next nodes of these searches were read
  pub record AreRead (level : ℕ) (descents : List Descent) (nodes : List Node) : Type 0 where
    pub sound : SomeNodes v
    pub descents_are : All (IsDescent level) descents
    pub nodes_are : EachOf (IsAhead v.slots descents) (length descents) nodes

  -- some of these searches go on, and the questions of the others have their matches
  pub record GoOn (level : ℕ) (descents next : List Descent) (before after : List (Option Found)) : Type 0 where
    pub descents_are : All (IsDescent (level + 1)) next
    pub matched : (others : List ℕ) → HaveMatches (map question_of descents ++ others) before → HaveMatches (map question_of next ++ others) after
    pub counted : (costs : List ℕ) → AreCosts costs → sum_by (cost_of costs) descents + length next * (level + 1) ≡ sum_by (cost_of costs) next + length descents * (level + 1)
