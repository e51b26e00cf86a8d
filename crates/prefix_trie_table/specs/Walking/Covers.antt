-- Where a walk over the beginnings of a bit string is, and what is still to come of it. This project's own.
use Rattle.std.specs.Prelude.{◌≡◌, ℕ, ◌+◌, ◌*◌, ◌≤◌, Bool, ◌&&◌, ◌||◌, nat_le, List, Option, Some, length, take, drop, filter, MatchOption}
use Rattle.prefix_trie_bits.specs.Model.Bits.{begins}
use Rattle.prefix_trie_bits.specs.Model.Matches.{covers}
use Rattle.prefix_trie_bits.specs.Model.Entries.{Entries}
use Rattle.prefix_trie_bits.specs.Places.{has, value_bit, HoldsValues}
use Rattle.prefix_trie_table.specs.declared.allocator.node.Node.{Node}
use Rattle.prefix_trie_table.specs.declared.table.lookup.Reached.{Reached}
use Rattle.prefix_trie_table.specs.declared.table.matching.Match.{Match}
use Rattle.prefix_trie_table.specs.Blocks.Cells.{node_sizes}
use Rattle.prefix_trie_table.specs.Digits.{chunks_of}
use Rattle.prefix_trie_table.specs.Blocks.Store.{Store}
use Rattle.prefix_trie_table.specs.Forest.{NodesHold, SomeTable}
use Rattle.prefix_trie_table.specs.Matching.{NoneHeld, IsHeld}
use Rattle.prefix_trie_table.specs.SearchPaths.{IsAlong}

-- the matches are the value bits of a node at this depth whose strings begin q and have at least `first` bits
abbrev pub AreLeft : ℕ → ℕ → ℕ → ℕ → List Bool → Type 0
AreLeft matches bitmap depth first q =
    HoldsValues matches (λ s. begins s (drop depth q) && (nat_le first (depth + length s) && has bitmap (value_bit s)))

-- the walk over the beginnings of q is at this node, and the beginnings of at least `first` bits are still to come
pub record IsCovering (q : List Bool) (here : Reached) (matches first : ℕ) (v : Store Node) : Type 0 where
  pub along : IsAlong q here v
  pub low : 5 * here.level ≤ first
  pub high : first ≤ 5 * here.level + 5
  pub left : AreLeft matches here.node.value_bitmap (5 * here.level) first q

-- the match is the shortest beginning of q that has a value and at least `first` bits
-- The beginnings of at least `later` bits are left.
abbrev pub NextHeld : (List ℕ → Option Node) → List Bool → ℕ → ℕ → ℕ → Option Match → Type 0
NextHeld reading q end first later o =
    MatchOption o (NoneHeld reading q first end × NoneHeld reading q later end)
    (λ m. (first ≤ m.len) × (later ≡ m.len + 1) × IsHeld reading q m.len m.bit m.node × NoneHeld reading q first m.len)

-- the shortest match of q in a node with at least `first` bits was removed from the matches
pub record TakesMatch (level : ℕ) (node : Node) (matches first : ℕ) (q : List Bool) (o : Option Match) : Type 0 where
  pub later : ℕ
  pub high : later ≤ 5 * level + 5
  pub low : first ≤ later
  pub left : AreLeft matches node.value_bitmap (5 * level) later q
  pub next : (reading : List ℕ → Option Node) → reading (take level (chunks_of q)) ≡ Some node → NextHeld reading q (5 * level + 5) first later o

-- the same for each q and `first` that have these matches
abbrev pub TakesShortest : ℕ → Node → ℕ → ℕ → Option Match → Type 0
TakesShortest level node old new o =
    (q : List Bool) (first : ℕ) → 5 * level ≤ length q → 5 * level ≤ first → first ≤ 5 * level + 5 → AreLeft old node.value_bitmap (5 * level) first q
    → TakesMatch level node new first q o

-- the walk has passed one beginning
pub record GoesOn (q : List Bool) (here : Reached) (matches first : ℕ) (o : Option Match) (v : Store Node) : Type 0 where
  pub later : ℕ
  pub is_there : IsCovering q here matches later v
  pub next : (reading : List ℕ → Option Node) (paths : List (List ℕ)) → NodesHold node_sizes reading paths v → NextHeld reading q (length q + 1) first later o

-- whether a beginning is still to come, given the matches in the node of the walk
abbrev pub is_ahead : ℕ → ℕ → List Bool → Bool
is_ahead level matches s =
    nat_le (5 * level + 5) (length s) || (nat_le (5 * level) (length s) && has matches (value_bit (drop (5 * level) s)))

-- the entries still to come
abbrev pub still_covering : {T : Type 0} → Entries T → List Bool → ℕ → ℕ → List (List Bool × T)
still_covering m q level matches = filter (λ e. is_ahead level matches e.0) (covers m q)

-- the invariant of the fields of a walk over covers
pub record IsCover {T : Type 0} (q : List Bool) (here : Reached) (matches : ℕ) (v : Store Node) (w : Store (Option T)) : Type 0 where
  pub table : SomeTable v w
  pub first : ℕ
  pub is_there : IsCovering q here matches first v
