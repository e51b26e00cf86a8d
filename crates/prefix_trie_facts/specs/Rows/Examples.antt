-- What a worked row is: calls on a new map over pairs of a number and a length, each with the reply that it must give.
-- The rows are this project's own. Many are taken from the documentation and tests of the Rust crate.
use Rattle.std.specs.Prelude.{ℕ, ◌-◌, ◌++◌, ◌^◌, Bool, List, map, take, length, replicate, None}
use Rattle.std.specs.List.{enumerate_from}
use Rattle.prefix_trie_bits.specs.Model.Bits.{digits, number, zeros}
use Rattle.prefix_trie_bits.specs.Model.Entries.{no_entries}
use Rattle.prefix_trie_bits.specs.Model.Nodes.{root_alone}
use Rattle.prefix_trie_bits.specs.Model.Step.{State, Call, Insert, Reply, Value, Run}

-- the path of a pair at a width: the first bits of its number
abbrev pub path_at : ℕ → ℕ × ℕ → List Bool
path_at width p = take p.1 (digits width p.0)

-- the pair rebuilt from a path: its bits followed by zeros, and its length
abbrev pub back_at : ℕ → List Bool → ℕ × ℕ
back_at width s = (number (s ++ zeros (width - length s)), length s)

-- a new map: no entries, and the root alone
abbrev pub new_map : State ℕ
new_map = record { entries = no_entries; nodes = root_alone }

-- calls, each with its reply
abbrev pub Row : Type 0
Row = List (Call (ℕ × ℕ) ℕ × Reply (ℕ × ℕ) ℕ)

-- the calls of a row
abbrev pub calls : Row → List (Call (ℕ × ℕ) ℕ)
calls row = map (λ c. c.0) row

-- the replies of a row
abbrev pub replies : Row → List (Reply (ℕ × ℕ) ℕ)
replies row = map (λ c. c.1) row

-- on a new map the calls give these replies
pub record Gives (width : ℕ) (row : Row) : Type 0 where
  pub last : State ℕ
  pub run : Run (path_at width) (back_at width) width new_map (calls row) (replies row) last

-- on a new map the calls give these replies, and the state after them has a property
pub record LeadsTo (width : ℕ) (row : Row) (Holds : State ℕ → Type 0) : Type 0 where
  pub gives : Gives width row
  pub holds : Holds gives.last

-- each pair with its index in the list as its value
abbrev pub counted : List (ℕ × ℕ) → List ((ℕ × ℕ) × ℕ)
counted pairs = map (λ e. (e.1, e.0)) (enumerate_from 0 pairs)

-- all pairs of full length at a width, in listing order
abbrev pub full_pairs : ℕ → List (ℕ × ℕ)
full_pairs width = enumerate_from 0 (replicate (2 ^ width) width)

-- the calls that set these items in order, each with a new key
abbrev pub sets : List ((ℕ × ℕ) × ℕ) → Row
sets items = map (λ e. (Insert e.0 e.1, Value None)) items
