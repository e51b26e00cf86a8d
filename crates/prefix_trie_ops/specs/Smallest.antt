-- What it means that no map with the same answers to questions of full width has fewer entries. This project's own.
use Rattle.std.specs.Prelude.{◌≡◌, ◌+◌, ◌*◌, ◌<◌, ◌≤◌, ℕ, Bool, List, length}
use Rattle.std.specs.FinMap.{len}
use Rattle.prefix_trie.specs.Terms.{Entries}
use Rattle.prefix_trie_ops.specs.Values.{value_of}

module _ {T : Type 0} (width : ℕ) where
  -- each question of full width has the same longest-match value in both maps, or in neither
  abbrev pub HaveSameAnswers : Entries T → Entries T → Type 0
  HaveSameAnswers m n = (q : List Bool) → length q ≡ width → value_of m q ≡ value_of n q

  -- each map with the same answers has at least as many entries
  abbrev pub IsSmallest : Entries T → Type 0
  IsSmallest m = (n : Entries T) → HaveSameAnswers n m → len m ≤ len n

  -- 56 slots for each entry of any map with the same answers, and one for the root, would exceed a slot limit
  abbrev pub MayExceedLimit : ℕ → Entries T → Type 0
  MayExceedLimit limit m = (n : Entries T) → HaveSameAnswers n m → limit < 1 + 56 * len n
