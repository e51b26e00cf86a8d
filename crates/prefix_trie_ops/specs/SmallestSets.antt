-- What it means that no set that covers the same addresses has fewer keys. This project's own.
use Rattle.std.specs.Prelude.{◌≡◌, ◌+◌, ◌*◌, ◌<◌, ◌≤◌, ℕ, Bool, true, false, List, [], ◌∷◌, ◌++◌, length}
use Rattle.std.specs.Option.{is_some}
use Rattle.std.specs.FinMap.{contains_key, len}
use Rattle.prefix_trie.specs.Terms.{Entries, shortest_match}

module _ {T : Type 0} where
  module _ (width : ℕ) where
    -- each question of full width begins with a key of both sets, or with none of either
    abbrev pub CoverSameAddresses : Entries T → Entries T → Type 0
    CoverSameAddresses m n = (q : List Bool) → length q ≡ width → is_some (shortest_match m q) ≡ is_some (shortest_match n q)

    -- each set that covers the same addresses has at least as many keys
    abbrev pub IsSmallestCover : Entries T → Type 0
    IsSmallestCover m = (n : Entries T) → CoverSameAddresses n m → len m ≤ len n

    -- 56 slots for each key of any set that covers the same addresses, and one for the root, would exceed a slot limit
    abbrev pub CoverMayExceedLimit : ℕ → Entries T → Type 0
    CoverMayExceedLimit limit m = (n : Entries T) → CoverSameAddresses n m → limit < 1 + 56 * len n

  -- no two keys differ in their last bit alone
  abbrev pub HasNoSiblings : Entries T → Type 0
  HasNoSiblings m = (s : List Bool) → contains_key m (s ++ false ∷ []) ≡ true → contains_key m (s ++ true ∷ []) ≡ false
