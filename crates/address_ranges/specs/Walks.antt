-- Walks over the networks of a set. This project's own.
use Rattle.std.specs.Prelude.{◌≡◌, ℕ, ◌-◌, ◌^◌, ◌<◌, ◌≤◌, ◌&&◌, Bool, false, List, [], ◌∷◌, length, nat_le, MatchOption, Option, None, Some}
use Rattle.prefix_trie_bits.specs.Model.Bits.{number}
use Rattle.address_ranges.specs.Breaks.{has_address, numbers}
use Rattle.address_ranges.specs.Networks.{IsInside, first_address, past_address}

-- a first breakpoint and the others; there are none without a first one
abbrev pub breaks_left : {K : Type 0} → (K → List Bool) → Option K → List K → List ℕ
breaks_left bits None rest = []
breaks_left bits (Some k) rest = number (bits k) ∷ numbers bits rest

-- the addresses after a network are left
abbrev pub Leaves : ℕ → List ℕ → List Bool → List ℕ → Type 0
Leaves width before s after = (n : ℕ) → n < 2 ^ width → has_address after n ≡ (has_address before n && nat_le (past_address width s) n)

-- a walk returns the largest network of addresses that it has left which begins at the first of them
pub record ReturnsLargest (width : ℕ) (before : List ℕ) (s : List Bool) (after : List ℕ) : Type 0 where
  pub short : length s ≤ width
  pub inside : IsInside width (has_address before) s
  pub first : (n : ℕ) → n < first_address width s → has_address before n ≡ false
  pub largest : (t : List Bool) → length t ≤ width → IsInside width (has_address before) t → first_address width t ≡ first_address width s → length s ≤ length t
  pub left : Leaves width before s after

-- a walk returns the first network of a length whose addresses are all left
pub record ReturnsFirst (width len : ℕ) (before : List ℕ) (s : List Bool) (after : List ℕ) : Type 0 where
  pub long : length s ≡ len
  pub inside : IsInside width (has_address before) s
  pub first : (t : List Bool) → length t ≡ len → IsInside width (has_address before) t → first_address width s ≤ first_address width t
  pub left : Leaves width before s after

-- no network of a length has such addresses only
abbrev pub HasNoneOfLength : ℕ → ℕ → List ℕ → Type 0
HasNoneOfLength width len before = (t : List Bool) → length t ≡ len → IsInside width (has_address before) t → ⊥

-- a network fits and has no host bits
abbrev pub IsBare : {P : Type 0} → (P → Type 0) → (List Bool → P) → (P → List Bool) → P → Type 0
IsBare IsFitting back path p = IsFitting p × (back (path p) ≡ p)

module _ {P : Type 0} (width : ℕ) (IsFitting : P → Type 0) (path : P → List Bool) where
  -- a step of the walk over the fewest networks
  abbrev pub ReturnsNetwork : List ℕ → Option P → List ℕ → Type 0
  ReturnsNetwork before result after = MatchOption result ((before ≡ []) × (after ≡ []))
      (λ p. IsFitting p × ReturnsLargest width before (path p) after)

  -- a step of the walk over the networks of a length, which it keeps
  abbrev pub ReturnsNetworkOfLength : ℕ × List ℕ → Option P → ℕ × List ℕ → Type 0
  ReturnsNetworkOfLength before result after = (after.0 ≡ before.0) × MatchOption result (HasNoneOfLength width before.0 before.1 × (after.1 ≡ []))
      (λ p. IsFitting p × ReturnsFirst width before.0 before.1 (path p) after.1)

-- how many networks are left at most: one for each address from the first one on
abbrev pub most_left : ℕ → List ℕ → ℕ
most_left width [] = 0
most_left width (b ∷ ns) = 2 ^ width - b
