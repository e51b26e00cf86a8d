-- Sets of addresses as breakpoints: the addresses at which membership changes. This project's own.
use Rattle.std.specs.Prelude.{◌≡◌, ℕ, ◌%◌, ◌^◌, ◌<◌, ◌≤◌, ◌==◌, Bool, false, not, cond, List, [], ◌∷◌, length, map, nat_le, slice_index}
use Rattle.prefix_trie_bits.specs.Model.Bits.{number}

-- whether an address is in the set: the number of breakpoints from 0 up to it is odd
abbrev pub has_address : List ℕ → ℕ → Bool
has_address [] n = false
has_address (b ∷ bs) n = cond (nat_le b n) (not (has_address bs n)) (has_address bs n)

-- whether a number is odd
abbrev pub is_odd : ℕ → Bool
is_odd n = n % 2 == 1

-- each number is below those after it
abbrev pub AreRising : List ℕ → Type 0
AreRising ns = (j k : ℕ) → j < k → k < length ns → slice_index ns j < slice_index ns k

-- breakpoints of a set of addresses of so many bits
pub record AreBreaks (width : ℕ) (ns : List ℕ) : Type 0 where
  pub rising : AreRising ns
  pub within : (k : ℕ) → k < length ns → slice_index ns k < 2 ^ width

-- keys as numbers
abbrev pub numbers : {K : Type 0} → (K → List Bool) → List K → List ℕ
numbers bits keys = map (λ k. number (bits k)) keys

-- so many breakpoints are at an address or below it, and the others are above
pub record IsRank (ns : List ℕ) (n rank : ℕ) : Type 0 where
  pub inside : rank ≤ length ns
  pub below : (k : ℕ) → k < rank → slice_index ns k ≤ n
  pub above : (k : ℕ) → rank ≤ k → k < length ns → n < slice_index ns k

-- the first breakpoint is 0
abbrev pub StartsAtZero : List ℕ → Type 0
StartsAtZero [] = ⊥
StartsAtZero (b ∷ ns) = b ≡ 0
