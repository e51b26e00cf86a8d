-- Networks and the addresses that they have. This project's own.
use Rattle.std.specs.Prelude.{◌≡◌, ℕ, ◌+◌, ◌*◌, ◌-◌, ◌^◌, ◌<◌, ◌≤◌, ◌++◌, ◌&&◌, Bool, true, not, List, [], length, cond, filter, nat_le, nat_lt, Contains, slice_index, slice_index_or, All}
use Rattle.std.specs.List.{list_any}
use Rattle.prefix_trie_bits.specs.Model.Bits.{begins, number, zeros}
use Rattle.address_ranges.specs.Breaks.{has_address}

-- the first address of the network with a path, as a number
abbrev pub first_address : ℕ → List Bool → ℕ
first_address width s = number (s ++ zeros (width - length s))

-- the number after the last address
abbrev pub past_address : ℕ → List Bool → ℕ
past_address width s = first_address width s + 2 ^ (width - length s)

-- the breakpoint at a place, or the end of all addresses if there is none
abbrev pub break_or_end : ℕ → List ℕ → ℕ → ℕ
break_or_end width ns i = cond (nat_lt i (length ns)) (slice_index ns i) (2 ^ width)

-- whether a number is from `low` to `high`
abbrev pub is_between : ℕ → ℕ → ℕ → Bool
is_between low high n = nat_le low n && nat_le n high

-- a network of a length begins at an address, and ends by `end`
pub record IsBlock (width at len end : ℕ) : Type 0 where
  pub quotient : ℕ
  pub aligned : at ≡ quotient * 2 ^ (width - len)
  pub fits : at + 2 ^ (width - len) ≤ end

-- all addresses of a network pass a test
abbrev pub IsInside : ℕ → (ℕ → Bool) → List Bool → Type 0
IsInside width test s = (n : ℕ) → first_address width s ≤ n → n < past_address width s → test n ≡ true

-- each network ends before those after it begin, or there
abbrev pub AreInOrder : ℕ → List (List Bool) → Type 0
AreInOrder width ss = (j k : ℕ) → j < k → k < length ss → past_address width (slice_index_or ss j []) ≤ first_address width (slice_index_or ss k [])

-- networks cover the addresses below `at` that pass a test, and no others, each once and in order, and no network that
-- has such addresses only is larger than the one that has its first address
pub record AreFewestUpTo (width : ℕ) (test : ℕ → Bool) (at : ℕ) (ss : List (List Bool)) : Type 0 where
  pub short : (s : List Bool) → Contains ss s → length s ≤ width
  pub inside : (s : List Bool) → Contains ss s → IsInside width test s
  pub all : (n : ℕ) → n < at → test n ≡ true → (s : List Bool) × Contains ss s × (first_address width s ≤ n) × (n < past_address width s)
  pub in_order : AreInOrder width ss
  pub before : (s : List Bool) → Contains ss s → past_address width s ≤ at
  pub largest : (s t : List Bool) → Contains ss s → length t ≤ width → IsInside width test t → first_address width t ≤ first_address width s → first_address width s < past_address width t → length s ≤ length t
  -- no network that has such addresses only lies on both sides of `at`
  pub ends : (t : List Bool) → length t ≤ width → IsInside width test t → first_address width t < at → past_address width t ≤ at

-- all networks of a length whose addresses pass a test, each once and in order
pub record AreAllOfLength (width len : ℕ) (test : ℕ → Bool) (ss : List (List Bool)) : Type 0 where
  pub each : (s : List Bool) → Contains ss s → (length s ≡ len) × IsInside width test s
  pub all : (t : List Bool) → length t ≡ len → IsInside width test t → Contains ss t
  pub in_order : AreInOrder width ss

-- no address of a network is in a set
abbrev pub IsFree : ℕ → List ℕ → List Bool → Type 0
IsFree width ns s = IsInside width (λ n. not (has_address ns n)) s

-- whether an address is in a network of the list
abbrev pub is_covered_by : List (List Bool) → List Bool → Bool
is_covered_by ss q = list_any (λ s. begins s q) ss

-- no list of networks that cover the same addresses is shorter
abbrev pub IsShortest : ℕ → List (List Bool) → Type 0
IsShortest width ss = (others : List (List Bool)) → All (λ s. length s ≤ width) others
    → ((q : List Bool) → length q ≡ width → is_covered_by others q ≡ is_covered_by ss q) → length ss ≤ length others

-- Networks are the fewest that cover addresses: they cover just these, each once and in order, and no shorter list does.
-- `test` says which addresses these are.
pub record AreFewest (width : ℕ) (test : ℕ → Bool) (ss : List (List Bool)) : Type 0 where
  pub covered : (q : List Bool) → length q ≡ width → is_covered_by ss q ≡ test (number q)
  pub once : (q : List Bool) → length q ≡ width → length (filter (λ s. begins s q) ss) ≤ 1
  pub in_order : AreInOrder width ss
  pub shortest : IsShortest width ss
