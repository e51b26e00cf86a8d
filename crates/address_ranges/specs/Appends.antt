-- One more range of addresses, in order. This project's own.
use Rattle.std.specs.Prelude.{◌≡◌, ℕ, ◌-◌, ◌*◌, ◌^◌, ◌<◌, ◌≤◌, ◌++◌, ◌&&◌, ◌||◌, Bool, List, [], ◌∷◌, length, nat_le, nat_lt, slice_index, Option, None, Some}
use Rattle.std.proofs.Common.{max, take}
use Rattle.prefix_trie_bits.specs.Model.Bits.{number}
use Rattle.address_ranges.specs.Breaks.{AreBreaks, has_address}

-- the number of the address where a range ends, which is not in it; `None` is the end of all addresses
abbrev pub end_of : {K : Type 0} → ℕ → (K → List Bool) → Option K → ℕ
end_of width bits None = 2 ^ width
end_of width bits (Some k) = number (bits k)

-- the breakpoint at the end of a range, if there is one
abbrev pub past_number : {K : Type 0} → (K → List Bool) → Option K → List ℕ
past_number bits None = []
past_number bits (Some k) = number (bits k) ∷ []

-- whether an address is from `first` on and before `end`
abbrev pub is_inside : ℕ → ℕ → ℕ → Bool
is_inside first end n = nat_le first n && nat_lt n end

-- each range starts at an address or before it
abbrev pub StartBy : List ℕ → ℕ → Type 0
StartBy ns n = (k : ℕ) → 2 * k < length ns → slice_index ns (2 * k) ≤ n

-- the last breakpoint is at an address or after it
abbrev pub EndsFrom : ℕ → List ℕ → Type 0
EndsFrom n ns = (0 < length ns) × (n ≤ slice_index ns (length ns - 1))

-- breakpoints and a last one, which is moved up to another one, or goes if there is no other one
abbrev pub extended_by : List ℕ → ℕ → List ℕ → List ℕ
extended_by ns last [] = ns
extended_by ns last (past ∷ more) = ns ++ max last past ∷ []

-- breakpoints whose last one is moved up to another one, or goes if there is no other one
abbrev pub extended : List ℕ → List ℕ → List ℕ
extended ns past = extended_by (take (length ns - 1) ns) (slice_index ns (length ns - 1)) past

-- a set has the addresses that it had and those of one range, and each of its ranges starts by the range's first address
pub record AddsRange (width : ℕ) (before : List ℕ) (first end : ℕ) (after : List ℕ) : Type 0 where
  pub breaks : AreBreaks width after
  pub starts : StartBy after first
  pub added : (n : ℕ) → n < 2 ^ width → has_address after n ≡ (has_address before n || is_inside first end n)
