-- The bits of addresses and networks as numbers of the width that the slots read. This project's own.
use Rattle.std.specs.Prelude.{ℕ, ◌+◌, ◌-◌, ◌*◌, ◌<◌, ◌≤◌, Bool, List, ◌++◌, length}
use Rattle.prefix_trie_bits.specs.Model.Bits.{number, zeros}

-- the first number of w bits that begins with a bit string
abbrev pub first_of : ℕ → List Bool → ℕ
first_of w s = number (s ++ zeros (w - length s))

-- levels of a byte after the first bits read an address of so many bits, and the last of them reads some of it
pub record IsDivided (width root_bits levels : ℕ) : Type 0 where
  pub few : root_bits ≤ 24
  pub within : root_bits ≤ width
  pub small : width ≤ 128
  pub reads : width ≤ root_bits + 8 * levels
  pub ends : root_bits + 8 * levels < width + 8
