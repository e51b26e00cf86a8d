-- Bit strings: lists of bits, highest first (true is 1), and the numbers that they denote.
-- A key is read from its most significant bit, as in the Rust crate's documentation of `Prefix`.
-- The definitions are this project's own.
use Rattle.std.specs.Prelude.{ℕ, ◌+◌, ◌*◌, ◌/◌, ◌%◌, ◌^◌, Bool, true, false, ◌&&◌, not, ◌==◌, List, [], ◌∷◌, length, replicate}
use Rattle.std.proofs.Common.{zero, suc}

-- a bit as a number
abbrev pub bit : Bool → ℕ
bit true = 1
bit false = 0

-- n zeros
abbrev pub zeros : ℕ → List Bool
zeros n = replicate n false

-- the number whose binary digits are s
unfoldable pub number : List Bool → ℕ
number [] = 0
number (b ∷ s) = bit b * 2 ^ length s + number s

-- the lowest w binary digits of n
unfoldable pub digits : ℕ → ℕ → List Bool
digits zero n = []
digits (suc w) n = (n / 2 ^ w % 2 == 1) ∷ digits w n

-- whether two bits are equal
abbrev pub same_bit : Bool → Bool → Bool
same_bit true b = b
same_bit false b = not b

-- whether t begins with s: t is s followed by some string, so every string begins with itself
unfoldable pub begins : List Bool → List Bool → Bool
begins [] t = true
begins (a ∷ s) [] = false
begins (a ∷ s) (b ∷ t) = same_bit a b && begins s t
