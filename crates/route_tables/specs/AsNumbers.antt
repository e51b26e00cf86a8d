-- The texts of AS numbers. This project's own.
use Rattle.std.specs.Prelude.{◌≡◌, ◌^◌, ◌<◌, ℕ, List, bytes_eq, codes, cond, drop, take}
use Rattle.std.specs.Str.Parse.{IsNumeral, digits_value}

-- decimal digits that write a number of 32 bits, and nothing else
pub record IsDecimal (text : List ℕ) (n : ℕ) : Type 0 where
  pub digits : IsNumeral 10 text
  pub value : n ≡ digits_value 10 text
  pub fits : n < 2 ^ 32

-- a text without the `AS` that it begins with, if it does
abbrev pub without_as : List ℕ → List ℕ
without_as text = cond (bytes_eq (take 2 text) (codes "AS")) (drop 2 text) text

-- an AS number: decimal digits, with or without `AS` before them
abbrev pub IsAsNumber : List ℕ → ℕ → Type 0
IsAsNumber text n = IsDecimal (without_as text) n
