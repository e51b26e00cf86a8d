-- The paths of pairs of a number and a length, as numbers of any width: for `narrow_laws`. This project's own.
use Rattle.std.specs.Prelude.{◌≡◌, ℕ, ◌-◌, ◌^◌, ◌/◌, ◌<◌, ◌≤◌, Option, IfSome, length, nat_eq, take}
use Rattle.std.specs.Option.{option_map}
use Rattle.prefix_trie_bits.specs.Model.Bits.{begins, digits, number}

pub record NumberLaws (width : ℕ) : Type 0 where
  -- a path has the length of its pair
  pub as_long : (n len : ℕ) → len ≤ width → length (take len (digits width n)) ≡ len
  -- a path of full length is the number
  pub whole : (n : ℕ) → take width (digits width n) ≡ digits width n
  -- a pair contains a number exactly if the numbers of their first bits are the same
  pub contains : (first n len : ℕ) → first < 2 ^ width → n < 2 ^ width → len ≤ width
      → begins (take len (digits width first)) (digits width n) ≡ nat_eq (first / 2 ^ (width - len)) (n / 2 ^ (width - len))
  -- the bits of a number of keys are those of that number
  pub count : (count : Option ℕ) → IfSome count (λ n. n < 2 ^ width) → option_map (λ n. number (digits width n)) count ≡ count
