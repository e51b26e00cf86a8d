-- The laws of keys and of prefixes, one record for each.
-- The laws of prefixes are from the Rust crate's documentation of `Prefix`; those of keys are this
-- project's own.
use Rattle.std.proofs.Common.{◌≡◌, ℕ, ◌-◌, ◌≤◌, ◌↔◌, Bool, List, ◌++◌, length, take, drop}
use Rattle.prefix_trie_bits.specs.Model.Bits.{zeros}

-- each string of `width` bits is the bits of exactly one key
pub record KeyLaws {K : Type 0} (width : ℕ) (IsKey : K → Type 0) (bits : K → List Bool) (key_of : List Bool → K) : Type 0 where
  -- no key is empty
  pub at_least_one : 1 ≤ width
  -- a length fits eight bits
  pub at_most_128 : width ≤ 128
  -- every key has width bits
  pub bits_length : (k : K) → IsKey k → length (bits k) ≡ width
  -- each string of `width` bits is the bits of a key
  pub key_of_is_key : (s : List Bool) → length s ≡ width → IsKey (key_of s)
  -- and that key has these bits
  pub bits_key_of : (s : List Bool) → length s ≡ width → bits (key_of s) ≡ s
  -- and no other key has them
  pub key_of_bits : (k : K) → IsKey k → key_of (bits k) ≡ k

-- a prefix is a number and a length; from_parts makes one of the two
pub record PrefixLaws {K P : Type 0} (width : ℕ) (IsKey : K → Type 0) (bits : K → List Bool) (key_of : List Bool → K) (repr_of : P → K) (len_of : P → ℕ) (path : P → List Bool) (IsFitting : P → Type 0) (from_parts : K → ℕ → P) (back : List Bool → P) : Type 0 where
  -- the laws of its numbers
  pub keys : KeyLaws width IsKey bits key_of
  -- a prefix fits if its number is a key and its length is at most the width
  pub fits_is : (p : P) → IsFitting p ↔ (IsKey (repr_of p) × (len_of p ≤ width))
  -- the path of a prefix is the first bits of its number
  pub path_is : (p : P) → path p ≡ take (len_of p) (bits (repr_of p))
  -- a prefix made of a number and a length has that length
  pub len_from_parts : (r : K) (n : ℕ) → IsKey r → n ≤ width → len_of (from_parts r n) ≡ n
  -- such a prefix fits
  pub fits_from_parts : (r : K) (n : ℕ) → IsKey r → n ≤ width → IsFitting (from_parts r n)
  -- the path of such a prefix is the first bits of its number
  pub path_from_parts : (r : K) (n : ℕ) → IsKey r → n ≤ width → path (from_parts r n) ≡ take n (bits r)
  -- if the other bits of the number are 0, the prefix keeps the number
  pub repr_from_parts : (r : K) (n : ℕ) → IsKey r → n ≤ width → drop n (bits r) ≡ zeros (width - n) → repr_of (from_parts r n) ≡ r
  -- the prefix of a path has the number of the path filled with zeros
  pub back_is : (s : List Bool) → back s ≡ from_parts (key_of (s ++ zeros (width - length s))) (length s)
