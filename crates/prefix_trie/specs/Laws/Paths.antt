-- The path of a prefix, for any type of prefixes: for `path_laws`.
use Rattle.std.specs.Prelude.{◌≡◌, ℕ, ◌≤◌, Bool, List, length}

pub record PathLaws {K P : Type 0} (width : ℕ) (bits : K → List Bool) (repr_of : P → K) (len_of : P → ℕ) (path : P → List Bool) (IsFitting : P → Type 0) (back : List Bool → P) : Type 0 where
  -- a path has the length of its prefix
  pub as_long : (p : P) → IsFitting p → length (path p) ≡ len_of p
  -- the path of a prefix of full length is the whole number
  pub full : (p : P) → IsFitting p → len_of p ≡ width → path p ≡ bits (repr_of p)
  -- the prefix with a path fits, and has that path
  pub back_fits : (s : List Bool) → length s ≤ width → IsFitting (back s)
  pub of_back : (s : List Bool) → length s ≤ width → path (back s) ≡ s
