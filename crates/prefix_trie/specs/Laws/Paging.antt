-- What comes after the last item read, so that a listing can be read in pages.
-- From the Rust crate's documentation of `iter_from`.
use Rattle.std.specs.Prelude.{◌≡◌, ℕ, Bool, List, Some, ◌++◌, ◌-◌, length, slice_get}
use Rattle.std.specs.FinMap.{len}
use Rattle.prefix_trie_bits.specs.Model.Entries.{Entries}
use Rattle.prefix_trie_bits.specs.Calls.Entries.{AreWithin}
use Rattle.prefix_trie_bits.specs.Model.Selections.{listing, listing_after, prefix_pairs}

-- no key is longer than the width, as in every map
pub record PageLaws {P : Type 0} (T : Type 0) (width : ℕ) (path : P → List Bool) (IsFitting : P → Type 0) (back : List Bool → P) : Type 0 where
  -- the prefix of the last item that was read fits
  pub last_fits : (m : Entries T) → AreWithin width m → (read rest : List (P × T)) (last : P × T)
      → prefix_pairs back (listing m) ≡ read ++ rest → slice_get read (length read - 1) ≡ Some last → IsFitting last.0
  -- the rest comes after that item
  pub behind_last : (m : Entries T) → AreWithin width m → (read rest : List (P × T)) (last : P × T)
      → prefix_pairs back (listing m) ≡ read ++ rest → slice_get read (length read - 1) ≡ Some last → prefix_pairs back (listing_after m (path last.0)) ≡ rest
  -- there are as many items as entries
  pub as_many : (m : Entries T) → length (prefix_pairs back (listing m)) ≡ len m
