-- The prefixes that a map lists. This project's own.
use Rattle.std.specs.Prelude.{◌≡◌, ℕ, Bool, true, List, All}
use Rattle.std.specs.FinMap.{contains_key}
use Rattle.prefix_trie_bits.specs.Model.Entries.{Entries}
use Rattle.prefix_trie_bits.specs.Calls.Entries.{AreWithin}
use Rattle.prefix_trie_bits.specs.Model.Matches.{covers}
use Rattle.prefix_trie_bits.specs.Model.Selections.{listing, prefix_pairs}

-- no key is longer than the width, as in every map
pub record ListedLaws {P : Type 0} (T : Type 0) (width : ℕ) (path : P → List Bool) (IsFitting : P → Type 0) (back : List Bool → P) : Type 0 where
  -- the prefix of a stored key fits, and the key is its path
  pub key_fits : (m : Entries T) → AreWithin width m → (k : List Bool) → contains_key m k ≡ true → IsFitting (back k)
  pub key_is : (m : Entries T) → AreWithin width m → (k : List Bool) → contains_key m k ≡ true → path (back k) ≡ k
  -- each prefix that `iter` gives fits
  pub listed_fit : (m : Entries T) → AreWithin width m → All (λ e. IsFitting e.0) (prefix_pairs back (listing m))
  -- each prefix that `cover` gives fits
  pub covers_fit : (m : Entries T) → AreWithin width m → (q : List Bool) → All (λ e. IsFitting e.0) (prefix_pairs back (covers m q))
