-- A walk of a map is resumed after the last item read. From the Rust crate's documentation of
-- `iter_from`.
use Rattle.std.specs.Prelude.{◌≡◌, ℕ, Bool, List, ◌∷◌, ◌++◌, cond}
use Rattle.prefix_trie_bits.specs.Model.Entries.{Entries}
use Rattle.prefix_trie_bits.specs.Calls.Entries.{AreWithin}
use Rattle.prefix_trie_bits.specs.Model.Selections.{listing, listing_from, listing_after, prefix_pairs}

-- no key is longer than the width, as in every map
pub record ResumeLaws {P : Type 0} (T : Type 0) (width : ℕ) (path : P → List Bool) (back : List Bool → P) : Type 0 where
  -- after the last item read of `iter`, the rest of that walk follows
  pub after_iter : (m : Entries T) → AreWithin width m → (read : List (P × T)) (last : P × T) (rest : List (P × T))
      → prefix_pairs back (listing m) ≡ read ++ last ∷ rest → prefix_pairs back (listing_after m (path last.0)) ≡ rest
  -- after the last item read of `iter_from`, the rest of that walk follows
  pub after_iter_from : (m : Entries T) → AreWithin width m → (inclusive : Bool) (q : List Bool) (read : List (P × T)) (last : P × T) (rest : List (P × T))
      → prefix_pairs back (cond inclusive (listing_from m q) (listing_after m q)) ≡ read ++ last ∷ rest → prefix_pairs back (listing_after m (path last.0)) ≡ rest
