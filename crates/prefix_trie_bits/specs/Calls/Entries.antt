-- A part of the entries, entries set one after another, and a bound on the length of keys.
-- From the Rust crate's documentation of `from_iter` and `remove_children`.
use Rattle.std.specs.Prelude.{◌≡◌, ℕ, ◌≤◌, Bool, true, List, [], ◌∷◌, length}
use Rattle.std.specs.FinMap.{contains_key, retain_keys}
use Rattle.prefix_trie_bits.specs.Model.Bits.{begins}
use Rattle.prefix_trie_bits.specs.Model.Entries.{Entries, with_entry}

module _ {T : Type 0} where
  -- the entries whose keys begin with q
  abbrev pub part_below : Entries T → List Bool → Entries T
  part_below m q = retain_keys m (λ s. begins q s)

  -- the entries after all items are set in order, each under its path; of two with the same path
  -- the later one stays
  abbrev pub put_all : {P : Type 0} → (P → List Bool) → List (P × T) → Entries T → Entries T
  put_all path [] m = m
  put_all path (x ∷ xs) m = put_all path xs (with_entry m (path x.0) x.1)

  -- no key is longer than the width
  abbrev pub AreWithin : ℕ → Entries T → Type 0
  AreWithin width m = (s : List Bool) → contains_key m s ≡ true → length s ≤ width
