-- What is stored after a change: for `stored_laws`.
use Rattle.std.specs.Prelude.{◌≡◌, ◌≢◌, Bool, List, Some, None}
use Rattle.std.specs.FinMap.{get}
use Rattle.prefix_trie_bits.specs.Model.Entries.{Entries, no_entries, with_entry, without_entry}

pub record StoredLaws (T : Type 0) : Type 0 where
  -- a new map has no value
  pub nothing : (s : List Bool) → get (no_entries {T = T}) s ≡ None
  -- the key that was set has its value, and each other key the value that it had
  pub set : (m : Entries T) (s : List Bool) (v : T) → get (with_entry m s v) s ≡ Some v
  pub beside_set : (m : Entries T) (s : List Bool) (v : T) (t : List Bool) → (t ≢ s) → get (with_entry m s v) t ≡ get m t
  -- the removed key has no value, and each other key has the value that it had
  pub taken : (m : Entries T) (s : List Bool) → get (without_entry m s) s ≡ None
  pub beside_taken : (m : Entries T) (s t : List Bool) → (t ≢ s) → get (without_entry m s) t ≡ get m t
  -- two maps that have the same value at each key are equal
  pub same : (m n : Entries T) → ((s : List Bool) → get m s ≡ get n s) → m ≡ n
