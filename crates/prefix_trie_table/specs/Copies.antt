-- The entries of a copy of a map. This project's own.
use Rattle.std.specs.Prelude.{◌≡◌, Bool, List, Option, None, MatchOption, IsSomeAnd}
use Rattle.std.specs.FinMap.{get}
use Rattle.prefix_trie_bits.specs.Model.Entries.{Entries}

module _ {T : Type 0} where
  -- the second is a clone of the first if there is one, and missing if there is none
  abbrev pub IsCloned : (T → T → Type 0) → Option T → Option T → Type 0
  IsCloned is_clone x y = MatchOption x (y ≡ None) (λ v. IsSomeAnd y (is_clone v))

  -- the keys are the same, and the value at each is a clone
  abbrev pub AreCloned : (T → T → Type 0) → Entries T → Entries T → Type 0
  AreCloned is_clone m copy = (q : List Bool) → IsCloned is_clone (get m q) (get copy q)

-- the second pair has the key of the first, and a clone of its value
abbrev pub IsPairCloned : {K T : Type 0} → (T → T → Type 0) → K × T → K × T → Type 0
IsPairCloned is_clone x y = (y.0 ≡ x.0) × is_clone x.1 y.1
