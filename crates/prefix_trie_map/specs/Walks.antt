-- What walks and lookups lend. This project's own.
use Rattle.std.specs.Prelude.{◌≡◌, Bool, List, ◌∷◌, Option, Some}
use Rattle.std.specs.Borrow.{Bor, MutBor}
use Rattle.std.specs.FinMap.{get}
use Rattle.std.specs.Option.{option_copied}
use Rattle.prefix_trie_bits.specs.Model.Entries.{Entries}

-- a prefix and the value that is lent with it
abbrev pub lent_item : {P T : Type 0} → P × Bor T → P × T
lent_item x = (x.0, x.1.now)

-- the same for a value that is lent for writing
abbrev pub lent_item_mut : {P T : Type 0} → P × MutBor T → P × T
lent_item_mut x = (x.0, x.1.now)

-- a step of a walk of two maps, m and n, gives the first of the entries still to come, with what each map has at its key
pub record GivesItem {P T U X : Type 0} (back : List Bool → P) (m : Entries T) (n : Entries U) (both : Entries X) (item : P × Option (Bor T) × Option (Bor U)) (old new : List (List Bool × X)) : Type 0 where
  pub path : List Bool
  pub value : X
  pub first : old ≡ (path, value) ∷ new
  pub prefix_is : item.0 ≡ back path
  pub stored : get both path ≡ Some value
  pub on_left : option_copied item.1 ≡ get m path
  pub on_right : option_copied item.2 ≡ get n path
