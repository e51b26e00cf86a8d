-- The entries of a table. This project's own.
use Rattle.std.specs.Prelude.{ℕ, List}
use Rattle.std.specs.Coded.{Coded, coded_bool, coded_list, coded_ℕ}
use Rattle.std.specs.FinMap.{code}
use Rattle.prefix_trie.specs.Terms.{Entries}

-- values are texts
abbrev pub Values : Type 0
Values = Entries (List ℕ)

-- tables are told apart by their entries
abbrev pub values_code : Coded Values
values_code = code (coded_list coded_bool) (coded_list coded_ℕ)
