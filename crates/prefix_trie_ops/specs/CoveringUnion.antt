-- The keys of either of two maps or sets, each with its longest match in both. This project's own.
use Rattle.std.specs.Prelude.{Bool, List, Option}
use Rattle.std.specs.Borrow.{Bor}
use Rattle.std.specs.Option.{option_map}
use Rattle.prefix_trie.specs.Terms.{Entries, lent_item, longest_match, prefix_pair}

module _ {P T U : Type 0} where
  -- the key of an item with its longest match in each of two maps
  abbrev pub with_matches : {X : Type 0} → (P → List Bool) → (List Bool → P) → Entries T → Entries U → P × X → P × (Option (P × T) × Option (P × U))
  with_matches path back m n e = (e.0, (prefix_pair back (longest_match m (path e.0)), prefix_pair back (longest_match n (path e.0))))

  -- a key and the matches that are lent with it
  abbrev pub lent_matches : P × Option (P × Bor T) × Option (P × Bor U) → P × (Option (P × T) × Option (P × U))
  lent_matches x = (x.0, (option_map lent_item x.1, option_map lent_item x.2))

  -- a key with its longest match in each of two sets
  abbrev pub with_matching_keys : (P → List Bool) → (List Bool → P) → Entries T → Entries U → P → P × Option P × Option P
  with_matching_keys path back m n p = (p, option_map (λ e. back e.0) (longest_match m (path p)), option_map (λ e. back e.0) (longest_match n (path p)))
