-- Maps that are made of the entries of two maps. This project's own.
use Rattle.std.specs.Prelude.{Bool, not, List, Option, Some, None}
use Rattle.std.specs.Option.{is_some, option_map}
use Rattle.std.specs.List.{filter_map}
use Rattle.std.specs.FinMap.{contains_key, from_sorted, get, retain_keys}
use Rattle.prefix_trie.specs.Terms.{Entries, listing, shortest_match}

module _ {T U : Type 0} where
  -- the entries of m whose keys are not in n
  abbrev pub minus : Entries T → Entries U → Entries T
  minus m n = retain_keys m (λ s. not (contains_key n s))

  -- the entries of m whose keys are in n too
  abbrev pub restricted_to : Entries T → Entries U → Entries T
  restricted_to m n = retain_keys m (λ s. contains_key n s)

  -- the entries of m whose keys begin with no key of n
  abbrev pub not_covered : Entries T → Entries U → Entries T
  not_covered m n = retain_keys m (λ s. not (is_some (shortest_match n s)))

  -- both values, if both exist
  abbrev pub both_values : Option T → Option U → Option (T × U)
  both_values None w = None
  both_values (Some v) None = None
  both_values (Some v) (Some w) = Some (v, w)

  -- an item with the value that n has at its key, if n has one
  abbrev pub with_partner : Entries U → List Bool × T → Option (List Bool × (T × U))
  with_partner n e = option_map (λ w. (e.0, (e.1, w))) (get n e.0)

  -- the keys that both maps have, each with both values
  unfoldable pub common : Entries T → Entries U → Entries (T × U)
  common m n = from_sorted (filter_map (with_partner n) (listing m))
