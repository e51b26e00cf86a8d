-- How a loop over a writing walk changes a map if each new value is a function of the old one. This project's own.
use Rattle.std.specs.Prelude.{◌≡◌, Bool, List, [], Option, None, Some, ⊤}
use Rattle.std.proofs.Common.{cond, map}
use lib.Dec.{T as IsT}
use Rattle.std.specs.List.{list_any}
use Rattle.std.specs.Option.{option_map}
use Rattle.std.specs.FinMap.{get, is_sorted}
use Rattle.std.specs.declared.cmp.PartialEq as partial
use Rattle.std.specs.declared.fmt.Debug as debug
use Rattle.prefix_trie_bits.specs.declared.prefix.Prefix as prefix
use Rattle.prefix_trie_bits.specs.declared.prefix.Key as key
use Rattle.prefix_trie_bits.specs.Model.Order.{listing_cmp, same_string}
use Rattle.prefix_trie_map.specs.declared.map.writing.cursor.MapCursor.{MapCursor}
use Rattle.prefix_trie_map.specs.Writing.{keys_left}

-- a key, as an entry with no value
abbrev pub keyed : List Bool → List Bool × Unit {0}
keyed k = (k, tt)

-- the keys are in listing order, each once
abbrev pub AreOrdered : List (List Bool) → Type 0
AreOrdered ks = IsT (is_sorted listing_cmp (map keyed ks))

module _ {P T A R : Type 0} {p : prefix.Ghosts P R} {shows : debug.Ghosts P} {k : key.Ghosts R} {same : partial.Ghosts R} {writes : debug.Ghosts R} where
  -- whether a walk has this key still to come
  abbrev pub is_left : MapCursor P T A R p shows k same writes → List Bool → Bool
  is_left c s = list_any (same_string s) (keys_left c)

  -- each value still to come was changed by f, no other value of the map was changed, and no entry is left to come
  pub record Rewrites (f : T → T) (c d : MapCursor P T A R p shows k same writes) : Type 0 where
    pub same_map : d.map.ghost_name ≡ c.map.ghost_name
    pub values : (s : List Bool) → get d.map.now.entries s ≡ cond (is_left c s) (option_map f (get c.map.now.entries s)) (get c.map.now.entries s)
    pub others : d.map.now ≡ record c.map.now { entries = d.map.now.entries }
    pub ended : keys_left d ≡ []

  -- the same for a walk that may have no map
  abbrev pub RewritesIn : (T → T) → Option (MapCursor P T A R p shows k same writes) → Option (MapCursor P T A R p shows k same writes) → Type 0
  RewritesIn f None None = ⊤
  RewritesIn f None (Some d) = ⊥
  RewritesIn f (Some c) None = ⊥
  RewritesIn f (Some c) (Some d) = Rewrites f c d

  -- the keys still to come are in listing order
  abbrev pub OrderedIn : Option (MapCursor P T A R p shows k same writes) → Type 0
  OrderedIn None = ⊤
  OrderedIn (Some c) = AreOrdered (keys_left c)
