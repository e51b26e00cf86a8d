-- What a writing walk still has to give, what a write through it leaves, and what it is at its end: the model's walk,
-- over a map that is lent. This project's own.
use Rattle.std.specs.Prelude.{◌≡◌, Bool, true, List, Option, None, Some, ⊤}
use Rattle.std.specs.Borrow.{MutBor}
use Rattle.std.specs.FinMap.{get, contains_key}
use Rattle.std.specs.declared.cmp.PartialEq as partial
use Rattle.std.specs.declared.fmt.Debug as debug
use Rattle.prefix_trie_bits.specs.declared.prefix.Prefix as prefix
use Rattle.prefix_trie_bits.specs.declared.prefix.Key as key
use Rattle.prefix_trie_bits.specs.Calls.WritingWalk.{WritingWalk, walk_over, Next, Passes, Leaves}
use Rattle.prefix_trie_table.specs.Locations.{seat_of}
use Rattle.prefix_trie_table.specs.Model.Contents.{Contents}
use Rattle.prefix_trie_table.specs.Shape.{with_value_at}
use Rattle.prefix_trie_table.specs.Walking.Cursors.{keys_to_come}
use Rattle.prefix_trie_map.specs.declared.map.writing.cursor.MapCursor.{MapCursor}
use Rattle.prefix_trie_map.specs.declared.map.writing.cursor.CursorItem.{CursorItem}

module _ {P T A R : Type 0} {p : prefix.Ghosts P R} {shows : debug.Ghosts P} {k : key.Ghosts R} {same : partial.Ghosts R} {writes : debug.Ghosts R} where
  -- the keys still to come
  abbrev pub keys_left : MapCursor P T A R p shows k same writes → List (List Bool)
  keys_left c = keys_to_come k.bits c.map.now.entries c.cursor

  -- the value of an item is stored at its seat
  abbrev pub IsItemAt : MapCursor P T A R p shows k same writes → CursorItem R → Type 0
  IsItemAt c item = seat_of c.map.now.build item.path ≡ Some item.seat

  -- the item has this value
  abbrev pub HasValueAt : MapCursor P T A R p shows k same writes → CursorItem R → T → Type 0
  HasValueAt c item value = get c.map.now.entries item.path ≡ Some value

  -- the walk after a value is written to an item
  abbrev pub with_written : MapCursor P T A R p shows k same writes → CursorItem R → T → MapCursor P T A R p shows k same writes
  with_written c item value = record c { map = record c.map { now = with_value_at c.map.now item.path value } }

  -- the walk of the model, while the value of this key is lent
  abbrev pub as_walk : MapCursor P T A R p shows k same writes → Option (List Bool) → WritingWalk T
  as_walk c lent = record { entries = c.map.now.entries; nodes = c.map.now.nodes; to_come = keys_left c; lent = lent }

  -- the next value that the model lends is that of this prefix
  abbrev pub IsFirst : MapCursor P T A R p shows k same writes → P → T → Type 0
  IsFirst c q value =
      (s : List Bool) × (after : WritingWalk T) × Next (as_walk c None) (Some s) after × (q ≡ p.back s) × (get c.map.now.entries s ≡ Some value)

  -- the walk has passed its first entry and left this value there, whatever was lent before; the rest of the map is
  -- unchanged
  pub record GoesOver (c : MapCursor P T A R p shows k same writes) (value : T) (n : MapCursor P T A R p shows k same writes) : Type 0 where
    pub key : List Bool
    pub passes : (lent : Option (List Bool)) → Passes (as_walk c lent) key value (as_walk n (Some key))
    pub stored : contains_key c.map.now.entries key ≡ true
    pub map : n.map ≡ record c.map { now = with_value_at c.map.now key value }

  -- nothing was to come, nothing is, and the map is unchanged
  pub record ComesToEnd (c n : MapCursor P T A R p shows k same writes) : Type 0 where
    pub ends : (lent : Option (List Bool)) → Next (as_walk c lent) None (as_walk n None)
    pub map : n.map ≡ c.map

  -- a walk over this map that has not started, with this selection to come
  pub record StartsOver (m : MutBor (Contents T)) (selection : List (List Bool × T)) (c : MapCursor P T A R p shows k same writes) : Type 0 where
    pub same_map : c.map.ghost_name ≡ m.ghost_name
    pub map : c.map.now ≡ m.now
    pub starts : as_walk c None ≡ walk_over m.now.entries m.now.nodes selection

  -- the same for a walk that may have no map
  abbrev pub StartsIn : MutBor (Contents T) → List (List Bool × T) → Option (MapCursor P T A R p shows k same writes) → Type 0
  StartsIn m selection None = ⊥
  StartsIn m selection (Some c) = StartsOver m selection c

  -- a walk returns its map as the model's walk leaves it
  abbrev pub ReturnsMap : Option (MapCursor P T A R p shows k same writes) → Option (MutBor (Contents T)) → Type 0
  ReturnsMap None None = ⊤
  ReturnsMap None (Some m) = ⊥
  ReturnsMap (Some c) None = ⊥
  ReturnsMap (Some c) (Some m) = (m.ghost_name ≡ c.map.ghost_name) × (m.now ≡ c.map.now) × Leaves (as_walk c None) m.now.entries m.now.nodes
