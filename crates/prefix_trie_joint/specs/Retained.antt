-- What `retain` leaves of a set, whatever its test. This project's own.
use Rattle.std.specs.Prelude.{◌≡◌}
use Rattle.std.specs.FinMap.{len}
use Rattle.prefix_trie.specs.Terms.{needed}
use Rattle.prefix_trie_bits.specs.Model.Space.{LeavesSpace}
use Rattle.prefix_trie_bits.specs.Model.Storage.{RemovesManyInStorage}
use Rattle.prefix_trie_table.specs.Model.Contents.{Contents, state, storage}

-- the nodes that the remaining keys need, and how they are stored; `PrefixSet` promises no bound on growth
pub record RetainsKeys (old new : Contents (Unit {0})) : Type 0 where
  pub nodes : new.nodes ≡ needed new.entries
  pub space : LeavesSpace (len old.nodes) old.space new.space
  pub arrays : RemovesManyInStorage (state old) (state new) (storage old) (storage new)
