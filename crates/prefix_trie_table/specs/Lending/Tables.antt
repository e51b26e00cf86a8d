-- A table after a `&mut` to one of its values was returned and ended. This project's own.
use Rattle.std.specs.Prelude.{Bool, List, Option}
use Rattle.std.specs.Borrow.{Lends, LendsIf, Fml, RattleType, MutBor}
use Rattle.std.specs.declared.alloc.Allocator as alloc
use Rattle.prefix_trie_table.specs.declared.allocator.nodes.VisitCounter as tick
use Rattle.prefix_trie_table.specs.contracts.table.Table as table
use Rattle.prefix_trie_table.specs.Model.Contents.{Contents}
use Rattle.prefix_trie_table.specs.Shape.{with_value_at, with_stored_at, with_longest_at}

module _ (T A V : RattleType) (a : alloc.Ghosts A.Denot) (t : tick.Ghosts V.Denot) (s : MutBor (Contents T.Denot)) where
  -- once the borrow r ends, the value at q is the last one written through r
  abbrev pub lends_entry : List Bool → MutBor T.Denot → Fml
  lends_entry q r = Lends (table.the_row T A V t a) T s r (with_value_at s.now q)

  -- once the borrow r ends, the value stored at q is the last one written through r; if r is `None`, nothing changes
  abbrev pub lends_entry_if : List Bool → Option (MutBor T.Denot) → Fml
  lends_entry_if q r = LendsIf (table.the_row T A V t a) T s r (with_stored_at s.now q) s.now

  -- the same for the longest key that q begins with
  abbrev pub lends_longest_if : List Bool → Option (MutBor T.Denot) → Fml
  lends_longest_if q r = LendsIf (table.the_row T A V t a) T s r (with_longest_at s.now q) s.now
