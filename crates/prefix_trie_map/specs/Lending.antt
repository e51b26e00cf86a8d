-- What the map is when a `&mut` to one of its values ends. This project's own.
use Rattle.std.specs.Prelude.{Bool, List, Option}
use Rattle.std.specs.Option.{option_map}
use Rattle.std.specs.Borrow.{Lends, LendsIf, Fml, RattleType, MutBor}
use Rattle.std.specs.declared.alloc.Allocator as alloc
use Rattle.std.specs.declared.cmp.PartialEq as partial
use Rattle.std.specs.declared.fmt.Debug as debug
use Rattle.prefix_trie_bits.specs.declared.prefix.Prefix as prefix
use Rattle.prefix_trie_bits.specs.declared.prefix.Key as key
use Rattle.prefix_trie_table.specs.Model.Contents.{Contents}
use Rattle.prefix_trie_table.specs.Shape.{with_value_at, with_longest_at}
use Rattle.prefix_trie_map.specs.contracts.map.PrefixMap as map

-- the borrow in a result that has a prefix beside it
abbrev pub lent_beside : {P T : Type 0} → Option (P × MutBor T) → Option (MutBor T)
lent_beside found = option_map (λ f. f.1) found

module _ (P T A R : RattleType) (p : prefix.Ghosts P.Denot R.Denot) (shows : debug.Ghosts P.Denot) (k : key.Ghosts R.Denot)
    (same : partial.Ghosts R.Denot) (writes : debug.Ghosts R.Denot) (a : alloc.Ghosts A.Denot) (m : MutBor (Contents T.Denot)) (q : List Bool) where
  -- once the borrow r ends, the value at q is the last one written through r
  abbrev pub lends_value : MutBor T.Denot → Fml
  lends_value r = Lends (map.the_row P T A R p shows k same writes a) T m r (with_value_at m.now q)

  -- the same if there may be no borrow; the map is unchanged then
  abbrev pub lends_entry_if : Option (MutBor T.Denot) → Fml
  lends_entry_if r = LendsIf (map.the_row P T A R p shows k same writes a) T m r (with_value_at m.now q) m.now

  -- the same for the longest key that q begins with
  abbrev pub lends_longest_if : Option (MutBor T.Denot) → Fml
  lends_longest_if r = LendsIf (map.the_row P T A R p shows k same writes a) T m r (with_longest_at m.now q) m.now
