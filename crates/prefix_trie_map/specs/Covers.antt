-- The longest and the shortest match are the last and the first item of the walk over covers. This project's own.
use Rattle.std.specs.Prelude.{◌≡◌, ◌≢◌, ◌↔◌, Bool, true, List, [], is_some}
use Rattle.prefix_trie_bits.specs.Model.Entries.{Entries}
use Rattle.prefix_trie_bits.specs.Model.Matches.{covers, first_item, last_item, longest_match, shortest_match, prefix_pair}
use Rattle.prefix_trie_bits.specs.Model.Selections.{prefix_pairs}

pub record CoverLaws (P T : Type 0) : Type 0 where
  -- `get_lpm` returns the last of the items that `cover` lists
  pub longest_is_last : (back : List Bool → P) (m : Entries T) (q : List Bool) → prefix_pair back (longest_match m q) ≡ last_item (prefix_pairs back (covers m q))
  -- `get_spm` returns the first of the items that `cover` lists
  pub shortest_is_first : (back : List Bool → P) (m : Entries T) (q : List Bool) → prefix_pair back (shortest_match m q) ≡ first_item (prefix_pairs back (covers m q))
  -- `is_covered` returns whether `cover` lists any item
  pub some_covers : (back : List Bool → P) (m : Entries T) (q : List Bool) → (is_some (shortest_match m q) ≡ true) ↔ (prefix_pairs back (covers m q) ≢ [])
