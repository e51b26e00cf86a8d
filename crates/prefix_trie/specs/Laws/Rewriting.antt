-- Loops over one writing walk, one after another. This project's own.
use Rattle.std.specs.Prelude.{◌≡◌}
use Rattle.std.specs.declared.cmp.PartialEq as partial
use Rattle.std.specs.declared.fmt.Debug as debug
use Rattle.prefix_trie_bits.specs.declared.prefix.Prefix as prefix
use Rattle.prefix_trie_bits.specs.declared.prefix.Key as key
use Rattle.prefix_trie_map.specs.declared.map.writing.cursor.MapCursor.{MapCursor}
use Rattle.prefix_trie.specs.Rewriting.{Rewrites}

pub record RewriteLaws (P T A R : Type 0) (p : prefix.Ghosts P R) (shows : debug.Ghosts P) (k : key.Ghosts R) (same : partial.Ghosts R) (writes : debug.Ghosts R) : Type 0 where
  -- a loop goes to the end of its walk, so a second loop over the same walk changes nothing
  pub only_once : (f g : T → T) (c d e : MapCursor P T A R p shows k same writes) → Rewrites f c d → Rewrites g d e → e.map.now ≡ d.map.now
