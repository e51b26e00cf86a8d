-- What filling an entry leaves of the storage. This project's own.
use Rattle.std.specs.Prelude.{◌≡◌, true, false}
use Rattle.std.specs.FinMap.{contains_key}
use Rattle.std.specs.declared.cmp.PartialEq as partial
use Rattle.std.specs.declared.fmt.Debug as debug
use Rattle.prefix_trie_bits.specs.declared.prefix.Prefix as prefix
use Rattle.prefix_trie_bits.specs.declared.prefix.Key as key
use Rattle.prefix_trie_bits.specs.declared.prefix.Refusal.{Refusal}
use Rattle.prefix_trie_bits.specs.Model.Storage.{InsertsInStorage, RefusesInStorage}
use Rattle.prefix_trie_table.specs.Model.Contents.{Contents}
use Rattle.prefix_trie_map.specs.Entry.{Entry, Fills, RefusesToFill, entry_map, entry_path}
use Rattle.prefix_trie_map.specs.Steps.{state, storage}

-- filling an entry leaves the storage as an insertion at its key does
pub record FillLaws (P T A R : Type 0) (p : prefix.Ghosts P R) (shows : debug.Ghosts P) (k : key.Ghosts R) (same : partial.Ghosts R) (writes : debug.Ghosts R) : Type 0 where
  -- an occupied entry is filled in place: no slot and no block changes
  pub in_place : (e : Entry P T A R p shows k same writes) (new : Contents T) (value : T) → Fills e new value
      → contains_key (entry_map e).entries (entry_path e) ≡ true → storage new ≡ storage (entry_map e)
  -- a vacant entry takes exactly the blocks that a new key needs
  pub inserted : (e : Entry P T A R p shows k same writes) (new : Contents T) (value : T) → Fills e new value
      → contains_key (entry_map e).entries (entry_path e) ≡ false → InsertsInStorage (state (entry_map e)) (entry_path e) (storage (entry_map e)) (storage new)
  -- if filling is refused, the used blocks stay, and at most the missing blocks were made
  pub refused : (e : Entry P T A R p shows k same writes) (cause : Refusal) (new : Contents T) (value : T) → RefusesToFill e cause new
      → RefusesInStorage (state (entry_map e)) (entry_path e) cause (storage (entry_map e)) (storage new)
