-- What an entry is in contracts: its map, its key and the value there, and what the map becomes. From the Rust crate's
-- documentation of entries. When filling fails, and what it leaves then, is this project's own.
use Rattle.std.specs.Prelude.{◌≡◌, Bool, true, cond, List, [], Option, Some, is_some, Result, IfErr, refl}
use Rattle.std.proofs.Common.{ap, ◌∙◌}
use Rattle.std.specs.Borrow.{Lends, LendsIf, LendsSoOk, Fml, RattleType, MutBor}
use Rattle.std.specs.FinMap.{get, contains_key}
use denote.Param.Members.{Once}
use Rattle.std.specs.declared.alloc.Allocator as alloc
use Rattle.std.specs.declared.cmp.PartialEq as partial
use Rattle.std.specs.declared.fmt.Debug as debug
use Rattle.prefix_trie_bits.specs.declared.prefix.Prefix as prefix
use Rattle.prefix_trie_bits.specs.declared.prefix.Key as key
use Rattle.prefix_trie_bits.specs.declared.prefix.Refusal.{Refusal}
use Rattle.prefix_trie_bits.specs.Model.Entries.{with_entry}
use Rattle.prefix_trie_bits.proofs.Model.Members.{get-with_entry, is-same_string}
use Rattle.prefix_trie_bits.specs.Model.Nodes.{with_needed}
use Rattle.prefix_trie_bits.specs.Model.Step.{Insert, Value, Refused}
use Rattle.prefix_trie_bits.specs.Calls.Storage.{StepByPath}
use Rattle.prefix_trie_table.specs.Model.Contents.{Contents}
use Rattle.prefix_trie_table.specs.Shape.{with_value_at}
use Rattle.prefix_trie_map.specs.Steps.{stored_state}
use Rattle.prefix_trie_map.specs.contracts.map.PrefixMap as map
use Rattle.prefix_trie_map.specs.contracts.map.entry.Entry as entry
use Rattle.prefix_trie_map.specs.contracts.map.entry.OccupiedEntry as occupied
use mir.Syntax.{named}
pub use Rattle.prefix_trie_map.specs.declared.map.entry.Entry.{Entry}
use Rattle.prefix_trie_map.specs.declared.map.entry.OccupiedEntry.{OccupiedEntry}
pub use Rattle.prefix_trie_map.specs.declared.map.entry.Entry.TheVariants.{Occupied, Vacant}

module _ {F T : Type 0} where
  -- a call of f on a reference to v can leave w in it
  pub record MayLeave (g : Once F (MutBor T × Unit {0}) (Unit {0} × (MutBor T × Unit {0}))) (f : F) (v w : T) : Type 0 where
    pub lent : MutBor T
    pub left : MutBor T
    pub before : lent.now ≡ v
    pub called : g.post f (lent, tt) (tt, (left, tt))
    pub after : left.now ≡ w

module _ {P T A R : Type 0} {p : prefix.Ghosts P R} {shows : debug.Ghosts P} {k : key.Ghosts R} {same : partial.Ghosts R} {writes : debug.Ghosts R} where
  -- the reference to its map
  abbrev pub entry_map_ref : Entry P T A R p shows k same writes → MutBor (Contents T)
  entry_map_ref (Vacant e) = e.map
  entry_map_ref (Occupied o) = o.map

  -- its map, as the entry holds it
  abbrev pub entry_map : Entry P T A R p shows k same writes → Contents T
  entry_map e = (entry_map_ref e).now

  -- its key
  abbrev pub entry_key : Entry P T A R p shows k same writes → P
  entry_key (Vacant e) = e.key
  entry_key (Occupied o) = o.key

  -- the path of its key
  abbrev pub entry_path : Entry P T A R p shows k same writes → List Bool
  entry_path e = p.path (entry_key e)

  -- the value that is stored at its key
  abbrev pub entry_value : Entry P T A R p shows k same writes → Option T
  entry_value e = get (entry_map e).entries (entry_path e)

  -- one fact if the entry is occupied, another if it is vacant
  abbrev pub MatchEntry : Entry P T A R p shows k same writes → Type 0 → Type 0 → Type 0
  MatchEntry (Occupied o) F G = F
  MatchEntry (Vacant e) F G = G

  -- the new map has what a call of f leaves of the value at the key of an occupied entry, and is unchanged otherwise
  abbrev pub ModifiesEntry : {F : Type 0} → Once F (MutBor T × Unit {0}) (Unit {0} × (MutBor T × Unit {0})) → F → Entry P T A R p shows k same writes → Contents T → Type 0
  ModifiesEntry g f (Vacant e) new = new ≡ e.map.now
  ModifiesEntry g f (Occupied o) new =
      (v w : T) × (get o.map.now.entries (p.path o.key) ≡ Some v) × MayLeave g f v w × (new ≡ with_value_at o.map.now (p.path o.key) w)

  -- the new map is what the insertion of a value at the entry's key leaves of its map
  pub record Fills (e : Entry P T A R p shows k same writes) (new : Contents T) (value : T) : Type 0 where
    pub entries : new.entries ≡ with_entry (entry_map e).entries (entry_path e) value
    pub nodes : new.nodes ≡ with_needed (entry_map e).nodes (entry_path e)
    -- filling is a step of the model, including its storage
    pub step : StepByPath k.bit_width (stored_state (entry_map e)) (Insert (entry_path e) value) (Value (entry_value e)) (stored_state new)

  -- the new map is what a refused insertion at the entry's key leaves, whatever the value
  pub record RefusesToFill (e : Entry P T A R p shows k same writes) (cause : Refusal) (new : Contents T) : Type 0 where
    pub entries : new.entries ≡ (entry_map e).entries
    pub nodes : new.nodes ≡ (entry_map e).nodes
    pub step : (value : T) → StepByPath k.bit_width (stored_state (entry_map e)) (Insert (entry_path e) value) (Refused cause) (stored_state new)

module _ {P T A R : Type 0} {p : prefix.Ghosts P R} {shows : debug.Ghosts P} {k : key.Ghosts R} {same : partial.Ghosts R} {writes : debug.Ghosts R} where
  -- the key of an occupied entry is still stored after a value is written there
  pub stays_stored : (o : OccupiedEntry P T A R p shows k same writes) (value : T) → contains_key (with_entry o.map.now.entries (p.path o.key) value) (p.path o.key) ≡ true
  stays_stored o value = ap is_some (get-with_entry o.map.now.entries (p.path o.key) value (p.path o.key) ∙ ap (λ b. cond b (Some value) (get o.map.now.entries (p.path o.key))) (is-same_string (p.path o.key) (p.path o.key) refl))

  -- the occupied entry after the value at its key is written
  abbrev pub with_value_in : OccupiedEntry P T A R p shows k same writes → T → OccupiedEntry P T A R p shows k same writes
  with_value_in o value = record o {
    map = record o.map { now = with_value_at o.map.now (p.path o.key) value };
    stored = stays_stored o value;
  }

  -- the entry after the value at its key is written, unchanged if it is vacant
  abbrev pub with_entry_value : Entry P T A R p shows k same writes → T → Entry P T A R p shows k same writes
  with_entry_value (Vacant e) value = Vacant e
  with_entry_value (Occupied o) value = Occupied (with_value_in o value)

module _ (P T A R : RattleType) {p : prefix.Ghosts P.Denot R.Denot} (shows : debug.Ghosts P.Denot) {k : key.Ghosts R.Denot}
    (same : partial.Ghosts R.Denot) (writes : debug.Ghosts R.Denot) (a : alloc.Ghosts A.Denot) where
  -- once the borrow r ends, the map has the last value written through r at e's key, and is unchanged otherwise
  abbrev pub lends_written : Entry P.Denot T.Denot A.Denot R.Denot p shows k same writes → MutBor T.Denot → Fml
  lends_written e r = Lends (map.the_row P T A R p shows k same writes a) T (entry_map_ref e) r (with_value_at (entry_map e) (entry_path e))

  -- when the borrow r ends, the entry of o has the last value written through r, and is unchanged
  -- otherwise
  abbrev pub lends_occupied : MutBor (OccupiedEntry P.Denot T.Denot A.Denot R.Denot p shows k same writes) → MutBor T.Denot → Fml
  lends_occupied o r = Lends (occupied.the_row (record { mir = named 1; lft = [] }) P T A R p shows k same writes a) T o r (with_value_in o.now)

  -- the same of an entry that may be vacant; without r it is unchanged
  abbrev pub lends_if_occupied : MutBor (Entry P.Denot T.Denot A.Denot R.Denot p shows k same writes) → Option (MutBor T.Denot) → Fml
  lends_if_occupied e r = LendsIf (entry.the_row (record { mir = named 1; lft = [] }) P T A R p shows k same writes a) T e r (with_entry_value e.now) e.now

  -- once the borrow r ends, the map is what the insertion of the last value written through r leaves; without r it was refused
  abbrev pub lends_filled : {E : Type 0} → (E → Refusal) → Entry P.Denot T.Denot A.Denot R.Denot p shows k same writes → Result (MutBor T.Denot) E → Fml
  lends_filled cause e r = LendsSoOk (map.the_row P T A R p shows k same writes a) T (entry_map_ref e) r (Fills e) (λ new. IfErr r (λ x. RefusesToFill e (cause x) new))
