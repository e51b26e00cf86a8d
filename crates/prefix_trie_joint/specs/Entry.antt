-- What an entry of a joint map is in contracts, and what the map becomes. From the Rust crate's documentation of entries.
use Rattle.std.specs.Prelude.{◌≡◌, ℕ, Bool, List, [], Option, MatchOption, Result, IfErr}
use Rattle.std.specs.Borrow.{LendsIf, LendsSoOk, Fml, RattleType, MutBor}
use Rattle.std.specs.FinMap.{get}
use denote.Param.Members.{Once}
use Rattle.std.specs.declared.alloc.Allocator as alloc
use Rattle.prefix_trie.specs.Terms.{with_entry}
use Rattle.prefix_trie_map.specs.Entry.{MayLeave}
use Rattle.prefix_trie_bits.specs.Calls.Storage.{StepByPath}
use Rattle.prefix_trie_bits.specs.Model.Step.{Insert, Value}
use Rattle.prefix_trie_bits.specs.Model.Step as model
use Rattle.prefix_trie_bits.specs.declared.prefix.Refusal.{Refusal}
use Rattle.prefix_trie_table.specs.Model.Contents.{Contents, stored_state}
use Rattle.prefix_trie_joint.specs.Changes.{maps_of, StepOnFamily}
use Rattle.prefix_trie_joint.specs.Joined.{entries_of}
use Rattle.prefix_trie_joint.specs.Lending.{with_value_of}
use Rattle.prefix_trie_joint.specs.Networks.{ip_path}
use Rattle.prefix_trie_joint.specs.declared.prefix.IpPrefix.{IpPrefix}
use Rattle.prefix_trie_joint.specs.declared.map.JointPrefixMap.{JointPrefixMap}
use Rattle.prefix_trie_joint.specs.declared.map.entry.Entry.{Entry}
use Rattle.prefix_trie_joint.specs.contracts.map.JointPrefixMap as joint
use Rattle.prefix_trie_joint.specs.contracts.map.entry.Entry as entry
use mir.Syntax.{named}

module _ {T A : Type 0} where
  -- the value that is stored at its network
  abbrev pub entry_value : Entry T A → Option T
  entry_value e = get (entries_of e.map.now) (ip_path e.key)

  -- the map with a value at its network
  abbrev pub filled : Entry T A → T → JointPrefixMap T A
  filled e value = with_value_of e.map.now e.key value

  -- the entry after the value at its network is written
  abbrev pub with_entry_value : Entry T A → T → Entry T A
  with_entry_value e value = record e { map = record e.map { now = filled e value } }

  -- the new map has what a call of f leaves of the value of a network, and is unchanged if it has none
  abbrev pub Modifies : {F : Type 0} → Once F (MutBor T × Unit {0}) (Unit {0} × (MutBor T × Unit {0})) → F → JointPrefixMap T A → IpPrefix → JointPrefixMap T A → Type 0
  Modifies g f m p new = MatchOption (get (entries_of m) (ip_path p)) (new ≡ m) (λ v. (w : T) × MayLeave g f v w × (new ≡ with_value_of m p w))

  -- the same at the network of an entry
  abbrev pub ModifiesEntry : {F : Type 0} → Once F (MutBor T × Unit {0}) (Unit {0} × (MutBor T × Unit {0})) → F → Entry T A → JointPrefixMap T A → Type 0
  ModifiesEntry g f e new = Modifies g f e.map.now e.key new

module _ {T : Type 0} where
  -- the new map of one family is what the insertion of a value leaves
  pub record FillsAt (width : ℕ) (q : List Bool) (old new : Contents T) (value : T) : Type 0 where
    pub entries : new.entries ≡ with_entry old.entries q value
    pub step : StepByPath width (stored_state old) (Insert q value) (Value (get old.entries q)) (stored_state new)

  -- the new map of one family is what a refused insertion leaves, whatever the value
  pub record RefusesAt (width : ℕ) (q : List Bool) (cause : Refusal) (old new : Contents T) : Type 0 where
    pub entries : new.entries ≡ old.entries
    pub step : (value : T) → StepByPath width (stored_state old) (Insert q value) (model.Refused cause) (stored_state new)

module _ {T A : Type 0} where
  -- the same at a network of a joint map
  pub record Fills (p : IpPrefix) (old new : JointPrefixMap T A) (value : T) : Type 0 where
    pub entries : entries_of new ≡ with_entry (entries_of old) (ip_path p) value
    pub step : StepOnFamily p (λ q. Insert q value) (Value (get (entries_of old) (ip_path p))) (maps_of old) (maps_of new)

  pub record RefusesToFill (p : IpPrefix) (cause : Refusal) (old new : JointPrefixMap T A) : Type 0 where
    pub entries : entries_of new ≡ entries_of old
    pub step : (value : T) → StepOnFamily p (λ q. Insert q value) (model.Refused cause) (maps_of old) (maps_of new)

module _ (T A : RattleType) (a : alloc.Ghosts A.Denot) where
  -- once the borrow r ends, the value of the entry's network is the last one written through r; without r the map is unchanged
  abbrev pub lends_stored : Entry T.Denot A.Denot → Option (MutBor T.Denot) → Fml
  lends_stored e r = LendsIf (joint.the_row T A a) T e.map r (filled e) e.map.now

  -- the same of the entry itself
  abbrev pub lends_if_stored : MutBor (Entry T.Denot A.Denot) → Option (MutBor T.Denot) → Fml
  lends_if_stored e r = LendsIf (entry.the_row (record { mir = named 1; lft = [] }) T A a) T e r (with_entry_value e.now) e.now

  -- once the borrow r ends, the map is what the insertion of the last value written through r leaves; without r it was refused
  abbrev pub lends_filled : {E : Type 0} → (E → Refusal) → Entry T.Denot A.Denot → Result (MutBor T.Denot) E → Fml
  lends_filled cause e r = LendsSoOk (joint.the_row T A a) T e.map r (Fills e.key e.map.now) (λ new. IfErr r (λ x. RefusesToFill e.key (cause x) e.map.now new))
