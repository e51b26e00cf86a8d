-- The same for a walk that may have no map, for anything that it goes over. This project's own.
use Rattle.std.specs.Prelude.{Option, None, Some, OnSome, IfNone, ⊤}
use Rattle.std.specs.Borrow.{Lends, LendsSo, Fml, RattleType, MutBor}
use Rattle.prefix_trie_map.specs.declared.map.writing.WalkOf.{WalkOf}
use Rattle.prefix_trie_map.specs.contracts.map.writing.WalkOf as walk
use Rattle.prefix_trie_map.specs.declared.map.writing.ValuesOf.{ValuesOf}
use Rattle.prefix_trie_map.specs.contracts.map.writing.ValuesOf as values

module _ {C : Type 0} where
  -- nothing was to come, nothing is, and nothing was written
  abbrev pub EndsIn : (C → C → Type 0) → Option C → Option C → Type 0
  EndsIn Ends None None = ⊤
  EndsIn Ends None (Some d) = ⊥
  EndsIn Ends (Some c) None = ⊥
  EndsIn Ends (Some c) (Some d) = Ends c d

  -- nothing is to come
  abbrev pub IsOverIn : (C → C → Type 0) → Option C → Type 0
  IsOverIn Ends o = (n : Option C) × EndsIn Ends o n

module _ {C S : Type 0} where
  -- the walk is at this item
  abbrev pub AtIn : (C → S → Type 0) → Option C → S → Type 0
  AtIn IsAt None item = ⊥
  AtIn IsAt (Some c) item = IsAt c item

  module _ {V : Type 0} where
    -- the value at an item
    abbrev pub HoldsIn : (C → S → V → Type 0) → Option C → S → V → Type 0
    HoldsIn Holds None item value = ⊥
    HoldsIn Holds (Some c) item value = Holds c item value

    -- what the walk goes over, after a value is written at an item
    abbrev pub written_in : (C → S → V → C) → Option C → S → V → Option C
    written_in with None item value = None
    written_in with (Some c) item value = Some (with c item value)

module _ {C V : Type 0} where
  -- the walk has passed its first entry, at which this value was left
  abbrev pub PassesIn : (C → V → C → Type 0) → Option C → V → Option C → Type 0
  PassesIn Passes None value n = ⊥
  PassesIn Passes (Some c) value None = ⊥
  PassesIn Passes (Some c) value (Some d) = Passes c value d

module _ {C Q V : Type 0} where
  -- the first entry still to come
  abbrev pub FirstIn : (C → Q → V → Type 0) → Option C → Q → V → Type 0
  FirstIn First None q value = ⊥
  FirstIn First (Some c) q value = First c q value

  -- a step returns this item: its prefix and value are those of the first entry, and a write there passes it
  pub record StepsIn {S : Type 0} (IsAt : C → S → Type 0) (Holds : C → S → V → Type 0) (with : C → S → V → C) (First : C → Q → V → Type 0) (Passes : C → V → C → Type 0)
      (o : Option C) (q : Q) (item : S) (n : Option C) : Type 0 where
    pub is_at : AtIn IsAt n item
    pub first : (value : V) → HoldsIn Holds n item value → FirstIn First o q value
    pub passes : (value : V) → PassesIn Passes o value (written_in with n item value)

module _ (C V : RattleType) (s : MutBor (WalkOf C.Denot)) where
  -- once the borrow r ends, the last value written through it is at the item
  abbrev pub lends_item : {S : Type 0} → (C.Denot → S → V.Denot → C.Denot) → S → MutBor V.Denot → Fml
  lends_item with item r = Lends (walk.the_row C) V s r (λ value. record { source = written_in with s.now.source item value })

  -- once the borrow r ends, the walk has passed its first entry, at which the last value written through r was left;
  -- without r, nothing was to come
  abbrev pub lends_next : (C.Denot → V.Denot → C.Denot → Type 0) → (C.Denot → C.Denot → Type 0) → Option (MutBor V.Denot) → Fml
  lends_next Passes Ends r = LendsSo (walk.the_row C) V s r (λ n value. OnSome r (PassesIn Passes s.now.source value n.source)) (λ n. IfNone r (EndsIn Ends s.now.source n.source))

-- the same for a walk that lends only values
abbrev pub lends_next_value : (C V : RattleType) → MutBor (ValuesOf C.Denot) → (C.Denot → V.Denot → C.Denot → Type 0) → (C.Denot → C.Denot → Type 0) → Option (MutBor V.Denot) → Fml
lends_next_value C V s Passes Ends r =
    LendsSo (values.the_row C) V s r (λ n value. OnSome r (PassesIn Passes s.now.walk.source value n.walk.source)) (λ n. IfNone r (EndsIn Ends s.now.walk.source n.walk.source))
