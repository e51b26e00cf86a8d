-- A step of a writing walk gives its first entry, also if the walk may have no map, and the keys still to come: for
-- `IterMut` and `ValuesMut`.
use Rattle.prefix_trie_map.proofs.Prelude.{◌≡◌, ℕ, ◌-◌, ◌++◌, length, take, arith, length-take-le, zeros, back_from_bits, seat_of, Bool, true, List, [], ◌∷◌, map, Option, None, Some, MatchOption, IfSome, IfNone, refl, sym, ap, ◌∙◌, subst, contains_key, Contents, with_value_at, IsCursorIn, IsCursorIn-prop, GivesKey, keys_to_come, Cursor, pending_again, MapCursor, CursorItem, keys_left, as_walk, IsItemAt, HasValueAt, with_written, IsFirst, GoesOver, ComesToEnd, StartsOver, lent_beside, EndsIn, StepsIn}
use Rattle.std.specs.Borrow.{MutBor}
use Rattle.std.specs.declared.cmp.PartialEq as partial
use Rattle.std.specs.declared.fmt.Debug as debug
use Rattle.prefix_trie_bits.specs.Model.Keys.{PrefixLaws}
use Rattle.prefix_trie_bits.specs.declared.prefix.Prefix as prefix
use Rattle.prefix_trie_bits.specs.declared.prefix.Key as key

module _ {P T A R : Type 0} {p : prefix.Ghosts P R} {shows : debug.Ghosts P} {k : key.Ghosts R} {same : partial.Ghosts R} {writes : debug.Ghosts R}
    (c : MapCursor P T A R p shows k same writes) (cursor : Cursor R) (is_there : IsCursorIn k.bits k.bit_width c.map.now.build cursor) (item : CursorItem R) (key : R) (len : ℕ)
    (at : item.path ≡ take len (k.bits key)) (gives : GivesKey k.IsKey k.bits k.bit_width c.map.now.build key len item.seat (keys_left c) (keys_to_come k.bits c.map.now.entries cursor)) where
  -- the map's cursor, moved on to this cursor
  abbrev gone : MapCursor P T A R p shows k same writes
  gone = record { map = c.map; cursor = cursor; is_there = is_there }

  pub stops_there : IsItemAt gone item
  stops_there = ap (seat_of c.map.now.build) at ∙ gives.seated

  first : keys_left c ≡ item.path ∷ keys_left gone
  first = gives.first ∙ ap (λ s. s ∷ keys_left gone) (sym at)

  module _ (laws : PrefixLaws k.bit_width k.IsKey k.bits k.key_of p.repr_of p.len_of p.path p.IsFitting p.from_parts p.back) where
    -- the bits of the key past its length are 0
    without_host_bits : p.from_parts key len ≡ p.back (take len (k.bits key))
    without_host_bits =
        let long : length (k.bits key) ≡ k.bit_width = laws.keys.bits_length key gives.is_key in
        let short : length (take len (k.bits key)) ≡ len = length-take-le len (k.bits key) (let h = gives.short in omega (arith, long, h)) in
        ap (p.from_parts key) (sym short)
        ∙ back_from_bits laws key (take len (k.bits key)) gives.is_key (subst (λ n. k.bits key ≡ take len (k.bits key) ++ zeros (k.bit_width - n)) (sym short) gives.filled)

    pub first_there : (q : P) → q ≡ p.from_parts key len → (value : T) → HasValueAt gone item value → IsFirst c q value
    first_there q is value holds = (item.path, record (as_walk c None) { to_come = keys_left gone; lent = Some item.path }, (first, refl), is ∙ without_host_bits ∙ ap p.back (sym at), holds)

  pub goes_over : contains_key c.map.now.entries (take len (k.bits key)) ≡ true → (value : T) → GoesOver c value (with_written gone item value)
  goes_over has value = record {
    key = item.path;
    passes = λ lent. (
      record (as_walk c lent) { to_come = keys_left (with_written gone item value); lent = Some item.path },
      (first ∙ ap (λ ks. item.path ∷ ks) (sym (pending_again c.map.now.entries item.path value stored (k.bits cursor.key) cursor.stack.items)), refl),
      (item.path, refl, refl),
    );
    stored = stored;
    map = refl;
  }
    where
      stored : contains_key c.map.now.entries item.path ≡ true
      stored = ap (contains_key c.map.now.entries) at ∙ has

module _ {P T A R : Type 0} {p : prefix.Ghosts P R} {shows : debug.Ghosts P} {k : key.Ghosts R} {same : partial.Ghosts R} {writes : debug.Ghosts R} where
  -- a walk that starts has all keys of its selection to come
  pub left_at_start : (m : MutBor (Contents T)) (selection : List (List Bool × T)) (c : MapCursor P T A R p shows k same writes) → StartsOver m selection c →
      keys_left c ≡ map (λ e. e.0) selection
  left_at_start m selection c starts = ap (λ w. w.to_come) starts.starts

  -- a walk that has passed one key has the keys after it to come
  pub left_behind : (c n : MapCursor P T A R p shows k same writes) (value : T) (goes : GoesOver c value n) → keys_left c ≡ goes.key ∷ keys_left n
  left_behind c n value goes =
      let passes = goes.passes None in
      passes.1.0 ∙ ap (λ w. goes.key ∷ w.to_come) (sym passes.2.2)

  -- a walk at its end has no keys to come
  pub none_left : (c n : MapCursor P T A R p shows k same writes) (ends : ComesToEnd c n) → keys_left n ≡ []
  none_left c n ends = ap (λ w. w.to_come) (ends.ends None).1 ∙ (ends.ends None).0

-- writing a value at an item changes only the map of the cursor
pub written_there : {P T A R : Type 0} {p : prefix.Ghosts P R} {shows : debug.Ghosts P} {k : key.Ghosts R} {same : partial.Ghosts R} {writes : debug.Ghosts R}
    (c : MapCursor P T A R p shows k same writes) (item : CursorItem R) (w : T) (is_there : IsCursorIn k.bits k.bit_width c.map.now.build c.cursor) →
    record { map = record c.map { now = with_value_at c.map.now item.path w }; cursor = c.cursor; is_there = is_there } ≡ with_written c item w
written_there {k = k} c item w is_there = λ i. record {
  map = record c.map { now = with_value_at c.map.now item.path w };
  cursor = c.cursor;
  is_there = IsCursorIn-prop k.bits k.bit_width c.map.now.build c.cursor is_there c.is_there i;
}

-- a step of what the walk goes over is a step of the walk
pub stepped : {C Q V S : Type 0} (IsAt : C → S → Type 0) (Holds : C → S → V → Type 0) (with : C → S → V → C) (First : C → Q → V → Type 0) (Passes : C → V → C → Type 0) (Ends : C → C → Type 0)
    (o : Option C) (a b : C) → o ≡ Some a → (r : Option (Q × S)) →
    MatchOption r (Ends a b) (λ x. IsAt b x.1 × ((v : V) → Holds b x.1 v → First a x.0 v) × ((v : V) → Passes a v (with b x.1 v))) →
    MatchOption r (EndsIn Ends o (Some b)) (λ x. StepsIn IsAt Holds with First Passes o x.0 x.1 (Some b))
stepped IsAt Holds with First Passes Ends o a b is None h = subst (λ p. EndsIn Ends p (Some b)) (sym is) h
stepped IsAt Holds with First Passes Ends o a b is (Some x) h =
    subst (λ p. StepsIn IsAt Holds with First Passes p x.0 x.1 (Some b)) (sym is) (record { is_at = h.0; first = h.1; passes = h.2 })

-- a value that is lent for an entry whose prefix was returned beside it
module _ {Q V : Type 0} (IsOver : Type 0) (First : Q → V → Type 0) (prefix : Option Q) where
  abbrev pub HasFirst : Option (MutBor V) → Type 0
  HasFirst o = MatchOption o IsOver (λ x. (q : Q) × (prefix ≡ Some q) × First q x.now)

  pub prefix_there : (o : Option (MutBor V)) → HasFirst o → IfSome o (λ x. (q : Q) × (prefix ≡ Some q))
  prefix_there None first = tt
  prefix_there (Some x) first = (first.0, first.1)

  pub first_beside : (o : Option (MutBor V)) (answer : Option (Q × MutBor V)) → lent_beside answer ≡ o → IfSome answer (λ r. prefix ≡ Some r.0) → HasFirst o → IfSome answer (λ r. First r.0 r.1.now)
  first_beside o None lent is first = tt
  first_beside o (Some r) lent is first =
      let there : HasFirst (Some r.1) = subst (λ v. HasFirst v) (sym lent) first in
      subst (λ p. IfSome p (λ q. First q r.1.now)) (sym there.1 ∙ is) there.2

  pub none_beside : (o : Option (MutBor V)) (answer : Option (Q × MutBor V)) → lent_beside answer ≡ o → HasFirst o → IfNone answer IsOver
  none_beside o None lent first = subst (λ v. HasFirst v) (sym lent) first
  none_beside o (Some r) lent first = tt
