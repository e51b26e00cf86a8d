-- What a writing walk over a joint map still has to give, and what a step of it leaves. This project's own.
use Rattle.std.specs.Prelude.{Bool, false, List, [], ◌∷◌, cond, Option}
use Rattle.std.specs.Borrow.{LendsIf, Fml, RattleType, MutBor}
use Rattle.std.specs.declared.alloc.Allocator as alloc
use Rattle.prefix_trie.specs.Terms.{listing_after, listing_from}
use Rattle.prefix_trie_joint.specs.Joined.{entries_of}
use Rattle.prefix_trie_joint.specs.Lending.{with_value_of}
use Rattle.prefix_trie_joint.specs.Networks.{ip_back, ip_path}
use Rattle.prefix_trie_joint.specs.declared.prefix.IpPrefix.{IpPrefix}
use Rattle.prefix_trie_joint.specs.declared.map.writing.IterMut.{IterMut}
use Rattle.prefix_trie_joint.specs.declared.map.writing.ValuesMut.{ValuesMut}
use Rattle.prefix_trie_joint.specs.contracts.map.writing.IterMut as walk
use Rattle.prefix_trie_joint.specs.contracts.map.writing.ValuesMut as values
use mir.Syntax.{named}

module _ {T : Type 0} where
  -- the network of the first of these entries, or another one if there is none
  abbrev pub first_or : List (List Bool × T) → IpPrefix → IpPrefix
  first_or [] p = p
  first_or (e ∷ es) p = ip_back e.0

  -- false if there are entries, otherwise another value
  abbrev pub false_if_any : List (List Bool × T) → Bool → Bool
  false_if_any [] b = b
  false_if_any (e ∷ es) b = false

module _ {T A : Type 0} where
  -- the entries still to come
  abbrev pub to_come : IterMut T A → List (List Bool × T)
  to_come w = cond w.inclusive (listing_from (entries_of w.map.now) (ip_path w.from)) (listing_after (entries_of w.map.now) (ip_path w.from))

  -- the walk after its next entry, unchanged if there is none
  abbrev pub stepped : IterMut T A → IterMut T A
  stepped w = record w { from = first_or (to_come w) w.from; inclusive = false_if_any (to_come w) w.inclusive }

  -- the walk after a value is written at a network
  abbrev pub with_written : IterMut T A → IpPrefix → T → IterMut T A
  with_written w p value = record w { map = record w.map { now = with_value_of w.map.now p value } }

  -- the walk after its next entry, at which this value was left
  abbrev pub passed : IterMut T A → T → IterMut T A
  passed w value = with_written (stepped w) (stepped w).from value

  -- a walk over values as one over entries, and back
  abbrev pub as_entries : ValuesMut T A → IterMut T A
  as_entries w = record { map = w.map; from = w.from; inclusive = w.inclusive }

  abbrev pub as_values : IterMut T A → ValuesMut T A
  as_values w = record { map = w.map; from = w.from; inclusive = w.inclusive }

module _ (T A : RattleType) (a : alloc.Ghosts A.Denot) where
  -- once the borrow r ends, the value of the network is the last one written through r; without r the walk is unchanged
  abbrev pub lends_value_in : MutBor (IterMut T.Denot A.Denot) → IpPrefix → Option (MutBor T.Denot) → Fml
  lends_value_in w p r = LendsIf (walk.the_row (record { mir = named 1; lft = [] }) T A a) T w r (with_written w.now p) w.now

  -- once the borrow r ends, the walk has passed its next entry, at which the last value written through r was left; without r nothing was to come
  abbrev pub lends_next : MutBor (IterMut T.Denot A.Denot) → Option (MutBor T.Denot) → Fml
  lends_next w r = LendsIf (walk.the_row (record { mir = named 1; lft = [] }) T A a) T w r (passed w.now) (stepped w.now)

  -- the same two for a walk that lends only values
  abbrev pub lends_value_of : MutBor (ValuesMut T.Denot A.Denot) → IpPrefix → Option (MutBor T.Denot) → Fml
  lends_value_of w p r = LendsIf (values.the_row (record { mir = named 1; lft = [] }) T A a) T w r (λ value. as_values (with_written (as_entries w.now) p value)) w.now

  abbrev pub lends_next_value : MutBor (ValuesMut T.Denot A.Denot) → Option (MutBor T.Denot) → Fml
  lends_next_value w r =
      LendsIf (values.the_row (record { mir = named 1; lft = [] }) T A a) T w r (λ value. as_values (passed (as_entries w.now) value)) (as_values (stepped (as_entries w.now)))
