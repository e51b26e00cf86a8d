-- The results of calls on sets as replies of the model, and tests of prefixes for `retain`. This project's own.
use Rattle.std.specs.Prelude.{◌≡◌, ◌&&◌, ℕ, Bool, not, List, Result, Ok, Err, nat_eq}
use Rattle.std.specs.Bool.{then_some}
use Rattle.std.specs.Borrow.{Bor}
use Rattle.std.specs.Fn.{Mut, Takes, Called}
use Rattle.std.specs.Cmp.{IsEquivalence, on_equiv, eq_by_cmp_equiv}
use Rattle.std.specs.Cmp.Lexicographic.{pointwise, lists_equiv}
use Rattle.std.specs.Ordering.{on}
use Rattle.prefix_trie_bits.specs.Order.{listing_total}
use Rattle.prefix_trie_bits.specs.Model.Order.{same_string}
use Rattle.prefix_trie_bits.specs.declared.prefix.Refusal.{Refusal}
use Rattle.prefix_trie_bits.specs.Model.Entries.{Entries}
use Rattle.prefix_trie_bits.specs.Model.Selections.{listing}
use Rattle.prefix_trie_bits.specs.Model.Step.{Reply, Value, Refused}

-- the reply to a removal: a unit if the key was in the set
abbrev pub set_remove_reply : {P : Type 0} → Bool → Reply P (Unit {0})
set_remove_reply was_in = Value (then_some was_in tt)

-- the reply to an insertion, which returns whether the key is new
abbrev pub set_insert_reply : {P : Type 0} → Result Bool Refusal → Reply P (Unit {0})
set_insert_reply (Ok is_new) = Value (then_some (not is_new) tt)
set_insert_reply (Err cause) = Refused cause

module _ {F P : Type 0} (g : Mut F (Bor P × Unit {0}) Bool) (back : List Bool → P) where
  -- a call of f on the prefix with the path k can return b and leave f as f'
  pub record CalledAtKey (f : F) (k : List Bool) (v : Unit {0}) (b : Bool) (f' : F) : Type 0 where
    pub prefix : Bor P
    pub shows : prefix.now ≡ back k
    pub called : Called g f (prefix, tt) b f'

  -- f may be called on the prefix with the path k
  abbrev pub TakesKey : F → List Bool → Unit {0} → Type 0
  TakesKey f k v = (p : Bor P) → p.now ≡ back k → Takes g f (p, tt)

-- whether two sets have the same keys
abbrev pub same_keys : Entries (Unit {0}) → Entries (Unit {0}) → Bool
same_keys m n = pointwise (on (λ e. e.0) same_string) (listing m) (listing n)

-- whether two prefixes have the same number and the same length
abbrev pub same_parts : {K P : Type 0} → (K → K → Bool) → (P → K) → (P → ℕ) → P → P → Bool
same_parts same repr_of len_of p q = same (repr_of p) (repr_of q) && nat_eq (len_of p) (len_of q)

-- having the same keys is an equivalence of sets, as `==` requires
pub same_keys_equiv : IsEquivalence same_keys
same_keys_equiv = on_equiv listing (lists_equiv (on_equiv (λ e. e.0) (eq_by_cmp_equiv listing_total)))

-- a prefix as an item of a map of units
abbrev pub as_item : {P : Type 0} → P → P × Unit {0}
as_item p = (p, tt)
