-- A writing walk over a joint map that has passed its first entry has the rest to come: for `writing_laws`.
use Rattle.std.proofs.Common.{◌≡◌, Bool, true, false, cond, List, [], ◌∷◌, filter, Some, None, Less, Equal, Greater, is_lt, is_le, is_some, refl, sym, subst, ap, ◌∙◌, true≢false}
use Rattle.std.proofs.lemmas.List.Elements.{All-contains_itself, All-filter, All-head, All-weaker, filter_passes}
use Rattle.std.specs.List.{All, Contains}
use Rattle.std.specs.FinMap.{get, retain_keys, same_map}
use Rattle.prefix_trie.specs.Terms.{Entries, listing, listing_after, listing_cmp, listing_from, with_entry}
use Rattle.prefix_trie_bits.specs.Model.Order.{same_string}
use Rattle.prefix_trie_bits.specs.Order.{listing_same, listing_total}
use Rattle.prefix_trie_bits.proofs.Model.Listings.{listing_laws}
use Rattle.prefix_trie_bits.proofs.Model.Members.{get-with_entry, same_string-is}
use Rattle.prefix_trie_bits.proofs.Model.SortedListings.{entries-retained, lt-less}
use Rattle.prefix_trie_joint.specs.declared.map.writing.IterMut.{IterMut}
use Rattle.prefix_trie_joint.specs.Joined.{entries_of, AreIpKeys}
use Rattle.prefix_trie_joint.specs.Laws.{WritingLaws}
use Rattle.prefix_trie_joint.specs.Networks.{ip_back, ip_path}
use Rattle.prefix_trie_joint.specs.Writing.{false_if_any, first_or, passed, stepped, to_come}
use Rattle.prefix_trie_joint.proofs.Changes.{get_kept}
use Rattle.prefix_trie_joint.proofs.FamilyLaws.{written}

from_on : (q s t : List Bool) → is_le (listing_cmp q s) ≡ true → listing_cmp s t ≡ Less → is_le (listing_cmp q t) ≡ true
from_on q s t h less = elim (listing_cmp q s) as (λ o. listing_cmp q s ≡ o → is_le o ≡ true → is_le (listing_cmp q t) ≡ true) [
  | Less ↦ λ e _. ap is_le (listing_total.trans q s t e less)
  | Equal ↦ λ e _. ap (λ u. is_le (listing_cmp u t)) (listing_same q s e) ∙ ap is_le less
  | Greater ↦ λ _ no. absurd (true≢false (sym no))
] refl h

after_on : (q s t : List Bool) → is_lt (listing_cmp q s) ≡ true → listing_cmp s t ≡ Less → is_lt (listing_cmp q t) ≡ true
after_on q s t h less = ap is_lt (listing_total.trans q s t (lt-less (listing_cmp q s) h) less)

module _ {T : Type 0} where
  after_is : (m : Entries T) (k : List Bool) → listing_after m k ≡ listing (retain_keys m (λ s. is_lt (listing_cmp k s)))
  after_is m k = sym (entries-retained m (λ s. is_lt (listing_cmp k s)))

  -- two maps with the same values after k have the same entries there
  same_after : (m n : Entries T) (k : List Bool) → ((s : List Bool) → is_lt (listing_cmp k s) ≡ true → get m s ≡ get n s) → listing_after m k ≡ listing_after n k
  same_after m n k same =
      after_is m k
      ∙ ap listing (same_map listing_total listing_same (retain_keys m after) (retain_keys n after) (λ s. get_kept m after s ∙ each s (after s) refl ∙ sym (get_kept n after s)))
      ∙ sym (after_is n k)
    where
      after : List Bool → Bool
      after s = is_lt (listing_cmp k s)

      each : (s : List Bool) (b : Bool) → is_lt (listing_cmp k s) ≡ b → cond b (get m s) None ≡ cond b (get n s) None
      each s true e = same s e
      each s false e = refl

  -- if each key after k passes a test, leaving out the keys that fail it changes nothing after k
  kept_after : (m : Entries T) (p : List Bool → Bool) (k : List Bool) → ((s : List Bool) → is_lt (listing_cmp k s) ≡ true → p s ≡ true)
      → listing_after (retain_keys m p) k ≡ listing_after m k
  kept_after m p k on = same_after (retain_keys m p) m k (λ s e. get_kept m p s ∙ ap (λ x. cond x (get m s) None) (on s e))

  -- a value that is written at k changes nothing after k
  unwritten_after : (m : Entries T) (k : List Bool) (v : T) → listing_after (with_entry m k v) k ≡ listing_after m k
  unwritten_after m k v = same_after (with_entry m k v) m k (λ s e. get-with_entry m k v s ∙ other s (lt-less (listing_cmp k s) e) (same_string s k) refl)
    where
      other : (s : List Bool) → listing_cmp k s ≡ Less → (b : Bool) → same_string s k ≡ b → cond b (Some v) (get m s) ≡ get m s
      other s less true e = absurd ((listing_laws T).not_itself k s less (sym (same_string-is s k e)))
      other s less false e = refl

  rest_after : (m : Entries T) (p : List Bool → Bool) → ((s t : List Bool) → p s ≡ true → listing_cmp s t ≡ Less → p t ≡ true)
      → (e : List Bool × T) (es : List (List Bool × T)) → filter (λ x. p x.0) (listing m) ≡ e ∷ es → listing_after m e.0 ≡ es
  rest_after m p on e es is =
      let passes : p e.0 ≡ true = All-head (λ x. p x.0 ≡ true) e es (subst (All (λ x. p x.0 ≡ true)) is (filter_passes (λ x. p x.0) (listing m))) in
      sym (kept_after m p e.0 (λ s h. on e.0 s passes (lt-less (listing_cmp e.0 s) h)))
      ∙ ((listing_laws T).resumes (retain_keys m p) [] e es (entries-retained m p ∙ is)).behind

  come_rest : (m : Entries T) (inclusive : Bool) (q : List Bool) (e : List Bool × T) (es : List (List Bool × T)) → cond inclusive (listing_from m q) (listing_after m q) ≡ e ∷ es → listing_after m e.0 ≡ es
  come_rest m true q = rest_after m (λ s. is_le (listing_cmp q s)) (from_on q)
  come_rest m false q = rest_after m (λ s. is_lt (listing_cmp q s)) (after_on q)

  first_key : (m : Entries T) → AreIpKeys m → (p : List Bool → Bool) (e : List Bool × T) (es : List (List Bool × T)) → filter (λ x. p x.0) (listing m) ≡ e ∷ es → ip_path (ip_back e.0) ≡ e.0
  first_key m keys p e es is =
      All-head (λ x. ip_path (ip_back x.0) ≡ x.0) e es
      (subst (All (λ x. ip_path (ip_back x.0) ≡ x.0)) is (All-filter (λ x. p x.0) (λ x. ip_path (ip_back x.0) ≡ x.0) (listing m)
      (All-weaker (λ x. Contains (listing m) x) (λ x. ip_path (ip_back x.0) ≡ x.0) (λ x has. keys x.0 (ap is_some (((listing_laws T).has_each m x.0 x.1).1 has))) (listing m) (All-contains_itself (listing m)))))

  come_key : (m : Entries T) → AreIpKeys m → (inclusive : Bool) (q : List Bool) (e : List Bool × T) (es : List (List Bool × T)) → cond inclusive (listing_from m q) (listing_after m q) ≡ e ∷ es → ip_path (ip_back e.0) ≡ e.0
  come_key m keys true q = first_key m keys (λ s. is_le (listing_cmp q s))
  come_key m keys false q = first_key m keys (λ s. is_lt (listing_cmp q s))

module _ {T A : Type 0} (w : IterMut T A) (e : List Bool × T) (es : List (List Bool × T)) (keys : AreIpKeys (entries_of w.map.now)) (is : to_come w ≡ e ∷ es) where
  key : ip_path (ip_back e.0) ≡ e.0
  key = come_key (entries_of w.map.now) keys w.inclusive (ip_path w.from) e es is

  steps : to_come (stepped w) ≡ es
  steps =
      ap (λ xs. cond (false_if_any xs w.inclusive) (listing_from (entries_of w.map.now) (ip_path (first_or xs w.from))) (listing_after (entries_of w.map.now) (ip_path (first_or xs w.from)))) is
      ∙ ap (listing_after (entries_of w.map.now)) key ∙ come_rest (entries_of w.map.now) w.inclusive (ip_path w.from) e es is

  writes : (value : T) → entries_of (passed w value).map.now ≡ with_entry (entries_of w.map.now) e.0 value
  writes value =
      written w.map.now (stepped w).from value
      ∙ ap (λ xs. with_entry (entries_of w.map.now) (ip_path (first_or xs w.from)) value) is
      ∙ ap (λ k. with_entry (entries_of w.map.now) k value) key

  goes_on : (value : T) → to_come (passed w value) ≡ es
  goes_on value =
      ap (λ m. cond (stepped w).inclusive (listing_from m (ip_path (stepped w).from)) (listing_after m (ip_path (stepped w).from))) (writes value)
      ∙ ap (λ xs. cond (false_if_any xs w.inclusive) (listing_from (with_entry (entries_of w.map.now) e.0 value) (ip_path (first_or xs w.from))) (listing_after (with_entry (entries_of w.map.now) e.0 value) (ip_path (first_or xs w.from)))) is
      ∙ ap (listing_after (with_entry (entries_of w.map.now) e.0 value)) key
      ∙ unwritten_after (entries_of w.map.now) e.0 value
      ∙ come_rest (entries_of w.map.now) w.inclusive (ip_path w.from) e es is

pub writing_laws : {T A : Type 0} → WritingLaws T A
writing_laws = record {
  steps = λ w e es keys is. steps w e es keys is;
  goes_on = λ w value e es keys is. goes_on w e es keys is value;
  writes = λ w value e es keys is. writes w e es keys is value;
}
