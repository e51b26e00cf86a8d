-- What the slots of a table keep when its map changes.
use Rattle.std.proofs.Common.{◌≡◌, ◌∙◌, ℕ, suc, ◌+◌, ◌-◌, ◌*◌, ◌%◌, ◌^◌, ◌<◌, ◌≤◌, Bool, true, List, length, take, None, Err, slice_index, sym, ap, subst, arith, inl, inr}
use Rattle.std.specs.FinMap.{contains_key, get, len}
use Rattle.std.specs.Prelude.{is_some}
use Rattle.std.proofs.lemmas.Bool.{false≢true}
use Rattle.std.proofs.Math.Seq.{take-append_seam}
use Rattle.std.proofs.Math.Logic.{∥∥₁_elim}
use Rattle.std.proofs.Math.Nat.{ℕ_set}
use Rattle.prefix_trie_bits.specs.Calls.Entries.{AreWithin}
use Rattle.prefix_trie_bits.specs.Calls.Storage.{StepByPath}
use Rattle.prefix_trie_bits.specs.Laws.Determined.{is_refusal}
use Rattle.prefix_trie_bits.specs.Model.Bits.{digits, zeros}
use Rattle.prefix_trie_bits.specs.Model.Entries.{Entries, no_entries, with_entry, without_entry}
use Rattle.prefix_trie_bits.specs.Model.Matches.{longest_match}
use Rattle.prefix_trie_bits.specs.Model.Nodes.{Nodes, has_node}
use Rattle.prefix_trie_bits.specs.Model.Step.{Insert, State}
use Rattle.prefix_trie_bits.specs.Model.Storage.{Storage}
use Rattle.prefix_trie_bits.specs.declared.prefix.Refused.{Refused}
use Rattle.prefix_trie_map.specs.Steps.{insert_reply}
use Rattle.prefix_trie.specs.Laws.Lookups.{LookupLaws}
use Rattle.prefix_trie.specs.Laws.Stored.{StoredLaws}
use Rattle.prefix_trie_forwarding.specs.Counts.{HasBlocks, IsCounted, block_of}
use Rattle.prefix_trie_forwarding.specs.Forwarding.{Follows, answer_of}
use Rattle.prefix_trie_forwarding.specs.Keys.{first_of}
use Rattle.prefix_trie_forwarding.specs.Needs.{AreNeeded, HasNeededGroups, needed_groups}
use Rattle.prefix_trie_forwarding.specs.Slots.{Trims}
use Rattle.prefix_trie_forwarding.specs.Walks.{GainsPath, HasGroup, HasPath, HasValues, IsAddress, IsChanged, KeepsGroups, answer, changed}
use Rattle.prefix_trie_forwarding.specs.declared.hop.Hop.{Hop}
use Rattle.prefix_trie_forwarding.proofs.Counting.{same_or_not}
use Rattle.prefix_trie_forwarding.proofs.Following.{as_address, first_aligned, follows_changed}
use Rattle.prefix_trie_forwarding.proofs.Matches.{inserted, removed}
use Rattle.prefix_trie_forwarding.proofs.Needed.{block_length, block_taken, key_with, needed_inserted, needed_kept, needed_path, needed_removed}
use Rattle.prefix_trie_forwarding.proofs.NeededGroups.{needed_are}
use Rattle.prefix_trie_forwarding.proofs.Points.{keeps_points, same_slots}
use Rattle.prefix_trie_forwarding.proofs.Reading.{digits_first, first_below}

-- what holds of a root, of levels and of entries holds of what equals them
pub moved : (F : ℕ → ℕ → Entries Hop → Type 0) (r levels s k : ℕ) (m n : Entries Hop) → s ≡ r → k ≡ levels → n ≡ m → F r levels m → F s k n
moved F r levels s k m n root level same h = subst (λ s. F s k n) (sym root) (subst (λ k. F r k n) (sym level) (subst (λ n. F r levels n) (sym same) h))

-- ---- without entries

pub follows_none : {P : Type 0} (laws : LookupLaws P Hop) (r levels : ℕ) (xs : List ℕ) → ((a : ℕ) → IsAddress (2 ^ r) levels a → answer (2 ^ r) levels (slice_index xs) a ≡ 0) → Follows r levels xs no_entries
follows_none laws r levels xs zeros a small = zeros a (as_address r levels a small) ∙ sym (ap answer_of (laws.nothing (digits (r + 8 * levels) a)))

pub groups_none : (stored : StoredLaws Hop) (r levels : ℕ) (xs : List ℕ) → ((a k : ℕ) → IsAddress (2 ^ r) levels a → HasGroup (2 ^ r) levels (slice_index xs) a k → ⊥) → HasNeededGroups r levels xs (no_entries {T = Hop})
groups_none stored r levels xs none a k ia more = ((λ h. absurd (none a k ia h)), (λ n. absurd (false≢true (sym (ap is_some (stored.nothing n.0)) ∙ n.1))))

-- ---- a change of the map

pub follows_points : (r levels : ℕ) (xs ys : List ℕ) (m : Entries Hop) → ((x : ℕ) → slice_index ys x ≡ slice_index xs x) → Follows r levels xs m → Follows r levels ys m
follows_points r levels xs ys m same follows a small = ap (λ f. answer (2 ^ r) levels f a) (sym (same_slots xs ys same)) ∙ follows a small

module _ (r levels : ℕ) (m : Entries Hop) (p : List Bool) (fits : length p ≤ r + 8 * levels) (b len : ℕ) (b_is : b ≡ first_of (r + 8 * levels) p) (len_is : len ≡ length p) where
  pub aligned : b % 2 ^ (r + 8 * levels - len) ≡ 0
  aligned =
      subst (λ n. b % 2 ^ (r + 8 * levels - n) ≡ 0) (sym len_is) (subst (λ b. b % 2 ^ (r + 8 * levels - length p) ≡ 0) (sym b_is) (first_aligned (r + 8 * levels) p fits))

  module _ {P : Type 0} (laws : LookupLaws P Hop) (xs ys : List ℕ) (least most to : ℕ) (change : IsChanged (2 ^ r) levels b (r + 8 * levels - len) (changed least most to) (slice_index xs) (slice_index ys)) (follows : Follows r levels xs m) where
    at : IsChanged (2 ^ r) levels (first_of (r + 8 * levels) p) (r + 8 * levels - length p) (changed least most to) (slice_index xs) (slice_index ys)
    at =
        subst (λ n. IsChanged (2 ^ r) levels (first_of (r + 8 * levels) p) (r + 8 * levels - n) (changed least most to) (slice_index xs) (slice_index ys)) len_is
        (subst (λ b. IsChanged (2 ^ r) levels b (r + 8 * levels - len) (changed least most to) (slice_index xs) (slice_index ys)) b_is change)

    pub follows_inserted : (v : Hop) → least ≡ 0 → most ≡ (len + 2) * 8388608 - 1 → to ≡ (len + 1) * 8388608 + v.number → Follows r levels ys (with_entry m p v)
    follows_inserted v least_is most_is to_is =
        let most' : most ≡ (length p + 2) * 8388608 - 1 = omega (arith, most_is, len_is) in
        let to' : to ≡ (length p + 1) * 8388608 + v.number = omega (arith, to_is, len_is) in
        follows_changed r levels m xs ys follows (with_entry m p v) p (changed 0 ((length p + 2) * 8388608 - 1) ((length p + 1) * 8388608 + v.number)) fits
        (subst (λ l. IsChanged (2 ^ r) levels (first_of (r + 8 * levels) p) (r + 8 * levels - length p) (changed l ((length p + 2) * 8388608 - 1) ((length p + 1) * 8388608 + v.number)) (slice_index xs) (slice_index ys)) least_is
        (subst (λ h. IsChanged (2 ^ r) levels (first_of (r + 8 * levels) p) (r + 8 * levels - length p) (changed least h ((length p + 1) * 8388608 + v.number)) (slice_index xs) (slice_index ys)) most'
        (subst (λ t. IsChanged (2 ^ r) levels (first_of (r + 8 * levels) p) (r + 8 * levels - length p) (changed least most t) (slice_index xs) (slice_index ys)) to' at)))
        (λ q. inserted laws m p v q)

    pub follows_removed : StoredLaws Hop → least ≡ (len + 1) * 8388608 → most ≡ (len + 2) * 8388608 - 1 → to ≡ answer_of (longest_match (without_entry m p) p) → Follows r levels ys (without_entry m p)
    follows_removed stored least_is most_is to_is =
        let least' : least ≡ (length p + 1) * 8388608 = omega (arith, least_is, len_is) in
        let most' : most ≡ (length p + 2) * 8388608 - 1 = omega (arith, most_is, len_is) in
        follows_changed r levels m xs ys follows (without_entry m p) p (changed ((length p + 1) * 8388608) ((length p + 2) * 8388608 - 1) (answer_of (longest_match (without_entry m p) p))) fits
        (subst (λ l. IsChanged (2 ^ r) levels (first_of (r + 8 * levels) p) (r + 8 * levels - length p) (changed l ((length p + 2) * 8388608 - 1) (answer_of (longest_match (without_entry m p) p))) (slice_index xs) (slice_index ys)) least'
        (subst (λ h. IsChanged (2 ^ r) levels (first_of (r + 8 * levels) p) (r + 8 * levels - length p) (changed least h (answer_of (longest_match (without_entry m p) p))) (slice_index xs) (slice_index ys)) most'
        (subst (λ t. IsChanged (2 ^ r) levels (first_of (r + 8 * levels) p) (r + 8 * levels - length p) (changed least most t) (slice_index xs) (slice_index ys)) to_is at)))
        (λ q. removed laws m p stored q)

  pub groups_inserted : (stored : StoredLaws Hop) (v : Hop) (xs ys zs us : List ℕ) → HasNeededGroups r levels xs m → ((x : ℕ) → slice_index ys x ≡ slice_index xs x)
      → GainsPath (2 ^ r) levels b (r + 8 * levels - len) (slice_index ys) (slice_index zs) → KeepsGroups (2 ^ r) levels (slice_index zs) (slice_index us) → HasNeededGroups r levels us (with_entry m p v)
  groups_inserted stored v xs ys zs us has same gains keeps =
      needed_kept r levels (with_entry m p v) zs us
      (needed_inserted r levels p fits stored m v ys zs (needed_kept r levels m xs ys has (keeps_points (2 ^ r) levels xs ys same))
      (subst (λ n. GainsPath (2 ^ r) levels (first_of (r + 8 * levels) p) (r + 8 * levels - n) (slice_index ys) (slice_index zs)) len_is
      (subst (λ b. GainsPath (2 ^ r) levels b (r + 8 * levels - len) (slice_index ys) (slice_index zs)) b_is gains)))
      keeps

  pub stored_path : (xs : List ℕ) → HasNeededGroups r levels xs m → contains_key m p ≡ true → HasPath (2 ^ r) levels (slice_index xs) b (r + 8 * levels - len)
  stored_path xs has here =
      subst (λ n. HasPath (2 ^ r) levels (slice_index xs) b (r + 8 * levels - n)) (sym len_is)
      (subst (λ b. HasPath (2 ^ r) levels (slice_index xs) b (r + 8 * levels - length p)) (sym b_is) (needed_path r levels p fits m xs has here))

  pub groups_removed : (stored : StoredLaws Hop) {P : Type 0} (laws : LookupLaws P Hop) (xs ys zs : List ℕ) → r + 8 * levels ≤ 200 → HasNeededGroups r levels xs m → KeepsGroups (2 ^ r) levels (slice_index xs) (slice_index ys)
      → Trims r levels b (r + 8 * levels - len) (slice_index ys) (slice_index zs) → Follows r levels zs (without_entry m p) → HasValues (2 ^ r) levels (slice_index zs) → AreWithin (r + 8 * levels) (without_entry m p)
      → HasNeededGroups r levels zs (without_entry m p)
  groups_removed stored laws xs ys zs bound has keeps trims follows values within =
      needed_removed r levels stored laws m p fits ys zs bound (needed_kept r levels m xs ys has keeps)
      (subst (λ n. Trims r levels (first_of (r + 8 * levels) p) (r + 8 * levels - n) (slice_index ys) (slice_index zs)) len_is
      (subst (λ b. Trims r levels b (r + 8 * levels - len) (slice_index ys) (slice_index zs)) b_is trims))
      follows values within

-- a removal of what is not stored leaves the entries
pub absent_removed : (stored : StoredLaws Hop) (m : Entries Hop) (p : List Bool) → get m p ≡ None → without_entry m p ≡ m
absent_removed stored m p none = stored.same (without_entry m p) m each
  where
    each : (q : List Bool) → get (without_entry m p) q ≡ get m q
    each q = elim (same_or_not p q) [
      | inl same ↦ ap (get (without_entry m p)) same.1 ∙ stored.taken m p ∙ sym (ap (get m) same.1 ∙ none)
      | inr other ↦ stored.beside_taken m p q other.1
    ]

-- the blocks that the entries need are those that have groups
pub needed_blocks : (r levels : ℕ) (xs : List ℕ) (m : Entries Hop) (blocks : Nodes) → HasNeededGroups r levels xs m → AreWithin (r + 8 * levels) m → AreNeeded r m blocks → HasBlocks r levels (slice_index xs) blocks
needed_blocks r levels xs m blocks has within are = record {
  each = λ a k ia more. (
    (λ e. (has a k ia more).1 (are.needed (block_of r levels a k) e)),
    (λ h. are.all (block_of r levels a k) (levels - suc k) (block_length r levels a k) ((has a k ia more).0 h)),
  );
  only = only;
}
  where
    only : (p : List Bool) → has_node blocks p ≡ true → (a : ℕ) × (k : ℕ) × IsAddress (2 ^ r) levels a × (suc k ≤ levels) × (p ≡ block_of r levels a k)
    only p e =
        let l = are.lengths p e in
        let n = are.needed p e in
        let most = within n.0 n.1 in
        let longer : length p < length n.0 = n.3 in
        let few : suc l.0 ≤ levels = omega (arith, l.1, longer, most) in
        let fits : length p ≤ r + 8 * levels = omega (arith, longer, most) in
        let size : r + 8 * (levels - suc (levels - suc l.0)) ≡ length p = omega (arith, few, l.1) in (
          first_of (r + 8 * levels) p,
          levels - suc l.0,
          as_address r levels (first_of (r + 8 * levels) p) (first_below p (r + 8 * levels) fits),
          omega (arith, few),
          sym (block_taken r levels (first_of (r + 8 * levels) p) (levels - suc l.0) (omega (arith, few)) ∙
              ap (λ n. take n (digits (r + 8 * levels) (first_of (r + 8 * levels) p))) size ∙ ap (take (length p)) (digits_first p (r + 8 * levels) fits) ∙ take-append_seam p (zeros (r + 8 * levels - length p))),
        )

-- each group is free or one that the entries need
pub used_groups : (r levels made : ℕ) (xs free : List ℕ) (m : Entries Hop) → ∥ HasNeededGroups r levels xs m ∥₁ → AreWithin (r + 8 * levels) m → IsCounted r levels made (slice_index xs) free → len (needed_groups r m) + length free ≡ made
used_groups r levels made xs free m groups within counted =
    ∥∥₁_elim groups (ℕ_set _ _) (λ has. counted (needed_groups r m) (needed_blocks r levels xs m (needed_groups r m) has within (needed_are r m)))

-- keys stay within the width
pub within_inserted : (stored : StoredLaws Hop) (w : ℕ) (m : Entries Hop) (p : List Bool) (v : Hop) → AreWithin w m → length p ≤ w → AreWithin w (with_entry m p v)
within_inserted stored w m p v within fits s here = elim (key_with stored m p v s here) [
  | inl same ↦ (let size : length s ≡ length p = ap length same in omega (arith, size, fits))
  | inr old ↦ within s old
]

-- a stored key is inserted again
pub stored_accepted : (width : ℕ) (s t : State Hop × Storage) (p : List Bool) (v : Hop) (refused : Refused Hop) → contains_key s.0.entries p ≡ true → StepByPath width s (Insert p v) (insert_reply (Err refused)) t → ⊥
stored_accepted width s t p v refused here step = elim step.step [
  | inl value ↦ false≢true (sym (ap is_refusal value.0))
  | inr new ↦ false≢true (sym new.0 ∙ here)
]
