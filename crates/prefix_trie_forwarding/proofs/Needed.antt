-- The blocks that have groups are those that the entries need: after an insertion and after a removal.
use Rattle.std.proofs.Common.{◌≡◌, ◌⊎◌, ◌∙◌, ℕ, suc, ◌+◌, ◌-◌, ◌*◌, ◌/◌, ◌^◌, ◌<◌, ◌≤◌, Bool, true, List, length, take, None, Some, slice_index, refl, sym, ap, subst, arith, inl, inr}
use Rattle.std.specs.Prelude.{IfSome, is_some}
use Rattle.std.specs.FinMap.{contains_key}
use Rattle.std.proofs.lemmas.Bool.{cases_lt, false≢true}
use Rattle.std.proofs.lemmas.List.{take-append-le}
use Rattle.prefix_trie_bits.specs.Begins.{begins-append, begins-linear, begins-same-length, begins-take, begins-trans, take-begins}
use Rattle.prefix_trie_bits.specs.BitStrings.{length-digits, take-digits}
use Rattle.prefix_trie_bits.specs.Calls.Entries.{AreWithin}
use Rattle.prefix_trie_bits.specs.Calls.Matches.{IsLongestMatch}
use Rattle.prefix_trie_bits.specs.Model.Bits.{begins, digits, zeros}
use Rattle.prefix_trie_bits.specs.Model.Entries.{Entries, with_entry, without_entry}
use Rattle.prefix_trie_bits.specs.Model.Matches.{longest_match}
use Rattle.prefix_trie.specs.Laws.Lookups.{IsUncovered, LookupLaws}
use Rattle.prefix_trie.specs.Laws.Stored.{StoredLaws}
use Rattle.prefix_trie_forwarding.specs.Counts.{block_of}
use Rattle.prefix_trie_forwarding.specs.Forwarding.{Follows, answer_of}
use Rattle.prefix_trie_forwarding.specs.Keys.{first_of}
use Rattle.prefix_trie_forwarding.specs.Needs.{HasNeededGroups, IsNeeded}
use Rattle.prefix_trie_forwarding.specs.Slots.{IsSpare, IsUsed, Trims}
use Rattle.prefix_trie_forwarding.specs.Walks.{GainsPath, HasGroup, HasPath, HasValues, IsAddress, KeepsGroups, Reaches, answer, upper}
use Rattle.prefix_trie_forwarding.specs.declared.hop.Hop.{Hop}
use Rattle.prefix_trie_forwarding.proofs.Changes.{same_slot, steps_of}
use Rattle.prefix_trie_forwarding.proofs.Counting.{address_below, block_only, block_same, same_or_not, upper_whole}
use Rattle.prefix_trie_forwarding.proofs.FilledRuns.{group_address}
use Rattle.prefix_trie_forwarding.proofs.Following.{as_address}
use Rattle.prefix_trie_forwarding.proofs.Linking.{has_group_same}
use Rattle.prefix_trie_forwarding.proofs.Matches.{match_cases, range_of, short_match}
use Rattle.prefix_trie_forwarding.proofs.Reading.{digits_first, first_below}
use Rattle.prefix_trie_forwarding.proofs.Walks.{goes_on, value_from-value, value_reached}

-- ---- keys after a change

module _ (stored : StoredLaws Hop) (m : Entries Hop) (p : List Bool) where
  pub key_with : (v : Hop) (q : List Bool) → contains_key (with_entry m p v) q ≡ true → (q ≡ p) ⊎ (contains_key m q ≡ true)
  key_with v q e = elim (same_or_not p q) [
    | inl same ↦ inl same.1
    | inr other ↦ inr (ap is_some (sym (stored.beside_set m p v q other.1)) ∙ e)
  ]

  with_key : (v : Hop) (q : List Bool) → contains_key m q ≡ true → contains_key (with_entry m p v) q ≡ true
  with_key v q e = elim (same_or_not p q) [
    | inl same ↦ ap (λ q. contains_key (with_entry m p v) q) same.1 ∙ ap is_some (stored.set m p v)
    | inr other ↦ ap is_some (stored.beside_set m p v q other.1) ∙ e
  ]

  key_without : (q : List Bool) → contains_key (without_entry m p) q ≡ true → contains_key m q ≡ true
  key_without q e = elim (same_or_not p q) [
    | inl same ↦ absurd (false≢true (sym (ap is_some (stored.taken m p)) ∙ ap (λ q. contains_key (without_entry m p) q) (sym same.1) ∙ e))
    | inr other ↦ ap is_some (sym (stored.beside_taken m p q other.1)) ∙ e
  ]

  without_key : (q : List Bool) → (q ≡ p → ⊥) → contains_key m q ≡ true → contains_key (without_entry m p) q ≡ true
  without_key q ne e = ap is_some (stored.beside_taken m p q ne) ∙ e

-- ---- blocks and networks

module _ (r levels : ℕ) where
  pub block_length : (a k : ℕ) → length (block_of r levels a k) ≡ r + 8 * (levels - suc k)
  block_length a k = length-digits (r + 8 * (levels - suc k)) (upper (suc k) a)

  pub block_taken : (a k : ℕ) → suc k ≤ levels → block_of r levels a k ≡ take (r + 8 * (levels - suc k)) (digits (r + 8 * levels) a)
  unfolding upper
  block_taken a k more =
      let rest : r + 8 * levels - (r + 8 * (levels - suc k)) ≡ 8 * suc k = omega (arith, more) in
      sym (take-digits (r + 8 * (levels - suc k)) (r + 8 * levels) a (omega arith) ∙ ap (λ n. digits (r + 8 * (levels - suc k)) (a / 2 ^ n)) rest)

  block_begins : (a k : ℕ) → suc k ≤ levels → begins (block_of r levels a k) (digits (r + 8 * levels) a) ≡ true
  block_begins a k more = ap (λ p. begins p (digits (r + 8 * levels) a)) (block_taken a k more) ∙ take-begins (r + 8 * (levels - suc k)) (digits (r + 8 * levels) a)

  -- an outer block begins an inner one
  block_above : (a k j : ℕ) → k ≤ j → suc j ≤ levels → begins (block_of r levels a j) (block_of r levels a k) ≡ true
  block_above a k j le more =
      begins-linear (block_of r levels a j) (block_of r levels a k) (digits (r + 8 * levels) a) (block_begins a j more) (block_begins a k (omega (arith, le, more)))
      (let x = block_length a j in let y = block_length a k in omega (arith, x, y, le))

  -- the blocks of an address are those of each address that begins with them
  in_block : (a c k : ℕ) → IsAddress (2 ^ r) levels a → IsAddress (2 ^ r) levels c → suc k ≤ levels → begins (block_of r levels a k) (digits (r + 8 * levels) c) ≡ true → upper (suc k) c ≡ upper (suc k) a
  in_block a c k ia ic more e =
      let x = block_length a k in
      let y = block_length c k in
      let same : block_of r levels c k ≡ block_of r levels a k =
      begins-same-length (block_of r levels c k) (block_of r levels a k) (begins-linear (block_of r levels c k) (block_of r levels a k) (digits (r + 8 * levels) c) (block_begins c k more) e (omega (arith, x, y))) (omega (arith, x, y)) in
      (block_only r levels c a k k ic ia more more same).1

  module _ (p : List Bool) (fits : length p ≤ r + 8 * levels) where
    -- the blocks of a network's path
    path_taken : (k : ℕ) → suc k ≤ levels → r + 8 * levels - length p < 8 * suc k → block_of r levels (first_of (r + 8 * levels) p) k ≡ take (r + 8 * (levels - suc k)) p
    path_taken k more on =
        block_taken (first_of (r + 8 * levels) p) k more ∙ ap (take (r + 8 * (levels - suc k))) (digits_first p (r + 8 * levels) fits) ∙
        take-append-le (r + 8 * (levels - suc k)) p (zeros (r + 8 * levels - length p)) (omega (arith, more, on, fits))

    path_begins : (k : ℕ) → suc k ≤ levels → r + 8 * levels - length p < 8 * suc k → begins (block_of r levels (first_of (r + 8 * levels) p) k) p ≡ true
    path_begins k more on = ap (λ b. begins b p) (path_taken k more on) ∙ take-begins (r + 8 * (levels - suc k)) p

    pub path_needs : {T : Type 0} (m : Entries T) (k : ℕ) → contains_key m p ≡ true → suc k ≤ levels → r + 8 * levels - length p < 8 * suc k → IsNeeded m (block_of r levels (first_of (r + 8 * levels) p) k)
    path_needs m k here more on = (p, here, path_begins k more on, (let x = block_length (first_of (r + 8 * levels) p) k in omega (arith, x, more, on, fits)))

    on_path : (a k : ℕ) → IsAddress (2 ^ r) levels a → suc k ≤ levels → begins (block_of r levels a k) p ≡ true → length (block_of r levels a k) < length p
        → (r + 8 * levels - length p < 8 * suc k) × (upper (suc k) a ≡ upper (suc k) (first_of (r + 8 * levels) p))
    on_path a k ia more e shorter =
        let x = block_length a k in
        let on : r + 8 * levels - length p < 8 * suc k = omega (arith, x, shorter, more, fits) in
        let ib = as_address r levels (first_of (r + 8 * levels) p) (first_below p (r + 8 * levels) fits) in
        let same : block_of r levels a k ≡ block_of r levels (first_of (r + 8 * levels) p) k =
        sym (begins-take (block_of r levels a k) p e) ∙ ap (λ n. take n p) x ∙ sym (path_taken k more on) in
        (on, (block_only r levels a (first_of (r + 8 * levels) p) k k ia ib more more same).1)

    -- ---- an insertion

    pub needed_inserted : (stored : StoredLaws Hop) (m : Entries Hop) (v : Hop) (s t : List ℕ) → HasNeededGroups r levels s m
        → GainsPath (2 ^ r) levels (first_of (r + 8 * levels) p) (r + 8 * levels - length p) (slice_index s) (slice_index t) → HasNeededGroups r levels t (with_entry m p v)
    needed_inserted stored m v s t has gains a k ia more = (forth, back)
      where
        forth : HasGroup (2 ^ r) levels (slice_index t) a k → IsNeeded (with_entry m p v) (block_of r levels a k)
        forth h = elim ((gains a k ia).0 h) [
          | inl old ↦ let n = (has a k ia more).0 old in (n.0, with_key stored m p v n.0 n.1, n.2, n.3)
          | inr new ↦
              let n = path_needs (with_entry m p v) k (ap is_some (stored.set m p v)) more new.1 in
              subst (λ b. IsNeeded (with_entry m p v) b) (sym (block_same r levels a (first_of (r + 8 * levels) p) k k refl new.2)) n
        ]

        back : IsNeeded (with_entry m p v) (block_of r levels a k) → HasGroup (2 ^ r) levels (slice_index t) a k
        back n = elim (key_with stored m p v n.0 n.1) [
          | inl same ↦
              let o = on_path a k ia more (ap (begins (block_of r levels a k)) (sym same) ∙ n.2) (let l : length (block_of r levels a k) < length n.0 = n.3 in omega (arith, l, ap length same)) in
              (gains a k ia).1 (inr (more, o.0, o.1))
          | inr old ↦ (gains a k ia).1 (inl ((has a k ia more).1 (n.0, old, n.2, n.3)))
        ]

    -- the path of a stored network is there
    pub needed_path : (m : Entries Hop) (s : List ℕ) → HasNeededGroups r levels s m → contains_key m p ≡ true → HasPath (2 ^ r) levels (slice_index s) (first_of (r + 8 * levels) p) (r + 8 * levels - length p)
    needed_path m s has here n k x reached more =
        let b = first_of (r + 8 * levels) p in
        let depth = steps_of (2 ^ r) levels (slice_index s) (first_of (r + 8 * levels) p) n k x reached in
        let level : suc (k - 1) ≡ k = omega (arith, more) in
        let ib = as_address r levels (first_of (r + 8 * levels) p) (first_below p (r + 8 * levels) fits) in
        let h = (has (first_of (r + 8 * levels) p) (k - 1) ib (omega (arith, depth, level))).1 (path_needs m (k - 1) here (omega (arith, depth, level)) (omega (arith, more, level))) in
        let same = same_slot (2 ^ r) levels (slice_index s) (first_of (r + 8 * levels) p) h.0 n (suc (k - 1)) h.1 x h.2 (subst (λ k. Reaches (2 ^ r) levels (slice_index s) (first_of (r + 8 * levels) p) n k x) (sym level) reached) in
        subst (λ x. 2147483648 ≤ slice_index s x) same h.3

  -- ---- a removal

  module _ {P : Type 0} (laws : LookupLaws P Hop) (n : Entries Hop) (t : List ℕ) (follows : Follows r levels t n) (values : HasValues (2 ^ r) levels (slice_index t)) where
    -- an answer above a length is that of a longer match, so its block is needed
    answer_needs : (c k : ℕ) → c < 2 ^ (r + 8 * levels) → suc k ≤ levels → (r + 8 * (levels - suc k) + 2) * 8388608 ≤ answer (2 ^ r) levels (slice_index t) c → IsNeeded n (block_of r levels c k)
    answer_needs c k small more long = elim (match_cases laws n (digits (r + 8 * levels) c)) [
      | inl none ↦ absurd (let e = follows c small ∙ ap answer_of none.0 in omega (arith, e, long))
      | inr e ↦
          let is = follows c small ∙ ap answer_of e.1 in
          let range = range_of e.0 in
          let x = block_length c k in
          let longer : r + 8 * (levels - suc k) < length e.0.0 = omega (arith, is, range.1, long) in
          (e.0.0, ap is_some e.2.matches.stored, begins-linear (block_of r levels c k) e.0.0 (digits (r + 8 * levels) c) (block_begins c k more) e.2.matches.begins_it (omega (arith, x, longer)), omega (arith, x, longer))
    ]

    -- and one at most is that of the block
    answer_short : (c k : ℕ) → c < 2 ^ (r + 8 * levels) → suc k ≤ levels → answer (2 ^ r) levels (slice_index t) c < (r + 8 * (levels - suc k) + 2) * 8388608
        → answer (2 ^ r) levels (slice_index t) c ≡ answer_of (longest_match n (block_of r levels c k))
    answer_short c k small more short =
        follows c small ∙ ap answer_of (short_match laws n (block_of r levels c k) (digits (r + 8 * levels) c) (block_begins c k more) (shorter (match_cases laws n (digits (r + 8 * levels) c))))
      where
        shorter : ((longest_match n (digits (r + 8 * levels) c) ≡ None) × IsUncovered n (digits (r + 8 * levels) c)) ⊎ ((e : List Bool × Hop) × (longest_match n (digits (r + 8 * levels) c) ≡ Some e) × IsLongestMatch n (digits (r + 8 * levels) c) e) → IfSome (longest_match n (digits (r + 8 * levels) c)) (λ e. length e.0 ≤ length (block_of r levels c k))
        shorter (inl none) = subst (λ o. IfSome o (λ e. length e.0 ≤ length (block_of r levels c k))) (sym none.0) tt
        shorter (inr e) =
            subst (λ o. IfSome o (λ e. length e.0 ≤ length (block_of r levels c k))) (sym e.1)
            (let is = follows c small ∙ ap answer_of e.1 in let range = range_of e.0 in let x = block_length c k in omega (arith, is, range.0, short, x))

    module _ (within : AreWithin (r + 8 * levels) n) where
      -- a spare block is not needed
      spare_unneeded : (a k : ℕ) → IsAddress (2 ^ r) levels a → suc k ≤ levels → IsSpare r levels (slice_index t) a k → IsNeeded n (block_of r levels a k) → ⊥
      spare_unneeded a k ia more spare needed =
          let q : List Bool = needed.0 in
          let fits = within needed.0 needed.1 in
          let c : ℕ = first_of (r + 8 * levels) needed.0 in
          let small = first_below needed.0 (r + 8 * levels) fits in
          let here : begins needed.0 (digits (r + 8 * levels) (first_of (r + 8 * levels) needed.0)) ≡ true =
          ap (begins needed.0) (digits_first needed.0 (r + 8 * levels) fits) ∙ begins-append needed.0 (zeros (r + 8 * levels - length needed.0)) in
          let ic = as_address r levels (first_of (r + 8 * levels) needed.0) small in
          let least = spare (first_of (r + 8 * levels) needed.0) ic (in_block a (first_of (r + 8 * levels) needed.0) k ia ic more (begins-trans (block_of r levels a k) needed.0 (digits (r + 8 * levels) (first_of (r + 8 * levels) needed.0)) needed.2 here)) in
          let x = block_length a k in
          let longer : length (block_of r levels a k) < length needed.0 = needed.3 in
          elim (match_cases laws n (digits (r + 8 * levels) (first_of (r + 8 * levels) needed.0))) [
            | inl none ↦ false≢true (sym (none.1 needed.0 needed.1) ∙ here)
            | inr e ↦ (
                let is = follows (first_of (r + 8 * levels) needed.0) small ∙ ap answer_of e.1 in
                let range = range_of e.0 in
                let most = e.2.longest needed.0 needed.1 here in
                omega (arith, is, range.0, most, least, x, longer))
          ]

    module _ (b j : ℕ) (ib : IsAddress (2 ^ r) levels b) (more : suc j ≤ levels) (used : IsUsed r levels (slice_index t) b j)
        (inner : (c i : ℕ) → IsAddress (2 ^ r) levels c → suc i ≤ j → upper (suc j) c ≡ upper (suc j) b → HasGroup (2 ^ r) levels (slice_index t) c i → IsNeeded n (block_of r levels c i)) where
      low : ℕ
      low = 2 ^ r + 256 * (slice_index t used.at - 2147483648)

      -- a slot that refers to a group, or has the answer of a longer match
      slot_needs : (i : ℕ) → i < 256 → (r + 8 * (levels - suc j) + 2) * 8388608 ≤ slice_index t (low + i) → IsNeeded n (block_of r levels b j)
      unfolding low
      slot_needs i small long =
          let w = group_address (2 ^ r) levels used.steps j used.at b i (slice_index t) more small ib used.reached used.group in
          let same = block_same r levels w.0 b j j refl w.3 in
          elim (cases_lt (slice_index t (2 ^ r + 256 * (slice_index t used.at - 2147483648) + i)) 2147483648) [
            | inl l ↦
                let is = sym (value_reached (2 ^ r) levels (slice_index t) w.0 (suc used.steps) j (2 ^ r + 256 * (slice_index t used.at - 2147483648) + i) w.2) ∙
                value_from-value (2 ^ r) (slice_index t) w.0 j (2 ^ r + 256 * (slice_index t used.at - 2147483648) + i) l in
                subst (λ p. IsNeeded n p) same (answer_needs w.0 j (address_below w.0 r (8 * levels) (upper_whole levels w.0 r w.1)) more (omega (arith, is, long)))
            | inr g ↦
                let some = goes_on (2 ^ r) (slice_index t) w.0 j (2 ^ r + 256 * (slice_index t used.at - 2147483648) + i) _ (value_reached (2 ^ r) levels (slice_index t) w.0 (suc used.steps) j (2 ^ r + 256 * (slice_index t used.at - 2147483648) + i) w.2) (values w.0 w.1) g in
                let level : j ≡ suc (j - 1) = omega (arith, some) in
                let h : HasGroup (2 ^ r) levels (slice_index t) w.0 (j - 1) =
                (suc used.steps, 2 ^ r + 256 * (slice_index t used.at - 2147483648) + i, subst (λ k. Reaches (2 ^ r) levels (slice_index t) w.0 (suc used.steps) k (2 ^ r + 256 * (slice_index t used.at - 2147483648) + i)) level w.2, g) in
                let m = inner w.0 (j - 1) w.1 (omega (arith, some)) w.3 h in
                let x = block_length w.0 j in
                let y = block_length w.0 (j - 1) in
                let shorter : length (block_of r levels w.0 (j - 1)) < length m.0 = m.3 in
                subst (λ p. IsNeeded n p) same (m.0, m.1, begins-trans (block_of r levels w.0 j) (block_of r levels w.0 (j - 1)) m.0 (block_above w.0 (j - 1) j (omega arith) more) m.2, omega (arith, x, y, shorter))
          ]

      -- the slots of a group with answers of no longer match have one answer
      slot_answers : (i : ℕ) → i < 256 → r + 8 * levels ≤ 200 → slice_index t (low + i) < (r + 8 * (levels - suc j) + 2) * 8388608 → slice_index t (low + i) ≡ answer_of (longest_match n (block_of r levels b j))
      unfolding low
      slot_answers i small bound short =
          let w = group_address (2 ^ r) levels used.steps j used.at b i (slice_index t) more small ib used.reached used.group in
          let same = block_same r levels w.0 b j j refl w.3 in
          let is = sym (value_reached (2 ^ r) levels (slice_index t) w.0 (suc used.steps) j (2 ^ r + 256 * (slice_index t used.at - 2147483648) + i) w.2) ∙
          value_from-value (2 ^ r) (slice_index t) w.0 j (2 ^ r + 256 * (slice_index t used.at - 2147483648) + i) (omega (arith, short, bound)) in
          sym is ∙ answer_short w.0 j (address_below w.0 r (8 * levels) (upper_whole levels w.0 r w.1)) more (omega (arith, is, short)) ∙ ap (λ p. answer_of (longest_match n p)) same

      -- a used block is needed, if its inner blocks that have groups are
      used_needed : r + 8 * levels ≤ 200 → IsNeeded n (block_of r levels b j)
      unfolding low
      used_needed bound =
          let zero_at : 2 ^ r + 256 * (slice_index t used.at - 2147483648) + 0 ≡ 2 ^ r + 256 * (slice_index t used.at - 2147483648) = omega arith in
          let first = ap (slice_index t) zero_at in
          elim (cases_lt (slice_index t (2 ^ r + 256 * (slice_index t used.at - 2147483648))) ((r + 8 * (levels - suc j) + 2) * 8388608)) [
            | inr g ↦ slot_needs 0 (omega arith) (omega (arith, g, first))
            | inl l ↦ elim (cases_lt (slice_index t (2 ^ r + 256 * (slice_index t used.at - 2147483648) + used.slot)) ((r + 8 * (levels - suc j) + 2) * 8388608)) [
              | inr g ↦ slot_needs used.slot used.inside g
              | inl h ↦ absurd (elim used.used [
                | inl long ↦ omega (arith, l, long)
                | inr ne ↦ ne (slot_answers used.slot used.inside bound h ∙ sym (slot_answers 0 (omega arith) bound (omega (arith, l, first))) ∙ first)
              ])
            ]
          ]

  module _ (stored : StoredLaws Hop) {P : Type 0} (laws : LookupLaws P Hop) (m : Entries Hop) (p : List Bool) (fits : length p ≤ r + 8 * levels) (s t : List ℕ) (bound : r + 8 * levels ≤ 200)
      (has : HasNeededGroups r levels s m) (trims : Trims r levels (first_of (r + 8 * levels) p) (r + 8 * levels - length p) (slice_index s) (slice_index t))
      (follows : Follows r levels t (without_entry m p)) (values : HasValues (2 ^ r) levels (slice_index t)) (within : AreWithin (r + 8 * levels) (without_entry m p)) where
    first_is : IsAddress (2 ^ r) levels (first_of (r + 8 * levels) p)
    first_is = as_address r levels (first_of (r + 8 * levels) p) (first_below p (r + 8 * levels) fits)

    -- what is needed before is needed after, unless it is on the path
    still : (c i : ℕ) → IsAddress (2 ^ r) levels c → suc i ≤ levels → HasGroup (2 ^ r) levels (slice_index t) c i
        → IsNeeded (without_entry m p) (block_of r levels c i) ⊎ ((r + 8 * levels - length p < 8 * suc i) × (upper (suc i) c ≡ upper (suc i) (first_of (r + 8 * levels) p)))
    still c i ic more h =
        let q = (has c i ic more).0 (trims.less c i ic h) in
        elim (same_or_not p q.0) [
          | inl same ↦ inr (on_path p fits c i ic more (ap (begins (block_of r levels c i)) (sym same.1) ∙ q.2) (let l : length (block_of r levels c i) < length q.0 = q.3 in omega (arith, l, ap length same.1)))
          | inr other ↦ inl (q.0, without_key stored m p q.0 other.1 q.1, q.2, q.3)
        ]

    path_needed : (k : ℕ) → suc k ≤ levels → r + 8 * levels - length p < 8 * suc k → HasGroup (2 ^ r) levels (slice_index t) (first_of (r + 8 * levels) p) k
        → IsNeeded (without_entry m p) (block_of r levels (first_of (r + 8 * levels) p) k)
    path_needed k more on h =
        let b = first_of (r + 8 * levels) p in
        let e = trims.ends k on h in
        let le : e.0 ≤ k = e.1 in
        let n = used_needed laws (without_entry m p) t follows values (first_of (r + 8 * levels) p) e.0 first_is (omega (arith, le, more)) e.3 (inner e.0 (omega (arith, le, more)) e.4) bound in
        let x = block_length (first_of (r + 8 * levels) p) k in
        let y = block_length (first_of (r + 8 * levels) p) e.0 in
        let shorter : length (block_of r levels (first_of (r + 8 * levels) p) e.0) < length n.0 = n.3 in
        (n.0, n.1, begins-trans (block_of r levels (first_of (r + 8 * levels) p) k) (block_of r levels (first_of (r + 8 * levels) p) e.0) n.0 (block_above (first_of (r + 8 * levels) p) e.0 k le more) n.2, omega (arith, x, y, le, shorter))
      where
        inner : (j : ℕ) → suc j ≤ levels → ((i : ℕ) → i < j → r + 8 * levels - length p < 8 * suc i → HasGroup (2 ^ r) levels (slice_index t) (first_of (r + 8 * levels) p) i → ⊥)
            → (c i : ℕ) → IsAddress (2 ^ r) levels c → suc i ≤ j → upper (suc j) c ≡ upper (suc j) (first_of (r + 8 * levels) p) → HasGroup (2 ^ r) levels (slice_index t) c i → IsNeeded (without_entry m p) (block_of r levels c i)
        inner j in_levels none c i ic le up g = elim (still c i ic (omega (arith, le, in_levels)) g) [
          | inl n ↦ n
          | inr o ↦ absurd (none i (omega (arith, le)) o.0 (has_group_same (2 ^ r) levels (slice_index t) (first_of (r + 8 * levels) p) c i (sym o.1) g))
        ]

    pub needed_removed : HasNeededGroups r levels t (without_entry m p)
    needed_removed a k ia more = (forth, back)
      where
        forth : HasGroup (2 ^ r) levels (slice_index t) a k → IsNeeded (without_entry m p) (block_of r levels a k)
        forth h = elim (still a k ia more h) [
          | inl n ↦ n
          | inr o ↦
              subst (λ b. IsNeeded (without_entry m p) b) (sym (block_same r levels a (first_of (r + 8 * levels) p) k k refl o.1))
              (path_needed k more o.0 (has_group_same (2 ^ r) levels (slice_index t) (first_of (r + 8 * levels) p) a k (sym o.1) h))
        ]

        back : IsNeeded (without_entry m p) (block_of r levels a k) → HasGroup (2 ^ r) levels (slice_index t) a k
        back n = elim (trims.kept a k ia ((has a k ia more).1 (n.0, key_without stored m p n.0 n.1, n.2, n.3))) [
          | inl h ↦ h
          | inr o ↦ absurd (spare_unneeded laws (without_entry m p) t follows values within a k ia more
              (λ c ic up. subst (λ v. v < (r + 8 * (levels - suc k) + 2) * 8388608) (sym (trims.same c ic)) (o.2 c ic up)) n)
        ]

-- the same groups are needed
pub needed_kept : {T : Type 0} (r levels : ℕ) (m : Entries T) (s t : List ℕ) → HasNeededGroups r levels s m → KeepsGroups (2 ^ r) levels (slice_index s) (slice_index t) → HasNeededGroups r levels t m
needed_kept r levels m s t has keeps a k ia more = ((λ h. (has a k ia more).0 ((keeps a k ia).0 h)), (λ n. (keeps a k ia).1 ((has a k ia more).1 n)))
