-- How the longest matches of addresses follow an insertion or a removal: what `insert` and `remove` have to write.
use Rattle.std.proofs.Common.{◌≡◌, ◌≢◌, ◌∙◌, ◌⊎◌, ℕ, ◌+◌, ◌-◌, ◌*◌, ◌<◌, ◌≤◌, Bool, true, false, cond, List, length, Option, None, Some, refl, sym, ap, ap₂, subst, arith, inl, inr}
use Rattle.std.specs.Prelude.{IfSome, MatchOption, is_some}
use Rattle.std.specs.FinMap.{get, contains_key}
use Rattle.std.proofs.lemmas.Bool.{cases_Bool, cases_lt, cases_order, cond-true, cond-false, false≢true, le-leb}
use Rattle.prefix_trie_bits.specs.Begins.{begins-linear, begins-same-length, begins-trans, leb-past, same_bool}
use Rattle.prefix_trie_bits.specs.Calls.Matches.{IsLongestMatch}
use Rattle.prefix_trie_bits.specs.Model.Bits.{begins}
use Rattle.prefix_trie_bits.specs.Model.Entries.{Entries, with_entry, without_entry}
use Rattle.prefix_trie_bits.specs.Model.Matches.{longest_match}
use Rattle.prefix_trie.specs.Laws.Lookups.{IsUncovered, LookupLaws}
use Rattle.prefix_trie.specs.Laws.Stored.{StoredLaws}
use Rattle.prefix_trie_forwarding.specs.Forwarding.{answer_of}
use Rattle.prefix_trie_forwarding.specs.Walks.{changed}
use Rattle.prefix_trie_forwarding.specs.declared.hop.Hop.{Hop}

-- ---- answers that change

pub changed_in : (least most to e : ℕ) → least ≤ e → e ≤ most → changed least most to e ≡ to
changed_in least most to e l h = cond-true _ _ _ (le-leb least e l) ∙ cond-true _ _ _ (le-leb e most h)

pub changed_under : (least most to e : ℕ) → e < least → changed least most to e ≡ e
changed_under least most to e l = cond-false _ _ _ (leb-past least e l)

pub changed_over : (least most to e : ℕ) → least ≤ e → most < e → changed least most to e ≡ e
changed_over least most to e l h = cond-true _ _ _ (le-leb least e l) ∙ cond-false _ _ _ (leb-past e most h)

-- the answer of a match of a length
pub range_of : (e : List Bool × Hop) → ((length e.0 + 1) * 8388608 ≤ answer_of (Some e)) × (answer_of (Some e) < (length e.0 + 2) * 8388608)
range_of e = let small = e.1.small in (omega arith, omega (arith, small))

pub answer_below : (found : Option (List Bool × Hop)) → IfSome found (λ e. length e.0 ≤ 128) → answer_of found < 2147483648
answer_below None short = omega arith
answer_below (Some e) short = let r = (range_of e).1 in omega (arith, r, short)

-- the key of a match, or another one
abbrev key_or : List Bool → Option (List Bool × Hop) → List Bool
key_or d None = d
key_or d (Some e) = e.0

-- the hop in an option, or another one
abbrev hop_or : Hop → Option Hop → Hop
hop_or d None = d
hop_or d (Some h) = h

module _ {P : Type 0} (laws : LookupLaws P Hop) (m : Entries Hop) where
  -- the longest match, with its cases
  pub match_cases : (q : List Bool) → ((longest_match m q ≡ None) × IsUncovered m q) ⊎ ((e : List Bool × Hop) × (longest_match m q ≡ Some e) × IsLongestMatch m q e)
  match_cases q = cases (longest_match m q) refl (laws.found m q)
    where
      cases : (found : Option (List Bool × Hop)) → longest_match m q ≡ found → MatchOption found (IsUncovered m q) (IsLongestMatch m q)
          → ((longest_match m q ≡ None) × IsUncovered m q) ⊎ ((e : List Bool × Hop) × (longest_match m q ≡ Some e) × IsLongestMatch m q e)
      cases None e h = inl (e, h)
      cases (Some x) e h = inr (x, e, h)

  stored_key : (q : List Bool) (e : List Bool × Hop) → IsLongestMatch m q e → contains_key m e.0 ≡ true
  stored_key q e is = ap is_some is.matches.stored

  -- strings that begin with the same keys have the same longest match
  pub same_match : (p q : List Bool) → ((s : List Bool) → contains_key m s ≡ true → begins s p ≡ begins s q) → longest_match m p ≡ longest_match m q
  same_match p q same = elim (match_cases p) [
    | inl n ↦ elim (match_cases q) [
      | inl k ↦ n.0 ∙ sym k.0
      | inr f ↦ absurd (false≢true (sym (n.1 f.0.0 (stored_key q f.0 f.2)) ∙ same f.0.0 (stored_key q f.0 f.2) ∙ f.2.matches.begins_it))
    ]
    | inr e ↦ elim (match_cases q) [
      | inl k ↦ absurd (false≢true (sym (k.1 e.0.0 (stored_key p e.0 e.2)) ∙ sym (same e.0.0 (stored_key p e.0 e.2)) ∙ e.2.matches.begins_it))
      | inr f ↦ e.1 ∙ ap Some (one e.0 f.0 e.2 f.2) ∙ sym f.1
    ]
  ]
    where
      one : (e f : List Bool × Hop) → IsLongestMatch m p e → IsLongestMatch m q f → e ≡ f
      one e f is are =
          let begins_p : begins f.0 p ≡ true = same f.0 (stored_key q f are) ∙ are.matches.begins_it in
          let begins_q : begins e.0 q ≡ true = sym (same e.0 (stored_key p e is)) ∙ is.matches.begins_it in
          let shorter = is.longest f.0 (stored_key q f are) begins_p in
          let longer = are.longest e.0 (stored_key p e is) begins_q in
          let key : e.0 ≡ f.0 = begins-same-length e.0 f.0 (begins-linear e.0 f.0 p is.matches.begins_it begins_p longer) (omega (arith, shorter, longer)) in
          ap₂ (λ k v. (k, v)) key (ap (hop_or e.1) (sym is.matches.stored ∙ ap (get m) key ∙ are.matches.stored))

  -- the longest match of q is that of a string that q begins with, if it is no longer than that
  pub short_match : (p q : List Bool) → begins p q ≡ true → IfSome (longest_match m q) (λ e. length e.0 ≤ length p) → longest_match m q ≡ longest_match m p
  short_match p q within short = same_match q p (λ s stored. same_bool (begins s q) (begins s p) (forth s stored) (λ h. begins-trans s p q h within))
    where
      forth : (s : List Bool) → contains_key m s ≡ true → begins s q ≡ true → begins s p ≡ true
      forth s stored h = elim (match_cases q) [
        | inl n ↦ absurd (false≢true (sym (n.1 s stored) ∙ h))
        | inr e ↦
            let most : length e.0.0 ≤ length p = subst (λ o. IfSome o (λ e. length e.0 ≤ length p)) e.1 short in
            let least = e.2.longest s stored h in
            begins-linear s p q h within (omega (arith, least, most))
      ]

  -- a key that is longer than the longest match of a string that begins with the key is not stored
  pub shorter_answer : (s q : List Bool) → begins s q ≡ true → answer_of (longest_match m q) < (length s + 1) * 8388608 → get m s ≡ None
  shorter_answer s q within small = cases (get m s) refl
    where
      stored : (v : Hop) → get m s ≡ Some v → ⊥
      stored v e = elim (match_cases q) [
        | inl n ↦ false≢true (sym (n.1 s (ap is_some e)) ∙ within)
        | inr x ↦
            let longer = x.2.longest s (ap is_some e) within in
            let r = (range_of x.0).0 in
            let same : answer_of (longest_match m q) ≡ answer_of (Some x.0) = ap answer_of x.1 in
            omega (arith, longer, r, same, small)
      ]

      cases : (o : Option Hop) → get m s ≡ o → get m s ≡ None
      cases None e = e
      cases (Some v) e = absurd (stored v e)

  module _ (s : List Bool) where
    -- what becomes of the answers of the addresses of a network that gets a hop
    pub inserted : (v : Hop) (q : List Bool) → answer_of (longest_match (with_entry m s v) q)
        ≡ cond (begins s q) (changed 0 ((length s + 2) * 8388608 - 1) ((length s + 1) * 8388608 + v.number) (answer_of (longest_match m q))) (answer_of (longest_match m q))
    inserted v q = elim (cases_Bool (begins s q)) [
      | inl e ↦ within e ∙ sym (cond-true _ _ _ e)
      | inr e ↦ ap answer_of (laws.set_aside m q s v e) ∙ sym (cond-false _ _ _ e)
    ]
      where
        within : begins s q ≡ true → answer_of (longest_match (with_entry m s v) q) ≡ changed 0 ((length s + 2) * 8388608 - 1) ((length s + 1) * 8388608 + v.number) (answer_of (longest_match m q))
        within e = elim (match_cases q) [
          | inl n ↦
              ap answer_of (laws.set m q s v e (subst (λ o. IfSome o (λ e. length e.0 ≤ length s)) (sym n.0) tt)) ∙
              sym (ap (λ o. changed 0 ((length s + 2) * 8388608 - 1) ((length s + 1) * 8388608 + v.number) (answer_of o)) n.0 ∙
              changed_in 0 ((length s + 2) * 8388608 - 1) ((length s + 1) * 8388608 + v.number) 0 (omega arith) (omega arith))
          | inr x ↦
              let r = range_of x.0 in
              let put = ap (λ o. changed 0 ((length s + 2) * 8388608 - 1) ((length s + 1) * 8388608 + v.number) (answer_of o)) x.1 in
              elim (cases_lt (length s) (length x.0.0)) [
                | inl l ↦
                    ap answer_of (laws.set_shorter m q s v x.0 x.1 l) ∙
                    sym (put ∙ changed_over 0 ((length s + 2) * 8388608 - 1) ((length s + 1) * 8388608 + v.number) (answer_of (Some x.0)) (omega arith) (omega (arith, r.0, l)))
                | inr g ↦
                    ap answer_of (laws.set m q s v e (subst (λ o. IfSome o (λ e. length e.0 ≤ length s)) (sym x.1) g)) ∙
                    sym (put ∙ changed_in 0 ((length s + 2) * 8388608 - 1) ((length s + 1) * 8388608 + v.number) (answer_of (Some x.0)) (omega arith) (omega (arith, r.1, g)))
              ]
        ]

module _ {P : Type 0} (laws : LookupLaws P Hop) (m : Entries Hop) (s : List Bool) (stored : StoredLaws Hop) where
  kept_key : (y : List Bool × Hop) (q : List Bool) → IsLongestMatch (without_entry m s) q y → contains_key m y.0 ≡ true
  kept_key y q is =
      let other : y.0 ≢ s = λ same. false≢true (ap is_some (sym (stored.taken m s) ∙ sym (ap (get (without_entry m s)) same) ∙ is.matches.stored)) in
      ap is_some (sym (stored.beside_taken m s y.0 other) ∙ is.matches.stored)

  -- what becomes of them when its hop is removed
  pub removed : (q : List Bool) → answer_of (longest_match (without_entry m s) q)
      ≡ cond (begins s q) (changed ((length s + 1) * 8388608) ((length s + 2) * 8388608 - 1) (answer_of (longest_match (without_entry m s) s)) (answer_of (longest_match m q))) (answer_of (longest_match m q))
  removed q = elim (cases_Bool (begins s q)) [
    | inl e ↦ within e ∙ sym (cond-true _ _ _ e)
    | inr e ↦ ap answer_of (laws.taken_aside m q s (beside e (match_cases laws m q))) ∙ sym (cond-false _ _ _ e)
  ]
    where
      beside : begins s q ≡ false → ((longest_match m q ≡ None) × IsUncovered m q) ⊎ ((e : List Bool × Hop) × (longest_match m q ≡ Some e) × IsLongestMatch m q e)
          → IfSome (longest_match m q) (λ e. e.0 ≢ s)
      beside e (inl n) = subst (λ o. IfSome o (λ e. e.0 ≢ s)) (sym n.0) tt
      beside e (inr x) = subst (λ o. IfSome o (λ e. e.0 ≢ s)) (sym x.1) (λ same. false≢true (sym e ∙ ap (λ k. begins k q) (sym same) ∙ x.2.matches.begins_it))

      other_length : (x : List Bool × Hop) → longest_match m q ≡ Some x → length x.0 ≢ length s → IfSome (longest_match m q) (λ e. e.0 ≢ s)
      other_length x is ne = subst (λ o. IfSome o (λ e. e.0 ≢ s)) (sym is) (λ same. ne (ap length same))

      shorter : (x : List Bool × Hop) → IsLongestMatch m q x → length x.0 ≡ length s → IfSome (longest_match (without_entry m s) q) (λ e. length e.0 ≤ length s)
      shorter x is same = elim (match_cases laws (without_entry m s) q) [
        | inl n ↦ subst (λ o. IfSome o (λ e. length e.0 ≤ length s)) (sym n.0) tt
        | inr y ↦ subst (λ o. IfSome o (λ e. length e.0 ≤ length s)) (sym y.1) (let l = is.longest y.0.0 (kept_key y.0 q y.2) y.2.matches.begins_it in omega (arith, l, same))
      ]

      within : begins s q ≡ true → answer_of (longest_match (without_entry m s) q)
          ≡ changed ((length s + 1) * 8388608) ((length s + 2) * 8388608 - 1) (answer_of (longest_match (without_entry m s) s)) (answer_of (longest_match m q))
      within e = elim (match_cases laws m q) [
        | inl n ↦
            let put = ap (λ o. changed ((length s + 1) * 8388608) ((length s + 2) * 8388608 - 1) (answer_of (longest_match (without_entry m s) s)) (answer_of o)) n.0 in
            ap answer_of (laws.taken_aside m q s (subst (λ o. IfSome o (λ e. e.0 ≢ s)) (sym n.0) tt) ∙ n.0) ∙
            sym (put ∙ changed_under ((length s + 1) * 8388608) ((length s + 2) * 8388608 - 1) (answer_of (longest_match (without_entry m s) s)) 0 (omega arith))
        | inr x ↦
            let r = range_of x.0 in
            let put = ap (λ o. changed ((length s + 1) * 8388608) ((length s + 2) * 8388608 - 1) (answer_of (longest_match (without_entry m s) s)) (answer_of o)) x.1 in
            elim (cases_order (length x.0.0) (length s)) [
              | inl same ↦
                  ap answer_of (short_match laws (without_entry m s) s q e (shorter x.0 x.2 same)) ∙
                  sym (put ∙ changed_in ((length s + 1) * 8388608) ((length s + 2) * 8388608 - 1) (answer_of (longest_match (without_entry m s) s)) (answer_of (Some x.0)) (omega (arith, r.0, same)) (omega (arith, r.1, same)))
              | inr (inl l) ↦
                  ap answer_of (laws.taken_aside m q s (other_length x.0 x.1 (omega (arith, l))) ∙ x.1) ∙
                  sym (put ∙ changed_under ((length s + 1) * 8388608) ((length s + 2) * 8388608 - 1) (answer_of (longest_match (without_entry m s) s)) (answer_of (Some x.0)) (omega (arith, r.1, l)))
              | inr (inr l) ↦
                  ap answer_of (laws.taken_aside m q s (other_length x.0 x.1 (omega (arith, l))) ∙ x.1) ∙
                  sym (put ∙ changed_over ((length s + 1) * 8388608) ((length s + 2) * 8388608 - 1) (answer_of (longest_match (without_entry m s) s)) (answer_of (Some x.0)) (omega (arith, r.0, l)) (omega (arith, r.0, l)))
            ]
      ]

  -- the addresses of which it was the match get that of the network itself
  pub removed_match : (v : Hop) (q : List Bool) → longest_match m q ≡ Some (s, v) → longest_match (without_entry m s) q ≡ longest_match (without_entry m s) s
  removed_match v q e = elim (match_cases laws m q) [
    | inl n ↦ absurd (false≢true (ap is_some (sym n.0 ∙ e)))
    | inr x ↦
        let key : x.0.0 ≡ s = ap (λ o. key_or s o) (sym x.1 ∙ e) in
        let within : begins s q ≡ true = ap (λ k. begins k q) (sym key) ∙ x.2.matches.begins_it in
        short_match laws (without_entry m s) s q within (elim (match_cases laws (without_entry m s) q) [
          | inl n ↦ subst (λ o. IfSome o (λ e. length e.0 ≤ length s)) (sym n.0) tt
          | inr y ↦ subst (λ o. IfSome o (λ e. length e.0 ≤ length s)) (sym y.1)
              (let l = x.2.longest y.0.0 (kept_key y.0 q y.2) y.2.matches.begins_it in let same : length x.0.0 ≡ length s = ap length key in omega (arith, l, same))
        ])
  ]
