-- What lookups find, in words, and how the longest match of a bit string changes with the entries: for `lookup_laws`.
use Rattle.prefix_trie.proofs.Prelude.{◌≡◌, ◌≢◌, inl, inr, ℕ, ◌+◌, ◌<◌, ◌≤◌, Bool, true, false, List, [], length, take, Option, Some, None, is_some, refl, sym, ap, ◌∙◌, subst, arith, true≢false, length-take-le, cases_lt, IfSome, option_map, contains_key, get, begins, begins-trans, begins-linear, begins-length, take-begins, Entries, no_entries, with_entry, without_entry, IsLongestMatch, shortest_match, prefix_pair, match_laws, one_of_length, some-value, of-key, IsUncovered, LookupLaws}
use Rattle.std.specs.Option.{MatchOption}
use Rattle.prefix_trie_bits.specs.Model.Matches.{longest_match}
use Rattle.prefix_trie.proofs.Stored.{stored_laws, set_stored, taken_stored}

module _ {T : Type 0} where
  -- no stored string that q begins with is longer than the longest match
  longest_of : (m : Entries T) (q t : List Bool) (w : T) → get m t ≡ Some w → begins t q ≡ true → (e : List Bool × T) × (longest_match m q ≡ Some e) × (length t ≤ length e.0)
  longest_of m q t w stored b = elim (longest_match m q) as (λ o. longest_match m q ≡ o → (e : List Bool × T) × (o ≡ Some e) × (length t ≤ length e.0)) [
    | None ↦ λ none. absurd (true≢false (sym ((match_laws T).some_longest m q ∙ of-key m (λ k. begins k q) t (ap is_some stored) b) ∙ ap is_some none))
    | Some e ↦ λ is. (e, refl, (((match_laws T).longest_is m q e).0 is).longest t (ap is_some stored) b)
  ] refl

  -- if there is no match, q begins with no stored string
  uncovered : (m : Entries T) (q : List Bool) → longest_match m q ≡ None → IsUncovered m q
  uncovered m q none s stored = elim (begins s q) as (λ b. begins s q ≡ b → b ≡ false) [
    | true ↦ λ b.
        let v = some-value (get m s) stored in
        absurd (true≢false (sym (ap is_some (longest_of m q s v.0 v.1 b).1) ∙ ap is_some none))
    | false ↦ λ _. refl
  ] refl

  covered : (m : Entries T) (q s : List Bool) → contains_key m s ≡ true → begins s q ≡ true → is_some (shortest_match m q) ≡ true
  covered m q s stored b = (match_laws T).some_shortest m q ∙ of-key m (λ k. begins k q) s stored b

  not_covered : (m : Entries T) (q : List Bool) → is_some (shortest_match m q) ≡ false → IsUncovered m q
  not_covered m q none s stored = elim (begins s q) as (λ b. begins s q ≡ b → b ≡ false) [
    | true ↦ λ b. absurd (true≢false (sym (covered m q s stored b) ∙ none))
    | false ↦ λ _. refl
  ] refl

  in_words : (m : Entries T) (q : List Bool) (o : Option (List Bool × T)) → longest_match m q ≡ o → MatchOption o (IsUncovered m q) (IsLongestMatch m q)
  in_words m q None is = uncovered m q is
  in_words m q (Some e) is = ((match_laws T).longest_is m q e).0 is

  value_in_words : (m : Entries T) (q : List Bool) (o : Option (List Bool × T)) → longest_match m q ≡ o →
      MatchOption (option_map (λ e. e.1) o) (IsUncovered m q) (λ v. (s : List Bool) × IsLongestMatch m q (s, v))
  value_in_words m q None is = uncovered m q is
  value_in_words m q (Some e) is = (e.0, ((match_laws T).longest_is m q e).0 is)

  -- if q begins with no stored string, there is no match
  no_longest : (m : Entries T) (q : List Bool) → ((t : List Bool) (w : T) → get m t ≡ Some w → begins t q ≡ true → ⊥) → longest_match m q ≡ None
  no_longest m q none = elim (longest_match m q) as (λ o. longest_match m q ≡ o → o ≡ None) [
    | None ↦ λ _. refl
    | Some e ↦ λ is. let f = ((match_laws T).longest_is m q e).0 is in absurd (none e.0 e.1 f.matches.stored f.matches.begins_it)
  ] refl

  -- if the stored strings that q begins with in one map are those that r begins with in another, the longest matches
  -- are the same
  same_longest : (m n : Entries T) (q r : List Bool) →
      ((t : List Bool) (w : T) → get m t ≡ Some w → begins t q ≡ true → (get n t ≡ Some w) × (begins t r ≡ true)) →
      ((t : List Bool) (w : T) → get n t ≡ Some w → begins t r ≡ true → (get m t ≡ Some w) × (begins t q ≡ true)) →
      longest_match m q ≡ longest_match n r
  same_longest m n q r to from = elim (longest_match m q) as (λ o. longest_match m q ≡ o → o ≡ longest_match n r) [
    | None ↦ λ none.
        sym (no_longest n r (λ t w stored b.
        let old = from t w stored b in
        true≢false (sym (ap is_some (longest_of m q t w old.0 old.1).1) ∙ ap is_some none)))
    | Some e ↦ λ is.
        let f = ((match_laws T).longest_is m q e).0 is in
        let there = to e.0 e.1 f.matches.stored f.matches.begins_it in
        sym (((match_laws T).longest_is n r e).1 (record {
          matches = record { stored = there.0; begins_it = there.1 };
          longest = λ t has b.
              let v = some-value (get n t) has in
              let old = from t v.0 v.1 b in
              f.longest t (ap is_some old.0) old.1;
        }))
  ] refl

  nothing : (q : List Bool) → longest_match (no_entries {T = T}) q ≡ None
  nothing q = no_longest no_entries q (λ t w stored _. true≢false (sym (ap is_some stored) ∙ ap is_some ((stored_laws T).nothing t)))

module _ {T : Type 0} (m : Entries T) (q s : List Bool) where
  other_than : (t : List Bool) → begins s q ≡ false → begins t q ≡ true → (t ≢ s)
  other_than t unlike b same = true≢false (sym b ∙ ap (λ x. begins x q) same ∙ unlike)

  set_aside : (v : T) → begins s q ≡ false → longest_match (with_entry m s v) q ≡ longest_match m q
  set_aside v unlike =
      same_longest (with_entry m s v) m q q
      (λ t w stored b. elim (set_stored m s v w t stored) [
        | inl same ↦ absurd (other_than t unlike b same)
        | inr old ↦ (old, b)
      ])
      (λ t w stored b. ((stored_laws T).beside_set m s v t (other_than t unlike b) ∙ stored, b))

  set : (v : T) → begins s q ≡ true → IfSome (longest_match m q) (λ e. length e.0 ≤ length s) → longest_match (with_entry m s v) q ≡ Some (s, v)
  set v b short =
      ((match_laws T).longest_is (with_entry m s v) q (s, v)).1 (record {
        matches = record { stored = (stored_laws T).set m s v; begins_it = b };
        longest = λ t has c.
            let w = some-value (get (with_entry m s v) t) has in
            elim (set_stored m s v w.0 t w.1) [
              | inl same ↦ omega (arith, ap length same)
              | inr old ↦
                  let e = longest_of m q t w.0 old c in
                  let bound : length e.0.0 ≤ length s = subst (λ o. IfSome o (λ e. length e.0 ≤ length s)) e.1 short in
                  omega (arith, e.2, bound)
            ];
      })

  set_shorter : (v : T) (e : List Bool × T) → longest_match m q ≡ Some e → length s < length e.0 → longest_match (with_entry m s v) q ≡ Some e
  set_shorter v e is short =
      let f = ((match_laws T).longest_is m q e).0 is in
      let other : e.0 ≢ s = λ same. omega (arith, ap length same, short) in
      ((match_laws T).longest_is (with_entry m s v) q e).1 (record {
        matches = record { stored = (stored_laws T).beside_set m s v e.0 other ∙ f.matches.stored; begins_it = f.matches.begins_it };
        longest = λ t has c.
            let w = some-value (get (with_entry m s v) t) has in
            elim (set_stored m s v w.0 t w.1) [
              | inl same ↦ omega (arith, ap length same, short)
              | inr old ↦ f.longest t (ap is_some old) c
            ];
      })

  taken_aside : IfSome (longest_match m q) (λ e. e.0 ≢ s) → longest_match (without_entry m s) q ≡ longest_match m q
  taken_aside other = elim (longest_match m q) as (λ o. longest_match m q ≡ o → longest_match (without_entry m s) q ≡ o) [
    | None ↦ λ none.
        no_longest (without_entry m s) q (λ t w stored b.
        true≢false (sym (ap is_some (longest_of m q t w (taken_stored m s w t stored).1 b).1) ∙ ap is_some none))
    | Some e ↦ λ is.
        let f = ((match_laws T).longest_is m q e).0 is in
        let differs : e.0 ≢ s = subst (λ o. IfSome o (λ e. e.0 ≢ s)) is other in
        ((match_laws T).longest_is (without_entry m s) q e).1 (record {
          matches = record { stored = (stored_laws T).beside_taken m s e.0 differs ∙ f.matches.stored; begins_it = f.matches.begins_it };
          longest = λ t has c.
              let w = some-value (get (without_entry m s) t) has in
              f.longest t (ap is_some (taken_stored m s w.0 t w.1).1) c;
        })
  ] refl

  -- each other stored string that q begins with is shorter
  left_shorter : (v : T) → longest_match m q ≡ Some (s, v) → (t : List Bool) (w : T) → get (without_entry m s) t ≡ Some w → begins t q ≡ true → length t < length s
  left_shorter v is t w stored b =
      let f = ((match_laws T).longest_is m q (s, v)).0 is in
      let old = taken_stored m s w t stored in
      let short : length t ≤ length s = f.longest t (ap is_some old.1) b in
      elim (cases_lt (length t) (length s)) [
        | inl less ↦ less
        | inr long ↦ absurd (old.0 (one_of_length q t s b f.matches.begins_it (omega (arith, long, short))))
      ]

  taken : (v : T) (n : ℕ) → longest_match m q ≡ Some (s, v) → length s ≡ n + 1 → longest_match (without_entry m s) q ≡ longest_match m (take n q)
  taken v n is long =
      let f = ((match_laws T).longest_is m q (s, v)).0 is in
      let cut : length (take n q) ≡ n = length-take-le n q (omega (arith, begins-length s q f.matches.begins_it, long)) in
      same_longest (without_entry m s) m q (take n q)
      (λ t w stored b. (
        (taken_stored m s w t stored).1,
        begins-linear t (take n q) q b (take-begins n q) (omega (arith, cut, long, left_shorter v is t w stored b)),
      ))
      (λ t w stored b. (
        (stored_laws T).beside_taken m s t (λ same. omega (arith, ap length same, begins-length t (take n q) b, cut, long)) ∙ stored,
        begins-trans t (take n q) q b (take-begins n q),
      ))

module _ {T : Type 0} where
  taken_last : (m : Entries T) (q : List Bool) (v : T) → longest_match m q ≡ Some ([], v) → longest_match (without_entry m []) q ≡ None
  taken_last m q v is = no_longest (without_entry m []) q (λ t w stored b. omega (arith, left_shorter m q [] v is t w stored b))

  shown_value : {P : Type 0} (back : List Bool → P) (found : Option (List Bool × T)) → option_map (λ e. e.1) (prefix_pair back found) ≡ option_map (λ e. e.1) found
  shown_value back None = refl
  shown_value back (Some e) = refl

pub lookup_laws : (P T : Type 0) → LookupLaws P T
lookup_laws P T = record {
  found = λ m q. in_words m q (longest_match m q) refl;
  value = λ m q. value_in_words m q (longest_match m q) refl;
  covered = covered;
  uncovered = not_covered;
  nothing = nothing;
  set_aside = set_aside;
  set = set;
  set_shorter = set_shorter;
  taken_aside = taken_aside;
  taken = taken;
  taken_last = taken_last;
  shown_value = shown_value;
}
