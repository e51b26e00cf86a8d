-- The smallest table of units is the set with the fewest keys for its addresses: for `aggregate` of sets.
use Rattle.std.proofs.Common.{◌≡◌, ◌∙◌, ◌+◌, ◌≤◌, ◌-◌, ◌++◌, eqb, ℕ, Bool, true, false, true≢false, cond, List, [], ◌∷◌, length, take, drop, Option, Some, None, is_some, ap, sym, subst, refl, arith, inl, inr, append_assoc, length-append}
use Rattle.std.specs.Option.{option_map}
use Rattle.std.specs.FinMap.{contains_key, get, len, len-insert, same_map}
use Rattle.prefix_trie_bits.specs.Begins.{begins-append, begins-rest, same_bool}
use Rattle.prefix_trie_bits.specs.Model.Order.{same_string}
use Rattle.prefix_trie_bits.specs.Order.{listing_same, listing_total}
use Rattle.prefix_trie_bits.proofs.Model.Members.{get-with_entry, get-without_entry, is-same_string, same_string-is}
use Rattle.prefix_trie.specs.Laws.Lookups.{LookupLaws}
use Rattle.prefix_trie.specs.Terms.{AreWithin, Entries, begins, covers, first_item, last_item, shortest_match, with_entry, without_entry}
use Rattle.prefix_trie_ops.specs.Covered.{is_below_another}
use Rattle.prefix_trie_ops.specs.Smallest.{HaveSameAnswers, IsSmallest, MayExceedLimit}
use Rattle.prefix_trie_ops.specs.SmallestSets.{CoverMayExceedLimit, CoverSameAddresses, HasNoSiblings, IsSmallestCover}
use Rattle.prefix_trie_ops.specs.Values.{are_equal, is_redundant, value_above, value_of}
use Rattle.prefix_trie_ops.proofs.Optimal.KeyCounts.{one_more}
use Rattle.prefix_trie_ops.proofs.Optimal.Order.{above}
use Rattle.prefix_trie_ops.proofs.RedundantEntries.{looked}

module _ {T : Type 0} where
  first_or_last : (es : List (List Bool × T)) → is_some (first_item es) ≡ is_some (option_map (λ e. e.1) (last_item es))
  first_or_last [] = refl
  first_or_last (x ∷ []) = refl
  first_or_last (x ∷ y ∷ es) = first_or_last (y ∷ es)

  -- a question has a value exactly if a key begins it
  pub covered_is_value : (m : Entries T) (q : List Bool) → is_some (shortest_match m q) ≡ is_some (value_of m q)
  covered_is_value m q = first_or_last (covers m q)

  -- a shorter key begins a string exactly if it has a value from above
  pub below_is_above : (m : Entries T) (s : List Bool) → is_below_another m s ≡ is_some (value_above m s)
  below_is_above m s = elim (eqb (length s) 0) as (λ b. cond b false (is_some (shortest_match m (take (length s - 1) s))) ≡ is_some (cond b None (value_of m (take (length s - 1) s)))) [
    | true ↦ refl
    | false ↦ covered_is_value m (take (length s - 1) s)
  ]

  -- a question that begins with a key of one map is covered by the other if that covers each question with this key
  covered_too : {P : Type 0} → LookupLaws P T → (m n : Entries T) (q : List Bool)
      → ((t : List Bool) → contains_key m t ≡ true → begins t q ≡ true → is_some (shortest_match n q) ≡ true)
      → is_some (shortest_match m q) ≡ true → is_some (shortest_match n q) ≡ true
  covered_too laws m n q each here = elim (looked laws m q) [
    | inl none ↦ absurd (true≢false (sym here ∙ covered_is_value m q ∙ ap (λ o. is_some (option_map (λ e. e.1) o)) none.0))
    | inr some ↦ each some.0.0 (ap is_some some.2.matches.stored) some.2.matches.begins_it
  ]

  -- a map with an entry less has one entry less
  one_fewer : (m : Entries T) (s : List Bool) (v : T) → get m s ≡ Some v → len m ≡ len (without_entry m s) + 1
  one_fewer m s v here =
      let less = without_entry m s in
      let gone : contains_key less s ≡ false = ap is_some (get-without_entry m s s ∙ ap (λ b. cond b None (get m s)) (is-same_string s s refl)) in
      sym (ap len (same_map listing_total listing_same (with_entry less s v) m each)) ∙ len-insert listing_total less s v ∙ ap (λ b. cond b (len less) (len less + 1)) gone
    where
      each : (t : List Bool) → get (with_entry (without_entry m s) s v) t ≡ get m t
      each t = get-with_entry (without_entry m s) s v t ∙ ap (cond (same_string t s) (Some v)) (get-without_entry m s t)
          ∙ elim (same_string t s) as (λ b. same_string t s ≡ b → cond b (Some v) (cond b None (get m t)) ≡ get m t) [
            | true ↦ λ same. sym (ap (get m) (same_string-is t s same) ∙ here)
            | false ↦ λ _. refl
          ] refl

-- two units that both exist, or both do not, are the same
same_unit : (o p : Option (Unit {0})) → is_some o ≡ is_some p → o ≡ p
same_unit None None e = refl
same_unit None (Some v) e = absurd (true≢false (sym e))
same_unit (Some u) None e = absurd (true≢false e)
same_unit (Some u) (Some v) e = refl

pub covers_same : (width : ℕ) (m n : Entries (Unit {0})) → HaveSameAnswers width m n → CoverSameAddresses width m n
covers_same width m n same q long = covered_is_value m q ∙ ap is_some (same q long) ∙ sym (covered_is_value n q)

pub smallest_cover : (width : ℕ) (m : Entries (Unit {0})) → IsSmallest width m → IsSmallestCover width m
smallest_cover width m least n same = least n (λ q long. same_unit (value_of n q) (value_of m q) (sym (covered_is_value n q) ∙ same q long ∙ covered_is_value m q))

-- a set that covers the same addresses is a map of units with the same answers
pub cover_exceeds : (width limit : ℕ) (m : Entries (Unit {0})) → MayExceedLimit width limit m → CoverMayExceedLimit width limit m
cover_exceeds width limit m exceeds n same = exceeds n (λ q long. same_unit (value_of n q) (value_of m q) (sym (covered_is_value n q) ∙ same q long ∙ covered_is_value m q))

-- if no entry has the value of a shorter one, no key is covered
pub none_covered : (eq : Unit {0} → Unit {0} → Bool) → ((u : Unit {0}) → eq u u ≡ true) → (m : Entries (Unit {0})) → ((s : List Bool) → is_redundant eq m s ≡ false)
    → (s : List Bool) → contains_key m s ≡ true → is_below_another m s ≡ false
none_covered eq same m none_redundant s here = below_is_above m s ∙ not_both (value_above m s) (get m s) here (none_redundant s)
  where
    not_both : (o p : Option (Unit {0})) → is_some p ≡ true → are_equal eq o p ≡ false → is_some o ≡ false
    not_both None p h e = refl
    not_both (Some u) None h e = absurd (true≢false (sym h))
    not_both (Some u) (Some v) h e = absurd (true≢false (sym (same u) ∙ e))

siblings_differ : (s : List Bool) → same_string (s ++ true ∷ []) (s ++ false ∷ []) ≡ false
siblings_differ [] = refl
siblings_differ (true ∷ s) = siblings_differ s
siblings_differ (false ∷ s) = siblings_differ s

-- two siblings can be replaced by their parent, so a smallest set has none
module _ {P : Type 0} (laws : LookupLaws P (Unit {0})) (width : ℕ) (m : Entries (Unit {0})) (within : AreWithin width m) (s : List Bool)
    (lower : contains_key m (s ++ false ∷ []) ≡ true) (upper : contains_key m (s ++ true ∷ []) ≡ true) where
  without_both : Entries (Unit {0})
  without_both = without_entry (without_entry m (s ++ false ∷ [])) (s ++ true ∷ [])

  with_parent : Entries (Unit {0})
  with_parent = with_entry without_both s tt

  at : (t : List Bool) → get with_parent t
      ≡ cond (same_string t s) (Some tt) (cond (same_string t (s ++ true ∷ [])) None (cond (same_string t (s ++ false ∷ [])) None (get m t)))
  unfolding with_parent without_both
  at t = get-with_entry without_both s tt t ∙ ap (cond (same_string t s) (Some tt)) (get-without_entry (without_entry m (s ++ false ∷ [])) (s ++ true ∷ []) t
      ∙ ap (cond (same_string t (s ++ true ∷ [])) None) (get-without_entry m (s ++ false ∷ []) t))

  parent : contains_key with_parent s ≡ true
  parent = ap is_some (at s ∙ ap (λ b. cond b (Some tt) (cond (same_string s (s ++ true ∷ [])) None (cond (same_string s (s ++ false ∷ [])) None (get m s)))) (is-same_string s s refl))

  -- each question that a key of the set begins is still covered
  still : (q t : List Bool) → contains_key m t ≡ true → begins t q ≡ true → is_some (shortest_match with_parent q) ≡ true
  still q t here front =
      elim (same_string t (s ++ true ∷ [])) as (λ b. same_string t (s ++ true ∷ []) ≡ b → is_some (shortest_match with_parent q) ≡ true) [
        | true ↦ λ same. laws.covered with_parent q s parent (above s q true (subst (λ x. begins x q ≡ true) (same_string-is t _ same) front))
        | false ↦ λ other. elim (same_string t (s ++ false ∷ [])) as (λ b. same_string t (s ++ false ∷ []) ≡ b → is_some (shortest_match with_parent q) ≡ true) [
          | true ↦ λ same. laws.covered with_parent q s parent (above s q false (subst (λ x. begins x q ≡ true) (same_string-is t _ same) front))
          | false ↦ λ other'. laws.covered with_parent q t (kept other other') front
        ] refl
      ] refl
    where
      kept : same_string t (s ++ true ∷ []) ≡ false → same_string t (s ++ false ∷ []) ≡ false → contains_key with_parent t ≡ true
      kept other other' =
          ap is_some (at t ∙ ap (λ b. cond (same_string t s) (Some tt) (cond b None (cond (same_string t (s ++ false ∷ [])) None (get m t)))) other
          ∙ ap (λ b. cond (same_string t s) (Some tt) (cond b None (get m t))) other') ∙ either (same_string t s)
        where
          either : (b : Bool) → is_some (cond b (Some tt) (get m t)) ≡ true
          either true = refl
          either false = here

  -- a question of full width that begins with the parent begins with one of the siblings
  halves : (q : List Bool) → length q ≡ width → begins s q ≡ true → is_some (shortest_match m q) ≡ true
  halves q long front = go (drop (length s) q) (begins-rest s q front)
    where
      go : (r : List Bool) → q ≡ s ++ r → is_some (shortest_match m q) ≡ true
      go [] is =
          let whole = within (s ++ true ∷ []) upper in
          let l = ap length is in
          let a = length-append s [] in
          let b = length-append s (true ∷ []) in
          absurd (omega (arith, whole, l, a, b, long))
      go (true ∷ r) is = laws.covered m q (s ++ true ∷ []) upper (ap (begins (s ++ true ∷ [])) (is ∙ sym (append_assoc s (true ∷ []) r)) ∙ begins-append (s ++ true ∷ []) r)
      go (false ∷ r) is = laws.covered m q (s ++ false ∷ []) lower (ap (begins (s ++ false ∷ [])) (is ∙ sym (append_assoc s (false ∷ []) r)) ∙ begins-append (s ++ false ∷ []) r)

  -- no other question is covered
  no_more : (q : List Bool) → length q ≡ width → (t : List Bool) → contains_key with_parent t ≡ true → begins t q ≡ true → is_some (shortest_match m q) ≡ true
  no_more q long t here front =
      elim (same_string t s) as (λ b. same_string t s ≡ b → is_some (shortest_match m q) ≡ true) [
        | true ↦ λ same. halves q long (subst (λ x. begins x q ≡ true) (same_string-is t s same) front)
        | false ↦ λ other. laws.covered m q t (had (same_string t (s ++ true ∷ [])) (same_string t (s ++ false ∷ []))
            (sym (ap is_some (at t ∙ ap (λ b. cond b (Some tt) (cond (same_string t (s ++ true ∷ [])) None (cond (same_string t (s ++ false ∷ [])) None (get m t)))) other)) ∙ here)) front
      ] refl
    where
      had : (a b : Bool) → is_some (cond a None (cond b None (get m t))) ≡ true → contains_key m t ≡ true
      had true b e = absurd (true≢false (sym e))
      had false true e = absurd (true≢false (sym e))
      had false false e = e

  covers_as_many : CoverSameAddresses width with_parent m
  covers_as_many q long = same_bool _ _ (covered_too laws with_parent m q (no_more q long)) (covered_too laws m with_parent q (still q))

  fewer : len with_parent + 1 ≤ len m
  unfolding with_parent without_both
  fewer =
      let first = one_fewer m (s ++ false ∷ []) tt (same_unit _ _ lower) in
      let second = one_fewer (without_entry m (s ++ false ∷ [])) (s ++ true ∷ []) tt (get-without_entry m (s ++ false ∷ []) (s ++ true ∷ [])
      ∙ ap (λ b. cond b None (get m (s ++ true ∷ []))) (siblings_differ s) ∙ same_unit _ _ upper) in
      let third = one_more without_both s tt in
      omega (arith, first, second, third)

pub no_siblings : {P : Type 0} → LookupLaws P (Unit {0}) → (width : ℕ) (m : Entries (Unit {0})) → AreWithin width m → IsSmallestCover width m → HasNoSiblings m
no_siblings laws width m within least s lower = elim (contains_key m (s ++ true ∷ [])) as (λ b. contains_key m (s ++ true ∷ []) ≡ b → b ≡ false) [
  | false ↦ λ _. refl
  | true ↦ λ upper.
      let most = least (with_parent laws width m within s lower upper) (covers_as_many laws width m within s lower upper) in
      let less = fewer laws width m within s lower upper in
      absurd (omega (arith, most, less))
] refl
