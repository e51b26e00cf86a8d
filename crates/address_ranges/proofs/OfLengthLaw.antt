-- All networks of the walk over the networks of one length.
use Rattle.std.proofs.Common.{◌≡◌, ◌∙◌, ℕ, ◌+◌, ◌-◌, ◌*◌, ◌^◌, ◌<◌, ◌≤◌, ◌&&◌, All, Bool, true, leb, List, [], ◌∷◌, ◌++◌, length, map, inl, inr, refl, ap, sym, subst, arith, append_assoc, mul-le-mul_right, pow_pos}
use Rattle.std.proofs.lemmas.Bool.{and_from, and_parts, cases_lt, leb-true, le-leb}
use Rattle.std.proofs.lemmas.List.{append-nil}
use Rattle.std.proofs.lemmas.List.Elements.{All-cons, All-nil, Contains-append_left, Contains-push, Contains-push_cases}
use Rattle.std.specs.Iterator.{Drains, Yields}
use Rattle.std.specs.List.{Contains}
use Rattle.prefix_trie_bits.specs.BitStrings.{same-from-number}
use Rattle.prefix_trie_bits.specs.Model.Bits.{number}
use Rattle.address_ranges.specs.Breaks.{has_address}
use Rattle.address_ranges.specs.Laws.{NetworkLaws}
use Rattle.address_ranges.specs.Networks.{AreAllOfLength, AreInOrder, IsInside, first_address, past_address}
use Rattle.address_ranges.specs.Walks.{HasNoneOfLength, ReturnsFirst, ReturnsNetworkOfLength}
use Rattle.address_ranges.proofs.Addresses.{first_is}
use Rattle.address_ranges.proofs.Blocks.{nested, past_within, some_address}
use Rattle.address_ranges.proofs.Fewest.{in_order_push}
use Rattle.address_ranges.proofs.NetworkWalks.{and_true, drained, later_is}

same_multiple : (m n p : ℕ) → 0 < p → m * p ≡ n * p → m ≡ n
same_multiple m n p some e = elim (cases_lt m n) [
  | inl lt ↦ absurd (let h : (m + 1) * p ≤ n * p = mul-le-mul_right p (omega (arith, lt)) in let one : (m + 1) * p ≡ m * p + p = omega arith in omega (arith, h, one, e, some))
  | inr ge ↦ elim (cases_lt n m) [
    | inl lt ↦ absurd (let h : (n + 1) * p ≤ m * p = mul-le-mul_right p (omega (arith, lt)) in let one : (n + 1) * p ≡ n * p + p = omega arith in omega (arith, h, one, e, some))
    | inr le ↦ omega (arith, ge, le)
  ]
]

-- two networks of one length that begin in one another are one
same_network : (w len : ℕ) (s t : List Bool) → len ≤ w → length s ≡ len → length t ≡ len → first_address w s ≤ first_address w t → first_address w t < past_address w s → s ≡ t
same_network w len s t short ls lt lo hi =
    let lies = nested w s t (omega (arith, ls, lt)) (omega (arith, lt, short)) (first_address w t) lo hi (omega arith) (some_address w t) in
    let p : ℕ = 2 ^ (w - len) in
    let ps : past_address w s ≡ first_address w s + 2 ^ (w - len) = ap (λ k. first_address w s + 2 ^ (w - k)) ls in
    let pt : past_address w t ≡ first_address w t + 2 ^ (w - len) = ap (λ k. first_address w t + 2 ^ (w - k)) lt in
    let same : first_address w s ≡ first_address w t = (let h = lies.1 in omega (arith, lo, h, ps, pt)) in
    let es : first_address w s ≡ number s * 2 ^ (w - len) = first_is w s ∙ ap (λ k. number s * 2 ^ (w - k)) ls in
    let et : first_address w t ≡ number t * 2 ^ (w - len) = first_is w t ∙ ap (λ k. number t * 2 ^ (w - k)) lt in
    same-from-number s t (ls ∙ sym lt) (same_multiple (number s) (number t) (2 ^ (w - len)) (pow_pos (w - len)) (sym es ∙ same ∙ et))

-- the networks so far are those of the length that begin below an address, and the addresses from there on are left
record AreListed (w len : ℕ) (test : ℕ → Bool) (left : List ℕ) (at : ℕ) (ss : List (List Bool)) : Type 0 where
  each : (s : List Bool) → Contains ss s → (length s ≡ len) × IsInside w test s
  all : (t : List Bool) → length t ≡ len → IsInside w test t → first_address w t < at → Contains ss t
  in_order : AreInOrder w ss
  before : (s : List Bool) → Contains ss s → past_address w s ≤ at
  left_is : (n : ℕ) → n < 2 ^ w → has_address left n ≡ (test n && leb at n)

module _ (w len : ℕ) (short : len ≤ w) (test : ℕ → Bool) where
  module _ (left : List ℕ) (at : ℕ) (ss : List (List Bool)) (so_far : AreListed w len test left at ss) where
    still : (t : List Bool) → length t ≡ len → at ≤ first_address w t → IsInside w test t → IsInside w (has_address left) t
    still t long le inside n lo hi =
        let lt : n < 2 ^ w = (let p = past_within w t (omega (arith, long, short)) in omega (arith, p, hi)) in
        so_far.left_is n lt ∙ and_from (test n) (leb at n) (inside n lo hi) (le-leb at n (omega (arith, lo, le)))

    listed_next : (s : List Bool) (after : List ℕ) → ReturnsFirst w len left s after → AreListed w len test after (past_address w s) (ss ++ s ∷ [])
    listed_next s after r =
        let some = some_address w s in
        let by = past_within w s (let l = r.long in omega (arith, l, short)) in
        let passes : (n : ℕ) → n < 2 ^ w → has_address left n ≡ true → (test n ≡ true) × (at ≤ n) =
        λ n lt h. let parts = and_parts (test n) (leb at n) (sym (so_far.left_is n lt) ∙ h) in (parts.0, leb-true at n parts.1) in
        let le : at ≤ first_address w s = (passes (first_address w s) (omega (arith, some, by)) (r.inside (first_address w s) (omega arith) some)).1 in
        record {
          each = λ t has. elim (Contains-push_cases ss s t has) [
            | inl old ↦ so_far.each t old
            | inr is ↦ subst (λ u. (length u ≡ len) × IsInside w test u) is (r.long, λ n lo hi. (passes n (omega (arith, hi, by)) (r.inside n lo hi)).0)
          ];
          all = λ t long inside lt. elim (cases_lt (first_address w t) at) [
            | inl old ↦ Contains-append_left ss (s ∷ []) t (so_far.all t long inside old)
            | inr ge ↦ subst (Contains (ss ++ s ∷ [])) (same_network w len s t short r.long long (r.first t long (still t long ge inside)) lt) (Contains-push ss s)
          ];
          in_order = in_order_push w ss s at so_far.in_order so_far.before le;
          before = λ t has. elim (Contains-push_cases ss s t has) [
            | inl old ↦ (let b = so_far.before t old in omega (arith, b, le, some))
            | inr is ↦ subst (λ u. past_address w u ≤ past_address w s) is (omega arith)
          ];
          left_is = λ n lt. r.left n lt ∙ ap (λ b. b && leb (past_address w s) n) (so_far.left_is n lt) ∙ later_is (test n) at (past_address w s) n (omega (arith, le, some));
        }

    listed_all : HasNoneOfLength w len left → AreAllOfLength w len test ss
    listed_all none = record {
      each = so_far.each;
      all = λ t long inside. elim (cases_lt (first_address w t) at) [
        | inl old ↦ so_far.all t long inside old
        | inr ge ↦ absurd (none t long (still t long ge inside))
      ];
      in_order = so_far.in_order;
    }

  module _ {P : Type 0} (IsFitting : P → Type 0) (path : P → List Bool) where
    walked : (xs : List P) (left end : ℕ × List ℕ) (at : ℕ) (ss : List (List Bool)) → left.0 ≡ len → AreListed w len test left.1 at ss → Yields (ReturnsNetworkOfLength w IsFitting path) left xs end
        → All IsFitting xs × (end.0 ≡ len) × ((to : ℕ) × AreListed w len test end.1 to (ss ++ map path xs))
    walked [] left end at ss keeps so_far is = (
      All-nil IsFitting,
      sym (ap (λ l. l.0) is) ∙ keeps,
      (at, subst (λ l. AreListed w len test l.1 at (ss ++ [])) is (subst (AreListed w len test left.1 at) (sym (append-nil ss)) so_far)),
    )
    walked (x ∷ xs) left end at ss keeps so_far (next, step, more) =
        let (fit, kept, (to, done)) = walked xs next end (past_address w (path x)) (ss ++ path x ∷ []) (step.0 ∙ keeps)
        (listed_next left.1 at ss so_far (path x) next.1 (subst (λ k. ReturnsFirst w k left.1 (path x) next.1) keeps step.1.1)) more in
        (All-cons IsFitting x xs step.1.0 fit, kept, (to, subst (AreListed w len test end.1 to) (append_assoc ss (path x ∷ []) (map path xs)) done))

module _ {P : Type 0} (w : ℕ) (IsFitting : P → Type 0) (path : P → List Bool) where
  drained_of_length : (len : ℕ) (ns : List ℕ) (xs : List P) → len ≤ w → Drains (ReturnsNetworkOfLength w IsFitting path) (len, ns) xs → All IsFitting xs × AreAllOfLength w len (has_address ns) (map path xs)
  drained_of_length len ns xs short (u, (t, yields, last)) =
      let (fit, kept, (to, done)) = walked w len short (has_address ns) IsFitting path xs (len, ns) t 0 [] refl
      (record {
        each = λ s (k, lt, is). absurd (omega (arith, lt));
        all = λ t long inside lt. absurd (omega (arith, lt));
        in_order = λ j k lt in_it. absurd (omega (arith, in_it));
        before = λ s (k, lt, is). absurd (omega (arith, lt));
        left_is = λ n lt. and_true (has_address ns n) ∙ ap (λ b. has_address ns n && b) (sym (le-leb 0 n (omega arith)));
      }) yields in
      (fit, listed_all w len short (has_address ns) t.1 to (map path xs) done (subst (λ k. HasNoneOfLength w k t.1) kept last.1.0))

  pub network_laws : NetworkLaws w IsFitting path
  network_laws = record { fewest = drained w IsFitting path; of_length = drained_of_length }
