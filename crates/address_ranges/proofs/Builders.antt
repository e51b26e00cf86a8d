-- What adding sorted ranges one after the other gives, and what a builder has gathered.
use Rattle.std.proofs.Common.{Option, ◌≡◌, ◌∙◌, ℕ, ◌+◌, ◌^◌, ◌<◌, ◌||◌, Bool, true, false, List, [], ◌∷◌, ◌++◌, length, get_or, take, refl, sym, ap, subst, arith}
use Rattle.std.proofs.lemmas.List.{get_or-map, length-map}
use Rattle.std.proofs.lemmas.List.Folds.{list_any-append, list_any_more}
use Rattle.std.specs.List.{list_any}
use Rattle.std.specs.List.Sorted.{IsNonDecreasingBy}
use Rattle.prefix_trie_bits.specs.Model.Bits.{number}
use Rattle.address_ranges.specs.Appends.{AddsRange, StartBy, end_of, is_inside}
use Rattle.address_ranges.specs.Breaks.{AreBreaks, has_address}
use Rattle.address_ranges.proofs.Keys.{get_or-any}
use Rattle.address_ranges.specs.Builders.{AreSome, is_in_one, range_as_numbers, ranges_as_numbers}

pub or_assoc : (a b c : Bool) → (a || (b || c)) ≡ ((a || b) || c)
or_assoc true b c = refl
or_assoc false b c = refl

-- items that are added one by one: what is gathered is what was there, or one of them has it
pub in_none : (old : Bool) → old ≡ (old || false)
in_none true = refl
in_none false = refl

pub in_more : {X : Type 0} (p : X → Bool) (xs : List X) (x : X) (old now new : Bool) → now ≡ (old || list_any p xs) → new ≡ (now || p x) → new ≡ (old || list_any p (xs ++ x ∷ []))
in_more p xs x old now new before added = added ∙ ap (λ b. b || p x) before ∙ sym (or_assoc old (list_any p xs) (p x)) ∙ ap (λ b. old || b) (sym (list_any-append p xs (x ∷ []) ∙ ap (λ b. list_any p xs || b) (or_false (p x))))
  where
    or_false : (b : Bool) → (b || false) ≡ b
    or_false true = refl
    or_false false = refl

module _ {K : Type 0} (w : ℕ) (bits : K → List Bool) (ranges : List (K × Option K)) where
  -- the set has the addresses of the ranges read, and each of its ranges starts by the next range that is read
  pub record AreAdded (ns : List ℕ) (i : ℕ) : Type 0 where
    pub breaks : AreBreaks w ns
    pub starts : (d : K × Option K) → i < length ranges → StartBy ns (number (bits (get_or ranges i d).0))
    pub has : (n : ℕ) → n < 2 ^ w → has_address ns n ≡ is_in_one (take i (ranges_as_numbers w bits ranges)) n

  as_many : length (ranges_as_numbers w bits ranges) ≡ length ranges
  as_many = length-map ranges (range_as_numbers w bits)

  module _ (i : ℕ) (r : K × Option K) (in_it : i < length ranges) (is : r ≡ get_or ranges i r) where
    -- no range that is read is empty
    pub is_some : AreSome (ranges_as_numbers w bits ranges) → number (bits r.0) < end_of w bits r.1
    is_some some =
        let h = some i (0, 0) (omega (arith, in_it, as_many)) in
        let e : get_or (ranges_as_numbers w bits ranges) i (0, 0) ≡ range_as_numbers w bits r =
        get_or-map (range_as_numbers w bits) ranges i r (0, 0) in_it ∙ ap (range_as_numbers w bits) (sym is) in
        subst (λ p. p.0 < p.1) e h

    pub starts_here : (ns : List ℕ) → AreAdded ns i → StartBy ns (number (bits r.0))
    starts_here ns so_far = subst (λ q. StartBy ns (number (bits q.0))) (sym is) (so_far.starts r in_it)

    pub added_next : (ns after : List ℕ) → IsNonDecreasingBy (λ q. number (bits q.0)) ranges → AreAdded ns i → AddsRange w ns (number (bits r.0)) (end_of w bits r.1) after → AreAdded after (i + 1)
    added_next ns after sorted so_far adds = record {
      breaks = adds.breaks;
      starts = λ d lt k in_after.
          let s = adds.starts k in_after in
          let o = sorted i (i + 1) d (omega arith) lt in
          let e : number (bits (get_or ranges i d).0) ≡ number (bits r.0) = ap (λ q. number (bits q.0)) (get_or-any ranges i d r in_it ∙ sym is) in
          omega (arith, s, o, e);
      has = λ n lt.
          adds.added n lt ∙ ap (λ b. b || is_inside (number (bits r.0)) (end_of w bits r.1) n) (so_far.has n lt)
          ∙ ap (λ q. is_in_one (take i (ranges_as_numbers w bits ranges)) n || is_inside q.0 q.1 n)
          (ap (range_as_numbers w bits) is ∙ sym (get_or-map (range_as_numbers w bits) ranges i r (0, 0) in_it))
          ∙ sym (list_any_more (λ q. is_inside q.0 q.1 n) (ranges_as_numbers w bits ranges) i (0, 0) (omega (arith, in_it, as_many)));
    }
