-- The facts about the fewest networks hold: each address is looked up.
use Rattle.std.proofs.Common.{◌≡◌, ◌==◌, ◌≤◌, All, Bool, true, false, List, [], ◌∷◌, length, refl, arith}
use Rattle.std.proofs.lemmas.List.Elements.{All-cons, All-nil}
use Rattle.prefix_trie_bits.specs.Model.Bits.{begins, number}
use Rattle.address_ranges.specs.Networks.{AreFewest, is_covered_by}
use Rattle.address_ranges_tests.specs.Facts.{FewestFacts}

-- the network of all addresses has each
whole_has : (q : List Bool) → is_covered_by ([] ∷ []) q ≡ true
unfolding begins
whole_has q = refl

whole_shortest : (others : List (List Bool)) → All (λ s. length s ≤ 1) others → ((q : List Bool) → length q ≡ 1 → is_covered_by others q ≡ is_covered_by ([] ∷ []) q) → 1 ≤ length others
unfolding begins
whole_shortest [] short same = absurd (let h : false ≡ true = same (false ∷ []) refl in cc)
whole_shortest (o ∷ os) short same = omega arith

whole : AreFewest 1 (λ n. true) ([] ∷ [])
unfolding begins
whole = record {
  covered = λ q long. whole_has q;
  once = λ q long. omega arith;
  in_order = λ j k lt in_it. absurd (omega (arith, lt, in_it));
  shortest = whole_shortest;
}

same_halves : (q : List Bool) → length q ≡ 1 → is_covered_by ([] ∷ []) q ≡ is_covered_by ((false ∷ []) ∷ (true ∷ []) ∷ []) q
unfolding begins
same_halves [] long = absurd (omega (arith, long))
same_halves (true ∷ []) long = refl
same_halves (false ∷ []) long = refl
same_halves (b ∷ c ∷ q) long = absurd (omega (arith, long))

halves : AreFewest 1 (λ n. true) ((false ∷ []) ∷ (true ∷ []) ∷ []) → ⊥
halves are = (let h = are.shortest ([] ∷ []) (All-cons (λ s. length s ≤ 1) [] [] (omega arith) (All-nil (λ s. length s ≤ 1))) same_halves in omega (arith, h))

too_large : AreFewest 1 (λ n. n == 1) ([] ∷ []) → ⊥
unfolding begins number
too_large are = (let h : true ≡ false = are.covered (false ∷ []) refl in absurd (let e : true ≡ false = h in cc))

none : AreFewest 1 (λ n. false) []
none = record {
  covered = λ q long. refl;
  once = λ q long. omega arith;
  in_order = λ j k lt in_it. absurd (omega (arith, in_it));
  shortest = λ others short same. omega arith;
}

too_few : AreFewest 1 (λ n. true) ((false ∷ []) ∷ []) → ⊥
unfolding begins
too_few are = (let h : false ≡ true = are.covered (true ∷ []) refl in absurd (let e : false ≡ true = h in cc))

pub fewest_facts : FewestFacts
fewest_facts = record { whole = whole; halves = halves; too_large = too_large; none = none; too_few = too_few }
