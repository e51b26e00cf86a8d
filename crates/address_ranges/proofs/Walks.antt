-- The ranges that a walk has left.
use Rattle.std.proofs.Common.{◌≡◌, ◌∙◌, ℕ, suc, ◌+◌, ◌-◌, ◌^◌, Bool, List, [], ◌∷◌, length, ap, arith, refl, subst, sym}
use Rattle.prefix_trie_bits.specs.Model.Bits.{number}
use Rattle.address_ranges.specs.Breaks.{AreBreaks, numbers}
use Rattle.address_ranges.specs.Ranges.{ranges_of}

pub breaks_rest : (w b : ℕ) (ns : List ℕ) → AreBreaks w (b ∷ ns) → AreBreaks w ns
breaks_rest w b ns breaks = record {
  rising = λ j k lt in_it. breaks.rising (suc j) (suc k) (omega (arith, lt)) (omega (arith, in_it));
  within = λ k lt. breaks.within (suc k) (omega (arith, lt));
}

module _ {K : Type 0} (bits : K → List Bool) (w : ℕ) (keys : List K) (k : K) (rest : List K) (split : keys ≡ k ∷ rest) where
  pub breaks_after : (p : K) (others : List K) → rest ≡ p ∷ others → AreBreaks w (numbers bits keys) → AreBreaks w (numbers bits others)
  breaks_after p others is breaks =
      breaks_rest w (number (bits p)) (numbers bits others)
      (subst (λ ks. AreBreaks w (numbers bits ks)) is (breaks_rest w (number (bits k)) (numbers bits rest) (subst (λ ks. AreBreaks w (numbers bits ks)) split breaks)))

  -- the last range goes on to the last address
  pub last_range : (last zero : ℕ) → rest ≡ [] → zero ≡ 0 → last + 1 ≡ zero + 2 ^ (w - 0) → ranges_of w (numbers bits keys) ≡ (number (bits k), last) ∷ ranges_of w (numbers bits rest)
  last_range last zero none is all =
      ap (λ ks. ranges_of w (numbers bits ks)) (split ∙ ap (λ r. k ∷ r) none)
      ∙ ap (λ n. (number (bits k), n) ∷ []) (let whole : 2 ^ (w - 0) ≡ 2 ^ w = ap (λ k. 2 ^ k) (let z : w - 0 ≡ w = omega arith in z) in let e : 2 ^ w - 1 ≡ last = omega (arith, all, is, whole) in e)
      ∙ ap (λ r. (number (bits k), last) ∷ ranges_of w (numbers bits r)) (sym none)

pub no_items : {X : Type 0} → (xs : List X) → length xs ≡ 0 → xs ≡ []
no_items [] e = refl
no_items (x ∷ xs) e = absurd (omega (arith, e))
