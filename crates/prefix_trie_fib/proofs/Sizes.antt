-- How many entries an index has: the bits of its chunks, and at most two parts of chunks for each range.
use Rattle.std.proofs.Common.{◌≡◌, ◌∙◌, ℕ, ◌+◌, ◌-◌, ◌*◌, ◌^◌, ◌<◌, ◌≤◌, ◌⊎◌, Bool, List, [], ◌∷◌, length, Option, None, Some, inl, inr, ap, sym, subst, arith, pow-add, pow_mono}
use Rattle.std.specs.Option.{IfSome}
use Rattle.prefix_trie_bits.specs.Model.Bits.{number}
use Rattle.prefix_trie_fib.specs.Layouts.{widened}
use Rattle.prefix_trie_fib.specs.Line.{IsDivision}
use Rattle.prefix_trie_fib.specs.Search.{IsRangeOf, IsRangeOfNext, StartsBy}
use Rattle.prefix_trie_fib.specs.Sizes.{AreIndexBits, AreSlots, IsIndexSize}
use Rattle.prefix_trie_fib.proofs.Entries.{not_before}
use Rattle.prefix_trie_fib.proofs.Layouts.{widened_length}
use Rattle.prefix_trie_fib.proofs.RangeValues.{one_range}

-- a number of bits from 8 to 20 that suits the ranges is that of their index, unless addresses are shorter
pub chosen_bits : (width ranges bits result : ℕ) → 8 ≤ bits → bits ≤ 20 → (bits ≤ 8) ⊎ (2 ^ bits ≤ ranges) → (ranges < 2 * 2 ^ bits) ⊎ (bits ≡ 20) → result ≤ bits → result ≤ width → (result ≡ bits) ⊎ (result ≡ width)
    → AreIndexBits width ranges result
chosen_bits width ranges bits result least most few many by within is = record {
  most = omega (arith, by, most);
  within = within;
  least = elim is [
    | inl b ↦ inl (omega (arith, b, least))
    | inr w ↦ inr w
  ];
  few = elim few [
    | inl b ↦ inl (omega (arith, by, b))
    | inr le ↦ inr (let p : 2 ^ result ≤ 2 ^ bits = pow_mono {i = result} {j = bits} by in omega (arith, p, le))
  ];
  many = elim is [
    | inl b ↦ elim many [
      | inl lt ↦ inl (subst (λ n. ranges < 2 * 2 ^ n) (sym b) lt)
      | inr e ↦ inr (inl (omega (arith, b, e)))
    ]
    | inr w ↦ inr (inr w)
  ];
}

-- one more bit is twice as many numbers
pub twice : (bits : ℕ) → 2 ^ (bits + 1) ≡ 2 * 2 ^ bits
twice bits = pow-add 2 bits 1 ∙ (let e : 2 ^ bits * 2 ≡ 2 * 2 ^ bits = omega arith in e)

module _ {T : Type 0} where
  pub most_chunks : (w : ℕ) (rs : List (ℕ × Option T)) (size : ℕ) → IsIndexSize w rs size → size ≤ 2 ^ 20
  most_chunks w rs size (inl none) = let e = none.1 in omega (arith, e)
  most_chunks w rs size (inr (bits, is, are)) = let most : 2 ^ bits ≤ 2 ^ 20 = pow_mono {i = bits} {j = 20} are.most in omega (arith, is, most)

  -- an index by the upper 64 bits of addresses is as large
  pub size_of_upper : (w : ℕ) → 64 ≤ w → (rs : List (ℕ × Option T)) (size : ℕ) → IsIndexSize 64 rs size → IsIndexSize w (widened w rs) size
  size_of_upper w wide rs size (inl none) = inl (ap (widened w) none.0 ∙ ap {A = ℕ} (λ n. (n, None) ∷ []) (let e : 0 * 2 ^ (w - 64) ≡ 0 = omega arith in e), none.1)
  size_of_upper w wide rs size (inr (bits, is, are)) = inr (
    bits,
    is,
    record {
      most = are.most;
      within = let most = are.most in omega (arith, most, wide);
      least = elim are.least [
        | inl le ↦ inl le
        | inr e ↦ inl (omega (arith, e))
      ];
      few = subst (λ n. (bits ≤ 8) ⊎ (2 ^ bits ≤ n)) (sym (widened_length w rs)) are.few;
      many = subst (λ n. (n < 2 * 2 ^ bits) ⊎ (bits ≡ 20) ⊎ (bits ≡ w)) (sym (widened_length w rs)) (elim are.many [
        | inl lt ↦ inl lt
        | inr (inl e) ↦ inr (inl e)
        | inr (inr e) ↦ let most = are.most in absurd (omega (arith, e, most))
      ]);
    },
  )

  pub slots_of_upper : (w : ℕ) → 64 ≤ w → (rs : List (ℕ × Option T)) (slots : ℕ) → AreSlots 64 rs slots → AreSlots w (widened w rs) slots
  slots_of_upper w wide rs slots are = record {
    index = are.index;
    right = size_of_upper w wide rs are.index are.right;
    all = let a = are.all in let l = widened_length w rs in omega (arith, a, l);
    few = let f = are.few in let l = widened_length w rs in omega (arith, f, l);
  }

-- ---- the ranges of a chunk, up to that of the next address

module _ {K V : Type 0} (bits : K → List Bool) (rs : List (ℕ × V)) (division : IsDivision rs) (d : ℕ × V) where
  -- a range that starts by an address is not after that of the next one
  pub not_after : (first low i : ℕ) (next : Option K) → StartsBy rs first low → IfSome next (λ k. low ≤ number (bits k)) → IsRangeOfNext bits rs next i → first ≤ i
  not_after first low i None starts up is = let inside = starts.inside in omega (arith, inside, is)
  not_after first low i (Some k) starts up is =
      not_before rs division d first i (number (bits k)) (record { inside = starts.inside; by = λ e. let b = starts.by e in omega (arith, b, up) }) is

  -- the range of the next address is found
  pub next_found : (last i : ℕ) (next : Option K) (k : K) → next ≡ Some k → IsRangeOf rs last (number (bits k)) → IsRangeOfNext bits rs next i → i ≡ last
  next_found last i next k is found of = one_range rs division d i last (number (bits k)) (subst (λ o. IsRangeOfNext bits rs o i) is of) found

  pub none_next : (i : ℕ) (next : Option K) → next ≡ None → IsRangeOfNext bits rs next i → i ≡ length rs
  none_next i next is of = subst (λ o. IsRangeOfNext bits rs o i) is of
