-- Slots that are all 0: no answers, and no groups.
use Rattle.std.proofs.Common.{◌≡◌, ◌∙◌, ℕ, ◌^◌, ◌<◌, ◌≤◌, List, [], length, replicate, get_or, slice_index, arith, inl, inr}
use Rattle.std.proofs.lemmas.Bool.{cases_lt}
use Rattle.std.proofs.lemmas.List.{get_or-replicate, get_or_past, length-replicate}
use Rattle.prefix_trie_forwarding.specs.Slots.{IsSlots}
use Rattle.prefix_trie_forwarding.specs.Walks.{HasGroup, answer, upper}
use Rattle.prefix_trie_forwarding.proofs.Counting.{count_none}
use Rattle.prefix_trie_forwarding.proofs.Walks.{value_from-value}

pub zero_all : (xs : List ℕ) (n : ℕ) → length xs ≡ n → ((k : ℕ) → k < n → get_or xs k 0 ≡ 0) → (k : ℕ) → get_or xs k 0 ≡ 0
zero_all xs n size zeros k = elim (cases_lt k (length xs)) [ inl l ↦ zeros k (omega (arith, l, size)) | inr g ↦ get_or_past xs k 0 g ]

pub zero_replicate : (n k : ℕ) → get_or (replicate {A = ℕ} n 0) k 0 ≡ 0
zero_replicate n k = elim (cases_lt k n) [
  | inl l ↦ get_or-replicate n k 0 0 l
  | inr g ↦ get_or_past (replicate {A = ℕ} n 0) k 0 (let size : length (replicate {A = ℕ} n 0) ≡ n = length-replicate n 0 in omega (arith, size, g))
]

module _ (r levels : ℕ) (xs : List ℕ) (zeros : (k : ℕ) → get_or xs k 0 ≡ 0) where
  pub zero_answer : (a : ℕ) → answer (2 ^ r) levels (slice_index xs) a ≡ 0
  zero_answer a = value_from-value (2 ^ r) (slice_index xs) a levels (upper levels a) (let z = zeros (upper levels a) in omega (arith, z)) ∙ zeros (upper levels a)

  pub zero_group : (a k : ℕ) → HasGroup (2 ^ r) levels (slice_index xs) a k → ⊥
  zero_group a k h = let z = zeros h.1 in let l : 2147483648 ≤ slice_index xs h.1 = h.3 in omega (arith, z, l)

  pub zero_slots : r ≤ 24 → levels ≤ 16 → length xs ≡ 2 ^ r → IsSlots r levels 0 xs []
  zero_slots few low size = record {
    few_bits = few;
    few_levels = low;
    set = record {
      sizes = omega (arith, size);
      small = omega arith;
      within = omega arith;
      slots_are = record {
        inside = λ x h. absurd (let z = zeros x in omega (arith, z, h));
        single = λ x y h e. absurd (let z = zeros x in omega (arith, z, h));
      };
      free_are = record {
        known = λ i h. absurd (omega (arith, h));
        unused = λ i x h e. omega (arith, h);
        apart = λ i j h l e. absurd (omega (arith, h));
      };
    };
    values = λ a ia. (let z = zero_answer a in omega (arith, z));
    counted = count_none r levels (slice_index xs) (λ a k ia h. zero_group a k h);
  }
