-- Bitmaps that lose a bit, and bitmaps without bits: for removals.
use Rattle.prefix_trie_table.proofs.Prelude.{◌≡◌, ◌≢◌, ℕ, zero, suc, ◌+◌, ◌<◌, inl, inr, true, false, ◌||◌, length, length-append, sym, ap, ◌∙◌, arith, cases_Bool, Sets, has_bit, if_set, bits_below, rank}
use Rattle.prefix_trie_table.proofs.Strings.Bits.{has_bit-is, has_bit-sets, has_bit-below}
use Rattle.prefix_trie_table.proofs.Strings.BitLists.{rank-below, rank-more-one}
use Rattle.prefix_trie_table.proofs.Tree.Children.{other_number}

-- the bitmap `left` is `old` without bit b
module _ (left old b : ℕ) (sets : Sets left b old) (small : b < 32) where
  pub cleared : has_bit left b ≡ false
  cleared = has_bit-is left b small ∙ sets.clear

  pub was_set : has_bit old b ≡ true
  was_set = has_bit-is old b small ∙ sets.present

  pub others_stay : (i : ℕ) → i ≢ b → has_bit left i ≡ has_bit old i
  others_stay i ne = sym (has_bit-sets left b old i sets small ∙ ap (λ t. t || has_bit left i) (other_number i b ne))

  pub one_fewer : rank left 32 + 1 ≡ rank old 32
  one_fewer = sym (rank-more-one left old b small cleared was_set (λ i ne. sym (others_stay i ne)))

-- a bitmap of rank 0 has no bit
pub no_bit : (bitmap i : ℕ) → rank bitmap 32 ≡ 0 → has_bit bitmap i ≡ false
no_bit bitmap i none = elim (cases_Bool (has_bit bitmap i)) as (λ _. has_bit bitmap i ≡ false) [
  | inl set ↦ absurd (let h = rank-below bitmap i (has_bit-below bitmap i set) set in omega arith)
  | inr clear ↦ clear
]

some_below : (bitmap n : ℕ) → 0 < length (bits_below bitmap n) → (i : ℕ) × (has_bit bitmap i ≡ true)
some_below bitmap zero h = absurd (omega arith)
some_below bitmap (suc n) h = elim (cases_Bool (has_bit bitmap n)) as (λ _. (i : ℕ) × (has_bit bitmap i ≡ true)) [
  | inl set ↦ (n, set)
  | inr clear ↦
      let none : length (if_set (has_bit bitmap n) n) ≡ 0 = ap (λ s. length (if_set s n)) clear in
      some_below bitmap n (omega (arith, h, none, length-append (bits_below bitmap n) (if_set (has_bit bitmap n) n)))
]

-- each other bitmap has a bit
pub some_bit : (bitmap : ℕ) → 0 < rank bitmap 32 → (i : ℕ) × (has_bit bitmap i ≡ true)
unfolding rank
some_bit bitmap h = some_below bitmap 32 h
