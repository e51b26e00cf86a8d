-- Bits of a bitmap of 32 bits, and what the functions of `node` promise about them.
use Rattle.prefix_trie_table.proofs.Prelude.{◌≡◌, ◌≢◌, ℕ, ◌<◌, inl, inr, Bool, true, false, cond, ◌||◌, refl, sym, ap, ◌∙◌, nat_eq, ltb, eqb, bit_at, bit_at-zero, false≢true, eqb_tells, has, Sets, has_bit}
use Rattle.std.proofs.lemmas.Bool.{ltb-true}
pub use Rattle.prefix_trie_bits.proofs.Ranks.{has_bit-is, if_set-length}

cond_left : (a b : Bool) → cond a b false ≡ true → (a ≡ true) × (b ≡ true)
cond_left true b e = (refl, e)
cond_left false b e = absurd (false≢true e)

pub has_bit-below : (n b : ℕ) → has_bit n b ≡ true → b < 32
unfolding has_bit
has_bit-below n b h = ltb-true b 32 (cond_left _ _ h).0

pub has_bit-zero : (b : ℕ) → has_bit 0 b ≡ false
unfolding has_bit
has_bit-zero b = elim (ltb b 32) as (λ v. cond v (eqb (bit_at 0 b) 1) false ≡ false) [ true ↦ ap (λ n. eqb n 1) (bit_at-zero b) | false ↦ refl ]

pub has_bit-past : (n b : ℕ) → ltb b 32 ≡ false → has_bit n b ≡ false
unfolding has_bit
has_bit-past n b h = ap (λ t. cond t (has n b) false) h

-- which bits are set after one bit was set
pub has_bit-sets : (m k m' i : ℕ) → Sets m k m' → k < 32 → has_bit m' i ≡ (nat_eq i k || has_bit m i)
has_bit-sets m k m' i sets h =
    elim (eqb_tells i k) as (λ _. has_bit m' i ≡ (nat_eq i k || has_bit m i)) [
      | inl t ↦ rw t.0 (ap (has_bit m') t.1 ∙ has_bit-is m' k h ∙ sets.present)
      | inr t ↦ rw t.0 (go (ltb i 32) refl t.1)
    ]
  where
    go : (b : Bool) → ltb i 32 ≡ b → i ≢ k → has_bit m' i ≡ has_bit m i
    go true e ne = has_bit-is m' i (ltb-true i 32 e) ∙ sets.others i ne ∙ sym (has_bit-is m i (ltb-true i 32 e))
    go false e ne = has_bit-past m' i e ∙ sym (has_bit-past m i e)
