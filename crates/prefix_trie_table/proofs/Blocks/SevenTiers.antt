-- What holds of each of the seven tiers holds of all tiers of an array.
use Rattle.prefix_trie_table.proofs.Prelude.{ℕ, zero, suc, ◌<◌, arith}

pub at_seven : (P : ℕ → Type 0) → P 0 → P 1 → P 2 → P 3 → P 4 → P 5 → P 6 → (k : ℕ) → k < 7 → P k
at_seven P a b c d m n o zero h = a
at_seven P a b c d m n o (suc zero) h = b
at_seven P a b c d m n o (suc (suc zero)) h = c
at_seven P a b c d m n o (suc (suc (suc zero))) h = d
at_seven P a b c d m n o (suc (suc (suc (suc zero)))) h = m
at_seven P a b c d m n o (suc (suc (suc (suc (suc zero))))) h = n
at_seven P a b c d m n o (suc (suc (suc (suc (suc (suc zero)))))) h = o
at_seven P a b c d m n o (suc (suc (suc (suc (suc (suc (suc k))))))) h = absurd (omega (arith, h))
