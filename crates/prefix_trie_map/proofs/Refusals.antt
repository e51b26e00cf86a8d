-- A refusal whose cause is not the limit has the cause `Memory`: for `new` and `from_iter`.
use Rattle.prefix_trie_map.proofs.Prelude.{◌≡◌, ◌↔◌, ℕ, suc, Result, Ok, Err, IfErr, refl, arith, Refusal, Memory, IndexRange}

-- if the cause is `IndexRange` only for a limit of 0, it is `Memory`
pub only_memory : (cause : Refusal) (limit : ℕ) → (cause ≡ IndexRange → suc limit ≡ 0) → cause ≡ Memory
only_memory Memory limit h = refl
only_memory IndexRange limit h = absurd (omega (arith, h refl))

-- the same for the error of a result
pub refused_for_memory : {X : Type 0} (answer : Result X Refusal) (limit : ℕ) → IfErr answer (λ cause. (cause ≡ IndexRange) ↔ (suc limit ≡ 0)) →
    IfErr answer (λ cause. cause ≡ Memory)
refused_for_memory (Ok x) limit h = tt
refused_for_memory (Err cause) limit h = only_memory cause limit h.0

-- `Memory` is not `IndexRange`
pub memory_alone : (cause : Refusal) → cause ≡ Memory → cause ≡ IndexRange → ⊥
memory_alone cause is range = cc
