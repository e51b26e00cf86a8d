-- The slots at which the path of a network ends.
use Rattle.std.proofs.Common.{◌≡◌, ◌⊎◌, ℕ, zero, suc, ◌+◌, ◌-◌, ◌*◌, ◌/◌, ◌%◌, ◌^◌, ◌<◌, ◌≤◌, sym, ap, ◌∙◌, subst, arith, inl, inr, pow-add}
use Rattle.std.proofs.Math.Nat.{zero-div}
use Rattle.std.proofs.lemmas.Nat.{field_of, mod-pow-add, mod_below, pow_pos, row_fits, shr_below, shr_split}
use Rattle.std.proofs.lemmas.Bool.{cases_lt}
use Rattle.prefix_trie_forwarding.specs.Walks.{upper, slot_in, IsAddress, IsRun, Reaches, AreSlots}
use Rattle.prefix_trie_forwarding.proofs.Walks.{slot_inside}
use Rattle.prefix_trie_forwarding.proofs.Changes.{at_root, one_more, steps_of}

-- walks reach slots that exist
pub reached_inside : (root levels groups : ℕ) (s : ℕ → ℕ) (a n k x : ℕ) → AreSlots groups s → IsAddress root levels a → Reaches root levels s a n k x → x < root + 256 * groups
unfolding Reaches
reached_inside root levels groups s a zero k x are ia r = omega (arith, r.1, ia)
reached_inside root levels groups s a (suc n) k x are ia r =
    subst (λ x. x < root + 256 * groups) (sym r.3) (slot_inside root groups s r.0 (upper k a) are r.2)

-- a run within a group ends within it
aligned_byte : (d q : ℕ) → d ≤ 8 → q % 2 ^ d ≡ 0 → q % 256 + 2 ^ d ≤ 256
aligned_byte d q h e =
    let size : 8 ≡ 8 - d + d = omega arith in
    let w = q / 2 ^ d % 2 ^ (8 - d) in
    let parts : q % 256 ≡ w * 2 ^ d + q % 2 ^ d = ap (λ n. q % 2 ^ n) size ∙ mod-pow-add q (8 - d) d in
    let whole : 256 ≡ 2 ^ (8 - d) * 2 ^ d = ap (λ n. 2 ^ n) size ∙ pow-add 2 (8 - d) d in
    let below : w < 2 ^ (8 - d) = mod_below (q / 2 ^ d) (2 ^ (8 - d)) (pow_pos (8 - d)) in
    let last = row_fits w (2 ^ d) (2 ^ (8 - d)) (2 ^ d) below (let l : 2 ^ d ≤ 2 ^ d = omega arith in l) in
    omega (arith, parts, whole, last, e)

-- the slots of a run exist
run_fits_from : (root levels groups b n k d x : ℕ) (s : ℕ → ℕ) → AreSlots groups s → upper k b % 2 ^ d ≡ 0 → ((k ≡ levels) × (x + 2 ^ d ≤ root)) ⊎ ((suc k ≤ levels) × (d ≤ 8))
    → Reaches root levels s b n k x → x + 2 ^ d ≤ root + 256 * groups
unfolding Reaches
run_fits_from root levels groups b n k d x s are even (inl top) r = omega (arith, top.1)
run_fits_from root levels groups b zero k d x s are even (inr low) r = absurd (omega (arith, low.0, r.0))
run_fits_from root levels groups b (suc n) k d x s are even (inr low) r =
    omega (arith, r.3, r.2, are.inside r.0 r.2, aligned_byte d (upper k b) low.1 even)

pub run_fits : (root levels groups b n k d x : ℕ) (s : ℕ → ℕ) → AreSlots groups s → IsRun root levels b n k d x s → x + 2 ^ d ≤ root + 256 * groups
run_fits root levels groups b n k d x s are run = run_fits_from root levels groups b n k d x s are run.aligned run.place run.reached

-- the last bits of a prefix are zeros
aligned_upper : (b k d bits : ℕ) → bits ≡ d + 8 * k → b % 2 ^ bits ≡ 0 → upper k b % 2 ^ d ≡ 0
unfolding upper
aligned_upper b k d bits e even =
    sym (field_of b d (8 * k)) ∙ ap (λ n. b % 2 ^ n / 2 ^ (8 * k)) (sym e) ∙ ap (λ n. n / 2 ^ (8 * k)) even ∙ zero-div (2 ^ (8 * k))

-- a number below 2^(a + b) that ends in a zeros is at least 2^a below the end
aligned_fits : (q d r : ℕ) → d ≤ r → q < 2 ^ r → q % 2 ^ d ≡ 0 → q + 2 ^ d ≤ 2 ^ r
aligned_fits q d r within small even =
    let size : r ≡ r - d + d = omega (arith, within) in
    let whole : 2 ^ r ≡ 2 ^ (r - d) * 2 ^ d = ap (λ n. 2 ^ n) size ∙ pow-add 2 (r - d) d in
    let below : q / 2 ^ d < 2 ^ (r - d) = shr_below q (r - d) d (subst (λ n. q < 2 ^ n) size small) in
    let last = row_fits (q / 2 ^ d) (2 ^ d) (2 ^ (r - d)) (2 ^ d) below (let l : 2 ^ d ≤ 2 ^ d = omega arith in l) in
    omega (arith, whole, last, even, shr_split q d)

-- where the path of a network ends are its slots
pub run_of : (r levels b n k d x bits : ℕ) (s : ℕ → ℕ) → bits ≡ 8 * k + d → (suc k ≤ levels → d ≤ 8) → (k ≡ levels → d ≤ r)
    → b % 2 ^ bits ≡ 0 → IsAddress (2 ^ r) levels b → Reaches (2 ^ r) levels s b n k x → IsRun (2 ^ r) levels b n k d x s
run_of r levels b n k d x bits s size byte first even ib reached =
    let aligned = aligned_upper b k d bits (omega (arith, size)) even in
    record {
      reached = reached;
      aligned = aligned;
      place = elim (cases_lt k levels) [
        | inl l ↦ inr (l, byte l)
        | inr g ↦ (
            let top : k ≡ levels = (let e = steps_of (2 ^ r) levels s b n k x reached in omega (arith, e, g)) in
            let at = at_root (2 ^ r) levels s b n k x top reached in
            let fits = aligned_fits (upper k b) d r (first top) (subst (λ k. upper k b < 2 ^ r) (sym top) ib) aligned in
            let same : upper k b ≡ x = ap (λ k. upper k b) top ∙ sym at in
            inl (top, omega (arith, fits, same)))
      ];
    }

-- the walk in a group
pub entered : (root levels b n k x g y : ℕ) (s : ℕ → ℕ) → Reaches root levels s b n (suc k) x → s x ≡ 2147483648 + g → y ≡ slot_in root (2147483648 + g) (upper k b) → Reaches root levels s b (suc n) k y
entered root levels b n k x g y s r link at =
    subst (λ z. Reaches root levels s b (suc n) k z) (ap (λ e. slot_in root e (upper k b)) link ∙ sym at) (one_more root levels s b n k x r (omega (arith, link)))

pub stepped : (root levels b n k x e y : ℕ) (s : ℕ → ℕ) → Reaches root levels s b n (suc k) x → e ≡ s x → 2147483648 ≤ s x → y ≡ slot_in root e (upper k b) → Reaches root levels s b (suc n) k y
stepped root levels b n k x e y s r is group at =
    subst (λ z. Reaches root levels s b (suc n) k z) (ap (λ e. slot_in root e (upper k b)) (sym is) ∙ sym at) (one_more root levels s b n k x r group)
