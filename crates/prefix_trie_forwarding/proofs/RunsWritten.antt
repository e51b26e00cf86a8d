-- The slots of a network are those that its addresses reach.
use Rattle.std.proofs.Common.{◌≡◌, ◌⊎◌, ℕ, suc, ◌+◌, ◌-◌, ◌*◌, ◌/◌, ◌%◌, ◌^◌, ◌<◌, ◌≤◌, sym, ap, ◌∙◌, subst, arith, inl, inr}
use Rattle.std.proofs.lemmas.Nat.{shr-shr, shr_split, mod_below, pow_pos, shr_high}
use Rattle.std.proofs.Math.Nat.{mul-add-div_right}
use Rattle.prefix_trie_forwarding.specs.Walks.{upper, IsAddress, Reaches, AreSlots, IsRun}
use Rattle.prefix_trie_forwarding.proofs.Walks.{upper-suc, walks_part}
use Rattle.prefix_trie_forwarding.proofs.Changes.{at_root, near}

-- an address without its last 8 * k + d bits
pub upper-shift : (k d a : ℕ) → upper k a / 2 ^ d ≡ a / 2 ^ (8 * k + d)
unfolding upper
upper-shift k d a = shr-shr a (8 * k) d

-- d bits less than a byte
pub byte_of : (d q : ℕ) → d ≤ 8 → q / 256 ≡ q / 2 ^ d / 2 ^ (8 - d)
byte_of d q h = ap (λ n. q / 2 ^ n) (let e : 8 ≡ d + (8 - d) = omega arith in e) ∙ sym (shr-shr q d (8 - d))

-- quotients by more
pub upper_further : (k levels a b : ℕ) → k ≤ levels → upper k a ≡ upper k b → upper levels a ≡ upper levels b
unfolding upper
upper_further k levels a b h e =
    let n : 8 * levels ≡ 8 * k + 8 * (levels - k) = omega arith in
    ap (λ n. a / 2 ^ n) n ∙ sym (shr-shr a (8 * k) (8 * (levels - k))) ∙ ap (λ q. q / 2 ^ (8 * (levels - k))) e ∙
    shr-shr b (8 * k) (8 * (levels - k)) ∙ ap (λ n. b / 2 ^ n) (sym n)

pub upper-add : (k b i : ℕ) → upper k (i * 2 ^ (8 * k) + b) ≡ i + upper k b
unfolding upper
upper-add k b i = mul-add-div_right (pow_pos (8 * k)) i b

module _ (root levels groups b n k d x : ℕ) (s : ℕ → ℕ) (are : AreSlots groups s) (ib : IsAddress root levels b) (run : IsRun root levels b n k d x s) where
  begin : upper k b / 2 ^ d * 2 ^ d ≡ upper k b
  begin = omega (arith, shr_split (upper k b) d, run.aligned)

  -- an address with the same first bits is some slots further on
  further : (a : ℕ) → upper k a / 2 ^ d ≡ upper k b / 2 ^ d → upper k a ≡ upper k b + upper k a % 2 ^ d
  further a e =
      let p = shr_split (upper k a) d in
      let f : upper k a / 2 ^ d * 2 ^ d ≡ upper k b / 2 ^ d * 2 ^ d = ap (λ z. z * 2 ^ d) e in
      omega (arith, p, f, begin)

  -- and the other way round
  first_bits : (q i : ℕ) → q ≡ upper k b + i → i < 2 ^ d → q / 2 ^ d ≡ upper k b / 2 ^ d
  first_bits q i e h =
      ap (λ z. z / 2 ^ d) (e ∙ ap (λ o. o + i) (sym begin)) ∙ shr_high (upper k b / 2 ^ d) d i h

  -- so it has the same byte before
  same_byte : (q : ℕ) → q / 2 ^ d ≡ upper k b / 2 ^ d → d ≤ 8 → q / 256 ≡ upper k b / 256
  same_byte q e h = byte_of d q h ∙ ap (λ z. z / 2 ^ (8 - d)) e ∙ sym (byte_of d (upper k b) h)

  forward : (a : ℕ) → upper k a / 2 ^ d ≡ upper k b / 2 ^ d → Reaches root levels s a n k (x + upper k a % 2 ^ d)
  forward a e =
      near root levels s a b n k x (upper k a % 2 ^ d) (further a e)
      (elim run.place [ inl top ↦ inl top.0 | inr low ↦ inr (same_byte (upper k a) e low.1) ])
      run.reached

  -- an address that reaches one of the slots has the same first bits
  module _ (i : ℕ) (small : i < 2 ^ d) where
    other : ℕ
    other = i * 2 ^ (8 * k) + b

    upper-other : upper k other ≡ upper k b + i
    unfolding other
    upper-other = let e = upper-add k b i in omega (arith, e)

    other-address : ((k ≡ levels) × (x + 2 ^ d ≤ root)) ⊎ ((suc k ≤ levels) × (d ≤ 8)) → IsAddress root levels other
    other-address (inl top) =
        let at = at_root root levels s b n k x top.0 run.reached in
        let here : upper levels other ≡ upper levels b + i = subst (λ k. upper k other ≡ upper k b + i) top.0 upper-other in
        omega (arith, at, here, top.1, small)
    other-address (inr low) =
        let f = same_byte (upper k other) (first_bits (upper k other) i upper-other small) low.1 in
        let above : upper (suc k) other ≡ upper (suc k) b = upper-suc k other ∙ f ∙ sym (upper-suc k b) in
        subst (λ q. q < root) (sym (upper_further (suc k) levels other b low.0 above)) ib

    other-reaches : Reaches root levels s other n k (x + i)
    other-reaches =
        near root levels s other b n k x i upper-other
        (elim run.place [ inl top ↦ inl top.0 | inr low ↦ inr (same_byte (upper k other) (first_bits (upper k other) i upper-other small) low.1) ])
        run.reached

    backward : (a m j : ℕ) → IsAddress root levels a → Reaches root levels s a m j (x + i) → (j ≡ k) × (upper k a ≡ upper k b + i)
    backward a m j ia r =
        let w = walks_part root levels groups s are a other m n j k (x + i) ia (other-address run.place) r other-reaches in
        (w.1, ap (λ k. upper k a) (sym w.1) ∙ w.2 ∙ ap (λ j. upper j other) w.1 ∙ upper-other)

  -- each slot of a run is reached by an address with the same first bits
  pub run_each : (i : ℕ) → i < 2 ^ d → (c : ℕ) × IsAddress root levels c × Reaches root levels s c n k (x + i) × (upper k c / 2 ^ d ≡ upper k b / 2 ^ d)
  run_each i small = (other i small, other-address i small run.place, other-reaches i small, first_bits (upper k (other i small)) i (upper-other i small) small)

  -- and each address with the same first bits reaches one
  pub run_at : (a : ℕ) → upper k a / 2 ^ d ≡ upper k b / 2 ^ d → (i : ℕ) × (i < 2 ^ d) × Reaches root levels s a n k (x + i)
  run_at a e = (upper k a % 2 ^ d, mod_below (upper k a) (2 ^ d) (pow_pos d), forward a e)
