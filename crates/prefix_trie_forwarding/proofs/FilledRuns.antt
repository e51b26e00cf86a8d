-- Changing the run of a network changes the answers to its addresses.
use Rattle.std.proofs.Common.{◌≡◌, ℕ, zero, suc, ◌+◌, ◌-◌, ◌*◌, ◌/◌, ◌^◌, ◌<◌, ◌≤◌, sym, ap, ◌∙◌, subst, arith, inl, inr}
use Rattle.std.proofs.lemmas.Bool.{cases_eq, cond-true, cond-false, eq-eqb, ne_eqb}
use Rattle.std.proofs.Math.Nat.{zero-div}
use Rattle.prefix_trie_forwarding.specs.Walks.{upper, slot_in, IsAddress, IsRun, IsChanged, HasValues, Reaches, AreSlots, IsUnder, AreChanged}
use Rattle.prefix_trie_forwarding.proofs.Walks.{upper-suc, value_reached, walks_part}
use Rattle.prefix_trie_forwarding.proofs.Changes.{at_start, groups_stay, one_more, same_path, steps_of}
use Rattle.prefix_trie_forwarding.proofs.RunsWritten.{run_at, run_each, upper-add, upper-shift, upper_further}
use Rattle.prefix_trie_forwarding.proofs.Filling.{same_along}

upper-zero : (k : ℕ) → upper k 0 ≡ 0
unfolding upper
upper-zero k = zero-div (2 ^ (8 * k))

-- the address whose next byte is i
next : ℕ → ℕ → ℕ → ℕ
next k b i = (upper (suc k) b * 256 + i) * 2 ^ (8 * k) + 0

next-upper : (k b i : ℕ) → upper k (next k b i) ≡ upper (suc k) b * 256 + i
unfolding next
next-upper k b i = upper-add k 0 (upper (suc k) b * 256 + i) ∙ (let z = upper-zero k in omega (arith, z))

-- each slot of a group is reached by an address of its block
pub group_address : (root levels n k z b i : ℕ) (s : ℕ → ℕ) → suc k ≤ levels → i < 256 → IsAddress root levels b → Reaches root levels s b n (suc k) z → 2147483648 ≤ s z
    → (c : ℕ) × IsAddress root levels c × Reaches root levels s c (suc n) k (root + 256 * (s z - 2147483648) + i) × (upper (suc k) c ≡ upper (suc k) b)
group_address root levels n k z b i s more small ib r group =
    let q = next-upper k b i in
    let above : upper (suc k) (next k b i) ≡ upper (suc k) b = (let f = upper-suc k (next k b i) in omega (arith, q, f, small)) in
    let at : slot_in root (s z) (upper k (next k b i)) ≡ root + 256 * (s z - 2147483648) + i = omega (arith, q, small) in (
      next k b i,
      subst (λ q. q < root) (sym (upper_further (suc k) levels (next k b i) b more above)) ib,
      subst (λ x. Reaches root levels s (next k b i) (suc n) k x) at (one_more root levels s (next k b i) n k z (same_path root levels s (next k b i) b n (suc k) z above r) group),
      above,
    )

-- the slots under a run are reached by addresses with the same first bits
module _ (root levels K d b : ℕ) (s : ℕ → ℕ) where
  abbrev pub AreReached : ℕ → ℕ → ℕ → ℕ → Type 0
  AreReached n k low count = (i : ℕ) → i < count → (c : ℕ) × IsAddress root levels c × Reaches root levels s c n k (low + i) × (upper K c / 2 ^ d ≡ upper K b / 2 ^ d)

  abbrev pub IsReachedBelow : ℕ → ℕ → Type 0
  IsReachedBelow k x = (c : ℕ) × (m : ℕ) × (j : ℕ) × (j ≤ k) × IsAddress root levels c × Reaches root levels s c m j x × (upper K c / 2 ^ d ≡ upper K b / 2 ^ d)

  here : (n k low count x : ℕ) → AreReached n k low count → low ≤ x → x < low + count → IsReachedBelow k x
  here n k low count x each l h =
      let e : low + (x - low) ≡ x = omega arith in
      let w = each (x - low) (omega arith) in
      (w.0, n, k, omega arith, w.1, subst (λ x. Reaches root levels s w.0 n k x) e w.2, w.3)

  within_group : (n k z c i : ℕ) → suc k ≤ K → K ≤ levels → i < 256 → IsAddress root levels c → Reaches root levels s c n (suc k) z → upper K c / 2 ^ d ≡ upper K b / 2 ^ d → 2147483648 ≤ s z
      → (c : ℕ) × IsAddress root levels c × Reaches root levels s c (suc n) k (root + 256 * (s z - 2147483648) + i) × (upper K c / 2 ^ d ≡ upper K b / 2 ^ d)
  within_group n k z c i le top small ia r p group =
      let w = group_address root levels n k z c i s (omega (arith, le, top)) small ia r group in
      (w.0, w.1, w.2, ap (λ q. q / 2 ^ d) (upper_further (suc k) K w.0 c le w.3) ∙ p)

  pub under_reached : (n k low count x : ℕ) → k ≤ K → K ≤ levels → AreReached n k low count → IsUnder root s k low count x → IsReachedBelow k x
  unfolding IsUnder
  under_reached n zero low count x le top each w = here n zero low count x each w.0 w.1
  under_reached n (suc k) low count x le top each (inl w) = here n (suc k) low count x each w.0 w.1
  under_reached n (suc k) low count x le top each (inr w) =
      let e : low + (w.0 - low) ≡ w.0 = omega (arith, w.1) in
      let f = each (w.0 - low) (omega (arith, w.1, w.2)) in
      let r = subst (λ z. Reaches root levels s f.0 n (suc k) z) e f.2 in
      let v = under_reached (suc n) k (root + 256 * (s w.0 - 2147483648)) 256 x (omega (arith, le)) top (λ i small. within_group n k w.0 f.0 i le top small f.1 r f.3 w.3) w.4 in
      (v.0, v.1, v.2, omega (arith, v.3), v.4, v.5, v.6)

-- changing the slots of a run, and the groups below them, changes the answers to the addresses of the network
pub run_changed : (root levels groups b n k d x : ℕ) (f s t : ℕ → ℕ) → AreSlots groups s → HasValues root levels s → IsAddress root levels b → IsRun root levels b n k d x s
    → AreChanged root f k x (2 ^ d) s t (x + 2 ^ d) → IsChanged root levels b (8 * k + d) f s t
run_changed root levels groups b n k d x f s t are values ib run change a ia =
    elim (cases_eq (a / 2 ^ (8 * k + d)) (b / 2 ^ (8 * k + d))) [
      | inl e ↦
          let w = run_at root levels groups b n k d x s are ib run a (upper-shift k d a ∙ e ∙ sym (upper-shift k d b)) in
          let old = value_reached root levels s a n k (x + w.0) w.2 in
          sym (value_reached root levels t a n k (x + w.0) (groups_stay root levels s t change.by.groups a n k (x + w.0) w.2)) ∙
          change.done a (x + w.0) (omega arith) (omega (arith, w.1)) (subst (λ q. q < 2147483648) (sym old) (values a ia)) ∙
          ap f old ∙ sym (cond-true _ _ _ (eq-eqb _ _ e))
      | inr ne ↦
          same_along root levels s t a (λ m j y r. elim (change.under y) [ inl e ↦ e | inr w ↦ absurd (ne (inside m j y r w)) ]) 0 levels (upper levels a) (at_start root levels s a) ∙
          sym (cond-false _ _ _ (ne_eqb _ _ ne))
    ]
  where
    inside : (m j y : ℕ) → Reaches root levels s a m j y → IsUnder root s k x (2 ^ d) y → a / 2 ^ (8 * k + d) ≡ b / 2 ^ (8 * k + d)
    inside m j y r w =
        let depth = steps_of root levels s b n k x run.reached in
        let u = under_reached root levels k d b s n k x (2 ^ d) y (omega arith) (omega (arith, depth)) (λ i l. run_each root levels groups b n k d x s are ib run i l) w in
        let p = walks_part root levels groups s are a u.0 m u.1 j u.2 y ia u.4 r u.5 in
        let lower : j ≤ k = omega (arith, p.1, u.3) in
        sym (upper-shift k d a) ∙ ap (λ q. q / 2 ^ d) (upper_further j k a u.0 lower p.2) ∙ u.6 ∙ upper-shift k d b
