-- The walks of two addresses part where the addresses differ.
use Rattle.std.proofs.Common.{◌≡◌, ℕ, zero, suc, ◌+◌, ◌*◌, ◌/◌, ◌%◌, ◌^◌, ◌<◌, ◌≤◌, refl, sym, ap, ap₂, ◌∙◌, subst, arith}
use Rattle.std.proofs.lemmas.Nat.{shr-shr}
use Rattle.std.proofs.lemmas.Bool.{cond-true, cond-false, lt-ltb, le-ltb}
use Rattle.prefix_trie_forwarding.specs.Walks.{upper, slot_in, value_from, answer, IsAddress, Reaches, AreSlots}

pub upper-suc : (k a : ℕ) → upper (suc k) a ≡ upper k a / 256
unfolding upper
upper-suc k a = ap (λ n. a / 2 ^ n) (let e : 8 * suc k ≡ 8 * k + 8 = omega arith in e) ∙ sym (shr-shr a (8 * k) 8)

-- a value ends the walk
pub value_from-value : (root : ℕ) (s : ℕ → ℕ) (a k x : ℕ) → s x < 2147483648 → value_from root s a k x ≡ s x
unfolding value_from
value_from-value root s a zero x h = refl
value_from-value root s a (suc k) x h = cond-true _ _ _ (lt-ltb (s x) 2147483648 h)

-- a group leads on
pub value_from-group : (root : ℕ) (s : ℕ → ℕ) (a k x : ℕ) → 2147483648 ≤ s x → value_from root s a (suc k) x ≡ value_from root s a k (slot_in root (s x) (upper k a))
unfolding value_from
value_from-group root s a k x h = cond-false _ _ _ (le-ltb (s x) 2147483648 h)

-- the value from a slot that the walk reaches is the answer
pub value_reached : (root levels : ℕ) (s : ℕ → ℕ) (a n k x : ℕ) → Reaches root levels s a n k x → value_from root s a k x ≡ answer root levels s a
unfolding Reaches
value_reached root levels s a zero k x r = ap₂ (λ k x. value_from root s a k x) r.0 r.1
value_reached root levels s a (suc n) k x r =
    ap (λ x. value_from root s a k x) r.3 ∙ sym (value_from-group root s a k r.0 r.2) ∙ value_reached root levels s a n (suc k) r.0 r.1

module _ (root levels groups : ℕ) (s : ℕ → ℕ) (are : AreSlots groups s) where
  pub walks_part_here : (a b n m k j x : ℕ)
      → IsAddress root levels a → IsAddress root levels b → Reaches root levels s a n k x → Reaches root levels s b m j x
      → (n ≡ m) × (k ≡ j) × (upper k a ≡ upper k b)
  unfolding Reaches
  walks_part_here a b zero zero k j x ia ib r q =
      (refl, r.0 ∙ sym q.0, ap (λ k. upper k a) r.0 ∙ sym r.1 ∙ q.1 ∙ ap (λ k. upper k b) (sym r.0))
  walks_part_here a b zero (suc m) k j x ia ib r q = absurd (omega (arith, ia, r.1, q.3))
  walks_part_here a b (suc n) zero k j x ia ib r q = absurd (omega (arith, ib, q.1, r.3))
  walks_part_here a b (suc n) (suc m) k j x ia ib r q =
      let at : s r.0 ≡ s q.0 = omega (arith, r.2, r.3, q.2, q.3) in
      let byte : upper k a % 256 ≡ upper j b % 256 = omega (arith, r.2, r.3, q.2, q.3) in
      let one : r.0 ≡ q.0 = are.single r.0 q.0 r.2 at in
      let before = walks_part_here a b n m (suc k) (suc j) r.0 ia ib r.1 (subst (λ y. Reaches root levels s b m (suc j) y) (sym one) q.1) in
      let level : k ≡ j = omega (arith, before.1) in
      let steps : suc n ≡ suc m = omega (arith, before.0) in
      let last : upper j b ≡ upper k b = ap (λ k. upper k b) (sym level) in
      (steps, level, omega (arith, byte, last, before.2, upper-suc k a, upper-suc k b))

-- if the walks of two addresses reach one slot, they took as many steps and the addresses agree so far
pub walks_part : (root levels groups : ℕ) (s : ℕ → ℕ) → AreSlots groups s → (a b n m k j x : ℕ)
    → IsAddress root levels a → IsAddress root levels b → Reaches root levels s a n k x → Reaches root levels s b m j x
    → (n ≡ m) × (k ≡ j) × (upper k a ≡ upper k b)
walks_part root levels groups s are = walks_part_here root levels groups s are

-- a walk of which the value is to come has bytes left
pub goes_on : (root : ℕ) (s : ℕ → ℕ) (a k x v : ℕ) → value_from root s a k x ≡ v → v < 2147483648 → 2147483648 ≤ s x → 0 < k
unfolding value_from
goes_on root s a zero x v e l h = absurd (omega (arith, e, l, h))
goes_on root s a (suc k) x v e l h = omega arith

-- the slots of a group that a slot refers to are slots
pub slot_inside : (root groups : ℕ) (s : ℕ → ℕ) (y q : ℕ) → AreSlots groups s → 2147483648 ≤ s y → slot_in root (s y) q < root + 256 * groups
slot_inside root groups s y q are h = omega (arith, h, are.inside y h)

-- one step of a lookup
pub value_stepped : (root : ℕ) (s : ℕ → ℕ) (a k x e y v : ℕ) → value_from root s a (suc k) x ≡ v → e ≡ s x → 2147483648 ≤ e → y ≡ slot_in root e (upper k a) → value_from root s a k y ≡ v
value_stepped root s a k x e y v before is group at =
    ap (λ z. value_from root s a k z) (at ∙ ap (λ e. slot_in root e (upper k a)) is) ∙
    sym (value_from-group root s a k x (subst (λ n. 2147483648 ≤ n) is group)) ∙ before
