-- A new group in the place of a value changes no answer.
use Rattle.std.proofs.Common.{◌≡◌, ◌≢◌, ◌⊎◌, ℕ, zero, suc, ◌+◌, ◌*◌, ◌<◌, ◌≤◌, sym, ap, ◌∙◌, subst, arith, inl, inr}
use Rattle.std.proofs.lemmas.Bool.{cases_lt, cases_eq, cases_order}
use Rattle.prefix_trie_forwarding.specs.Walks.{upper, slot_in, value_from, IsAddress, Reaches, AreSlots, AgreesOutside, IsSame, HasGroup, KeepsGroups, GainsGroup}
use Rattle.prefix_trie_forwarding.proofs.Walks.{value_from-value, value_from-group, value_reached, walks_part}
use Rattle.prefix_trie_forwarding.proofs.Changes.{groups_stay, met, same_path, unmet}

-- no walk reaches a group to which no slot refers
pub unused_unmet : (root levels : ℕ) (s : ℕ → ℕ) (g : ℕ) → ((x : ℕ) → s x ≢ 2147483648 + g) → (a : ℕ) → IsAddress root levels a → (n k x : ℕ) → Reaches root levels s a n k x
    → (x < root + 256 * g) ⊎ (root + 256 * g + 256 ≤ x)
unfolding Reaches
unused_unmet root levels s g unused a ia zero k x r = inl (omega (arith, ia, r.1))
unused_unmet root levels s g unused a ia (suc n) k x r =
    elim (cases_order (s r.0) (2147483648 + g)) [
      | inl e ↦ absurd (unused r.0 e)
      | inr (inl l) ↦ inl (omega (arith, l, r.2, r.3))
      | inr (inr l) ↦ inr (omega (arith, l, r.2, r.3))
    ]

module _ (root levels g : ℕ) (s t : ℕ → ℕ) (unused : (x : ℕ) → s x ≢ 2147483648 + g) (out : AgreesOutside (root + 256 * g) (root + 256 * g + 256) s t) where
  -- so it may be filled
  pub filled_same : IsSame root levels s t
  filled_same a ia = unmet root levels _ _ s t out a (unused_unmet root levels s g unused a ia)

  pub filled_reached : (a : ℕ) → IsAddress root levels a → (n k x : ℕ) → Reaches root levels s a n k x → Reaches root levels t a n k x
  filled_reached a ia n k x r =
      met root levels _ _ s t out k a n k x
      (λ m j y q low high. absurd (elim (unused_unmet root levels s g unused a ia m j y q) [ inl l ↦ omega (arith, l, low) | inr h ↦ omega (arith, h, high) ]))
      (omega arith) r

  -- the blocks with groups are the same
  filled_keeps : (a : ℕ) → IsAddress root levels a → (k : ℕ) → HasGroup root levels s a k → HasGroup root levels t a k
  filled_keeps a ia k h =
      let same : t h.1 ≡ s h.1 = elim (unused_unmet root levels s g unused a ia h.0 (suc k) h.1 h.2) [ inl l ↦ out.below h.1 l | inr l ↦ out.above h.1 l ] in
      (h.0, h.1, filled_reached a ia h.0 (suc k) h.1 h.2, subst (λ n. 2147483648 ≤ n) (sym same) h.3)

pub filled_groups : (root levels g v : ℕ) (s t : ℕ → ℕ) → ((x : ℕ) → s x ≢ 2147483648 + g) → AgreesOutside (root + 256 * g) (root + 256 * g + 256) s t
    → ((y : ℕ) → root + 256 * g ≤ y → y < root + 256 * g + 256 → t y ≡ v) → v < 2147483648 → KeepsGroups root levels s t
filled_groups root levels g v s t unused out filled value a k ia =
    (filled_keeps root levels g t s unused_then (record { below = λ x h. sym (out.below x h); above = λ x h. sym (out.above x h) }) a ia k, filled_keeps root levels g s t unused out a ia k)
  where
    unused_then : (x : ℕ) → t x ≢ 2147483648 + g
    unused_then x e = elim (cases_lt x (root + 256 * g)) [
      | inl l ↦ unused x (sym (out.below x l) ∙ e)
      | inr h ↦ elim (cases_lt x (root + 256 * g + 256)) [
        | inl l ↦ let f = filled x h l in omega (arith, e, f, value)
        | inr l ↦ unused x (sym (out.above x l) ∙ e)
      ]
    ]

module _ (root levels groups g x v b n k : ℕ) (s t : ℕ → ℕ) (are : AreSlots groups s) (unused : (y : ℕ) → s y ≢ 2147483648 + g)
    (filled : (y : ℕ) → root + 256 * g ≤ y → y < root + 256 * g + 256 → s y ≡ v) (was : s x ≡ v) (value : v < 2147483648)
    (now : t x ≡ 2147483648 + g) (out : AgreesOutside x (x + 1) s t) (ib : IsAddress root levels b) (r : Reaches root levels s b n (suc k) x) where
  once : (a : ℕ) → IsAddress root levels a → (m j y : ℕ) → Reaches root levels s a m j y → x ≤ y → y < x + 1 → (j ≡ suc k) × (upper (suc k) a ≡ upper (suc k) b)
  once a ia m j y q low high =
      let e : y ≡ x = omega arith in
      let w = walks_part root levels groups s are a b m n j (suc k) x ia ib (subst (λ y. Reaches root levels s a m j y) e q) r in
      (w.1, subst (λ j. upper j a ≡ upper j b) w.1 w.2)

  pub linked_reached : (a : ℕ) → IsAddress root levels a → upper (suc k) a ≡ upper (suc k) b → Reaches root levels t a n (suc k) x
  linked_reached a ia e =
      met root levels x (x + 1) s t out (suc k) a n (suc k) x (λ m j y q low high. (once a ia m j y q low high).0) (omega arith) (same_path root levels s a b n (suc k) x e r)

  -- the slot of the new group that an address reaches has the value
  pub in_group : (q : ℕ) → t (slot_in root (2147483648 + g) q) ≡ v
  in_group q =
      let y : ℕ = slot_in root (2147483648 + g) q in
      let low : root + 256 * g ≤ slot_in root (2147483648 + g) q = omega arith in
      let high : slot_in root (2147483648 + g) q < root + 256 * g + 256 = omega arith in
      elim (unused_unmet root levels s g unused b ib n (suc k) x r) [
        | inl l ↦ out.above (slot_in root (2147483648 + g) q) (omega (arith, low, l)) ∙ filled _ low high
        | inr h ↦ out.below (slot_in root (2147483648 + g) q) (omega (arith, high, h)) ∙ filled _ low high
      ]

  -- a slot may refer to the group that is filled with its value
  pub linked_same : IsSame root levels s t
  linked_same a ia =
      elim (cases_eq (upper (suc k) a) (upper (suc k) b)) [
        | inl e ↦
            sym (value_reached root levels t a n (suc k) x (linked_reached a ia e)) ∙
            value_from-group root t a k x (subst (λ e. 2147483648 ≤ e) (sym now) (omega arith)) ∙
            ap (λ e. value_from root t a k (slot_in root e (upper k a))) now ∙
            value_from-value root t a k (slot_in root (2147483648 + g) (upper k a)) (subst (λ e. e < 2147483648) (sym (in_group (upper k a))) value) ∙
            in_group (upper k a) ∙ sym was ∙
            sym (value_from-value root s a (suc k) x (subst (λ e. e < 2147483648) (sym was) value)) ∙
            value_reached root levels s a n (suc k) x (same_path root levels s a b n (suc k) x e r)
        | inr ne ↦ unmet root levels x (x + 1) s t out a (λ m j y q. apart a ia ne m j y q (cases_lt y x) (cases_lt y (x + 1)))
      ]
    where
      apart : (a : ℕ) → IsAddress root levels a → (upper (suc k) a ≡ upper (suc k) b → ⊥) → (m j y : ℕ) → Reaches root levels s a m j y
          → (y < x) ⊎ (x ≤ y) → (y < x + 1) ⊎ (x + 1 ≤ y) → (y < x) ⊎ (x + 1 ≤ y)
      apart a ia ne m j y q (inl l) h = inl l
      apart a ia ne m j y q (inr l) (inr h) = inr h
      apart a ia ne m j y q (inr l) (inl h) = absurd (ne (once a ia m j y q l h).1)

  changed_alone : (y : ℕ) → y ≢ x → t y ≡ s y
  changed_alone y ne = elim (cases_order y x) [
    | inl e ↦ absurd (ne e)
    | inr (inl l) ↦ out.below y l
    | inr (inr l) ↦ out.above y (omega (arith, l))
  ]

  -- a walk after the link is one before it, or is at the new group, whose slots have the answer
  after_link : (a : ℕ) → IsAddress root levels a → (m j y : ℕ) → Reaches root levels t a m j y → Reaches root levels s a m j y ⊎ (t y ≡ v)
  unfolding Reaches
  after_link a ia zero j y q = inl q
  after_link a ia (suc m) j y q = elim (after_link a ia m (suc j) q.0 q.1) [
    | inl p ↦ elim (cases_eq q.0 x) [
      | inl e ↦ inr (ap t (q.3 ∙ ap (λ z. slot_in root (t z) (upper j a)) e ∙ ap (λ e. slot_in root e (upper j a)) now) ∙ in_group (upper j a))
      | inr ne ↦ let o = changed_alone q.0 ne in inl (q.0, p, subst (λ n. 2147483648 ≤ n) o q.2, q.3 ∙ ap (λ e. slot_in root e (upper j a)) o)
    ]
    | inr e ↦ absurd (let h : 2147483648 ≤ t q.0 = q.2 in omega (arith, e, value, h))
  ]

  -- the block of the slot has a group then, and the others have theirs
  pub linked_groups : AreSlots groups t → GainsGroup root levels b k s t
  linked_groups are_then a j ia = (forth, back)
    where
      forth : HasGroup root levels t a j → HasGroup root levels s a j ⊎ ((j ≡ k) × (upper (suc j) a ≡ upper (suc j) b))
      forth h = elim (cases_eq h.1 x) [
        | inl e ↦
            let w = walks_part root levels groups t are_then a b h.0 n (suc j) (suc k) x ia ib (subst (λ y. Reaches root levels t a h.0 (suc j) y) e h.2) (linked_reached b ib (λ i. upper (suc k) b)) in
            inr ((let l = w.1 in omega (arith, l)), w.2)
        | inr ne ↦ elim (after_link a ia h.0 (suc j) h.1 h.2) [
          | inl p ↦ inl (h.0, h.1, p, subst (λ n. 2147483648 ≤ n) (changed_alone h.1 ne) h.3)
          | inr e ↦ absurd (let l : 2147483648 ≤ t h.1 = h.3 in omega (arith, e, value, l))
        ]
      ]

      stay : (y : ℕ) → 2147483648 ≤ s y → t y ≡ s y
      stay y h = changed_alone y (λ e. (let f = ap s e in omega (arith, f, was, value, h)))

      back : HasGroup root levels s a j ⊎ ((j ≡ k) × (upper (suc j) a ≡ upper (suc j) b)) → HasGroup root levels t a j
      back (inl h) = (h.0, h.1, groups_stay root levels s t stay a h.0 (suc j) h.1 h.2, subst (λ n. 2147483648 ≤ n) (sym (stay h.1 h.3)) h.3)
      back (inr at) =
          let e : upper (suc k) a ≡ upper (suc k) b = subst (λ j. upper (suc j) a ≡ upper (suc j) b) at.0 at.1 in
          (n, x, subst (λ j. Reaches root levels t a n (suc j) x) (sym at.0) (linked_reached a ia e), subst (λ n. 2147483648 ≤ n) (sym now) (omega arith))
