-- What a change of slots does to the walks that do and do not reach them.
use Rattle.std.proofs.Common.{◌≡◌, ◌⊎◌, ℕ, zero, suc, ◌+◌, ◌/◌, ◌<◌, ◌≤◌, refl, sym, ap, ◌∙◌, subst, arith, inl, inr}
use Rattle.std.proofs.lemmas.Bool.{cases_lt}
use Rattle.prefix_trie_forwarding.specs.Walks.{upper, slot_in, value_from, answer, Reaches, AgreesOutside}
use Rattle.prefix_trie_forwarding.proofs.Walks.{upper-suc, value_from-value, value_from-group}

-- each step drops one byte
pub steps_of : (root levels : ℕ) (s : ℕ → ℕ) (a n k x : ℕ) → Reaches root levels s a n k x → n + k ≡ levels
unfolding Reaches
steps_of root levels s a zero k x r = let e : k ≡ levels = r.0 in omega arith
steps_of root levels s a (suc n) k x r = let e = steps_of root levels s a n (suc k) r.0 r.1 in omega (arith, e)

-- addresses that agree so far reach the same slot
pub same_path : (root levels : ℕ) (s : ℕ → ℕ) (a b n k x : ℕ) → upper k a ≡ upper k b → Reaches root levels s b n k x → Reaches root levels s a n k x
unfolding Reaches
same_path root levels s a b zero k x e r = (r.0, r.1 ∙ sym (subst (λ k. upper k a ≡ upper k b) r.0 e))
same_path root levels s a b (suc n) k x e r =
    let above : upper (suc k) a ≡ upper (suc k) b = upper-suc k a ∙ ap (λ q. q / 256) e ∙ sym (upper-suc k b) in
    (r.0, same_path root levels s a b n (suc k) r.0 above r.1, r.2, r.3 ∙ ap (λ q. slot_in root (s r.0) q) (sym e))

-- a step
pub one_more : (root levels : ℕ) (s : ℕ → ℕ) (a n k x : ℕ) → Reaches root levels s a n (suc k) x → 2147483648 ≤ s x → Reaches root levels s a (suc n) k (slot_in root (s x) (upper k a))
unfolding Reaches
one_more root levels s a n k x r h = (x, r, h, refl)

-- an address that differs by i in the last byte read reaches the slot i further on
pub near : (root levels : ℕ) (s : ℕ → ℕ) (a b n k x i : ℕ) → upper k a ≡ upper k b + i → (k ≡ levels) ⊎ (upper k a / 256 ≡ upper k b / 256) → Reaches root levels s b n k x → Reaches root levels s a n k (x + i)
unfolding Reaches
near root levels s a b zero k x i e o r =
    (r.0, ap (λ x. x + i) (r.1 ∙ ap (λ k. upper k b) (sym r.0)) ∙ sym e ∙ ap (λ k. upper k a) r.0)
near root levels s a b (suc n) k x i e (inl top) r = absurd (omega (arith, top, steps_of root levels s b n (suc k) r.0 r.1))
near root levels s a b (suc n) k x i e (inr f) r =
    let above : upper (suc k) a ≡ upper (suc k) b = upper-suc k a ∙ f ∙ sym (upper-suc k b) in
    let at : x + i ≡ slot_in root (s r.0) (upper k a) = omega (arith, r.3, e, f) in
    (r.0, same_path root levels s a b n (suc k) r.0 above r.1, r.2, at)

pub at_start : (root levels : ℕ) (s : ℕ → ℕ) (a : ℕ) → Reaches root levels s a 0 levels (upper levels a)
unfolding Reaches
at_start root levels s a = (refl, refl)

-- at the first level a walk is at the slot of its address
pub at_root : (root levels : ℕ) (s : ℕ → ℕ) (a n k x : ℕ) → k ≡ levels → Reaches root levels s a n k x → x ≡ upper levels a
unfolding Reaches
at_root root levels s a zero k x top r = r.1
at_root root levels s a (suc n) k x top r = absurd (let e = steps_of root levels s a n (suc k) r.0 r.1 in omega (arith, top, e))

module _ (root levels low high : ℕ) (s t : ℕ → ℕ) (agrees : AgreesOutside low high s t) where
  pub as_before : (x : ℕ) → (x < low) ⊎ (high ≤ x) → t x ≡ s x
  as_before x (inl h) = agrees.below x h
  as_before x (inr h) = agrees.above x h

  -- a walk that reaches no slot that was changed goes on as before
  pub unmet_from : (a n k x : ℕ) → ((n k x : ℕ) → Reaches root levels s a n k x → (x < low) ⊎ (high ≤ x)) → Reaches root levels s a n k x
      → value_from root t a k x ≡ value_from root s a k x
  unfolding value_from
  unmet_from a n zero x out r = as_before x (out n zero x r)
  unmet_from a n (suc k) x out r =
      let same = as_before x (out n (suc k) x r) in
      elim (cases_lt (s x) 2147483648) [
        | inl l ↦ value_from-value root t a (suc k) x (subst (λ e. e < 2147483648) (sym same) l) ∙ same ∙ sym (value_from-value root s a (suc k) x l)
        | inr g ↦
            value_from-group root t a k x (subst (λ e. 2147483648 ≤ e) (sym same) g) ∙
            ap (λ e. value_from root t a k (slot_in root e (upper k a))) same ∙
            unmet_from a (suc n) k (slot_in root (s x) (upper k a)) out (one_more root levels s a n k x r g) ∙
            sym (value_from-group root s a k x g)
      ]

  pub unmet : (a : ℕ) → ((n k x : ℕ) → Reaches root levels s a n k x → (x < low) ⊎ (high ≤ x)) → answer root levels t a ≡ answer root levels s a
  unmet a out = unmet_from a 0 levels (upper levels a) out (at_start root levels s a)

  -- if the walk meets slots that were changed at one level alone, it reaches that level as before
  pub met : (j a n k x : ℕ) → ((n k x : ℕ) → Reaches root levels s a n k x → low ≤ x → x < high → k ≡ j) → j ≤ k → Reaches root levels s a n k x → Reaches root levels t a n k x
  unfolding Reaches
  met j a zero k x at le r = r
  met j a (suc n) k x at le r =
      let same : t r.0 ≡ s r.0 = as_before r.0 (out (cases_lt r.0 low) (cases_lt r.0 high)) in
      (r.0, met j a n (suc k) r.0 at (omega arith) r.1, subst (λ e. 2147483648 ≤ e) (sym same) r.2, r.3 ∙ ap (λ e. slot_in root e (upper k a)) (sym same))
    where
      out : (r.0 < low) ⊎ (low ≤ r.0) → (r.0 < high) ⊎ (high ≤ r.0) → (r.0 < low) ⊎ (high ≤ r.0)
      out (inl l) h = inl l
      out (inr l) (inr h) = inr h
      out (inr l) (inl h) = absurd (let e = at n (suc k) r.0 r.1 l h in omega (arith, e, le))

-- with as many bytes left, one walk is at one slot
pub same_slot : (root levels : ℕ) (s : ℕ → ℕ) (a n m k x y : ℕ) → Reaches root levels s a n k x → Reaches root levels s a m k y → x ≡ y
unfolding Reaches
same_slot root levels s a zero zero k x y r q = r.1 ∙ sym q.1
same_slot root levels s a zero (suc m) k x y r q = absurd (let e = steps_of root levels s a m (suc k) q.0 q.1 in let f : k ≡ levels = r.0 in omega (arith, e, f))
same_slot root levels s a (suc n) zero k x y r q = absurd (let e = steps_of root levels s a n (suc k) r.0 r.1 in let f : k ≡ levels = q.0 in omega (arith, e, f))
same_slot root levels s a (suc n) (suc m) k x y r q =
    r.3 ∙ ap (λ z. slot_in root (s z) (upper k a)) (same_slot root levels s a n m (suc k) r.0 q.0 r.1 q.1) ∙ sym q.3

-- a walk that goes further goes through a group
pub through : (root levels : ℕ) (s : ℕ → ℕ) (a n k x m j y : ℕ) → Reaches root levels s a n k x → Reaches root levels s a m j y → j < k → 2147483648 ≤ s x
unfolding Reaches
through root levels s a n k x zero j y r q l = absurd (let e = steps_of root levels s a n k x r in let f : j ≡ levels = q.0 in omega (arith, e, f, l))
through root levels s a n k x (suc m) j y r q l = elim (cases_lt (suc j) k) [
  | inl h ↦ through root levels s a n k x m (suc j) q.0 r q.1 h
  | inr h ↦ (
      let e : suc j ≡ k = omega (arith, h, l) in
      let z = same_slot root levels s a m n k q.0 x (subst (λ k. Reaches root levels s a m k q.0) e q.1) r in
      subst (λ z. 2147483648 ≤ s z) z q.2)
]

-- where all groups stay, walks take the same steps
pub groups_stay : (root levels : ℕ) (s t : ℕ → ℕ) → ((x : ℕ) → 2147483648 ≤ s x → t x ≡ s x) → (a n k x : ℕ) → Reaches root levels s a n k x → Reaches root levels t a n k x
unfolding Reaches
groups_stay root levels s t stay a zero k x r = r
groups_stay root levels s t stay a (suc n) k x r =
    let e = stay r.0 r.2 in
    (r.0, groups_stay root levels s t stay a n (suc k) r.0 r.1, subst (λ e. 2147483648 ≤ e) (sym e) r.2, r.3 ∙ ap (λ e. slot_in root e (upper k a)) (sym e))
