-- Changing answers in slots and in the groups below them, and giving back a group whose slots have one answer.
use Rattle.std.proofs.Common.{◌≡◌, ◌≢◌, ◌⊎◌, ◌↔◌, ℕ, zero, suc, ◌+◌, ◌*◌, ◌<◌, ◌≤◌, ◌-◌, List, refl, sym, ap, ◌∙◌, subst, arith, inl, inr}
use Rattle.std.proofs.lemmas.Bool.{cases_eq, cases_lt}
use Rattle.prefix_trie_forwarding.specs.Walks.{upper, slot_in, value_from, AgreesOutside, HasGroup, IsAddress, IsSame, KeepsGroups, LosesGroup, Reaches, AreFree, AreSlots, IsChangedBy, IsUnder, AreChanged}
use Rattle.prefix_trie_forwarding.proofs.Walks.{value_from-value, value_from-group, walks_part}
use Rattle.prefix_trie_forwarding.proofs.Changes.{groups_stay, met, one_more, same_path, same_slot}
use Rattle.prefix_trie_forwarding.proofs.Frees.{HoldsLess, free_lost, slots_lost}
use Rattle.prefix_trie_forwarding.proofs.NewGroups.{linked_groups, linked_same}

module _ (root : ℕ) (f : ℕ → ℕ) (v : ℕ) (small : v < 2147483648) (stays : f v ≡ v) (s t : ℕ → ℕ) (is : IsChangedBy f s t) where
  -- an address whose answer f does not change keeps it
  pub changed_stays : (a k x : ℕ) → value_from root s a k x ≡ v → value_from root t a k x ≡ v
  unfolding value_from
  changed_stays a zero x e = elim (is.values x (subst (λ n. n < 2147483648) (sym e) small)) [ inl g ↦ g ∙ e | inr g ↦ g ∙ ap f e ∙ stays ]
  changed_stays a (suc k) x e = elim (cases_lt (s x) 2147483648) [
    | inl l ↦
        let here : s x ≡ v = sym (value_from-value root s a (suc k) x l) ∙ e in
        let now : t x ≡ v = elim (is.values x l) [ inl g ↦ g ∙ here | inr g ↦ g ∙ ap f here ∙ stays ] in
        value_from-value root t a (suc k) x (subst (λ n. n < 2147483648) (sym now) small) ∙ now
    | inr g ↦
        value_from-group root t a k x (subst (λ n. 2147483648 ≤ n) (sym (is.groups x g)) g) ∙
        ap (λ e. value_from root t a k (slot_in root e (upper k a))) (is.groups x g) ∙
        changed_stays a k (slot_in root (s x) (upper k a)) (sym (value_from-group root s a k x g) ∙ e)
  ]

-- a walk that reaches only slots that are the same goes on as before
pub same_along : (root levels : ℕ) (s t : ℕ → ℕ) (a : ℕ) → ((n k x : ℕ) → Reaches root levels s a n k x → t x ≡ s x) → (n k x : ℕ) → Reaches root levels s a n k x
    → value_from root t a k x ≡ value_from root s a k x
unfolding value_from
same_along root levels s t a same n zero x r = same n zero x r
same_along root levels s t a same n (suc k) x r =
    let e = same n (suc k) x r in
    elim (cases_lt (s x) 2147483648) [
      | inl l ↦ value_from-value root t a (suc k) x (subst (λ e. e < 2147483648) (sym e) l) ∙ e ∙ sym (value_from-value root s a (suc k) x l)
      | inr g ↦
          value_from-group root t a k x (subst (λ e. 2147483648 ≤ e) (sym e) g) ∙
          ap (λ e. value_from root t a k (slot_in root e (upper k a))) e ∙
          same_along root levels s t a same (suc n) k (slot_in root (s x) (upper k a)) (one_more root levels s a n k x r g) ∙
          sym (value_from-group root s a k x g)
    ]

-- a group whose slots have one answer may be given back: the opposite of making it
module _ (root levels groups g x v b n k : ℕ) (s t : ℕ → ℕ) (are : AreSlots groups s) (was : s x ≡ 2147483648 + g) (now : t x ≡ v) (value : v < 2147483648)
    (others : (y : ℕ) → y ≢ x → t y ≡ s y) (filled : (y : ℕ) → root + 256 * g ≤ y → y < root + 256 * g + 256 → s y ≡ v) (ib : IsAddress root levels b) (r : Reaches root levels s b n (suc k) x) where
  loses : HoldsLess s t
  loses y = elim (cases_eq y x) [
    | inl e ↦ inr (subst (λ y. t y < 2147483648) (sym e) (subst (λ n. n < 2147483648) (sym now) value))
    | inr ne ↦ inl (others y ne)
  ]

  pub unlinked_slots : AreSlots groups t
  unlinked_slots = slots_lost groups s t loses are

  unused : (y : ℕ) → t y ≢ 2147483648 + g
  unused y e = elim (loses y) [
    | inl f ↦
        (let h : s y ≡ 2147483648 + g = sym f ∙ e in
        let same : y ≡ x = are.single y x (omega (arith, h)) (h ∙ sym was) in
        omega (arith, ap t same, e, now, value))
    | inr l ↦ omega (arith, l, e)
  ]

  inside : (y : ℕ) → root + 256 * g ≤ y → y < root + 256 * g + 256 → t y ≡ v
  inside y low high = elim (cases_eq y x) [ inl e ↦ ap t e ∙ now | inr ne ↦ others y ne ∙ filled y low high ]

  at_slot : AgreesOutside x (x + 1) s t
  at_slot = record { below = λ y h. others y (omega (arith, h)); above = λ y h. others y (omega (arith, h)) }

  back_at_slot : AgreesOutside x (x + 1) t s
  back_at_slot = record { below = λ y h. sym (others y (omega (arith, h))); above = λ y h. sym (others y (omega (arith, h))) }

  reached : Reaches root levels t b n (suc k) x
  reached =
      met root levels x (x + 1) s t at_slot (suc k) b n (suc k) x
      (λ m j y q low high. (
      let e : y ≡ x = omega (arith, low, high) in
      (walks_part root levels groups s are b b m n j (suc k) x ib ib (subst (λ y. Reaches root levels s b m j y) e q) r).1))
      (omega arith) r

  pub unlinked_same : IsSame root levels s t
  unlinked_same a ia = sym (linked_same root levels groups g x v b n k t s unlinked_slots unused inside now value was back_at_slot ib reached a ia)

  -- the block of the slot has no group then, and the others have theirs
  pub unlinked_groups : LosesGroup root levels b k s t
  unlinked_groups a j ia = (forth, back)
    where
      gained : HasGroup root levels s a j ↔ (HasGroup root levels t a j ⊎ ((j ≡ k) × (upper (suc j) a ≡ upper (suc j) b)))
      gained = linked_groups root levels groups g x v b n k t s unlinked_slots unused inside now value was back_at_slot ib reached are a j ia

      not_here : HasGroup root levels t a j → (j ≡ k) × (upper (suc j) a ≡ upper (suc j) b) → ⊥
      not_here h at =
          let p = same_path root levels t a b n (suc j) x at.1 (subst (λ j. Reaches root levels t b n (suc j) x) (sym at.0) reached) in
          let same = same_slot root levels t a h.0 n (suc j) h.1 x h.2 p in
          let l : 2147483648 ≤ t h.1 = h.3 in
          omega (arith, ap t same, now, value, l)

      forth : HasGroup root levels t a j → HasGroup root levels s a j × ((j ≡ k) × (upper (suc j) a ≡ upper (suc j) b) → ⊥)
      forth h = (gained.1 (inl h), not_here h)

      back : HasGroup root levels s a j × ((j ≡ k) × (upper (suc j) a ≡ upper (suc j) b) → ⊥) → HasGroup root levels t a j
      back p = elim (gained.0 p.0) [ inl h ↦ h | inr at ↦ absurd (p.1 at) ]

-- ---- the loop of `change_run`

-- a function on answers that changes none twice
pub record IsOnce (f : ℕ → ℕ) : Type 0 where
  pub once : (e : ℕ) → f (f e) ≡ f e
  pub small : (e : ℕ) → e < 2147483648 → f e < 2147483648

pub changed_start : (f : ℕ → ℕ) (s : ℕ → ℕ) → IsChangedBy f s s
changed_start f s = record { groups = λ x h. refl; values = λ x l. inl refl }

module _ (f : ℕ → ℕ) (is_once : IsOnce f) (s u : ℕ → ℕ) (is : IsChangedBy f s u) where
  stays_value : (x : ℕ) → s x < 2147483648 → u x < 2147483648
  stays_value x l = elim (is.values x l) [
    | inl e ↦ subst (λ n. n < 2147483648) (sym e) l
    | inr e ↦ subst (λ n. n < 2147483648) (sym e) (is_once.small (s x) l)
  ]

  -- f maps the answer of a slot before the change and the one after it to the same number
  same_change : (x : ℕ) → s x < 2147483648 → f (u x) ≡ f (s x)
  same_change x l = elim (is.values x l) [ inl e ↦ ap f e | inr e ↦ ap f e ∙ is_once.once (s x) ]

  -- a group was one before
  pub was_group : (x : ℕ) → 2147483648 ≤ u x → u x ≡ s x
  was_group x h = elim (cases_lt (s x) 2147483648) [ inl l ↦ absurd (let m = stays_value x l in omega (arith, m, h)) | inr g ↦ is.groups x g ]

  changed_then : (t : ℕ → ℕ) → IsChangedBy f u t → IsChangedBy f s t
  changed_then t more = record {
    groups = λ x h. more.groups x (subst (λ n. 2147483648 ≤ n) (sym (is.groups x h)) h) ∙ is.groups x h;
    values = λ x l. elim (more.values x (stays_value x l)) [
      | inl e ↦ elim (is.values x l) [ inl g ↦ inl (e ∙ g) | inr g ↦ inr (e ∙ g) ]
      | inr e ↦ inr (e ∙ same_change x l)
    ];
  }

  pub changed_slots : (groups : ℕ) → AreSlots groups s → AreSlots groups u
  changed_slots groups are = slots_lost groups s u loses are
    where
      loses : HoldsLess s u
      loses x = elim (cases_lt (s x) 2147483648) [ inl l ↦ inr (stays_value x l) | inr g ↦ inl (is.groups x g) ]

  pub changed_frees : (groups : ℕ) (free : List ℕ) → AreFree groups s free → AreFree groups u free
  changed_frees groups free frees = free_lost groups s u free (λ x. elim (cases_lt (s x) 2147483648) [ inl l ↦ inr (stays_value x l) | inr g ↦ inl (is.groups x g) ]) frees

  -- f maps the answer that a walk ends with to the same number before and after the change
  ends_same : (root a k x : ℕ) → value_from root s a k x < 2147483648
      → (value_from root u a k x < 2147483648) × (f (value_from root u a k x) ≡ f (value_from root s a k x))
  unfolding value_from
  ends_same root a zero x l = (stays_value x l, same_change x l)
  ends_same root a (suc k) x l = elim (cases_lt (s x) 2147483648) [
    | inl m ↦ (
      subst (λ n. n < 2147483648) (sym (value_from-value root u a (suc k) x (stays_value x m))) (stays_value x m),
      ap f (value_from-value root u a (suc k) x (stays_value x m)) ∙ same_change x m ∙ sym (ap f (value_from-value root s a (suc k) x m)),
    )
    | inr g ↦
        let e = is.groups x g in
        let now = value_from-group root u a k x (subst (λ n. 2147483648 ≤ n) (sym e) g) ∙ ap (λ e. value_from root u a k (slot_in root e (upper k a))) e in
        let was = value_from-group root s a k x g in
        let below = ends_same root a k (slot_in root (s x) (upper k a)) (subst (λ n. n < 2147483648) was l) in
        (subst (λ n. n < 2147483648) (sym now) below.0, ap f now ∙ below.1 ∙ sym (ap f was))
  ]

  under_same : (root k low count x : ℕ) → IsUnder root u k low count x → IsUnder root s k low count x
  unfolding IsUnder
  under_same root zero low count x w = w
  under_same root (suc k) low count x (inl w) = inl w
  under_same root (suc k) low count x (inr w) =
      let e = was_group w.0 w.3 in
      inr (w.0, w.1, w.2, subst (λ n. 2147483648 ≤ n) e w.3, subst (λ n. IsUnder root s k (root + 256 * (n - 2147483648)) 256 x) e (under_same root k (root + 256 * (u w.0 - 2147483648)) 256 x w.4))

pub change_start : (root : ℕ) (f : ℕ → ℕ) (k low count : ℕ) (s : ℕ → ℕ) → AreChanged root f k low count s s low
change_start root f k low count s = record { by = changed_start f s; done = λ a y l h e. absurd (omega (arith, l, h)); under = λ x. inl refl }

in_run : (root : ℕ) (s : ℕ → ℕ) (k low count x : ℕ) → low ≤ x → x < low + count → IsUnder root s k low count x
unfolding IsUnder
in_run root s zero low count x l h = (l, h)
in_run root s (suc k) low count x l h = inl (l, h)

module _ (root : ℕ) (f : ℕ → ℕ) (is_once : IsOnce f) (k low count at : ℕ) (s u t : ℕ → ℕ) (low_at : low ≤ at) (at_high : at < low + count) where
  -- what is done stays done
  done_stays : (j : ℕ) → AreChanged root f j low count s u at → IsChangedBy f u t
      → (a y : ℕ) → low ≤ y → y < at → value_from root s a j y < 2147483648 → value_from root t a j y ≡ f (value_from root s a j y)
  done_stays j before more a y l h e =
      changed_stays root f (f (value_from root s a j y)) (is_once.small (value_from root s a j y) e) (is_once.once (value_from root s a j y)) u t more a j y (before.done a y l h e)

  -- an answer is changed
  pub change_value : AreChanged root f k low count s u at → u at < 2147483648 → t at ≡ f (u at) → ((x : ℕ) → x ≢ at → t x ≡ u x) → AreChanged root f k low count s t (at + 1)
  change_value before was now others = record {
    by = changed_then f is_once s u before.by t more;
    done = λ a y l h e. elim (cases_lt y at) [
      | inl m ↦ done_stays k before more a y l m e
      | inr m ↦ (
          let same : y ≡ at = omega (arith, h, m) in
          let here : t y ≡ f (u at) = ap t same ∙ now in
          let small : t y < 2147483648 = subst (λ n. n < 2147483648) (sym here) (is_once.small (u at) was) in
          let value : value_from root u a k y ≡ u at = ap (value_from root u a k) same ∙ value_from-value root u a k at was in
          value_from-value root t a k y small ∙ here ∙ sym (ap f value) ∙ (ends_same f is_once s u before.by root a k y e).1)
    ];
    under = λ x. elim (cases_eq x at) [
      | inl e ↦ inr (in_run root s k low count x (omega (arith, e, low_at)) (omega (arith, e, at_high)))
      | inr ne ↦ elim (before.under x) [ inl g ↦ inl (others x ne ∙ g) | inr w ↦ inr w ]
    ];
  }
    where
      more : IsChangedBy f u t
      more = record {
        groups = λ x h. elim (cases_eq x at) [ inl e ↦ absurd (omega (arith, ap u e, was, h)) | inr ne ↦ others x ne ];
        values = λ x l. elim (cases_eq x at) [ inl e ↦ inr (ap t e ∙ now ∙ ap (λ x. f (u x)) (sym e)) | inr ne ↦ inl (others x ne) ];
      }

  -- a group is changed
  pub change_below : AreChanged root f (suc k) low count s u at → 2147483648 ≤ u at
      → AreChanged root f k (root + 256 * (u at - 2147483648)) 256 u t (root + 256 * (u at - 2147483648) + 256) → AreChanged root f (suc k) low count s t (at + 1)
  unfolding IsUnder
  change_below before group below =
      let old = was_group f is_once s u before.by at group in
      record {
        by = changed_then f is_once s u before.by t below.by;
        done = λ a y l h e. elim (cases_lt y at) [
          | inl m ↦ done_stays (suc k) before below.by a y l m e
          | inr m ↦ (
              let same : y ≡ at = omega (arith, h, m) in
              let ends = ends_same f is_once s u before.by root a (suc k) at (subst (λ y. value_from root s a (suc k) y < 2147483648) same e) in
              let within = value_from-group root u a k at group in
              let now = below.by.groups at group in
              ap (λ y. value_from root t a (suc k) y) same ∙
              value_from-group root t a k at (subst (λ n. 2147483648 ≤ n) (sym now) group) ∙
              ap (λ e. value_from root t a k (slot_in root e (upper k a))) now ∙
              below.done a (slot_in root (u at) (upper k a)) (omega arith) (omega arith) (subst (λ n. n < 2147483648) within ends.0) ∙
              sym (ap f within) ∙ ends.1 ∙ ap (λ y. f (value_from root s a (suc k) y)) (sym same))
        ];
        under = λ x. elim (below.under x) [
          | inl e ↦ elim (before.under x) [ inl g ↦ inl (e ∙ g) | inr w ↦ inr w ]
          | inr w ↦ inr (inr (
            at,
            low_at,
            at_high,
            subst (λ n. 2147483648 ≤ n) old group,
            subst (λ n. IsUnder root s k (root + 256 * (n - 2147483648)) 256 x) old (under_same f is_once s u before.by root k (root + 256 * (u at - 2147483648)) 256 x w),
          ))
        ];
      }

-- a change of answers leaves the groups of blocks
pub changed_groups : (root levels : ℕ) (f : ℕ → ℕ) → IsOnce f → (s t : ℕ → ℕ) → IsChangedBy f s t → KeepsGroups root levels s t
changed_groups root levels f is_once s t is a k ia = (
  λ h. (let e = was_group f is_once s t is in (h.0, h.1, groups_stay root levels t s (λ x l. sym (e x l)) a h.0 (suc k) h.1 h.2, subst (λ n. 2147483648 ≤ n) (e h.1 h.3) h.3)),
  λ h. (h.0, h.1, groups_stay root levels s t is.groups a h.0 (suc k) h.1 h.2, subst (λ n. 2147483648 ≤ n) (sym (is.groups h.1 h.3)) h.3),
)

-- a group with no level below it has no address
pub change_none : (root : ℕ) (f : ℕ → ℕ) (low count at : ℕ) → IsOnce f → (s u : ℕ → ℕ) → AreChanged root f 0 low count s u at → 2147483648 ≤ u at → AreChanged root f 0 low count s u (at + 1)
unfolding value_from
change_none root f low count at is_once s u before group = record {
  by = before.by;
  done = λ a y l h e. elim (cases_lt y at) [
    | inl m ↦ before.done a y l m e
    | inr m ↦ absurd (
        let same : y ≡ at = omega (arith, h, m) in
        let g = was_group f is_once s u before.by at group in
        omega (arith, e, ap s same, g, group))
  ];
  under = before.under;
}
