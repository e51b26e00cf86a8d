-- Making the groups of a path, from its end on.
use Rattle.std.proofs.Common.{◌≡◌, ◌⊎◌, ◌↔◌, ℕ, zero, suc, ◌+◌, ◌-◌, ◌*◌, ◌%◌, ◌^◌, ◌<◌, ◌≤◌, refl, sym, ◌∙◌, subst, arith, inl, inr}
use Rattle.std.proofs.lemmas.Bool.{cases_eq}
use Rattle.prefix_trie_forwarding.specs.Paths.{IsEnd}
use Rattle.prefix_trie_forwarding.specs.Walks.{GainsGroup, GainsPath, HasGroup, HasPath, IsAddress, IsSame, Reaches, slot_in, upper}
use Rattle.prefix_trie_forwarding.specs.declared.slots.path.End.{End}
use Rattle.prefix_trie_forwarding.proofs.Changes.{same_path, same_slot, steps_of, through}
use Rattle.prefix_trie_forwarding.proofs.Prefixes.{entered}

-- blocks before the slot that a walk reaches have groups
pub above_reached : (root levels : ℕ) (s : ℕ → ℕ) (b n k x j : ℕ) → Reaches root levels s b n k x → k ≤ j → suc j ≤ levels → HasGroup root levels s b j
unfolding Reaches
above_reached root levels s b zero k x j r le more = absurd (let e : k ≡ levels = r.0 in omega (arith, e, le, more))
above_reached root levels s b (suc n) k x j r le more = elim (cases_eq j k) [
  | inl e ↦ (n, r.0, subst (λ k. Reaches root levels s b n (suc k) r.0) (sym e) r.1, r.2)
  | inr ne ↦ above_reached root levels s b n (suc k) r.0 j r.1 (omega (arith, le, ne)) more
]

pub has_group_same : (root levels : ℕ) (s : ℕ → ℕ) (a b k : ℕ) → upper (suc k) a ≡ upper (suc k) b → HasGroup root levels s b k → HasGroup root levels s a k
has_group_same root levels s a b k e h = (h.0, h.1, same_path root levels s a b h.0 (suc k) h.1 e h.2, h.3)

pub has_group_level : (root levels : ℕ) (s : ℕ → ℕ) (a k : ℕ) → HasGroup root levels s a k → suc k ≤ levels
has_group_level root levels s a k h = let e = steps_of root levels s a h.0 (suc k) h.1 h.2 in omega (arith, e)

-- the blocks that have groups are those that had some, and those of b down to a level
abbrev pub GainsDownTo : ℕ → ℕ → ℕ → ℕ → (ℕ → ℕ) → (ℕ → ℕ) → Type 0
GainsDownTo root levels b k s t = (a j : ℕ) → IsAddress root levels a
    → HasGroup root levels t a j ↔ (HasGroup root levels s a j ⊎ ((suc j ≤ levels) × (k ≤ j) × (upper (suc j) a ≡ upper (suc j) b)))

pub gains_start : (root levels : ℕ) (s : ℕ → ℕ) (b n k x : ℕ) → Reaches root levels s b n k x → GainsDownTo root levels b k s s
gains_start root levels s b n k x r a j ia = (λ h. inl h, back)
  where
    back : HasGroup root levels s a j ⊎ ((suc j ≤ levels) × (k ≤ j) × (upper (suc j) a ≡ upper (suc j) b)) → HasGroup root levels s a j
    back (inl h) = h
    back (inr p) = has_group_same root levels s a b j p.2 (above_reached root levels s b n k x j r p.1 p.0)

pub gains_step : (root levels : ℕ) (s t u : ℕ → ℕ) (b k : ℕ) → suc k ≤ levels → GainsDownTo root levels b (suc k) s t → GainsGroup root levels b k t u → GainsDownTo root levels b k s u
gains_step root levels s t u b k more before gain a j ia = (forth, back)
  where
    forth : HasGroup root levels u a j → HasGroup root levels s a j ⊎ ((suc j ≤ levels) × (k ≤ j) × (upper (suc j) a ≡ upper (suc j) b))
    forth h = elim ((gain a j ia).0 h) [
      | inl p ↦ elim ((before a j ia).0 p) [ inl q ↦ inl q | inr q ↦ inr (q.0, (let l : suc k ≤ j = q.1 in omega (arith, l)), q.2) ]
      | inr q ↦ inr ((let e : j ≡ k = q.0 in omega (arith, e, more)), (let e : j ≡ k = q.0 in omega (arith, e)), q.1)
    ]

    back : HasGroup root levels s a j ⊎ ((suc j ≤ levels) × (k ≤ j) × (upper (suc j) a ≡ upper (suc j) b)) → HasGroup root levels u a j
    back (inl h) = (gain a j ia).1 (inl ((before a j ia).1 (inl h)))
    back (inr p) = elim (cases_eq j k) [
      | inl e ↦ (gain a j ia).1 (inr (e, p.2))
      | inr ne ↦ (gain a j ia).1 (inl ((before a j ia).1 (inr (p.0, (let l : k ≤ j = p.1 in omega (arith, l, ne)), p.2))))
    ]

pub gains_end : (root levels : ℕ) (s t : ℕ → ℕ) (b k bits : ℕ) → 8 * k ≤ bits → (suc k ≤ levels → bits < 8 * suc k) → GainsDownTo root levels b k s t → GainsPath root levels b bits s t
gains_end root levels s t b k bits done last gains a j ia = (forth, back)
  where
    forth : HasGroup root levels t a j → HasGroup root levels s a j ⊎ ((suc j ≤ levels) × (bits < 8 * suc j) × (upper (suc j) a ≡ upper (suc j) b))
    forth h = elim ((gains a j ia).0 h) [
      | inl p ↦ inl p
      | inr p ↦ inr (p.0, (let l : k ≤ j = p.1 in let m : suc j ≤ levels = p.0 in let h = last (omega (arith, l, m)) in omega (arith, h, l)), p.2)
    ]

    back : HasGroup root levels s a j ⊎ ((suc j ≤ levels) × (bits < 8 * suc j) × (upper (suc j) a ≡ upper (suc j) b)) → HasGroup root levels t a j
    back (inl h) = (gains a j ia).1 (inl h)
    back (inr p) = (gains a j ia).1 (inr (p.0, (let l : bits < 8 * suc j = p.1 in omega (arith, l, done)), p.2))

-- what holds while groups are made down a path: the walk is at a slot with an answer, unless the path ends there
pub record IsLinking (r levels b len depth at : ℕ) (s t : ℕ → ℕ) : Type 0 where
  pub left : ℕ
  pub steps : ℕ
  pub here : depth + 8 * left ≡ r + 8 * levels
  pub least : r ≤ depth
  pub last : r < depth → depth < len + 8
  pub reached : Reaches (2 ^ r) levels t b steps left at
  pub stops : depth < len → t at < 2147483648
  pub same : IsSame (2 ^ r) levels s t
  pub gains : GainsDownTo (2 ^ r) levels b left s t

pub linking_start : (r levels b len : ℕ) (s : ℕ → ℕ) (end : End) → IsEnd r levels s b len end → IsLinking r levels b len end.depth end.at s s
linking_start r levels b len s end is = record {
  left = is.left;
  steps = is.steps;
  here = is.depth;
  least = is.least;
  last = is.last;
  reached = is.reached;
  stops = is.stops;
  same = λ a ia. refl;
  gains = gains_start (2 ^ r) levels s b is.steps is.left end.at is.reached;
}

module _ (r levels b len depth at : ℕ) (s t : ℕ → ℕ) (is : IsLinking r levels b len depth at s t) where
  -- a level is left
  pub linking_more : depth < len → len ≤ r + 8 * levels → 1 ≤ is.left
  linking_more more fits = omega (arith, is.here, more, fits)

  pub linking_reached : depth < len → len ≤ r + 8 * levels → Reaches (2 ^ r) levels t b is.steps (suc (is.left - 1)) at
  linking_reached more fits = subst (λ k. Reaches (2 ^ r) levels t b is.steps k at) (let l = linking_more more fits in omega (arith, l)) is.reached

  pub linking_step : (u : ℕ → ℕ) (group next : ℕ) → depth < len → len ≤ r + 8 * levels → IsAddress (2 ^ r) levels b → IsSame (2 ^ r) levels t u → GainsGroup (2 ^ r) levels b (is.left - 1) t u
      → u at ≡ 2147483648 + group → Reaches (2 ^ r) levels u b is.steps (suc (is.left - 1)) at → next ≡ slot_in (2 ^ r) (2147483648 + group) (upper (is.left - 1) b)
      → ((q : ℕ) → u (2 ^ r + 256 * group + q % 256) < 2147483648) → IsLinking r levels b len (depth + 8) next s u
  linking_step u group next more fits ib same gain link reached to inside =
      let some = linking_more more fits in
      let level : suc (is.left - 1) ≡ is.left = omega (arith, some) in
      let total = steps_of (2 ^ r) levels u b is.steps (suc (is.left - 1)) at reached in
      record {
        left = is.left - 1;
        steps = suc is.steps;
        here = omega (arith, is.here, some);
        least = omega (arith, is.least);
        last = λ l. omega (arith, more);
        reached = entered (2 ^ r) levels b is.steps (is.left - 1) at group next u reached link to;
        stops = λ l. subst (λ x. u x < 2147483648) (let e : 2 ^ r + 256 * group + upper (is.left - 1) b % 256 ≡ next = omega (arith, to) in e) (inside (upper (is.left - 1) b));
        same = λ a ia. same a ia ∙ is.same a ia;
        gains = gains_step (2 ^ r) levels s t u b (is.left - 1) (omega (arith, total)) (subst (λ k. GainsDownTo (2 ^ r) levels b k s t) (sym level) is.gains) gain;
      }

  pub linking_end : len ≤ depth → len ≤ r + 8 * levels → GainsPath (2 ^ r) levels b (r + 8 * levels - len) s t
  linking_end done fits =
      gains_end (2 ^ r) levels s t b is.left (r + 8 * levels - len) (omega (arith, is.here, done)) (λ l. (let h = is.last (omega (arith, is.here, l)) in omega (arith, is.here, h, fits))) is.gains

  pub linking_path : len ≤ depth → HasPath (2 ^ r) levels t b (r + 8 * levels - len)
  linking_path done n k x reached more = through (2 ^ r) levels t b n k x is.steps is.left at reached is.reached (omega (arith, is.here, done, more))

  -- the block that is to get a group has none
  pub linking_none : depth < len → len ≤ r + 8 * levels → HasGroup (2 ^ r) levels t b (is.left - 1) → ⊥
  linking_none more fits h =
      let same = same_slot (2 ^ r) levels t b h.0 is.steps (suc (is.left - 1)) h.1 at h.2 (linking_reached more fits) in
      let group : 2147483648 ≤ t at = subst (λ x. 2147483648 ≤ t x) same h.3 in
      let answer = is.stops more in
      omega (arith, group, answer)
