-- Giving back the groups of a path, from its last one on.
use Rattle.std.proofs.Common.{◌≡◌, ◌≢◌, ◌⊎◌, ℕ, suc, ◌+◌, ◌-◌, ◌*◌, ◌^◌, ◌<◌, ◌≤◌, true, false, None, Some, List, [], ◌∷◌, ◌++◌, length, get_or, slice_index, slice_set, eqb-true, refl, sym, ap, ◌∙◌, subst, arith, inl, inr}
use Rattle.std.specs.List.{AllByRecursion, IsDistinct, list_any}
use Rattle.std.specs.Prelude.{MatchOption, ◌||◌}
use Rattle.std.proofs.Math.Dec.{eqb}
use Rattle.std.proofs.lemmas.Bool.{cases_Bool, cases_eq, cases_lt, false≢true, ne_eqb}
use Rattle.std.proofs.lemmas.List.{length_push, length-set}
use Rattle.std.proofs.lemmas.Map.Steps.{length-le_from_distinct_below}
use Rattle.prefix_trie_forwarding.specs.Counts.{IsCounted}
use Rattle.prefix_trie_forwarding.specs.Paths.{IsEnd}
use Rattle.prefix_trie_forwarding.specs.Slots.{AreGroups, IsSpare, IsUsed, Trims}
use Rattle.prefix_trie_forwarding.specs.Walks.{AreFree, HasGroup, IsAddress, IsSame, LosesGroup, Reaches, answer, slot_in, upper}
use Rattle.prefix_trie_forwarding.specs.declared.slots.path.End.{End}
use Rattle.prefix_trie_forwarding.proofs.Changes.{same_path, same_slot, steps_of, through}
use Rattle.prefix_trie_forwarding.proofs.Counting.{count_lost}
use Rattle.prefix_trie_forwarding.proofs.Filling.{unlinked_groups, unlinked_same, unlinked_slots}
use Rattle.prefix_trie_forwarding.proofs.Frees.{free_pushed, set_here, set_others}
use Rattle.prefix_trie_forwarding.proofs.Linking.{above_reached, has_group_level}
use Rattle.prefix_trie_forwarding.proofs.Prefixes.{reached_inside}
use Rattle.prefix_trie_forwarding.proofs.Walks.{value_from-group, value_from-value, value_reached}

-- no block of the path after its end has a group
pub no_deeper : (r levels : ℕ) (s : ℕ → ℕ) (b len : ℕ) (end : End) (is : IsEnd r levels s b len end) (i : ℕ) → len ≤ r + 8 * levels → i < is.left → r + 8 * levels - len < 8 * suc i → HasGroup (2 ^ r) levels s b i → ⊥
no_deeper r levels s b len end is i fits deeper path h =
    let answer = is.stops (omega (arith, is.depth, deeper, path, fits)) in
    let group : 2147483648 ≤ s end.at = elim (cases_eq (suc i) is.left) [
      | inl e ↦
          let same = same_slot (2 ^ r) levels s b h.0 is.steps is.left h.1 end.at (subst (λ k. Reaches (2 ^ r) levels s b h.0 k h.1) e h.2) is.reached in
          subst (λ x. 2147483648 ≤ s x) same h.3
      | inr ne ↦ through (2 ^ r) levels s b is.steps is.left end.at h.0 (suc i) h.1 is.reached h.2 (omega (arith, deeper, ne))
    ] in
    omega (arith, answer, group)

-- the addresses of a block whose group has one answer have that answer
pub spare_group : (r levels : ℕ) (s : ℕ → ℕ) (b n k x limit : ℕ) → Reaches (2 ^ r) levels s b n (suc k) x → 2147483648 ≤ s x
    → ((y : ℕ) → 2 ^ r + 256 * (s x - 2147483648) ≤ y → y < 2 ^ r + 256 * (s x - 2147483648) + 256 → s y < limit) → limit ≤ 2147483648
    → (c : ℕ) → upper (suc k) c ≡ upper (suc k) b → answer (2 ^ r) levels s c < limit
spare_group r levels s b n k x limit reached group small most c e =
    let y : ℕ = slot_in (2 ^ r) (s x) (upper k c) in
    let inside = small (slot_in (2 ^ r) (s x) (upper k c)) (omega arith) (omega arith) in
    let value = value_from-value (2 ^ r) s c k (slot_in (2 ^ r) (s x) (upper k c)) (omega (arith, inside, most)) in
    let walk = sym (value_reached (2 ^ r) levels s c n (suc k) x (same_path (2 ^ r) levels s c b n (suc k) x e reached)) ∙ value_from-group (2 ^ r) s c k x group ∙ value in
    subst (λ n. n < limit) (sym walk) inside

-- what a trim keeps while it goes on
pub record TrimsSoFar (r levels b bits : ℕ) (s t : ℕ → ℕ) : Type 0 where
  pub same : IsSame (2 ^ r) levels s t
  pub less : (a k : ℕ) → IsAddress (2 ^ r) levels a → HasGroup (2 ^ r) levels t a k → HasGroup (2 ^ r) levels s a k
  pub kept : (a k : ℕ) → IsAddress (2 ^ r) levels a → HasGroup (2 ^ r) levels s a k
      → HasGroup (2 ^ r) levels t a k ⊎ ((bits < 8 * suc k) × (upper (suc k) a ≡ upper (suc k) b) × IsSpare r levels s a k)

pub so_far : (r levels b bits : ℕ) (s : ℕ → ℕ) → TrimsSoFar r levels b bits s s
so_far r levels b bits s = record { same = λ a ia. refl; less = λ a k ia h. h; kept = λ a k ia h. inl h }

pub trims_step : (r levels b bits k : ℕ) (s t u : ℕ → ℕ) → TrimsSoFar r levels b bits s t → IsSame (2 ^ r) levels t u → LosesGroup (2 ^ r) levels b k t u → bits < 8 * suc k
    → ((c : ℕ) → upper (suc k) c ≡ upper (suc k) b → answer (2 ^ r) levels t c < (r + 8 * (levels - suc k) + 2) * 8388608) → TrimsSoFar r levels b bits s u
trims_step r levels b bits k s t u before same loses path spare = record {
  same = λ a ia. same a ia ∙ before.same a ia;
  less = λ a j ia h. before.less a j ia ((loses a j ia).0 h).0;
  kept = λ a j ia h. elim (before.kept a j ia h) [
    | inl p ↦ elim (cases_eq j k) [
      | inl e ↦ elim (cases_eq (upper (suc j) a) (upper (suc j) b)) [
        | inl f ↦ inr (
          (omega (arith, e, path)),
          f,
          λ c ic g. (
              let at : upper (suc k) c ≡ upper (suc k) b = subst (λ j. upper (suc j) c ≡ upper (suc j) b) e (g ∙ f) in
              let level : levels - suc j ≡ levels - suc k = ap (λ j. levels - suc j) e in
              let small = spare c at in
              subst (λ n. n < (r + 8 * (levels - suc j) + 2) * 8388608) (before.same c ic) (omega (arith, small, level))),
        )
        | inr nf ↦ inl ((loses a j ia).1 (p, λ q. nf q.1))
      ]
      | inr ne ↦ inl ((loses a j ia).1 (p, λ q. ne q.0))
    ]
    | inr q ↦ inr q
  ];
}

-- the trim ends at a group that is used
pub trims_used : (r levels b len : ℕ) (s t : ℕ → ℕ) (end : End) (is : IsEnd r levels t b len end) → TrimsSoFar r levels b (r + 8 * levels - len) s t → len ≤ r + 8 * levels
    → r + 8 * levels - len < 8 * suc is.left → IsUsed r levels t b is.left → Trims r levels b (r + 8 * levels - len) s t
trims_used r levels b len s t end is before fits path used = record {
  same = before.same;
  less = before.less;
  kept = before.kept;
  ends = λ k on h. (
    is.left,
    elim (cases_lt k is.left) [ inl l ↦ absurd (no_deeper r levels t b len end is k fits l on h) | inr g ↦ g ],
    path,
    used,
    λ i l p. no_deeper r levels t b len end is i fits l p,
  );
}

-- or where the path has no group
pub trims_none : (r levels b len : ℕ) (s t : ℕ → ℕ) (end : End) (is : IsEnd r levels t b len end) → TrimsSoFar r levels b (r + 8 * levels - len) s t → len ≤ r + 8 * levels
    → end.depth ≡ r → Trims r levels b (r + 8 * levels - len) s t
trims_none r levels b len s t end is before fits top = record {
  same = before.same;
  less = before.less;
  kept = before.kept;
  ends = λ k on h. absurd (no_deeper r levels t b len end is k fits (let l = has_group_level (2 ^ r) levels t b k h in omega (arith, l, is.depth, top)) on h);
}

-- the next walk ends before this one
pub ends_sooner : (r levels : ℕ) (t u : ℕ → ℕ) (b len k : ℕ) (old new : End) (was : IsEnd r levels t b len old) (is : IsEnd r levels u b len new) → IsAddress (2 ^ r) levels b → LosesGroup (2 ^ r) levels b was.left t u → suc was.left ≤ levels
    → new.depth < old.depth
ends_sooner r levels t u b len k old new was is ib loses more = elim (cases_lt was.left is.left) [
  | inl l ↦ omega (arith, l, was.depth, is.depth)
  | inr g ↦ absurd (((loses b was.left ib).0 (above_reached (2 ^ r) levels u b is.steps is.left new.at was.left is.reached g more)).1 (refl, refl))
]

-- ---- there is room for each group that is given back

all_from_index : (P : ℕ → Type 0) (xs : List ℕ) → ((i : ℕ) → i < length xs → P (get_or xs i 0)) → AllByRecursion P xs
all_from_index P [] h = tt
all_from_index P (x ∷ xs) h = (h 0 (omega arith), all_from_index P xs (λ i l. h (suc i) (omega (arith, l))))

distinct_from_index : (xs : List ℕ) → ((i j : ℕ) → i < length xs → j < length xs → get_or xs i 0 ≡ get_or xs j 0 → i ≡ j) → IsDistinct eqb xs
unfolding IsDistinct
distinct_from_index [] apart = tt
distinct_from_index (x ∷ xs) apart = (
  all_from_index (λ y. eqb x y ≡ false) xs (λ i l. ne_eqb x (get_or xs i 0) (λ e. (let z = apart 0 (suc i) (omega arith) (omega (arith, l)) e in omega (arith, z)))),
  distinct_from_index xs (λ i j h l e. (let z = apart (suc i) (suc j) (omega (arith, h)) (omega (arith, l)) e in omega (arith, z))),
)

below_from_index : (n : ℕ) (xs : List ℕ) → ((i : ℕ) → i < length xs → get_or xs i 0 < n) → (q : ℕ) → list_any (eqb q) xs ≡ true → q < n
below_from_index n [] h q e = absurd (false≢true e)
below_from_index n (x ∷ xs) h q e = elim (cases_Bool (eqb q x)) [
  | inl same ↦ (let f = eqb-true q x same in let l = h 0 (omega arith) in omega (arith, f, l))
  | inr other ↦ below_from_index n xs (λ i l. h (suc i) (omega (arith, l))) q (ap (λ b. b || list_any (eqb q) xs) (sym other) ∙ e)
]

pub free_fits : (groups : ℕ) (s : ℕ → ℕ) (free : List ℕ) → AreFree groups s free → length free ≤ groups
free_fits groups s free are = length-le_from_distinct_below free groups (distinct_from_index free are.apart) (below_from_index groups free are.known)

-- ---- one group of the path

-- the slot before the end of a path, which refers to its group
pub record IsBefore (r levels : ℕ) (s : ℕ → ℕ) (b left depth x : ℕ) : Type 0 where
  pub deeper : r < depth
  pub steps : ℕ
  pub reached : Reaches (2 ^ r) levels s b steps (suc left) x
  pub group : 2147483648 ≤ s x

pub no_before : (r levels : ℕ) (s : ℕ → ℕ) (b len : ℕ) (end : End) (is : IsEnd r levels s b len end) → end.before ≡ None → end.depth ≡ r
no_before r levels s b len end is e =
    subst (λ o. MatchOption o (end.depth ≡ r) (λ x. (r < end.depth) × ((m : ℕ) × Reaches (2 ^ r) levels s b m (suc is.left) x) × (2147483648 ≤ s x))) e is.before

pub before_end : (r levels : ℕ) (s : ℕ → ℕ) (b len x : ℕ) (end : End) (is : IsEnd r levels s b len end) → end.before ≡ Some x → IsBefore r levels s b is.left end.depth x
before_end r levels s b len x end is e =
    let w = subst (λ o. MatchOption o (end.depth ≡ r) (λ x. (r < end.depth) × ((m : ℕ) × Reaches (2 ^ r) levels s b m (suc is.left) x) × (2147483648 ≤ s x))) e is.before in
    record { deeper = w.0; steps = w.1.0; reached = w.1.1; group = w.2 }

module _ (r levels made b len : ℕ) (xs free : List ℕ) (end : End) (is : IsEnd r levels (slice_index xs) b len end) (x low limit : ℕ) (set : AreGroups r made xs free)
    (before : IsBefore r levels (slice_index xs) b is.left end.depth x) (low_is : low ≡ 2 ^ r + 256 * (slice_index xs x - 2147483648)) (limit_is : limit ≡ (end.depth - 6) * 8388608)
    (bound : r + 8 * levels ≤ 200) (fits : len ≤ r + 8 * levels) (ib : IsAddress (2 ^ r) levels b) where
  in_levels : suc is.left ≤ levels
  in_levels = let e = steps_of (2 ^ r) levels (slice_index xs) b before.steps (suc is.left) x before.reached in omega (arith, e)

  pub at_inside : x < length xs
  at_inside = let l = reached_inside (2 ^ r) levels made (slice_index xs) b before.steps (suc is.left) x set.slots_are ib before.reached in omega (arith, l, set.sizes)

  pub low_inside : low + 256 ≤ length xs
  low_inside = let l = set.slots_are.inside x before.group in let g : 2147483648 ≤ slice_index xs x = before.group in omega (arith, l, g, low_is, set.sizes)

  pub limit_small : limit ≤ 2147483648
  limit_small = omega (arith, limit_is, is.depth, bound)

  limit_at : limit ≡ (r + 8 * (levels - suc is.left) + 2) * 8388608
  limit_at = omega (arith, limit_is, is.depth, in_levels, before.deeper)

  on_path_here : r + 8 * levels - len < 8 * suc is.left
  on_path_here = let l = is.last before.deeper in omega (arith, l, is.depth, fits)

  -- a group that is not spare is used
  pub not_spare : (limit ≤ slice_index xs low) ⊎ ((y : ℕ) × (low ≤ y) × (y < low + 256) × (slice_index xs y ≢ slice_index xs low)) → (s : ℕ → ℕ)
      → TrimsSoFar r levels b (r + 8 * levels - len) s (slice_index xs) → Trims r levels b (r + 8 * levels - len) s (slice_index xs)
  not_spare why s so_far = trims_used r levels b len s (slice_index xs) end is so_far fits on_path_here (used why)
    where
      used : (limit ≤ slice_index xs low) ⊎ ((y : ℕ) × (low ≤ y) × (y < low + 256) × (slice_index xs y ≢ slice_index xs low)) → IsUsed r levels (slice_index xs) b is.left
      used (inl h) = record {
        steps = before.steps;
        at = x;
        reached = before.reached;
        group = before.group;
        slot = 0;
        inside = omega arith;
        used = inl (subst (λ z. (r + 8 * (levels - suc is.left) + 2) * 8388608 ≤ slice_index xs z) low_is (omega (arith, h, limit_at)));
      }
      used (inr w) =
          let l : low ≤ w.0 = w.1 in
          let h : w.0 < low + 256 = w.2 in
          let at : 2 ^ r + 256 * (slice_index xs x - 2147483648) + (w.0 - low) ≡ w.0 = omega (arith, l, low_is) in record {
            steps = before.steps;
            at = x;
            reached = before.reached;
            group = before.group;
            slot = w.0 - low;
            inside = omega (arith, l, h);
            used = inr (λ e. w.3 (ap (slice_index xs) (sym at) ∙ e ∙ ap (slice_index xs) (sym low_is)));
          }

  module _ (small : slice_index xs low < limit) (all : (y : ℕ) → low ≤ y → y < low + 256 → slice_index xs y ≡ slice_index xs low) where
    was : slice_index xs x ≡ 2147483648 + (slice_index xs x - 2147483648)
    was = let h : 2147483648 ≤ slice_index xs x = before.group in omega (arith, h)

    now : slice_index (slice_set xs x (slice_index xs low)) x ≡ slice_index xs low
    now = set_here xs x (slice_index xs low) at_inside

    others : (y : ℕ) → y ≢ x → slice_index (slice_set xs x (slice_index xs low)) y ≡ slice_index xs y
    others = set_others xs x (slice_index xs low) at_inside

    value : slice_index xs low < 2147483648
    value = omega (arith, small, limit_small)

    filled : (y : ℕ) → 2 ^ r + 256 * (slice_index xs x - 2147483648) ≤ y → y < 2 ^ r + 256 * (slice_index xs x - 2147483648) + 256 → slice_index xs y ≡ slice_index xs low
    filled y l h = all y (omega (arith, l, low_is)) (omega (arith, h, low_is))

    pub given_frees : AreFree made (slice_index (slice_set xs x (slice_index xs low))) (free ++ (slice_index xs x - 2147483648) ∷ [])
    given_frees = free_pushed made (slice_index xs) (slice_index (slice_set xs x (slice_index xs low))) free x (slice_index xs x - 2147483648) set.slots_are set.free_are was (subst (λ n. n < 2147483648) (sym now) value) others

    pub given_room : length free < made
    given_room = let l = free_fits made (slice_index (slice_set xs x (slice_index xs low))) (free ++ (slice_index xs x - 2147483648) ∷ []) given_frees in omega (arith, l, length_push free (slice_index xs x - 2147483648))

    pub given_set : AreGroups r made (slice_set xs x (slice_index xs low)) (free ++ (slice_index xs x - 2147483648) ∷ [])
    given_set = record {
      sizes = omega (arith, length-set xs x (slice_index xs low), set.sizes);
      small = set.small;
      within = omega (arith, given_room, length_push free (slice_index xs x - 2147483648));
      slots_are =
          unlinked_slots (2 ^ r) levels made (slice_index xs x - 2147483648) x (slice_index xs low) b before.steps is.left (slice_index xs) (slice_index (slice_set xs x (slice_index xs low))) set.slots_are was now value others filled ib before.reached;
      free_are = given_frees;
    }

    pub given_loses : LosesGroup (2 ^ r) levels b is.left (slice_index xs) (slice_index (slice_set xs x (slice_index xs low)))
    given_loses =
        unlinked_groups (2 ^ r) levels made (slice_index xs x - 2147483648) x (slice_index xs low) b before.steps is.left (slice_index xs) (slice_index (slice_set xs x (slice_index xs low))) set.slots_are was now value others filled ib before.reached

    pub given_trims : (s : ℕ → ℕ) → TrimsSoFar r levels b (r + 8 * levels - len) s (slice_index xs) → TrimsSoFar r levels b (r + 8 * levels - len) s (slice_index (slice_set xs x (slice_index xs low)))
    given_trims s so_far =
        trims_step r levels b (r + 8 * levels - len) is.left s (slice_index xs) (slice_index (slice_set xs x (slice_index xs low))) so_far
        (unlinked_same (2 ^ r) levels made (slice_index xs x - 2147483648) x (slice_index xs low) b before.steps is.left (slice_index xs) (slice_index (slice_set xs x (slice_index xs low))) set.slots_are was now value others filled ib before.reached)
        given_loses on_path_here
        (λ c e. subst (λ n. answer (2 ^ r) levels (slice_index xs) c < n) limit_at
        (spare_group r levels (slice_index xs) b before.steps is.left x limit before.reached before.group (λ y l h. (let f = filled y l h in omega (arith, f, small))) limit_small c e))

    pub given_counted : IsCounted r levels made (slice_index xs) free → IsCounted r levels made (slice_index (slice_set xs x (slice_index xs low))) (free ++ (slice_index xs x - 2147483648) ∷ [])
    given_counted counted =
        count_lost r levels (slice_index xs) (slice_index (slice_set xs x (slice_index xs low))) b is.left made free (free ++ (slice_index xs x - 2147483648) ∷ []) ib in_levels given_loses (before.steps, x, before.reached, before.group)
        (length_push free (slice_index xs x - 2147483648)) counted

    pub given_sooner : (new : End) → IsEnd r levels (slice_index (slice_set xs x (slice_index xs low))) b len new → new.depth < end.depth
    given_sooner new then = ends_sooner r levels (slice_index xs) (slice_index (slice_set xs x (slice_index xs low))) b len is.left end new is then ib given_loses in_levels
