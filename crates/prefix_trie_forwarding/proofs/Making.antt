-- Making a group: it is filled with the answer of a slot, which then refers to it.
use Rattle.std.proofs.Common.{◌≡◌, ◌≢◌, ◌∙◌, ◌⊎◌, ℕ, suc, ◌+◌, ◌*◌, ◌%◌, ◌<◌, ◌≤◌, List, [], ◌∷◌, ◌++◌, length, slice_index, refl, sym, ap, subst, arith, inl, inr}
use Rattle.std.proofs.lemmas.Bool.{cases_lt}
use Rattle.std.proofs.lemmas.List.{get_or_at, length_push}
use Rattle.prefix_trie_forwarding.specs.Slots.{AreGroups}
use Rattle.prefix_trie_forwarding.specs.Walks.{AgreesOutside, AreFree, AreSlots, GainsGroup, HasGroup, IsAddress, IsSame, Reaches, slot_in, upper}
use Rattle.prefix_trie_forwarding.proofs.Frees.{HoldsLess, free_added, free_linked, free_lost, rotated, slots_linked, slots_lost}
use Rattle.prefix_trie_forwarding.proofs.NewGroups.{filled_groups, filled_reached, filled_same, in_group, linked_groups, linked_reached, linked_same, unused_unmet}

module _ (root groups g x v : ℕ) (s0 s t : ℕ → ℕ) (are : AreSlots groups s0) (unused : (y : ℕ) → s0 y ≢ 2147483648 + g) (known : g < groups)
    (out : AgreesOutside (root + 256 * g) (root + 256 * g + 256) s0 s) (filled : (y : ℕ) → root + 256 * g ≤ y → y < root + 256 * g + 256 → s y ≡ v)
    (was : s0 x ≡ v) (value : v < 2147483648) (now : t x ≡ 2147483648 + g) (others : (y : ℕ) → y ≢ x → t y ≡ s y) where
  loses : HoldsLess s0 s
  loses y = elim (cases_lt y (root + 256 * g)) [
    | inl l ↦ inl (out.below y l)
    | inr h ↦ elim (cases_lt y (root + 256 * g + 256)) [
      | inl l ↦ inr (subst (λ n. n < 2147483648) (sym (filled y h l)) value)
      | inr l ↦ inl (out.above y l)
    ]
  ]

  filled_are : AreSlots groups s
  filled_are = slots_lost groups s0 s loses are

  still_unused : (y : ℕ) → s y ≢ 2147483648 + g
  still_unused y e = elim (loses y) [ inl f ↦ unused y (sym f ∙ e) | inr l ↦ omega (arith, l, e) ]

  pub made_slots : AreSlots groups t
  made_slots = slots_linked groups s t x g filled_are still_unused known now others

  pub made_free : (free : List ℕ) → AreFree groups s0 (free ++ g ∷ []) → AreFree groups t free
  made_free free frees = free_linked groups s t free x g (rotated free g groups s (free_lost groups s0 s (free ++ g ∷ []) loses frees)) now others

  at_slot : AgreesOutside x (x + 1) s t
  at_slot = record { below = λ y h. others y (omega (arith, h)); above = λ y h. others y (omega (arith, h)) }

  module _ (levels b n k : ℕ) (ib : IsAddress root levels b) (r : Reaches root levels s0 b n (suc k) x) where
    was_then : s x ≡ v
    was_then = elim (unused_unmet root levels s0 g unused b ib n (suc k) x r) [ inl l ↦ out.below x l ∙ was | inr h ↦ out.above x h ∙ was ]

    reached_then : Reaches root levels s b n (suc k) x
    reached_then = filled_reached root levels g s0 s unused out b ib n (suc k) x r

    pub made_same : IsSame root levels s0 t
    made_same a ia =
        linked_same root levels groups g x v b n k s t filled_are still_unused filled was_then value now at_slot ib reached_then a ia ∙ filled_same root levels g s0 s unused out a ia

    pub made_reached : Reaches root levels t b n (suc k) x
    made_reached = linked_reached root levels groups g x v b n k s t filled_are still_unused filled was_then value now at_slot ib reached_then b ib refl

    pub made_inside : (q : ℕ) → t (root + 256 * g + q % 256) < 2147483648
    made_inside q =
        let e = in_group root levels groups g x v b n k s t filled_are still_unused filled was_then value now at_slot ib reached_then q in
        let at : slot_in root (2147483648 + g) q ≡ root + 256 * g + q % 256 = omega arith in
        subst (λ n. n < 2147483648) (sym (ap t (sym at) ∙ e)) value

    pub made_groups : GainsGroup root levels b k s0 t
    made_groups a j ia =
        let same = filled_groups root levels g v s0 s unused out filled value a j ia in
        let gain = linked_groups root levels groups g x v b n k s t filled_are still_unused filled was_then value now at_slot ib reached_then made_slots a j ia in (
          λ h. elim (gain.0 h) [ inl p ↦ inl (same.0 p) | inr p ↦ inr p ],
          λ h. gain.1 (before h),
        )
      where
        before : HasGroup root levels s0 a j ⊎ ((j ≡ k) × (upper (suc j) a ≡ upper (suc j) b)) → HasGroup root levels s a j ⊎ ((j ≡ k) × (upper (suc j) a ≡ upper (suc j) b))
        before (inl p) = inl ((filled_groups root levels g v s0 s unused out filled value a j ia).1 p)
        before (inr p) = inr p

-- the last of the free groups
pub record IsLastFree (made : ℕ) (s : ℕ → ℕ) (before free : List ℕ) (group : ℕ) : Type 0 where
  pub known : group < made
  pub unused : (x : ℕ) → s x ≢ 2147483648 + group
  pub frees : AreFree made s (free ++ group ∷ [])
  pub longer : length before ≡ length free + 1

pub free_last : (made : ℕ) (s : ℕ → ℕ) (before free : List ℕ) (group : ℕ) → AreFree made s before → before ≡ free ++ group ∷ [] → IsLastFree made s before free group
free_last made s before free group frees is =
    let here : AreFree made s (free ++ group ∷ []) = subst (λ f. AreFree made s f) is frees in
    let size : length (free ++ group ∷ []) ≡ length free + 1 = length_push free group in
    let at = get_or_at free group [] 0 (length free) refl in
    record {
      known = subst (λ n. n < made) at (here.known (length free) (omega (arith, size)));
      unused = λ x e. here.unused (length free) x (omega (arith, size)) (e ∙ ap (λ n. 2147483648 + n) (sym at));
      frees = here;
      longer = ap length is ∙ size;
    }

-- more slots at the end are those of a group that is free
pub group_added : (r made : ℕ) (xs ys free : List ℕ) → AreGroups r made xs free → made < 2147483648 → length ys ≡ length xs + 256 → ((x : ℕ) → slice_index ys x ≡ slice_index xs x) → AreGroups r (made + 1) ys (free ++ made ∷ [])
group_added r made xs ys free set few longer same = record {
  sizes = omega (arith, longer, set.sizes);
  small = omega (arith, few);
  within = omega (arith, set.within, length_push free made);
  slots_are = record { inside = λ x h. (let l = are.inside x h in omega (arith, l)); single = are.single };
  free_are = free_added made (slice_index ys) free are (free_lost made (slice_index xs) (slice_index ys) free (λ x. inl (same x)) set.free_are);
}
  where
    are : AreSlots made (slice_index ys)
    are = slots_lost made (slice_index xs) (slice_index ys) (λ x. inl (same x)) set.slots_are
