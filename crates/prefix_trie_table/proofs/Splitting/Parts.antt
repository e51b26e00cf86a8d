-- The part of a node that begins with a bit string, and of each of its children, by masks.
use Rattle.prefix_trie_table.proofs.Prelude.{lit<, ◌≡◌, ℕ, ◌<◌, ◌≤◌, inl, inr, Bool, true, false, ◌&&◌, List, [], ◌∷◌, ◌++◌, length, take, drop, take_all, Some, refl, sym, ap, ap₂, ◌∙◌, subst, arith, bit_and, nat_lt, cases_Bool, cases_lt, le-ltb, begins-refl, begins-longer, begins-same-length, begins, number, same_bit, same-from-number, HoldsValues, HoldsChildren, Sets, has, value_bit, has-and, and-first, and-second, value_bit-small, Node, has_bit, node_at, chunks_of, bit_of, child_slot, child, read_from, has_value, in_part, in_child, and_comm, and_assoc, and-false}
use Rattle.prefix_trie_table.proofs.Tree.Subtrees.{number-small, read_from-none}
use Rattle.prefix_trie_table.proofs.Strings.Bits.{has_bit-is, has_bit-past, has_bit-zero}
use Rattle.prefix_trie_table.proofs.Strings.SmallFacts.{no_or_yes}
use Rattle.prefix_trie_table.proofs.Tree.Children.{number_or}
use Rattle.prefix_trie_table.proofs.Tree.Trees.{child-missing, child-there}

-- ---- two bitmaps

-- a bit of two bitmaps
has_bit-and : (a b i : ℕ) → has_bit (bit_and a b) i ≡ (has_bit a i && has_bit b i)
has_bit-and a b i = elim (cases_lt i 32) as (λ _. has_bit (bit_and a b) i ≡ (has_bit a i && has_bit b i)) [
  | inl small ↦ has_bit-is (bit_and a b) i small ∙ has-and a b i ∙ sym (ap₂ (λ x y. x && y) (has_bit-is a i small) (has_bit-is b i small))
  | inr far ↦
      let past : nat_lt i 32 ≡ false = le-ltb i 32 far in
      has_bit-past (bit_and a b) i past ∙ sym (ap (λ x. x && has_bit b i) (has_bit-past a i past))
]

pub kept : (a b i : ℕ) → has_bit (bit_and a b) i ≡ true → has_bit a i ≡ true
kept a b i h = and-first (has_bit a i) (has_bit b i) (sym (has_bit-and a b i) ∙ h)

also_kept : (a b i : ℕ) → has_bit (bit_and a b) i ≡ true → has_bit b i ≡ true
also_kept a b i h = and-second (has_bit a i) (has_bit b i) (sym (has_bit-and a b i) ∙ h)

-- ---- the values of a node

pub own_values : (n : Node) (t : List Bool) (mask : ℕ) → HoldsValues mask (begins t) → (s : List Bool) → length s ≤ 4 →
    has_bit (bit_and n.value_bitmap mask) (value_bit s) ≡ (begins t s && has_bit n.value_bitmap (value_bit s))
own_values n t mask holds s few =
    let small : value_bit s < 32 = (let h = value_bit-small s few in omega (arith, h)) in
    has_bit-and n.value_bitmap mask (value_bit s)
    ∙ ap (λ x. has_bit n.value_bitmap (value_bit s) && x) (has_bit-is mask (value_bit s) small ∙ holds.bits s few)
    ∙ and_comm (has_bit n.value_bitmap (value_bit s)) (begins t s)

-- ---- its children

begins_split : (t u s : List Bool) → begins t (u ++ s) ≡ (begins (take (length u) t) u && begins (drop (length u) t) s)
unfolding begins
begins_split t [] s = refl
begins_split [] (a ∷ u) s = refl
begins_split (x ∷ t) (a ∷ u) s = ap (λ b. same_bit x a && b) (begins_split t u s) ∙ sym (and_assoc (same_bit x a) (begins (take (length u) t) u) (begins (drop (length u) t) s))

module _ (array : List Node) (n : Node) (t : List Bool) (mask : ℕ) (holds : HoldsChildren mask (begins (take 5 t))) (c : ℕ) (u s : List Bool)
    (long : length u ≡ 5) (is_child : number u ≡ c) where
  marked : begins (take 5 t) u ≡ has_bit mask c
  marked = sym (ap (has_bit mask) (sym is_child) ∙ has_bit-is mask (number u) (number-small u long) ∙ holds u long)

  split : begins t (u ++ s) ≡ (has_bit mask c && begins (drop 5 t) s)
  split =
      subst (λ k. begins t (u ++ s) ≡ (begins (take k t) u && begins (drop k t) s)) long (begins_split t u s)
      ∙ ap (λ x. x && begins (drop 5 t) s) marked

  -- a child that is left out
  pub left_out : has_bit (bit_and n.child_bitmap mask) c ≡ false → in_child array n t u s ≡ false
  left_out clear = elim (cases_Bool (has_bit n.child_bitmap c)) as (λ _. in_child array n t u s ≡ false) [
    | inl there ↦
        let off : has_bit mask c ≡ false = sym (ap (λ x. x && has_bit mask c) there) ∙ sym (has_bit-and n.child_bitmap mask c) ∙ clear in
        ap (λ x. x && has_value (read_from array (Some n) (number u ∷ chunks_of s)) (bit_of s)) (split ∙ ap (λ x. x && begins (drop 5 t) s) off)
    | inr missing ↦
        ap (λ o. begins t (u ++ s) && has_value (read_from array o (chunks_of s)) (bit_of s)) (ap (child array n) is_child ∙ child-missing array n c missing)
        ∙ ap (λ o. begins t (u ++ s) && has_value o (bit_of s)) (read_from-none array (chunks_of s)) ∙ and-false (begins t (u ++ s))
  ]

  -- what is below one that is not
  pub below_it : has_bit (bit_and n.child_bitmap mask) c ≡ true → (lower : Node) → lower ≡ node_at array (child_slot n c) →
      in_child array n t u s ≡ in_part array lower (drop 5 t) s
  below_it set lower is =
      ap₂ (λ b o. b && has_value (read_from array o (chunks_of s)) (bit_of s))
      (split ∙ ap (λ x. x && begins (drop 5 t) s) (also_kept n.child_bitmap mask c set))
      (ap (child array n) is_child ∙ child-there array n c (kept n.child_bitmap mask c set) ∙ ap Some (sym is))

-- ---- the masks

-- at the string's own node
pub masks_own : (t : List Bool) (mask : ℕ) → length t ≤ 5 → HoldsChildren mask (begins t) → HoldsChildren mask (begins (take 5 t))
masks_own t mask short holds = subst (λ x. HoldsChildren mask (begins x)) (sym (take_all 5 t short)) holds

clear_has : (d : ℕ) → d < 32 → has 0 d ≡ false
clear_has d small = sym (has_bit-is 0 d small) ∙ has_bit-zero d

-- on the search path to it
pub masks_search_path : (t : List Bool) → 5 ≤ length t → HoldsValues 0 (begins t)
masks_search_path t long = record {
  bits = λ s few. clear_has (value_bit s) (let h = value_bit-small s few in omega (arith, h)) ∙ sym (begins-longer t s (omega (arith, long, few)));
  small = lit< tt;
}

pub masks_step : (t : List Bool) (c mask : ℕ) → length t ≡ 5 → c ≡ number t → Sets 0 c mask → HoldsChildren mask (begins t)
masks_step t c mask long is sets u five = elim (number_or (number u) c) as (λ _. has mask (number u) ≡ begins t u) [
  | inl e ↦
      let same : t ≡ u = same-from-number t u (long ∙ sym five) (sym is ∙ sym e) in
      ap (has mask) e ∙ sets.present ∙ sym (ap (begins t) (sym same) ∙ begins-refl t)
  | inr ne ↦
      sets.others (number u) ne ∙ clear_has (number u) (number-small u five)
      ∙ sym (no_or_yes (begins t u) (λ b. ne (sym (ap number (begins-same-length t u b (long ∙ sym five))) ∙ sym is)))
]
