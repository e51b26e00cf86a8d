-- An upper bound on the slots that a node needs with everything under it.
use Rattle.prefix_trie_table.proofs.Prelude.{◌≡◌, ◌≢◌, ℕ, zero, suc, ◌+◌, ◌-◌, ◌<◌, ◌≤◌, inl, inr, Bool, true, false, cond, List, [], ◌∷◌, length, refl, sym, ap, ◌∙◌, subst, arith, cases_lt, false≢true, get_or_default, Memory, IndexRange, the_data, packed_slots, goes_up, smallest_of, Node, has_bit, rank, node_at, node_sizes, cell_sizes, child_slot, child_slots, value_slots, sum_to, slots_below, slots_at_child, Store, size_in, tier_sizes, BlockRef, BuildsList}
use Rattle.std.specs.List.{Contains}
use Rattle.prefix_trie_table.proofs.Blocks.BySize.{tiers_long}
use Rattle.prefix_trie_table.proofs.Blocks.BuiltLists.{slots_found}
use Rattle.prefix_trie_table.proofs.Strings.BitLists.{rank-missing, rank-le, rank-more, rank-zero}
use Rattle.prefix_trie_table.proofs.Strings.SmallFacts.{no_or_yes}

-- a refusal that is not for the slot limit
pub for_memory : (cause : the_data) → cause ≢ IndexRange → cause ≡ Memory
for_memory Memory other = refl
for_memory IndexRange other = absurd (other refl)

-- the tier of a list that was built
pub built_tier : {S : Type 0} (vacant : S) (v w : Store S) (items : List S) (at : BlockRef) (sizes : List ℕ) → tier_sizes v.tiers ≡ sizes → 0 < length sizes →
    BuildsList vacant v w items at → at.tier < length sizes
built_tier vacant v w [] at sizes are some built = let e = ap (λ (r : BlockRef). r.tier) (built.none refl) in omega (arith, e, some)
built_tier vacant v w (x ∷ xs) at sizes are some built = (let h = built.tier (omega arith) in let l = tiers_long v.tiers sizes are in omega (arith, h, l))

-- a node has at most 31 values
pub values_few : (bitmap : ℕ) → ((b : ℕ) → has_bit bitmap b ≡ true → b < 31) → rank bitmap 32 ≤ 31
values_few bitmap within =
    let some_missing = rank-missing bitmap 32 31 (omega arith) (no_or_yes (has_bit bitmap 31) (λ set. let h = within 31 set in omega (arith, h))) in omega (arith, some_missing)

-- ---- sums

pub sum_to_next : (f : ℕ → ℕ) (n : ℕ) → sum_to f (n + 1) ≡ sum_to f n + f n
unfolding sum_to
sum_to_next f n = ap (sum_to f) (let e : n + 1 ≡ suc n = omega arith in e)

-- the first numbers and the next are among all
pub sum_to_part : (f : ℕ → ℕ) (i n : ℕ) → i < n → sum_to f i + f i ≤ sum_to f n
unfolding sum_to
sum_to_part f i zero h = absurd (omega (arith, h))
sum_to_part f i (suc n) h = elim (cases_lt i n) as (λ _. sum_to f i + f i ≤ sum_to f n + f n) [
  | inl less ↦ let ih = sum_to_part f i n less in omega (arith, ih)
  | inr most ↦
      let e : n ≡ i = omega (arith, h, most) in
      let same : sum_to f n + f n ≡ sum_to f i + f i = ap (λ k. sum_to f k + f k) e in omega (arith, same)
]

pub sum_to_none : (f : ℕ → ℕ) (n : ℕ) → ((c : ℕ) → f c ≡ 0) → sum_to f n ≡ 0
unfolding sum_to
sum_to_none f zero none = refl
sum_to_none f (suc n) none = omega (arith, sum_to_none f n none, none n)

-- ---- a node and its children

module _ (own : Node → ℕ) (nodes : List Node) where
  pub slots_split : (levels : ℕ) (n : Node) → slots_below own nodes levels n ≡ own n + sum_to (slots_at_child own nodes levels n) 32
  slots_split zero n = let none = sum_to_none (λ c. 0) 32 (λ c. refl) in let e : own n ≡ own n + sum_to (λ c. 0) 32 = omega (arith, none) in e
  slots_split (suc levels) n = refl

  -- what a child that is there has
  pub child_amount : (levels : ℕ) (n lower : Node) (c : ℕ) → 0 < levels → has_bit n.child_bitmap c ≡ true → lower ≡ node_at nodes (child_slot n c) →
      slots_at_child own nodes levels n c ≡ slots_below own nodes (levels - 1) lower
  child_amount zero n lower c some set is = absurd (omega (arith, some))
  child_amount (suc levels) n lower c some set is =
      ap (λ b. cond b (slots_below own nodes levels (node_at nodes (child_slot n c))) 0) set
      ∙ ap (slots_below own nodes levels) (sym is)
      ∙ ap (λ l. slots_below own nodes l lower) (let e : levels ≡ suc levels - 1 = omega arith in e)

  -- a node and its children before c leave what the child has
  pub child_space : (levels : ℕ) (n lower : Node) (c : ℕ) → c < 32 → slots_at_child own nodes levels n c ≡ slots_below own nodes (levels - 1) lower →
      own n + sum_to (slots_at_child own nodes levels n) c + slots_below own nodes (levels - 1) lower ≤ slots_below own nodes levels n
  child_space levels n lower c small is = omega (arith, slots_split levels n, sum_to_part (slots_at_child own nodes levels n) c 32 small, is)

-- ---- blocks of fewer items

pub rank_fewer : (a b n : ℕ) → ((i : ℕ) → has_bit a i ≡ true → has_bit b i ≡ true) → rank a n ≤ rank b n
rank_fewer a b zero within = let x = rank-zero a in omega (arith, x)
rank_fewer a b (suc n) within =
    let e : n + 1 ≡ suc n = omega arith in
    let up : rank a (suc n) ≡ rank a n + cond (has_bit a n) 1 0 = ap (rank a) (sym e) ∙ rank-more a n in
    let over : rank b (suc n) ≡ rank b n + cond (has_bit b n) 1 0 = ap (rank b) (sym e) ∙ rank-more b n in
    omega (arith, up, over, rank_fewer a b n within, bit_less (has_bit a n) (has_bit b n) (within n))
  where
    bit_less : (x y : Bool) → (x ≡ true → y ≡ true) → cond x 1 0 ≤ cond y 1 0
    bit_less true true h = omega arith
    bit_less true false h = absurd (false≢true (h refl))
    bit_less false true h = omega arith
    bit_less false false h = omega arith

module _ (sizes : List ℕ) (up : goes_up 0 sizes ≡ true) (o : ℕ) (among : Contains sizes o) where
  -- no larger block is needed for fewer items
  packed_fewer : (a b : ℕ) → a ≤ b → b ≤ o → packed_slots sizes a ≤ packed_slots sizes b
  packed_fewer zero b less few = omega arith
  packed_fewer (suc a) zero less few = absurd (omega (arith, less))
  packed_fewer (suc a) (suc b) less few =
      let of_b = smallest_of 0 sizes up (suc b) o among few in
      let of_a = smallest_of 0 sizes up (suc a) of_b.size of_b.among (let h = of_b.holds in omega (arith, h, less)) in
      let least = of_a.least in omega (arith, slots_found sizes a of_a.size of_a.found, slots_found sizes b of_b.size of_b.found, least)

  -- nor for some of the places in a bitmap
  packed_some : (ns : List ℕ) (some all count : ℕ) → ns ≡ sizes → count ≤ rank some 32 → ((i : ℕ) → has_bit some i ≡ true → has_bit all i ≡ true) → rank all 32 ≤ o →
      packed_slots ns count ≤ packed_slots sizes (rank all 32)
  packed_some ns some all count are few within most =
      subst (λ ms. packed_slots ms count ≤ packed_slots sizes (rank all 32)) (sym are)
      (packed_fewer count (rank all 32) (let less = rank_fewer some all 32 within in omega (arith, few, less)) most)

-- the block of some of a node's values is no larger than that of all
pub values_packed : (n : Node) (sizes : List ℕ) (values count : ℕ) → sizes ≡ cell_sizes → count ≡ rank values 32 →
    ((b : ℕ) → has_bit values b ≡ true → has_bit n.value_bitmap b ≡ true) → ((b : ℕ) → has_bit n.value_bitmap b ≡ true → b < 31) →
    packed_slots sizes count ≤ value_slots n
values_packed n sizes values count are e some within =
    packed_some cell_sizes refl 31 (6, omega arith, get_or_default cell_sizes 6 (size_in cell_sizes 6) 0 (omega arith)) sizes values n.value_bitmap count are
    (omega (arith, e)) some (values_few n.value_bitmap within)

-- nor is that of some of its children
pub children_packed : (n : Node) (sizes : List ℕ) (children count : ℕ) → sizes ≡ node_sizes → count ≤ rank children 32 →
    ((c : ℕ) → has_bit children c ≡ true → has_bit n.child_bitmap c ≡ true) → packed_slots sizes count ≤ child_slots n
children_packed n sizes children count are few some =
    packed_some node_sizes refl 32 (6, omega arith, get_or_default node_sizes 6 (size_in node_sizes 6) 0 (omega arith)) sizes children n.child_bitmap count are
    few some (rank-le n.child_bitmap 32)
