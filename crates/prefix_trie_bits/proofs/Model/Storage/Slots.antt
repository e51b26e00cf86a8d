-- Upper bounds on the slots that a call for one key makes, 56 for nodes and 31 for values: for `slot_laws`.
use Rattle.prefix_trie_bits.proofs.Prelude.{◌≡◌, ◌≢◌, ℕ, zero, suc, ◌+◌, ◌-◌, ◌/◌, ◌<◌, ◌≤◌, ◌==◌, ◌⊎◌, inl, inr, Bool, true, false, cond, ◌&&◌, nat_lt, nat_le, List, [], ◌∷◌, ◌++◌, length, filter, replicate, Option, None, Some, All, refl, sym, ap, ◌∙◌, subst, arith, lit≤, append-nil, eqb-true, eq-eqb, ltb-true, cases_eq, cases_Bool, cases_lt, nat_tests, All-nil, All-cons, All-head, All-tail, All-contains, mul-add, mul-le-mul_left, option_to_list, get, contains_key, same_string, MakesSlots, SlotLaws, IsMap, Layout, child_block_sizes, value_block_sizes, smallest_size, child_count, own_entries, Sizes, StepsDown, SizesStepDown, LongerByOne, HasBlock, NodesHaveBlocks, block_needed, slots_of_missing, child_blocks_needed, value_block_needed, missing_node_slots, missing_cell_slots, Nodes, has_node, home, AreNodes, State, Insert, Remove, RemoveKeepTree, Reply, Storage, HaveBlocks, RemovesValueInStorage, StepInStorage, same_Some}
use Rattle.std.specs.Prelude.{find}
use Rattle.prefix_trie_bits.proofs.Model.Members.{and-first, and-second}
use Rattle.prefix_trie_bits.proofs.Model.Levels.{at_level, closed, no_children_at, split_at}
use Rattle.prefix_trie_bits.proofs.Model.Storage.Paths.{none_needed, blocks_needed}

-- ---- the slots of needed blocks are no more than these have

-- whether the sizes increase, from above `least` on
abbrev pub rising : ℕ → List ℕ → Bool
rising least [] = true
rising least (size ∷ sizes) = nat_lt least size && rising size sizes

abbrev pub total : List ℕ → ℕ
total [] = 0
total (x ∷ xs) = x + total xs

-- how many of the needed blocks have this size
abbrev pub how_many : ℕ → List ℕ → ℕ
how_many size needed = length (filter (λ s. s == size) needed)

pub how_many-more : (size x : ℕ) (xs : List ℕ) → how_many size (x ∷ xs) ≡ cond (x == size) 1 0 + how_many size xs
how_many-more size x xs =
    elim (x == size) as (λ b. length (cond b (x ∷ filter (λ s. s == size) xs) (filter (λ s. s == size) xs)) ≡ cond b 1 0 + how_many size xs) [ true ↦ omega arith | false ↦ omega arith ]

more_below : (least : ℕ) (sizes : List ℕ) → rising least sizes ≡ true → (x : ℕ) (xs : List ℕ) → x ≤ least →
    slots_of_missing sizes [] (x ∷ xs) ≤ slots_of_missing sizes [] xs
more_below least [] up x xs h = omega arith
more_below least (size ∷ sizes) up x xs h =
    let above : least < size = ltb-true least size (and-first (nat_lt least size) (rising size sizes) up) in
    let none : cond (x == size) 1 0 ≤ 0 = elim (cases_Bool (x == size)) as (λ _. cond (x == size) 1 0 ≤ 0) [
      | inl e ↦ absurd (let same = eqb-true x size e in omega (arith, same, above, h))
      | inr e ↦ subst (λ b. cond b 1 0 ≤ 0) (sym e) (omega arith)
    ] in
    let fewer : how_many size (x ∷ xs) ≤ how_many size xs = omega (arith, how_many-more size x xs, none) in
    let rest = more_below size sizes (and-second (nat_lt least size) (rising size sizes) up) x xs (omega (arith, above, h)) in
    omega (arith, mul-le-mul_left size fewer, rest)

more_slots : (least : ℕ) (sizes : List ℕ) → rising least sizes ≡ true → (x : ℕ) (xs : List ℕ) → slots_of_missing sizes [] (x ∷ xs) ≤ x + slots_of_missing sizes [] xs
more_slots least [] up x xs = omega arith
more_slots least (size ∷ sizes) up x xs =
    let later = and-second (nat_lt least size) (rising size sizes) up in
    elim (cases_eq x size) as (λ _. slots_of_missing (size ∷ sizes) [] (x ∷ xs) ≤ x + slots_of_missing (size ∷ sizes) [] xs) [
      | inl e ↦
          let one : ◌≡◌ {A = ℕ} (cond (x == size) 1 0) 1 = ap (λ b. cond b 1 0) (eq-eqb x size e) in
          let count : how_many size (x ∷ xs) ≤ 1 + how_many size xs = omega (arith, how_many-more size x xs, one) in
          let rest = more_below size sizes later x xs (omega (arith, e)) in
          omega (arith, mul-le-mul_left size count, mul-add size 1 (how_many size xs), rest, e)
      | inr other ↦
          let none : cond (x == size) 1 0 ≤ 0 = elim (cases_Bool (x == size)) as (λ _. cond (x == size) 1 0 ≤ 0) [
            | inl e ↦ absurd (other (eqb-true x size e))
            | inr e ↦ subst (λ b. cond b 1 0 ≤ 0) (sym e) (omega arith)
          ] in
          let fewer : how_many size (x ∷ xs) ≤ how_many size xs = omega (arith, how_many-more size x xs, none) in
          let rest = more_slots size sizes later x xs in
          omega (arith, mul-le-mul_left size fewer, rest)
    ]

none_slots : (sizes : List ℕ) → slots_of_missing sizes [] [] ≤ 0
none_slots [] = omega arith
none_slots (size ∷ sizes) = (let rest = none_slots sizes in omega (arith, rest))

all_slots : (sizes : List ℕ) → rising 0 sizes ≡ true → (needed : List ℕ) → slots_of_missing sizes [] needed ≤ total needed
all_slots sizes up [] = none_slots sizes
all_slots sizes up (x ∷ xs) = (let more = more_slots 0 sizes up x xs in let rest = all_slots sizes up xs in omega (arith, more, rest))

free_fewer : (sizes free needed : List ℕ) → slots_of_missing sizes free needed ≤ slots_of_missing sizes [] needed
free_fewer (size ∷ sizes) (f ∷ free) needed =
    let less : how_many size needed - f ≤ how_many size needed = omega arith in
    let rest = free_fewer sizes free needed in
    omega (arith, mul-le-mul_left size less, rest)
free_fewer sizes free needed = omega arith

pub slots_most : (sizes free : List ℕ) → rising 0 sizes ≡ true → (needed : List ℕ) → slots_of_missing sizes free needed ≤ total needed
slots_most sizes free up needed = (let a = free_fewer sizes free needed in let b = all_slots sizes up needed in omega (arith, a, b))

-- ---- sizes

-- the block sizes of one array, whose largest is `top`
abbrev pub sizes_to : ℕ → List ℕ
sizes_to top = 1 ∷ 2 ∷ 4 ∷ 8 ∷ 16 ∷ 24 ∷ top ∷ []

module _ (P : ℕ → Type 0) where
  found_in : (f : ℕ → Bool) (sizes : List ℕ) (x : ℕ) → All P sizes → find f sizes ≡ Some x → P x
  found_in f [] x all e = absurd (let h : ◌≡◌ {A = Option ℕ} None (Some x) = e in cc)
  found_in f (size ∷ sizes) x all e = elim (f size) as (λ b. cond b (Some size) (find f sizes) ≡ Some x → P x) [
    | true ↦ λ here. subst P (let h : size ≡ x = same_Some size x here in h) (All-head P size sizes all)
    | false ↦ λ later. found_in f sizes x (All-tail P size sizes all) later
  ] e

  seven : (top : ℕ) → P 1 → P 2 → P 4 → P 8 → P 16 → P 24 → P top → All P (sizes_to top)
  seven top a b c d e f g = All-cons P 1 (2 ∷ 4 ∷ 8 ∷ 16 ∷ 24 ∷ top ∷ []) a (All-cons P 2 (4 ∷ 8 ∷ 16 ∷ 24 ∷ top ∷ []) b
      (All-cons P 4 (8 ∷ 16 ∷ 24 ∷ top ∷ []) c (All-cons P 8 (16 ∷ 24 ∷ top ∷ []) d (All-cons P 16 (24 ∷ top ∷ []) e
      (All-cons P 24 (top ∷ []) f (All-cons P top [] g (All-nil P)))))))

sizes_most : (top : ℕ) → 24 ≤ top → All (λ size. size ≤ top) (sizes_to top)
sizes_most top h = seven (λ size. size ≤ top) top (omega (arith, h)) (omega (arith, h)) (omega (arith, h)) (omega (arith, h)) (omega (arith, h)) h (omega arith)

-- each size is at most 24 or the largest
sizes_or_top : (top : ℕ) → All (λ size. (size ≤ 24) ⊎ (size ≡ top)) (sizes_to top)
sizes_or_top top = seven (λ size. (size ≤ 24) ⊎ (size ≡ top)) top (inl (lit≤ tt)) (inl (lit≤ tt)) (inl (lit≤ tt)) (inl (lit≤ tt)) (inl (lit≤ tt)) (inl (lit≤ tt)) (inr refl)

-- the block that a list needs has at most the largest size
pub needed_most : (top : ℕ) → 24 ≤ top → (block : Option ℕ) (count x : ℕ) → block_needed (sizes_to top) block count ≡ Some x → x ≤ top
needed_most top h None count x e = found_in (λ size. size ≤ top) (λ size. nat_le (count + 1) size) (sizes_to top) x (sizes_most top h) e
needed_most top h (Some size) count x e = elim (nat_lt count size) as (λ b. cond b None (smallest_size (sizes_to top) (count + 1)) ≡ Some x → x ≤ top) [
  | true ↦ λ none. absurd (let h : ◌≡◌ {A = Option ℕ} None (Some x) = none in cc)
  | false ↦ found_in (λ s. s ≤ top) (λ s. nat_le (count + 1) s) (sizes_to top) x (sizes_most top h)
] e

pub total_most : (most : ℕ) (o : Option ℕ) (m : ℕ) → ((x : ℕ) → o ≡ Some x → x ≤ most) → total (option_to_list o ++ replicate m 1) ≤ most + m
total_most most o m few = one o few
  where
    ones : (n : ℕ) → total (replicate n 1) ≤ n
    ones zero = omega arith
    ones (suc n) = (let rest = ones n in omega (arith, rest))

    one : (p : Option ℕ) → ((x : ℕ) → p ≡ Some x → x ≤ most) → total (option_to_list p ++ replicate m 1) ≤ most + m
    one None h = (let rest = ones m in omega (arith, rest))
    one (Some x) h = (let rest = ones m in let a = h x refl in omega (arith, rest, a))

-- ---- an insertion

module _ {T : Type 0} (width : ℕ) (s : State T) (layout : Layout) (are : AreNodes width s.entries s.nodes) (have : HaveBlocks s layout) (q : List Bool) where
  pub nodes_most : length q ≤ 128 → missing_node_slots s.nodes layout q ≤ 56
  nodes_most short =
      let most : (needed : List ℕ) → child_blocks_needed s.nodes layout q ≡ needed → total needed ≤ 56 → missing_node_slots s.nodes layout q ≤ 56 = λ needed e few.
      (let a = slots_most child_block_sizes layout.free_child_blocks refl (child_blocks_needed s.nodes layout q) in
      let same : total (child_blocks_needed s.nodes layout q) ≡ total needed = ap total e in omega (arith, a, same, few)) in
      elim (split_at (λ i. has_node s.nodes (at_level q i)) (length q / 5) (closed width s.entries s.nodes are q) are.rooted) [
        | inl all ↦ most [] (none_needed s.nodes layout.child_blocks q (length q / 5) refl all) (omega arith)
        | inr some ↦
            let o = block_needed child_block_sizes (get layout.child_blocks (at_level q some.0)) (child_count s.nodes (at_level q some.0)) in
            let bound = total_most 32 o (length q / 5 - (some.0 + 1)) (needed_most 32 (lit≤ tt) (get layout.child_blocks (at_level q some.0)) (child_count s.nodes (at_level q some.0))) in
            most _ (blocks_needed s.nodes layout.child_blocks q (length q / 5) refl some.0 some.1 some.2 some.3 (λ i more inside.
            (have.child_blocks.elsewhere (at_level q i) (some.3 i more inside), no_children_at width s.entries s.nodes are q i inside (some.3 i more inside))))
            (omega (arith, bound, short))
      ]

  pub cells_most : missing_cell_slots s.entries layout q ≤ 31
  cells_most =
      let o = value_block_needed s.entries layout.value_blocks q (home q) in
      let all = slots_most value_block_sizes layout.free_value_blocks refl (option_to_list o ++ []) in
      let bound : total (option_to_list o ++ []) ≤ 31 + 0 = total_most 31 o 0 (λ x e. elim (same_string (home q) (home q)) as
      (λ b. cond b (block_needed value_block_sizes (get layout.value_blocks (home q)) (own_entries s.entries (home q))) None ≡ Some x → x ≤ 31) [
        | true ↦ needed_most 31 (lit≤ tt) (get layout.value_blocks (home q)) (own_entries s.entries (home q)) x
        | false ↦ λ none. absurd (let h : ◌≡◌ {A = Option ℕ} None (Some x) = none in cc)
      ] e) in
      let same : missing_cell_slots s.entries layout q ≡ slots_of_missing value_block_sizes layout.free_value_blocks (option_to_list o ++ []) =
      ap (slots_of_missing value_block_sizes layout.free_value_blocks) (sym (append-nil (option_to_list o))) in
      omega (arith, all, bound, same)

-- ---- a removal

abbrev last_of : ℕ → List ℕ → ℕ
last_of prev [] = prev
last_of prev (s ∷ small) = last_of s small

module _ (top : ℕ) where
  -- a list that needs a block of more than 24 slots has more than 24 items
  over_others : (prev : ℕ) (small : List ℕ) (n x : ℕ) → prev < n → All (λ size. size ≤ 24) small → last_of prev small ≡ 24 →
      find (λ size. nat_le n size) (small ++ top ∷ []) ≡ Some x → 24 < x → 24 < n
  over_others prev [] n x less all last found more = omega (arith, last, less)
  over_others prev (s ∷ small) n x less all last found more = elim (cases_lt s n) as (λ _. 24 < n) [
    | inl over ↦ over_others s small n x over (All-tail (λ size. size ≤ 24) s small all) last
        (ap (λ b. cond b (Some s) (find (λ size. nat_le n size) (small ++ top ∷ []))) (sym (let h : nat_le n s ≡ false = grind (arith, nat_tests, over) in h)) ∙ found) more
    | inr fits ↦ absurd (
        let is : s ≡ x = same_Some s x (ap (λ b. cond b (Some s) (find (λ size. nat_le n size) (small ++ top ∷ [])))
        (sym (let h : nat_le n s ≡ true = grind (arith, nat_tests, fits) in h)) ∙ found) in
        let few = All-head (λ size. size ≤ 24) s small all in
        omega (arith, is, few, more))
  ]

  small_sizes : All (λ size. size ≤ 24) (1 ∷ 2 ∷ 4 ∷ 8 ∷ 16 ∷ 24 ∷ [])
  small_sizes = let P : ℕ → Type 0 = λ size. size ≤ 24 in
      All-cons P 1 (2 ∷ 4 ∷ 8 ∷ 16 ∷ 24 ∷ []) (lit≤ tt) (All-cons P 2 (4 ∷ 8 ∷ 16 ∷ 24 ∷ []) (lit≤ tt) (All-cons P 4 (8 ∷ 16 ∷ 24 ∷ []) (lit≤ tt)
      (All-cons P 8 (16 ∷ 24 ∷ []) (lit≤ tt) (All-cons P 16 (24 ∷ []) (lit≤ tt) (All-cons P 24 [] (lit≤ tt) (All-nil P))))))

  -- a list that shrinks moves to a block of at most 24 slots or keeps its own
  same_block : (before after size : ℕ) (old : Option ℕ) → HasBlock (sizes_to top) before old → after < before → 0 < after →
      smallest_size (sizes_to top) after ≡ Some size → 24 < size → old ≡ Some size
  same_block zero after size old has less some is more = absurd (omega (arith, less))
  same_block (suc n) after size old has less some is more =
      let over = over_others 0 (1 ∷ 2 ∷ 4 ∷ 8 ∷ 16 ∷ 24 ∷ []) after size some small_sizes refl is more in
      let holds = has.3 in
      elim (found_in (λ x. (x ≤ 24) ⊎ (x ≡ top)) (λ x. nat_le after x) (sizes_to top) size (sizes_or_top top) is) as (λ _. old ≡ Some size) [
        | inl few ↦ absurd (omega (arith, few, more))
        | inr largest ↦ elim (All-contains (λ x. (x ≤ 24) ⊎ (x ≡ top)) (sizes_to top) has.0 (sizes_or_top top) has.2) as (λ _. old ≡ Some size) [
          | inl few ↦ absurd (omega (arith, few, over, less, holds))
          | inr also ↦ has.1 ∙ ap Some (also ∙ sym largest)
        ]
      ]

  pub shrinks_few : (free : List ℕ) (before after size : ℕ) (old : Option ℕ) → StepsDown (sizes_to top) free before after old (Some size) →
      HasBlock (sizes_to top) before old → old ≢ Some size → size ≤ 24
  shrinks_few free before after size old step has other = elim (cases_lt 24 size) as (λ _. size ≤ 24) [
    | inr few ↦ few
    | inl more ↦ elim (cases_eq after before) as (λ _. size ≤ 24) [
      | inl e ↦ absurd (other (sym (step.same e)))
      | inr differ ↦ elim (cases_eq after 0) as (λ _. size ≤ 24) [
        | inl none ↦ absurd (let h : ◌≡◌ {A = Option ℕ} (Some size) None = step.none none in cc)
        | inr left ↦
            let less : after < before = (let h = step.fewer in grind (arith, h, differ)) in
            let some : 0 < after = grind (arith, left) in
            elim (step.one_of less some) as (λ _. size ≤ 24) [
              | inl stays ↦ absurd (other (sym stays))
              | inr smallest ↦ absurd (other (same_block before after size old has less some (sym smallest) more))
            ]
      ]
    ]
  ]

  longer_few : (free : List ℕ) (n : Nodes) (before after : List Bool → ℕ) (old new : Sizes) → SizesStepDown (sizes_to top) free n before after old new →
      NodesHaveBlocks (sizes_to top) n before old → (p : List Bool) (slots later : ℕ) → LongerByOne (sizes_to top) free (get old p) (get new p) slots later →
      later ≤ slots + 24
  longer_few free n before after old new steps have p slots later (inl same) = omega (arith, same)
  longer_few free n before after old new steps have p slots later (inr (size, is, other, none, long)) =
      elim (cases_Bool (has_node n p)) as (λ _. later ≤ slots + 24) [
        | inl there ↦
            let few = shrinks_few free (before p) (after p) size (get old p) (subst (StepsDown (sizes_to top) free (before p) (after p) (get old p)) is (steps.at_nodes p there))
            (have.at_nodes p there) other in
            omega (arith, few, long)
        | inr missing ↦ absurd (let h : ◌≡◌ {A = Option ℕ} (Some size) None = sym is ∙ steps.elsewhere p missing in cc)
      ]

-- ---- the laws

module _ {P T : Type 0} (path : P → List Bool) (back : List Bool → P) (width : ℕ) where
  value_removed : (s t : State T) (q : List Bool) (before after : Storage) → HaveBlocks s before.layout → RemovesValueInStorage s t q before after →
      after.space.cell_slots ≤ before.space.cell_slots + 24
  value_removed s t q before after have h = longer_few 31 _ _ _ _ _ _ h.value_blocks have.value_blocks (home q) _ _ h.cells_longer

  inserted : (s : State T × Storage) (q : P) (v : T) (reply : Reply P T) (t : State T × Storage) → IsMap width s.0 → HaveBlocks s.0 s.1.layout →
      length (path q) ≤ 128 → StepInStorage path back width s (Insert q v) reply t → MakesSlots 56 31 s.1 t.1
  inserted s q v reply t map have short h =
      let nodes = nodes_most width s.0 s.1.layout map.are_nodes have (path q) short in
      let cells = cells_most width s.0 s.1.layout map.are_nodes have (path q) in
      elim (cases_Bool (contains_key s.0.entries (path q))) as (λ _. MakesSlots 56 31 s.1 t.1) [
        | inl stored ↦
            let same = h.storage.0 stored in
            let node_slots = ap (λ (x : Storage). x.space.node_slots) same in
            let cell_slots = ap (λ (x : Storage). x.space.cell_slots) same in
            record { node_slots = omega (arith, node_slots); cell_slots = omega (arith, cell_slots) }
        | inr new ↦ elim h.step as (λ _. MakesSlots 56 31 s.1 t.1) [
          | inl set ↦
              let left = h.storage.1 _ new set.0 in
              let node_slots = left.node_slots in
              let cell_slots = left.cell_slots in
              record { node_slots = omega (arith, node_slots, nodes); cell_slots = omega (arith, cell_slots, cells) }
          | inr refused ↦
              let left = h.storage.2 refused.1 refused.2 in
              let node_slots = left.node_slots.1 in
              let cell_slots = left.cell_slots.1 in
              record { node_slots = omega (arith, node_slots, nodes); cell_slots = omega (arith, cell_slots, cells) }
        ]
      ]

  removed : (s : State T × Storage) (q : P) (reply : Reply P T) (t : State T × Storage) → HaveBlocks s.0 s.1.layout →
      StepInStorage path back width s (Remove q) reply t → MakesSlots 24 24 s.1 t.1
  removed s q reply t have h = let longer = h.storage.1.nodes_longer in record {
    node_slots = longer_few 32 _ _ _ _ _ _ h.storage.1.child_blocks have.child_blocks longer.0 _ _ longer.1;
    cell_slots = value_removed s.0 t.0 (path q) s.1 t.1 have h.storage.0;
  }

  removed_keeping : (s : State T × Storage) (q : P) (reply : Reply P T) (t : State T × Storage) → HaveBlocks s.0 s.1.layout →
      StepInStorage path back width s (RemoveKeepTree q) reply t → MakesSlots 0 24 s.1 t.1
  removed_keeping s q reply t have h = record {
    node_slots = (let same = h.storage.1 in omega (arith, same));
    cell_slots = value_removed s.0 t.0 (path q) s.1 t.1 have h.storage.0;
  }

pub slot_laws : (P T : Type 0) → SlotLaws P T
slot_laws P T = record { inserted = inserted; removed = removed; removed_keeping = removed_keeping }
