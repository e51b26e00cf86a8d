-- Blocks that a removal may leave: a list with items left keeps its block, except that one list may step down to a
-- smaller free block.
use Rattle.prefix_trie_bits.proofs.Prelude.{◌≡◌, ℕ, zero, suc, ◌+◌, ◌-◌, ◌<◌, ◌≤◌, ◌==◌, ◌⊎◌, inl, inr, Bool, true, false, cond, ◌&&◌, nat_lt, nat_le, List, [], ◌∷◌, map, Option, None, Some, refl, sym, ap, ◌∙◌, subst, arith, eqb-true, eq-eqb, ltb-true, true≢false, cases_Bool, cases_lt, cases_eq, lt-ltb, le-ltb, nat_tests, none-some, same_Some, Contains, option_or, get, insert, retain_keys, get-insert, listing_total, same_string, Sizes, StepsDown, StepsBetween, SizesStepDown, SizesStepBetween, HasBlock, NodesHaveBlocks, free_of, used_of, one_of, made_of, smallest_size, Nodes, has_node}
use Rattle.std.specs.Prelude.{find}
use Rattle.prefix_trie_bits.proofs.Model.Storage.KeyCounts.{get-kept, used-kept, used-taken}
use Rattle.prefix_trie_bits.proofs.Model.Members.{same_string-is}
use Rattle.prefix_trie_bits.proofs.Model.Storage.PreparedInsertions.{goes_up, above, both}

-- ---- sizes

pub later_in : (s : ℕ) (sizes : List ℕ) (x : ℕ) → Contains sizes x → Contains (s ∷ sizes) x
later_in s sizes x at = (suc at.0, (let i = at.1 in omega arith), at.2)

pub first_in : (s : ℕ) (sizes : List ℕ) → Contains (s ∷ sizes) s
first_in s sizes = (0, omega arith, refl)

pub in_cases : (s : ℕ) (sizes : List ℕ) (x : ℕ) → Contains (s ∷ sizes) x → (s ≡ x) ⊎ Contains sizes x
in_cases s sizes x (zero, inside, e) = inl (let is = e in omega (arith, is))
in_cases s sizes x (suc k, inside, e) = inr (k, omega (arith, inside), e)

-- there are free counts with any given number for each size
pub free_as : (sizes : List ℕ) (f : ℕ → ℕ) (size : ℕ) → Contains sizes size → free_of sizes (map f sizes) size ≡ f size
free_as [] f size at = absurd (let i = at.1 in omega arith)
free_as (s ∷ sizes) f size at = elim (cases_Bool (s == size)) as (λ _. cond (s == size) (f s) (free_of sizes (map f sizes) size) ≡ f size) [
  | inl e ↦ ap (λ b. cond b (f s) (free_of sizes (map f sizes) size)) e ∙ ap f (eqb-true s size e)
  | inr e ↦ ap (λ b. cond b (f s) (free_of sizes (map f sizes) size)) e ∙ elim (in_cases s sizes size at) as (λ _. free_of sizes (map f sizes) size ≡ f size) [
    | inl here ↦ absurd (true≢false (sym (eq-eqb s size here) ∙ e))
    | inr there ↦ free_as sizes f size there
  ]
]

-- the free blocks, if the number of all blocks of each size is given
abbrev pub rest_free : List ℕ → (ℕ → ℕ) → Sizes → List ℕ
rest_free sizes all new = map (λ size. all size - used_of new size) sizes

pub as_many : (sizes : List ℕ) (all : ℕ → ℕ) (new : Sizes) (size : ℕ) → used_of new size ≤ all size → Contains sizes size →
    used_of new size + free_of sizes (rest_free sizes all new) size ≡ all size
as_many sizes all new size few at = let free = free_as sizes (λ x. all x - used_of new x) size at in omega (arith, few, free)

-- the smallest size that holds n items
pub record IsSmallest (sizes : List ℕ) (n o : ℕ) : Type 0 where
  pub size : ℕ
  pub found : smallest_size sizes n ≡ Some size
  pub among : Contains sizes size
  pub holds : n ≤ size
  pub least : size ≤ o

pub smallest_of : (below : ℕ) (sizes : List ℕ) → goes_up below sizes ≡ true → (n o : ℕ) → Contains sizes o → n ≤ o → IsSmallest sizes n o
smallest_of below [] up n o at h = absurd (let i = at.1 in omega arith)
smallest_of below (s ∷ sizes) up n o at h =
    let later : goes_up s sizes ≡ true = (both (nat_lt below s) (goes_up s sizes) up).1 in
    elim (cases_lt s n) as (λ _. IsSmallest (s ∷ sizes) n o) [
      | inl small ↦
          let no : nat_le n s ≡ false = grind (arith, nat_tests, small) in
          elim (in_cases s sizes o at) as (λ _. IsSmallest (s ∷ sizes) n o) [
            | inl here ↦ absurd (omega (arith, here, h, small))
            | inr there ↦
                let r = smallest_of s sizes later n o there h in
                record {
                  size = r.size;
                  found = ap (λ b. cond b (Some s) (find (λ x. nat_le n x) sizes)) no ∙ r.found;
                  among = later_in s sizes r.size r.among;
                  holds = r.holds;
                  least = r.least;
                }
          ]
      | inr fits ↦
          let yes : nat_le n s ≡ true = grind (arith, nat_tests, fits) in
          record {
            size = s;
            found = ap (λ b. cond b (Some s) (find (λ x. nat_le n x) sizes)) yes;
            among = first_in s sizes;
            holds = omega (arith, fits);
            least = elim (in_cases s sizes o at) as (λ _. s ≤ o) [ inl here ↦ omega (arith, here) | inr there ↦ (let less = above s sizes later o there in omega (arith, less)) ];
          }
    ]

-- ---- a list has its block

pub has_none : (sizes : List ℕ) (count : ℕ) (block : Option ℕ) → count ≡ 0 → block ≡ None → HasBlock sizes count block
has_none sizes zero block e is = is
has_none sizes (suc n) block e is = absurd (omega (arith, e))

pub has_some : (sizes : List ℕ) (count : ℕ) (block : Option ℕ) (size : ℕ) → 0 < count → block ≡ Some size → Contains sizes size → count ≤ size → HasBlock sizes count block
has_some sizes zero block size some is at h = absurd (omega (arith, some))
has_some sizes (suc n) block size some is at h = (size, is, at, h)

-- a list with items has a block of one of the sizes, and an empty list has none
pub record Holds (sizes : List ℕ) (count : ℕ) (block : Option ℕ) : Type 0 where
  pub size : ℕ
  pub is : block ≡ Some size
  pub among : Contains sizes size
  pub some : 0 < count
  pub fits : count ≤ size

pub has_cases : (sizes : List ℕ) (count : ℕ) (block : Option ℕ) → HasBlock sizes count block → ((count ≡ 0) × (block ≡ None)) ⊎ Holds sizes count block
has_cases sizes zero block has = inl (refl, has)
has_cases sizes (suc n) block has = inr (record { size = has.0; is = has.1; among = has.2; some = omega arith; fits = has.3 })

-- ---- a block that stays if items are left

abbrev pub kept_block : ℕ → Option ℕ → Option ℕ
kept_block after old = cond (nat_lt 0 after) old None

kept_some : (after : ℕ) (old : Option ℕ) → 0 < after → kept_block after old ≡ old
kept_some after old h = ap (λ b. cond b old None) (lt-ltb 0 after h)

kept_none : (after : ℕ) (old : Option ℕ) → after ≡ 0 → kept_block after old ≡ None
kept_none after old e = ap (λ n. cond (nat_lt 0 n) old None) e

-- ---- a block that steps down to a free one

abbrev pub if_free : List ℕ → List ℕ → Option ℕ → Option ℕ
if_free sizes free None = None
if_free sizes free (Some size) = cond (nat_lt 0 (free_of sizes free size)) (Some size) None

-- the free block that a list takes if it lost some of its items and has some left
abbrev pub taken_block : List ℕ → List ℕ → ℕ → ℕ → Option ℕ
taken_block sizes free before after = cond (nat_lt 0 after && nat_lt after before) (if_free sizes free (smallest_size sizes after)) None

abbrev pub lower_block : List ℕ → List ℕ → ℕ → ℕ → Option ℕ → Option ℕ
lower_block sizes free before after old = option_or (taken_block sizes free before after) (kept_block after old)

-- a block is taken only if one of its size is free
taken_free : (sizes free : List ℕ) (before after size : ℕ) → taken_block sizes free before after ≡ Some size → 0 < free_of sizes free size
taken_free sizes free before after size e = elim (nat_lt 0 after && nat_lt after before) as (λ b. cond b (if_free sizes free (smallest_size sizes after)) None ≡ Some size → 0 < free_of sizes free size) [
  | true ↦ of_smallest (smallest_size sizes after)
  | false ↦ λ h. absurd (none-some size h)
] e
  where
    of_smallest : (o : Option ℕ) → if_free sizes free o ≡ Some size → 0 < free_of sizes free size
    of_smallest None h = absurd (none-some size h)
    of_smallest (Some x) h = elim (cases_Bool (nat_lt 0 (free_of sizes free x))) as (λ _. 0 < free_of sizes free size) [
      | inl some ↦ subst (λ y. 0 < free_of sizes free y) (same_Some x size (sym (ap (λ b. cond b (Some x) None) some) ∙ h)) (ltb-true 0 (free_of sizes free x) some)
      | inr none ↦ absurd (none-some size (sym (ap (λ b. cond b (Some x) None) none) ∙ h))
    ]

-- so at most the free blocks are taken
few_taken : (sizes free : List ℕ) (o : Option ℕ) (size : ℕ) → ((x : ℕ) → o ≡ Some x → 0 < free_of sizes free x) → one_of o size ≤ free_of sizes free size
few_taken sizes free None size h = omega arith
few_taken sizes free (Some x) size h = elim (cases_Bool (x == size)) as (λ _. cond (x == size) 1 0 ≤ free_of sizes free size) [
  | inl e ↦ subst (λ b. cond b 1 0 ≤ free_of sizes free size) (sym e) (let some = subst (λ y. 0 < free_of sizes free y) (eqb-true x size e) (h x refl) in omega (arith, some))
  | inr e ↦ subst (λ b. cond b 1 0 ≤ free_of sizes free size) (sym e) (omega arith)
]

-- so no block is made
none_made : (sizes free : List ℕ) (before after size : ℕ) (old new : Option ℕ) → new ≡ lower_block sizes free before after old → made_of sizes free old new size ≡ 0
none_made sizes free before after size old new is =
    ap (λ o. made_of sizes free old o size) is
    ∙ of_taken (taken_block sizes free before after) (λ x. taken_free sizes free before after x)
  where
    of_taken : (o : Option ℕ) → ((x : ℕ) → o ≡ Some x → 0 < free_of sizes free x) → made_of sizes free old (option_or o (kept_block after old)) size ≡ 0
    of_taken (Some x) h = (let few = few_taken sizes free (Some x) size h in omega (arith, few))
    of_taken None h = elim (nat_lt 0 after) as (λ b. made_of sizes free old (cond b old None) size ≡ 0) [ true ↦ omega arith | false ↦ omega arith ]

module _ (sizes : List ℕ) (up : goes_up 0 sizes ≡ true) (before after : ℕ) (old : Option ℕ) (has : HasBlock sizes before old) (fewer : after ≤ before) where
  kept_same : after ≡ before → kept_block after old ≡ old
  kept_same e = elim (has_cases sizes before old has) as (λ _. kept_block after old ≡ old) [
    | inl none ↦ kept_none after old (e ∙ none.0) ∙ sym none.1
    | inr holds ↦ kept_some after old (let some = holds.some in omega (arith, e, some))
  ]

  held : 0 < after → Holds sizes before old
  held some = elim (has_cases sizes before old has) as (λ _. Holds sizes before old) [
    | inl none ↦ absurd (let e = none.0 in omega (arith, e, some, fewer))
    | inr holds ↦ holds
  ]

  pub between_kept : StepsBetween sizes before after old (kept_block after old)
  between_kept = record {
    fewer = fewer;
    same = kept_same;
    none = kept_none after old;
    between = λ less some.
        let holds = held some in
        let fits = holds.fits in
        let small = smallest_of 0 sizes up after holds.size holds.among (omega (arith, fits, less)) in
        let least = small.least in (
          holds.size,
          holds.size,
          kept_some after old some ∙ holds.is,
          holds.is,
          omega arith,
          λ size e. (let is = same_Some size small.size (sym e ∙ small.found) in omega (arith, is, least)),
          holds.among,
        );
  }

  pub kept_has : HasBlock sizes after (kept_block after old)
  kept_has = elim (cases_eq after 0) as (λ _. HasBlock sizes after (kept_block after old)) [
    | inl e ↦ has_none sizes after (kept_block after old) e (kept_none after old e)
    | inr other ↦
        let some : 0 < after = grind (arith, other) in
        let holds = held some in
        let fits = holds.fits in
        has_some sizes after (kept_block after old) holds.size some (kept_some after old some ∙ holds.is) holds.among (omega (arith, fits, fewer))
  ]

  module _ (free : List ℕ) where
    abbrev taken : Option ℕ
    taken = taken_block sizes free before after

    abbrev lower : Option ℕ
    lower = lower_block sizes free before after old

    lower_of : (o : Option ℕ) → taken ≡ o → lower ≡ option_or o (kept_block after old)
    lower_of o e = ap (λ t. option_or t (kept_block after old)) e

    taken_zero : after ≡ 0 → taken ≡ None
    taken_zero e = ap (λ n. cond (nat_lt 0 n && nat_lt after before) (if_free sizes free (smallest_size sizes after)) None) e

    taken_same : before ≤ after → taken ≡ None
    taken_same h =
        ap (λ b. cond (nat_lt 0 after && b) (if_free sizes free (smallest_size sizes after)) None) (le-ltb after before h)
        ∙ elim (nat_lt 0 after) as (λ b. cond (b && false) (if_free sizes free (smallest_size sizes after)) None ≡ None) [ true ↦ refl | false ↦ refl ]

    smallest_left : 0 < after → (o : ℕ) × IsSmallest sizes after o
    smallest_left some =
        let holds = held some in
        let fits = holds.fits in
        (holds.size, smallest_of 0 sizes up after holds.size holds.among (omega (arith, fits, fewer)))

    taken_less : 0 < after → after < before → (size : ℕ) → smallest_size sizes after ≡ Some size → (b : Bool) → nat_lt 0 (free_of sizes free size) ≡ b → taken ≡ cond b (Some size) None
    taken_less some less size found b e =
        ap (λ c. cond (c && nat_lt after before) (if_free sizes free (smallest_size sizes after)) None) (lt-ltb 0 after some)
        ∙ ap (λ c. cond c (if_free sizes free (smallest_size sizes after)) None) (lt-ltb after before less)
        ∙ ap (if_free sizes free) found ∙ ap (λ c. cond c (Some size) None) e

    pub lower_steps : StepsDown sizes free before after old lower
    lower_steps = record {
      fewer = fewer;
      same = λ e. lower_of None (taken_same (omega (arith, e))) ∙ kept_same e;
      none = λ e. lower_of None (taken_zero e) ∙ kept_none after old e;
      one_of = λ less some.
          let small = (smallest_left some).1 in
          elim (cases_Bool (nat_lt 0 (free_of sizes free small.size))) as (λ _. (lower ≡ old) ⊎ (lower ≡ smallest_size sizes after)) [
            | inl e ↦ inr (lower_of (Some small.size) (taken_less some less small.size small.found true e) ∙ sym small.found)
            | inr e ↦ inl (lower_of None (taken_less some less small.size small.found false e) ∙ kept_some after old some)
          ];
      smallest = λ size less some found free_one. lower_of (Some size) (taken_less some less size found true (lt-ltb 0 (free_of sizes free size) free_one));
    }

    pub lower_has : HasBlock sizes after lower
    lower_has = elim (cases_eq after 0) as (λ _. HasBlock sizes after lower) [
      | inl none ↦ subst (HasBlock sizes after) (sym (lower_of None (taken_zero none))) kept_has
      | inr other ↦ elim (cases_lt after before) as (λ _. HasBlock sizes after lower) [
        | inr same ↦ subst (HasBlock sizes after) (sym (lower_of None (taken_same (omega (arith, same))))) kept_has
        | inl less ↦
            let some : 0 < after = grind (arith, other) in
            let small = (smallest_left some).1 in
            elim (cases_Bool (nat_lt 0 (free_of sizes free small.size))) as (λ _. HasBlock sizes after lower) [
              | inl e ↦ has_some sizes after lower small.size some (lower_of (Some small.size) (taken_less some less small.size small.found true e)) small.among small.holds
              | inr e ↦ subst (HasBlock sizes after) (sym (lower_of None (taken_less some less small.size small.found false e))) kept_has
            ]
      ]
    ]

-- a list that loses none or all of its items takes no other block
lower_still : (sizes free : List ℕ) (before after : ℕ) (old : Option ℕ) → (after ≡ before) ⊎ (after ≡ 0) → lower_block sizes free before after old ≡ kept_block after old
lower_still sizes free before after old (inl e) =
    ap (λ n. option_or (cond (nat_lt 0 after && n) (if_free sizes free (smallest_size sizes after)) None) (kept_block after old)) (le-ltb after before (omega (arith, e)))
    ∙ elim (nat_lt 0 after) as (λ b. option_or (cond (b && false) (if_free sizes free (smallest_size sizes after)) None) (kept_block after old) ≡ kept_block after old) [ true ↦ refl | false ↦ refl ]
lower_still sizes free before after old (inr e) =
    ap (λ n. option_or (cond (nat_lt 0 n && nat_lt after before) (if_free sizes free (smallest_size sizes after)) None) (kept_block after old)) e

-- ---- the blocks of all nodes

-- each node with items left keeps its block
abbrev pub keeping_all : (List Bool → ℕ) → Sizes → Sizes
keeping_all after old = retain_keys old (λ p. nat_lt 0 (after p))

abbrev pub with_taken : Sizes → List Bool → Option ℕ → Sizes
with_taken blocks at None = blocks
with_taken blocks at (Some size) = insert blocks at size

pub with_taken_at : (blocks : Sizes) (at : List Bool) (o : Option ℕ) (p : List Bool) → get (with_taken blocks at o) p ≡ cond (same_string p at) (option_or o (get blocks p)) (get blocks p)
with_taken_at blocks at None p = elim (same_string p at) as (λ b. get blocks p ≡ cond b (get blocks p) (get blocks p)) [ true ↦ refl | false ↦ refl ]
with_taken_at blocks at (Some size) p = get-insert listing_total blocks at size p

pub with_taken_used : (blocks : Sizes) (at : List Bool) (o : Option ℕ) (size : ℕ) → used_of (with_taken blocks at o) size ≤ used_of blocks size + one_of o size
with_taken_used blocks at None size = omega arith
with_taken_used blocks at (Some x) size = used-taken blocks at x size

abbrev pub taken_if : List ℕ → List ℕ → Nodes → (List Bool → ℕ) → (List Bool → ℕ) → List Bool → Option ℕ
taken_if sizes free n before after at = cond (has_node n at) (taken_block sizes free (before at) (after at)) None

-- the node `at` takes a smaller block if one is free
abbrev pub lowered_at_one : List ℕ → List ℕ → Nodes → (List Bool → ℕ) → (List Bool → ℕ) → Sizes → List Bool → Sizes
lowered_at_one sizes free n before after old at = with_taken (keeping_all after old) at (taken_if sizes free n before after at)

module _ (sizes : List ℕ) (up : goes_up 0 sizes ≡ true) (n : Nodes) (before after : List Bool → ℕ) (old : Sizes) (have : NodesHaveBlocks sizes n before old)
    (fewer : (p : List Bool) → has_node n p ≡ true → after p ≤ before p) where
  abbrev keeping : Sizes
  keeping = keeping_all after old

  keeping_at : (p : List Bool) → get keeping p ≡ kept_block (after p) (get old p)
  keeping_at p = get-kept old (λ s. nat_lt 0 (after s)) p

  none_kept : (p : List Bool) → get old p ≡ None → get keeping p ≡ None
  none_kept p e = keeping_at p ∙ ap (kept_block (after p)) e ∙ elim (nat_lt 0 (after p)) as (λ b. ◌≡◌ {A = Option ℕ} (cond b None None) None) [ true ↦ refl | false ↦ refl ]

  pub keeping_steps : SizesStepBetween sizes n before after old keeping
  keeping_steps = record {
    at_nodes = λ p there. subst (StepsBetween sizes (before p) (after p) (get old p)) (sym (keeping_at p)) (between_kept sizes up (before p) (after p) (get old p) (have.at_nodes p there) (fewer p there));
    elsewhere = λ p missing. none_kept p (have.elsewhere p missing);
  }

  module _ (left : Nodes) (stood : (p : List Bool) → has_node left p ≡ true → has_node n p ≡ true) (bare : (p : List Bool) → has_node n p ≡ true → has_node left p ≡ false → after p ≡ 0) where
    pub keeping_have : NodesHaveBlocks sizes left after keeping
    keeping_have = record {
      at_nodes = λ p there. subst (HasBlock sizes (after p)) (sym (keeping_at p)) (kept_has sizes up (before p) (after p) (get old p) (have.at_nodes p (stood p there)) (fewer p (stood p there)));
      elsewhere = λ p missing. elim (cases_Bool (has_node n p)) as (λ _. get keeping p ≡ None) [
        | inl there ↦ keeping_at p ∙ kept_none (after p) (get old p) (bare p there missing)
        | inr none ↦ none_kept p (have.elsewhere p none)
      ];
    }

  -- each other node loses none or all of its items
  module _ (free : List ℕ) (at : List Bool) (alone : (p : List Bool) → has_node n p ≡ true → same_string p at ≡ false → (after p ≡ before p) ⊎ (after p ≡ 0)) where
    abbrev taken_at : Option ℕ
    taken_at = taken_if sizes free n before after at

    abbrev lowered : Sizes
    lowered = lowered_at_one sizes free n before after old at

    lowered_at : (p : List Bool) → has_node n p ≡ true → get lowered p ≡ lower_block sizes free (before p) (after p) (get old p)
    lowered_at p there = with_taken_at keeping at taken_at p ∙ elim (same_string p at) as
        (λ b. same_string p at ≡ b → cond b (option_or taken_at (get keeping p)) (get keeping p) ≡ lower_block sizes free (before p) (after p) (get old p)) [
          | true ↦ λ e.
              let here : p ≡ at = same_string-is p at e in
              ap (λ o. option_or taken_at o) (keeping_at p)
              ∙ ap (λ s. option_or (cond (has_node n s) (taken_block sizes free (before s) (after s)) None) (kept_block (after p) (get old p))) (sym here)
              ∙ ap (λ b. option_or (cond b (taken_block sizes free (before p) (after p)) None) (kept_block (after p) (get old p))) there
          | false ↦ λ e. keeping_at p ∙ sym (lower_still sizes free (before p) (after p) (get old p) (alone p there e))
        ] refl

    pub lowered_elsewhere : (p : List Bool) → has_node n p ≡ false → get lowered p ≡ None
    lowered_elsewhere p missing = with_taken_at keeping at taken_at p ∙ elim (same_string p at) as (λ b. same_string p at ≡ b → cond b (option_or taken_at (get keeping p)) (get keeping p) ≡ None) [
      | true ↦ λ e.
          ap (λ s. option_or (cond (has_node n s) (taken_block sizes free (before at) (after at)) None) (get keeping p)) (sym (same_string-is p at e))
          ∙ ap (λ b. option_or (cond b (taken_block sizes free (before at) (after at)) None) (get keeping p)) missing ∙ none_kept p (have.elsewhere p missing)
      | false ↦ λ e. none_kept p (have.elsewhere p missing)
    ] refl

    pub lowered_steps : SizesStepDown sizes free n before after old lowered
    lowered_steps = record {
      at_nodes = λ p there. subst (StepsDown sizes free (before p) (after p) (get old p)) (sym (lowered_at p there)) (lower_steps sizes up (before p) (after p) (get old p) (have.at_nodes p there) (fewer p there) free);
      elsewhere = lowered_elsewhere;
    }

    few_at : (size x : ℕ) → taken_at ≡ Some x → 0 < free_of sizes free x
    few_at size x e = elim (has_node n at) as (λ b. cond b (taken_block sizes free (before at) (after at)) None ≡ Some x → 0 < free_of sizes free x) [
      | true ↦ taken_free sizes free (before at) (after at) x
      | false ↦ λ h. absurd (none-some x h)
    ] e

    -- the used blocks of a size are at most those that were used or free
    pub lowered_few : (size : ℕ) → used_of lowered size ≤ used_of old size + free_of sizes free size
    lowered_few size = (let few = with_taken_used keeping at taken_at size in let kept = used-kept old (λ p. nat_lt 0 (after p)) size in let free_ones = few_taken sizes free taken_at size (few_at size) in omega (arith, few, kept, free_ones))

    -- no block is made at that node
    pub lowered_makes_none : (size : ℕ) → made_of sizes free (get old at) (get lowered at) size ≡ 0
    lowered_makes_none size = elim (cases_Bool (has_node n at)) as (λ _. made_of sizes free (get old at) (get lowered at) size ≡ 0) [
      | inl there ↦ none_made sizes free (before at) (after at) size (get old at) (get lowered at) (lowered_at at there)
      | inr missing ↦ ap (λ o. made_of sizes free (get old at) o size) (lowered_elsewhere at missing) ∙ omega arith
    ]

    module _ (left : Nodes) (stood : (p : List Bool) → has_node left p ≡ true → has_node n p ≡ true) (bare : (p : List Bool) → has_node n p ≡ true → has_node left p ≡ false → after p ≡ 0) where
      pub lowered_have : NodesHaveBlocks sizes left after lowered
      lowered_have = record {
        at_nodes = λ p there. subst (HasBlock sizes (after p)) (sym (lowered_at p (stood p there)))
            (lower_has sizes up (before p) (after p) (get old p) (have.at_nodes p (stood p there)) (fewer p (stood p there)) free);
        elsewhere = λ p missing. elim (cases_Bool (has_node n p)) as (λ _. get lowered p ≡ None) [
          | inl there ↦ lowered_at p there ∙ lower_still sizes free (before p) (after p) (get old p) (inr (bare p there missing)) ∙ kept_none (after p) (get old p) (bare p there missing)
          | inr none ↦ lowered_elsewhere p none
        ];
      }
