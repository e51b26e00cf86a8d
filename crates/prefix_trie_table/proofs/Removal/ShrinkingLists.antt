-- A list that lost items, by the sizes of its blocks.
use Rattle.prefix_trie_table.proofs.Prelude.{◌≡◌, ℕ, ◌+◌, ◌-◌, ◌<◌, ◌≤◌, ◌⊎◌, inl, inr, Bool, true, not, ◌||◌, nat_lt, nat_le, List, length, Option, None, Some, refl, sym, ap, ◌∙◌, subst, arith, Contains, cases_eq, cases_lt, get_or_default, same_Some, none-some, at_below, HasBlock, StepsDown, StepsBetween, LongerByOne, free_of, made_of, one_of, smallest_size, or-cases, goes_up, has_cases, smallest_of, sizes_to, shrinks_few, Node, node_sizes, cell_sizes, own_count, own_children, child_block_size, value_block_size, ShrinksList, GivesBack, headroom, headroom_if_any, Store, Turnover, tier_sizes, size_in, size_if_any, free_counts, many_of, SameBlock, SameChildren, rank}
use Rattle.std.proofs.lemmas.Bool.{true≢false, lt-ltb, leb-true}
use Rattle.prefix_trie_bits.proofs.Checks.{below}
use Rattle.prefix_trie_bits.proofs.Model.Storage.ShrunkBlocks.{Holds}
use Rattle.prefix_trie_table.proofs.Blocks.BySize.{slots_of-same, slots_of-many, many-none}
use Rattle.prefix_trie_table.proofs.Blocks.Losing.{none_made, same_made, one_made}
use Rattle.prefix_trie_table.proofs.Blocks.Turnovers.{space_kept}

-- ---- by numbers

module _ (sizes free : List ℕ) (before after : ℕ) (old new : Option ℕ) where
  -- if no item was removed
  pub steps_same : after ≡ before → new ≡ old → (after ≡ 0 → new ≡ None) → StepsDown sizes free before after old new
  steps_same count same empty = record {
    fewer = omega arith;
    same = λ _. same;
    none = empty;
    one_of = λ less some. absurd (omega arith);
    smallest = λ size less some is one. absurd (omega arith);
  }

  -- if none is left
  pub steps_gone : after ≡ 0 → new ≡ None → (before ≡ 0 → old ≡ None) → StepsDown sizes free before after old new
  steps_gone count gone empty = record {
    fewer = omega arith;
    same = λ e. gone ∙ sym (empty (omega arith));
    none = λ _. gone;
    one_of = λ less some. absurd (omega arith);
    smallest = λ size less some is one. absurd (omega arith);
  }

  abbrev Between : Type 0
  Between = (n : ℕ) × (o : ℕ) × (new ≡ Some n) × (old ≡ Some o) × (n ≤ o) × ((size : ℕ) → smallest_size sizes after ≡ Some size → size ≤ n) × Contains sizes n

  -- a block that stepped down has a size between the smallest and the old one
  pub steps_between : goes_up 0 sizes ≡ true → (after < before → 0 < after → HasBlock sizes before old) → StepsDown sizes free before after old new → StepsBetween sizes before after old new
  steps_between up has s = record {
    fewer = s.fewer;
    same = s.same;
    none = s.none;
    between = λ less some. elim (has_cases sizes before old (has less some)) as (λ _. Between) [
      | inl none ↦ absurd (let n = none.0 in omega (arith, n, less))
      | inr h ↦ held less some h (s.one_of less some)
    ];
  }
    where
      held : after < before → 0 < after → (h : Holds sizes before old) → (new ≡ old) ⊎ (new ≡ smallest_size sizes after) → Between
      held less some h ancestors =
          let fits = h.fits in
          let r = smallest_of 0 sizes up after h.size h.among (omega (arith, fits, less)) in
          let least = r.least in
          elim ancestors as (λ _. Between) [
            | inl stays ↦ (h.size, h.size, stays ∙ h.is, h.is, omega arith, λ size e. (let is = same_Some size r.size (sym e ∙ r.found) in omega (arith, is, least)), h.among)
            | inr moves ↦ (r.size, h.size, moves ∙ r.found, h.is, least, λ size e. (let is = same_Some size r.size (sym e ∙ r.found) in omega (arith, is)), r.among)
          ]

-- an empty list has no block
pub values_none : (o : Option Node) → own_count o ≡ 0 → value_block_size o ≡ None
values_none None e = refl
values_none (Some n) e = ap (λ c. size_if_any c (size_in cell_sizes n.value_tier)) e

pub children_none : (o : Option Node) → own_children o ≡ 0 → child_block_size o ≡ None
children_none None e = refl
children_none (Some n) e = ap (λ c. size_if_any c (size_in node_sizes n.child_tier)) e

-- nodes with the same children have as many, in a block of the same size
pub same_children : (n m : Node) → SameChildren n m → SameBlock own_children child_block_size (Some n) (Some m)
same_children n m s = (ap (λ b. rank b 32) s.bitmap, λ i. size_if_any (rank (s.bitmap i) 32) (size_in node_sizes (s.tier i)))

-- nothing is taken
pub shrinks_none : {S : Type 0} (Makes : List ℕ → Store S → Store S → Option ℕ → Option ℕ → Type 0) (sizes : List ℕ) (v w : Store S) (count : ℕ) (block : Option ℕ) → (count ≡ 0 → block ≡ None) →
    length w.slots ≡ length v.slots → Makes sizes v w block block → ShrinksList Makes sizes v w count count block block
shrinks_none Makes sizes v w count block empty long made = record {
  has = λ less. absurd (omega (arith, less));
  steps = steps_same sizes (free_counts v.tiers) count count block block refl refl empty;
  grows = record { longer = inl long; made = made };
}

-- ---- the headroom of sizes

unfoldable pub test_space : List ℕ → ℕ → ℕ → Bool
test_space sizes t j = not (nat_lt (size_in sizes j) (size_in sizes t)) || nat_le (headroom (size_in sizes j) + size_in sizes j) (headroom (size_in sizes t))

unfoldable pub all_spaces : List ℕ → Bool
all_spaces sizes = below (λ t. below (test_space sizes t) 7) 7

pub node_spaces : all_spaces node_sizes ≡ true
unfolding all_spaces test_space below headroom
node_spaces = refl

pub cell_spaces : all_spaces cell_sizes ≡ true
unfolding all_spaces test_space below headroom
cell_spaces = refl

-- a smaller block is one of those below a block, beside those below its own
space_step : (sizes : List ℕ) → all_spaces sizes ≡ true → length sizes ≡ 7 → (n o : ℕ) → Contains sizes n → Contains sizes o → n < o → headroom n + n ≤ headroom o
unfolding all_spaces test_space
space_step sizes all seven n o (j, j_inside, j_is) (t, t_inside, t_is) less =
    let n_is : size_in sizes j ≡ n = get_or_default sizes j 0 n j_inside ∙ j_is in
    let o_is : size_in sizes t ≡ o = get_or_default sizes t 0 o t_inside ∙ t_is in
    let test = at_below (test_space sizes t) 7 (at_below (λ t. below (test_space sizes t) 7) 7 all t (omega (arith, t_inside, seven))) j (omega (arith, j_inside, seven)) in
    let step : headroom (size_in sizes j) + size_in sizes j ≤ headroom (size_in sizes t) = elim (or-cases (not (nat_lt (size_in sizes j) (size_in sizes t))) (nat_le (headroom (size_in sizes j) + size_in sizes j) (headroom (size_in sizes t))) test)
    as (λ _. headroom (size_in sizes j) + size_in sizes j ≤ headroom (size_in sizes t)) [
      | inl lost ↦ absurd (true≢false (sym lost ∙ ap not (lt-ltb (size_in sizes j) (size_in sizes t) (omega (arith, n_is, o_is, less)))))
      | inr fits ↦ leb-true (headroom (size_in sizes j) + size_in sizes j) (headroom (size_in sizes t)) fits
    ] in
    let a = ap headroom n_is in
    let b = ap headroom o_is in
    omega (arith, step, a, b, n_is)

module _ {S : Type 0} {Makes : List ℕ → Store S → Store S → Option ℕ → Option ℕ → Type 0} (sizes : List ℕ) (v w : Store S) (before after : ℕ) (old new : Option ℕ) (up : goes_up 0 sizes ≡ true)
    (l : ShrinksList Makes sizes v w before after old new) where
  pub shrinks_between : StepsBetween sizes before after old new
  shrinks_between = steps_between sizes (free_counts v.tiers) before after old new up (λ less some. l.has less) l.steps

  -- what the array may still make shrinks by as much as it grew
  pub shrinks_down : all_spaces sizes ≡ true → length sizes ≡ 7 → after < before → length w.slots + headroom_if_any new ≤ length v.slots + headroom_if_any old
  shrinks_down all seven less = elim (cases_lt 0 after) as (λ _. length w.slots + headroom_if_any new ≤ length v.slots + headroom_if_any old) [
    | inr empty ↦
        let gone : new ≡ None = l.steps.none (omega (arith, empty)) in
        let none : headroom_if_any new ≡ 0 = ap headroom_if_any gone in
        elim l.grows.longer as (λ _. length w.slots + headroom_if_any new ≤ length v.slots + headroom_if_any old) [
          | inl same ↦ omega (arith, same, none)
          | inr one ↦ absurd (none-some one.0 (sym gone ∙ one.1))
        ]
    | inl some ↦
        let b = shrinks_between.between less some in
        elim (has_cases sizes before old (l.has less)) as (λ _. length w.slots + headroom_if_any new ≤ length v.slots + headroom_if_any old) [
          | inl none ↦ absurd (let z = none.0 in omega (arith, z, less))
          | inr h ↦
              let o_is : b.1 ≡ h.size = same_Some b.1 h.size (sym b.3 ∙ h.is) in
              let among : Contains sizes b.1 = subst (Contains sizes) (sym o_is) h.among in
              let now : headroom_if_any new ≡ headroom b.0 = ap headroom_if_any b.2 in
              let was : headroom_if_any old ≡ headroom b.1 = ap headroom_if_any b.3 in
              let le = b.4 in
              elim (cases_eq b.0 b.1) as (λ _. length w.slots + headroom_if_any new ≤ length v.slots + headroom_if_any old) [
                | inl e ↦
                    let rooms = ap headroom e in
                    elim l.grows.longer as (λ _. length w.slots + headroom_if_any new ≤ length v.slots + headroom_if_any old) [
                      | inl same ↦ omega (arith, same, now, was, rooms)
                      | inr one ↦ absurd (one.2 (b.3 ∙ ap Some (sym e) ∙ sym b.2 ∙ one.1))
                    ]
                | inr ne ↦
                    let step = space_step sizes all seven b.0 b.1 b.6 among (grind (arith, le, ne)) in
                    elim l.grows.longer as (λ _. length w.slots + headroom_if_any new ≤ length v.slots + headroom_if_any old) [
                      | inl same ↦ omega (arith, same, now, was, step)
                      | inr one ↦ (let size = same_Some one.0 b.0 (sym one.1 ∙ b.2) in let long = one.4 in omega (arith, long, now, was, step, size))
                    ]
              ]
        ]
  ]

-- it grows by 24 slots at most
pub shrinks_list_few : {S : Type 0} {Makes : List ℕ → Store S → Store S → Option ℕ → Option ℕ → Type 0} (top : ℕ) (v w : Store S) (before after : ℕ) (old new : Option ℕ) → ShrinksList Makes (sizes_to top) v w before after old new → after < before → length w.slots ≤ length v.slots + 24
shrinks_list_few top v w before after old new l less = elim l.grows.longer as (λ _. length w.slots ≤ length v.slots + 24) [
  | inl same ↦ omega (arith, same)
  | inr (size, is, other, none, long) ↦
      (let few = shrinks_few top (free_counts v.tiers) before after size old (subst (StepsDown (sizes_to top) (free_counts v.tiers) before after old) is l.steps) (l.has less) other in
      omega (arith, few, long))
]

-- ---- what a call promises that removes an item

module _ {S : Type 0} (v w : Store S) (o : ℕ) where
  abbrev made : Option ℕ → ℕ → ℕ
  made new = made_of (tier_sizes v.tiers) (free_counts v.tiers) (Some o) new

  -- the array is longer by the block that the list entered, if one of it was made
  pub longer_by_one : (new : Option ℕ) → goes_up 0 (tier_sizes v.tiers) ≡ true → ((n : ℕ) → new ≡ Some n → Contains (tier_sizes v.tiers) n) →
      Turnover v w (made_of (tier_sizes v.tiers) (free_counts v.tiers) (Some o) new) (Some o) new →
      LongerByOne (tier_sizes v.tiers) (free_counts v.tiers) (Some o) new (length v.slots) (length w.slots)
  longer_by_one None up among t = inl (space_kept v w _ _ _ (none_made (tier_sizes v.tiers) (free_counts v.tiers) (Some o)) t).0
  longer_by_one (Some n) up among t = elim (cases_eq o n) as (λ _. LongerByOne (tier_sizes v.tiers) (free_counts v.tiers) (Some o) (Some n) (length v.slots) (length w.slots)) [
    | inl e ↦ inl (space_kept v w _ _ _ (λ size. ap (λ x. made_of (tier_sizes v.tiers) (free_counts v.tiers) (Some o) (Some x) size) (sym e) ∙ same_made (tier_sizes v.tiers) (free_counts v.tiers) (Some o) size) t).0
    | inr differ ↦
        let one = λ (size : ℕ). one_made (tier_sizes v.tiers) (free_counts v.tiers) o n size differ in
        elim (cases_eq (free_of (tier_sizes v.tiers) (free_counts v.tiers) n) 0) as (λ _. LongerByOne (tier_sizes v.tiers) (free_counts v.tiers) (Some o) (Some n) (length v.slots) (length w.slots)) [
          | inl none ↦
              let slots = slots_of-same (tier_sizes v.tiers) (made (Some n)) (many_of n 1) (λ size at. sym (one size) ∙ ap (λ f. many_of n (1 - f) size) none) in
              let many = slots_of-many 0 (tier_sizes v.tiers) up n 1 (among n refl) in
              let long = t.longer in
              inr (n, refl, λ e. differ (same_Some o n e), none, omega (arith, long, slots, many))
          | inr some ↦ inl (space_kept v w _ _ _ (λ size. sym (one size) ∙ many-none n _ size (let z : 1 - free_of (tier_sizes v.tiers) (free_counts v.tiers) n ≡ 0 = grind (arith, some) in z)) t).0
        ]
  ]

-- if the last item was removed, no block was made or taken
pub gives_back : {S : Type 0} (v w : Store S) (o : ℕ) (new : Option ℕ) → new ≡ None → Turnover v w (made_of (tier_sizes v.tiers) (free_counts v.tiers) (Some o) new) (Some o) new → GivesBack v w
gives_back v w o new gone turned =
    let none = λ (size : ℕ). ap (λ n. made_of (tier_sizes v.tiers) (free_counts v.tiers) (Some o) n size) gone ∙ none_made (tier_sizes v.tiers) (free_counts v.tiers) (Some o) size in
    record {
      none = record { space = space_kept v w _ _ _ none turned; made = λ size. (let m = turned.made_is size in let z = none size in omega (arith, m, z)) };
      sizes = turned.keeps.sizes;
      free = λ size. (let f = turned.free_is size in let z = none size in let n : one_of new size ≡ 0 = ap (λ x. one_of x size) gone in omega (arith, f, z, n));
    }
