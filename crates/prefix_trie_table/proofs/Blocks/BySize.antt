-- Numbers of blocks by size instead of by tier, since the sizes of the tiers increase.
use Rattle.prefix_trie_table.proofs.Prelude.{◌≡◌, ◌≢◌, ℕ, zero, suc, ◌+◌, ◌-◌, ◌*◌, ◌<◌, ◌≤◌, ◌==◌, inl, inr, true, false, cond, nat_lt, nat_le, List, [], ◌∷◌, length, set, map, Option, None, Some, refl, sym, ap, ap₂, ◌∙◌, subst, arith, eqb-true, eq-eqb, mul-add, mul-le-mul_left, cases_eq, cases_lt, false_from_ne_true, le-ltb, nat_tests, same_Some, length-map, get_or_default, Contains, free_of, smallest_size, missing_of, slots_of_missing, goes_up, above, free_here, free_later, in_cases, first_in, later_in, IsSmallest, smallest_of, how_many, HasSizes, node_sizes, cell_sizes, Tier, tier_at, tier_sizes, size_in, free_in, made_in, size_if_any, list_need, many_of, slots_of}
use Rattle.std.proofs.lemmas.Bool.{lt-ltb}
use Rattle.std.proofs.lemmas.List.{length-set, get_or-set_same}
use Rattle.std.specs.Prelude.{find}
use Rattle.prefix_trie_bits.proofs.Model.Storage.PreparedInsertions.{both}

-- the size of tier k is entry k of the list of sizes
pub size_at : (ts : List Tier) (k : ℕ) → (tier_at ts k).size ≡ size_in (tier_sizes ts) k
size_at [] k = refl
size_at (t ∷ ts) zero = refl
size_at (t ∷ ts) (suc k) = size_at ts k

-- the sizes stay if a tier is replaced by one of the same size
pub sizes_set : (ts : List Tier) (k : ℕ) (t : Tier) → t.size ≡ (tier_at ts k).size → tier_sizes (set ts k t) ≡ tier_sizes ts
sizes_set [] k t e = refl
sizes_set (u ∷ ts) zero t e = ap (λ n. n ∷ tier_sizes ts) e
sizes_set (u ∷ ts) (suc k) t e = ap (λ ns. u.size ∷ ns) (sizes_set ts k t e)

-- each entry of a list of sizes is one of the sizes
pub size_among : (sizes : List ℕ) (k : ℕ) → k < length sizes → Contains sizes (size_in sizes k)
size_among sizes k inside = (k, inside, get_or_default sizes k (size_in sizes k) 0 inside)

pub tiers_long : (ts : List Tier) (sizes : List ℕ) → tier_sizes ts ≡ sizes → length ts ≡ length sizes
tiers_long ts sizes e = sym (length-map ts (λ t. t.size)) ∙ ap (λ ns. length ns) e

-- the size of a tier is one of the sizes
pub has_size : (ts : List Tier) (k : ℕ) → k < length ts → Contains (tier_sizes ts) (tier_at ts k).size
has_size ts k inside = subst (Contains (tier_sizes ts)) (sym (size_at ts k)) (size_among (tier_sizes ts) k (let e = tiers_long ts (tier_sizes ts) refl in omega (arith, e, inside)))

-- the sizes of the blocks of nodes increase, and so do those of values
pub sizes_up : (ts : List Tier) → HasSizes ts → goes_up 0 (tier_sizes ts) ≡ true
unfolding HasSizes
sizes_up ts (inl e) = ap (goes_up 0) e
sizes_up ts (inr e) = ap (goes_up 0) e

-- ---- a number of each tier, by size

module _ (f : Tier → ℕ) where
  abbrev number : List Tier → ℕ → ℕ
  number ts size = free_of (tier_sizes ts) (map f ts) size

  pub number_here : (below : ℕ) (ts : List Tier) (k : ℕ) → goes_up below (tier_sizes ts) ≡ true → k < length ts →
      free_of (tier_sizes ts) (map f ts) (tier_at ts k).size ≡ f (tier_at ts k)
  number_here below [] k up inside = absurd (omega arith)
  number_here below (t ∷ ts) zero up inside = free_here t.size (tier_sizes ts) (f t) (map f ts)
  number_here below (t ∷ ts) (suc k) up inside =
      let later = (both (nat_lt below t.size) (goes_up t.size (tier_sizes ts)) up).1 in
      free_later t.size (tier_sizes ts) (f t) (map f ts) (tier_at ts k).size (above t.size (tier_sizes ts) later (tier_at ts k).size (has_size ts k (omega arith)))
      ∙ number_here t.size ts k later (omega arith)

  number_other : (ts : List Tier) (k : ℕ) (t : Tier) (size : ℕ) → t.size ≡ (tier_at ts k).size → t.size ≢ size → number (set ts k t) size ≡ number ts size
  number_other [] k t size same ne = refl
  number_other (u ∷ ts) zero t size same ne =
      let no = false_from_ne_true (t.size == size) (λ h. ne (eqb-true t.size size h)) in
      ap (λ b. cond b (f t) (number ts size)) no ∙ sym (ap (λ b. cond b (f u) (number ts size)) (ap (λ n. n == size) (sym same) ∙ no))
  number_other (u ∷ ts) (suc k) t size same ne = ap (λ n. cond (u.size == size) (f u) n) (number_other ts k t size same ne)

  -- what changes by size if one tier is replaced
  pub number_set : (P : ℕ → ℕ → ℕ → Type 0) (ts : List Tier) (k : ℕ) (t : Tier) → goes_up 0 (tier_sizes ts) ≡ true → k < length ts → t.size ≡ (tier_at ts k).size →
      P t.size (f (tier_at ts k)) (f t) → ((size n : ℕ) → t.size ≢ size → P size n n) → (size : ℕ) →
      P size (free_of (tier_sizes ts) (map f ts) size) (free_of (tier_sizes (set ts k t)) (map f (set ts k t)) size)
  number_set P ts k t up inside same here other size = elim (cases_eq t.size size) as (λ _. P size (number ts size) (number (set ts k t) size)) [
    | inl e ↦
        let was : number ts t.size ≡ f (tier_at ts k) = ap (number ts) same ∙ number_here 0 ts k up inside in
        let at = get_or-set_same ts k t (record { size = 0; made = 0; starts = [] }) inside in
        let now : number (set ts k t) t.size ≡ f t = ap (number (set ts k t)) (ap (λ (u : Tier). u.size) (sym at)) ∙ number_here 0 (set ts k t) k (ap (goes_up 0) (sizes_set ts k t same) ∙ up)
        (let l = length-set ts k t in omega (arith, l, inside)) ∙ ap f at in
        subst (λ s. P s (number ts s) (number (set ts k t) s)) e (subst (λ n. P t.size (number ts t.size) n) (sym now) (subst (λ n. P t.size n (f t)) (sym was) here))
    | inr ne ↦ subst (P size (number ts size)) (sym (number_other ts k t size same ne)) (other size (number ts size) ne)
  ]

-- the free blocks of the size of tier k are those of tier k
pub free_at : (ts : List Tier) (k : ℕ) → HasSizes ts → k < length ts → free_in ts (size_in (tier_sizes ts) k) ≡ length (tier_at ts k).starts
free_at ts k has inside = ap (free_in ts) (sym (size_at ts k)) ∙ number_here (λ t. length t.starts) 0 ts k (sizes_up ts has) inside

-- the blocks of the size of tier k in the array are those of tier k
pub made_at : (ts : List Tier) (k : ℕ) → HasSizes ts → k < length ts → made_in ts (size_in (tier_sizes ts) k) ≡ (tier_at ts k).made
made_at ts k has inside = ap (made_in ts) (sym (size_at ts k)) ∙ number_here (λ t. t.made) 0 ts k (sizes_up ts has) inside

-- ---- so many of each size

pub many_here : (n m : ℕ) → many_of n m n ≡ m
many_here n m = ap (λ b. cond b m 0) (eq-eqb n n refl)

pub many_other : (n m size : ℕ) → n ≢ size → many_of n m size ≡ 0
many_other n m size ne = ap (λ b. cond b m 0) (false_from_ne_true (n == size) (λ h. ne (eqb-true n size h)))

pub many-none : (n m size : ℕ) → m ≡ 0 → many_of n m size ≡ 0
many-none n m size e = elim (n == size) as (λ b. cond b m 0 ≡ 0) [ true ↦ e | false ↦ refl ]

-- how many blocks of a size are needed beyond the free ones
pub many-sub : (n m : ℕ) (f : ℕ → ℕ) (size : ℕ) → many_of n (m - f n) size ≡ many_of n m size - f size
many-sub n m f size = elim (cases_eq n size) as (λ _. many_of n (m - f n) size ≡ many_of n m size - f size) [
  | inl e ↦ subst (λ s. many_of n (m - f n) s ≡ many_of n m s - f s) e (many_here n (m - f n) ∙ ap (λ x. x - f n) (sym (many_here n m)))
  | inr ne ↦ (let a = many_other n (m - f n) size ne in let b = many_other n m size ne in omega (arith, a, b))
]

pub many-add : (n l m size : ℕ) → many_of n (l + m) size ≡ many_of n l size + many_of n m size
many-add n l m size = elim (n == size) as (λ b. cond b (l + m) 0 ≡ cond b l 0 + cond b m 0) [ true ↦ refl | false ↦ omega arith ]

pub many-le : (n l m size : ℕ) → l ≤ m → many_of n l size ≤ many_of n m size
many-le n l m size le = elim (n == size) as (λ b. cond b l 0 ≤ cond b m 0) [ true ↦ le | false ↦ omega arith ]

pub slots_of-le : (sizes : List ℕ) (m n : ℕ → ℕ) → ((size : ℕ) → m size ≤ n size) → slots_of sizes m ≤ slots_of sizes n
slots_of-le [] m n le = omega arith
slots_of-le (size ∷ sizes) m n le = (let rest = slots_of-le sizes m n le in omega (arith, mul-le-mul_left size (le size), rest))

pub slots_of-same : (sizes : List ℕ) (m n : ℕ → ℕ) → ((size : ℕ) → Contains sizes size → m size ≡ n size) → slots_of sizes m ≡ slots_of sizes n
slots_of-same [] m n e = refl
slots_of-same (size ∷ sizes) m n e = ap₂ (λ a b. size * a + b) (e size (first_in size sizes)) (slots_of-same sizes m n (λ s at. e s (later_in size sizes s at)))

pub slots_of-add : (sizes : List ℕ) (m n : ℕ → ℕ) → slots_of sizes (λ s. m s + n s) ≡ slots_of sizes m + slots_of sizes n
slots_of-add [] m n = refl
slots_of-add (size ∷ sizes) m n = (let rest = slots_of-add sizes m n in omega (arith, mul-add size (m size) (n size), rest))

pub slots_of-none : (sizes : List ℕ) (n : ℕ → ℕ) → ((size : ℕ) → n size ≡ 0) → slots_of sizes n ≡ 0
slots_of-none [] n e = refl
slots_of-none (size ∷ sizes) n e =
    let here : size * n size ≡ size * 0 = ap (λ x. size * x) (e size) in
    omega (arith, slots_of-none sizes n e, here)

pub slots_of-many : (below : ℕ) (sizes : List ℕ) → goes_up below sizes ≡ true → (s m : ℕ) → Contains sizes s → slots_of sizes (many_of s m) ≡ s * m
slots_of-many below [] up s m at = absurd (let i = at.1 in omega arith)
slots_of-many below (size ∷ sizes) up s m at =
    let later = (both (nat_lt below size) (goes_up size sizes) up).1 in
    elim (in_cases size sizes s at) as (λ _. slots_of (size ∷ sizes) (many_of s m) ≡ s * m) [
      | inl here ↦
          let rest : slots_of sizes (many_of s m) ≡ slots_of sizes (many_of s 0) = slots_of-same sizes (many_of s m) (many_of s 0)
          (λ x there. let less = above size sizes later x there in many_other s m x (λ e. omega (arith, less, e, here)) ∙ sym (many_other s 0 x (λ e. omega (arith, less, e, here)))) in
          let one : size * many_of s m size ≡ s * m = ap₂ (λ a b. a * b) here (ap (many_of s m) here ∙ many_here s m) in
          omega (arith, rest, slots_of-none sizes (many_of s 0) (λ x. many-none s 0 x refl), one)
      | inr there ↦
          let none : size * many_of s m size ≡ size * 0 = ap (λ x. size * x) (many_other s m size (λ e. omega (arith, above size sizes later s there, e))) in
          omega (arith, none, slots_of-many size sizes later s m there)
    ]

-- the missing slots are the sum over the sizes of the missing blocks
pub slots_lack : (below : ℕ) (sizes free needed : List ℕ) → goes_up below sizes ≡ true → length free ≡ length sizes →
    slots_of_missing sizes free needed ≡ slots_of sizes (missing_of sizes free needed)
slots_lack below [] free needed up long = refl
slots_lack below (size ∷ sizes) [] needed up long = absurd (omega (arith, long))
slots_lack below (size ∷ sizes) (f ∷ free) needed up long =
    let later = (both (nat_lt below size) (goes_up size sizes) up).1 in
    ap₂ (λ a b. size * a + b) (ap (λ n. how_many size needed - n) (sym (free_here size sizes f free)))
    (slots_lack size sizes free needed later (omega (arith, long))
    ∙ slots_of-same sizes (missing_of sizes free needed) (missing_of (size ∷ sizes) (f ∷ free) needed)
    (λ s there. ap (λ n. how_many s needed - n) (sym (free_later size sizes f free s (above size sizes later s there)))))

-- ---- the smallest size for so many

-- the smallest size for n items is one of the sizes, and holds n items
pub smallest_holds : (sizes : List ℕ) (n size : ℕ) → smallest_size sizes n ≡ Some size → Contains sizes size × (n ≤ size)
smallest_holds [] n size e = absurd (let h : ◌≡◌ {A = Option ℕ} None (Some size) = e in cc)
smallest_holds (s ∷ sizes) n size e = elim (cases_lt s n) as (λ _. Contains (s ∷ sizes) size × (n ≤ size)) [
  | inl small ↦
      let no : nat_le n s ≡ false = grind (arith, nat_tests, small) in
      let later = smallest_holds sizes n size (sym (ap (λ b. cond b (Some s) (find (λ x. nat_le n x) sizes)) no) ∙ e) in (later_in s sizes size later.0, later.1)
  | inr fits ↦
      let yes : nat_le n s ≡ true = grind (arith, nat_tests, fits) in
      let is : s ≡ size = same_Some s size (sym (ap (λ b. cond b (Some s) (find (λ x. nat_le n x) sizes)) yes) ∙ e) in
      (subst (Contains (s ∷ sizes)) is (first_in s sizes), omega (arith, is, fits))
]

-- if some size holds n items, there is a smallest one
pub smallest_there : (ts : List Tier) (n k : ℕ) → HasSizes ts → k < length ts → n ≤ size_in (tier_sizes ts) k → IsSmallest (tier_sizes ts) n (size_in (tier_sizes ts) k)
smallest_there ts n k has inside fits =
    smallest_of 0 (tier_sizes ts) (sizes_up ts has) n (size_in (tier_sizes ts) k)
    (size_among (tier_sizes ts) k (let e = tiers_long ts (tier_sizes ts) refl in omega (arith, e, inside))) fits

-- a higher tier has a larger size
pub sizes_rise : (below : ℕ) (sizes : List ℕ) → goes_up below sizes ≡ true → (j k : ℕ) → j < k → k < length sizes → size_in sizes j < size_in sizes k
sizes_rise below [] up j k less inside = absurd (omega (arith, inside))
sizes_rise below (s ∷ sizes) up zero zero less inside = absurd (omega (arith, less))
sizes_rise below (s ∷ sizes) up zero (suc k) less inside =
    above s sizes (both (nat_lt below s) (goes_up s sizes) up).1 (size_in sizes k) (size_among sizes k (omega (arith, inside)))
sizes_rise below (s ∷ sizes) up (suc j) zero less inside = absurd (omega (arith, less))
sizes_rise below (s ∷ sizes) up (suc j) (suc k) less inside = sizes_rise s sizes (both (nat_lt below s) (goes_up s sizes) up).1 j k (omega (arith, less)) (omega (arith, inside))

-- ---- the block of a list

pub size_some : (count size : ℕ) → 0 < count → size_if_any count size ≡ Some size
size_some zero size h = absurd (omega (arith, h))
size_some (suc n) size h = refl

-- a list with no items needs a block of the smallest size, a list whose block has a free slot needs none, and each
-- other list needs the smallest that holds one more item
pub need_first : (ts : List Tier) (k count : ℕ) → count ≡ 0 → list_need ts k count ≡ smallest_size (tier_sizes ts) 1
need_first ts k zero e = refl
need_first ts k (suc n) e = absurd (omega (arith, e))

pub need_none : (ts : List Tier) (k count : ℕ) → 0 < count → count < size_in (tier_sizes ts) k → list_need ts k count ≡ None
need_none ts k zero some space = absurd (omega (arith, some))
need_none ts k (suc n) some space = ap (λ b. cond b None (smallest_size (tier_sizes ts) (suc n + 1))) (lt-ltb (suc n) (size_in (tier_sizes ts) k) space)

pub need_full : (ts : List Tier) (k count : ℕ) → 0 < count → size_in (tier_sizes ts) k ≤ count → list_need ts k count ≡ smallest_size (tier_sizes ts) (count + 1)
need_full ts k zero some full = absurd (omega (arith, some))
need_full ts k (suc n) some full = ap (λ b. cond b None (smallest_size (tier_sizes ts) (suc n + 1))) (le-ltb (suc n) (size_in (tier_sizes ts) k) full)

-- which sizes the tiers of nodes and those of values have
pub node_sized : (ts : List Tier) → tier_sizes ts ≡ node_sizes → HasSizes ts
unfolding HasSizes
node_sized ts e = inr e

pub cell_sized : (ts : List Tier) → tier_sizes ts ≡ cell_sizes → HasSizes ts
unfolding HasSizes
cell_sized ts e = inl e

-- the smallest size is 1
pub first_size : (ts : List Tier) → HasSizes ts → (smallest_size (tier_sizes ts) 1 ≡ Some 1) × (size_in (tier_sizes ts) 0 ≡ 1) × (0 < length ts)
unfolding HasSizes
first_size ts (inl e) = (ap (λ ns. smallest_size ns 1) e, ap (λ ns. size_in ns 0) e, (let l = tiers_long ts cell_sizes e in omega (arith, l)))
first_size ts (inr e) = (ap (λ ns. smallest_size ns 1) e, ap (λ ns. size_in ns 0) e, (let l = tiers_long ts node_sizes e in omega (arith, l)))
