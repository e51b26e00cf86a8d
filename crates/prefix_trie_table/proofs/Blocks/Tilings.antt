-- Blocks that tile an array have no slot in common: for `Sound`.
use Rattle.prefix_trie_table.proofs.Prelude.{◌≡◌, ℕ, zero, suc, ◌+◌, ◌<◌, ◌≤◌, inl, inr, cond, leb, List, [], ◌∷◌, ◌++◌, length, get_or, remove, sum_by, All, IsPermutation, refl, sym, ap, ◌∙◌, subst, arith, length-append, Contains, sum_by-cons, sum_by-append, get_or-le-sum_by, cases_lt, All-nil, All-cons, All-head, All-tail, All-weaker, All-contains_itself, get_or_append_left, get_or-append-add, sum_by-IsPermutation, All-permutation, IsPermutation-sym, IsPermutation-trans, IsPermutation-remove, nat_tests, Tiles, AreBlocksOf}
use Rattle.prefix_trie_bits.specs.Calls.Blocks.{Block as Extent}
use Rattle.prefix_trie_table.proofs.Blocks.RunLemmas.{Apart}

-- two blocks have no slot in common
abbrev pub Disjoint : Extent → Extent → Type 0
Disjoint e f = Apart e.start e.size f.start f.size

-- a block lies in the array
pub record Within (first end : ℕ) (e : Extent) : Type 0 where
  pub after : first ≤ e.start
  pub before : e.start + e.size ≤ end

-- each block of a tiling is within the array
all_within : (sizes : List ℕ) (first end : ℕ) (es : List Extent) → Tiles sizes first es end → All (Within first end) es × (first ≤ end)
all_within sizes first end [] t = (All-nil (Within first end), omega (arith, t))
all_within sizes first end (e ∷ es) t =
    let rest : All (Within (first + e.size) end) es × (first + e.size ≤ end) = all_within sizes (first + e.size) end es t.2 in
    (All-cons (Within first end) e es (record { after = omega (arith, t.1); before = omega (arith, t.1, rest.1) }) (All-weaker (Within (first + e.size) end) (Within first end) (λ f w. record { after = omega (arith, w.after); before = w.before }) es rest.0), omega (arith, rest.1))

-- adding a block at the end keeps the tiling
pub Tiles-push : (sizes : List ℕ) (first end : ℕ) (es : List Extent) (e : Extent) → Tiles sizes first es end → Contains sizes e.size → e.start ≡ end →
    Tiles sizes first (es ++ e ∷ []) (end + e.size)
Tiles-push sizes first end [] e t sized at = (sized, at ∙ t, ap (λ m. m + e.size) t)
Tiles-push sizes first end (x ∷ es) e t sized at = (t.0, t.1, Tiles-push sizes (first + x.size) end es e t.2 sized at)

-- each block of a tiling is apart from the others
all_apart : (sizes : List ℕ) (first end : ℕ) (es : List Extent) (i : ℕ) (d : Extent) → Tiles sizes first es end → i < length es → All (Disjoint (get_or es i d)) (remove es i)
all_apart sizes first end [] i d t inside = absurd (omega arith)
all_apart sizes first end (x ∷ es) zero d t inside =
    All-weaker (Within (first + x.size) end) (Disjoint x) (λ f w h. absurd (omega (arith, t.1, w.after, h))) es (all_within sizes (first + x.size) end es t.2).0
all_apart sizes first end (x ∷ es) (suc i) d t inside =
    let later = (all_within sizes (first + x.size) end es t.2).0 i d (omega arith) in
    All-cons (Disjoint (get_or es i d)) x (remove es i) (λ _. omega (arith, t.1, later.after))
    (all_apart sizes (first + x.size) end es i d t.2 (omega arith))

-- 0 if two blocks are apart, and 1 otherwise
abbrev overlap : Extent → Extent → ℕ
overlap e f = cond (leb (e.start + e.size) f.start) 0 (cond (leb (f.start + f.size) e.start) 0 1)

apart-overlap : (e f : Extent) → Disjoint e f → overlap e f ≡ 0
apart-overlap e f d = elim (cases_lt f.start (e.start + e.size)) as (λ _. overlap e f ≡ 0) [
  | inl h ↦ (let q = d h in grind (arith, nat_tests))
  | inr h ↦ grind (arith, nat_tests)
]

overlap-apart : (e f : Extent) → overlap e f ≡ 0 → Disjoint e f
overlap-apart e f none h = elim (cases_lt e.start (f.start + f.size)) as (λ _. f.start + f.size ≤ e.start) [
  | inl right ↦ (let one : overlap e f ≡ 1 = grind (arith, nat_tests) in absurd (omega (arith, none, one)))
  | inr apart ↦ apart
]

no_overlap : (e : Extent) (fs : List Extent) → All (Disjoint e) fs → sum_by (overlap e) fs ≡ 0
no_overlap e [] all = refl
no_overlap e (f ∷ fs) all = omega (arith, sum_by-cons (overlap e) f fs, apart-overlap e f (All-head (Disjoint e) f fs all), no_overlap e fs (All-tail (Disjoint e) f fs all))

module _ (sizes : List ℕ) (first end : ℕ) where
  -- a used block is apart from all others, used and free
  pub others_apart : (e : Extent) (live free : List Extent) → AreBlocksOf sizes first (e ∷ live) free end → All (Disjoint e) (live ++ free)
  others_apart e live free b k d inside =
      let there : Contains b.blocks e = All-head (Contains b.blocks) e (live ++ free) (All-permutation (Contains b.blocks) b.blocks (e ∷ (live ++ free)) (IsPermutation-sym (e ∷ (live ++ free)) b.blocks b.rearranged) (All-contains_itself b.blocks)) in
      let apart : All (Disjoint e) (remove b.blocks there.0) = subst (λ x. All (Disjoint x) (remove b.blocks there.0)) there.2 (all_apart sizes first end b.blocks there.0 e b.tiles there.1) in
      let same : sum_by (overlap e) b.blocks ≡ sum_by (overlap e) (e ∷ (live ++ free)) = sum_by-IsPermutation (overlap e) (e ∷ (live ++ free)) b.blocks b.rearranged in
      let cut : sum_by (overlap e) (e ∷ remove b.blocks there.0) ≡ sum_by (overlap e) b.blocks = sum_by-IsPermutation (overlap e) b.blocks (e ∷ remove b.blocks there.0) (IsPermutation-remove b.blocks there.0 e there.1 (sym there.2)) in
      let one : overlap e (get_or (live ++ free) k d) ≤ sum_by (overlap e) (live ++ free) = get_or-le-sum_by (overlap e) (live ++ free) k d inside in
      overlap-apart e (get_or (live ++ free) k d)
      (omega (arith, same, cut, one, no_overlap e (remove b.blocks there.0) apart, sum_by-cons (overlap e) e (live ++ free), sum_by-cons (overlap e) e (remove b.blocks there.0)))

  module _ (live free : List Extent) (b : AreBlocksOf sizes first live free end) where
    -- each block is within the array
    pub each_within : All (Within first end) (live ++ free)
    each_within = All-permutation (Within first end) b.blocks (live ++ free) (IsPermutation-sym (live ++ free) b.blocks b.rearranged) (all_within sizes first end b.blocks b.tiles).0

    -- the first block begins within the array
    pub first_inside : first ≤ end
    first_inside = (all_within sizes first end b.blocks b.tiles).1

    -- a sum over all blocks is the sum over the used ones and the free ones
    pub blocks_sum : (f : Extent → ℕ) → sum_by f b.blocks ≡ sum_by f live + sum_by f free
    blocks_sum f = sum_by-IsPermutation f (live ++ free) b.blocks b.rearranged ∙ sum_by-append f live free

    -- the blocks may be listed in another order, and used ones may become free or free ones used
    pub blocks_moved : (live2 free2 : List Extent) → IsPermutation (live2 ++ free2) (live ++ free) → AreBlocksOf sizes first live2 free2 end
    blocks_moved live2 free2 moved = record { blocks = b.blocks; tiles = b.tiles; rearranged = IsPermutation-trans (live2 ++ free2) (live ++ free) b.blocks moved b.rearranged }

-- a fact of each element of two joined lists is one of each element of either list
pub All-append_left : {X : Type 0} (P : X → Type 0) (xs ys : List X) → All P (xs ++ ys) → All P xs
All-append_left P xs ys all k d inside = subst P (get_or_append_left xs ys d k inside) (all k d (omega (arith, length-append xs ys)))

pub All-append_right : {X : Type 0} (P : X → Type 0) (xs ys : List X) → All P (xs ++ ys) → All P ys
All-append_right P xs ys all k d inside = subst P (get_or-append-add xs ys k d) (all (length xs + k) d (omega (arith, length-append xs ys)))
