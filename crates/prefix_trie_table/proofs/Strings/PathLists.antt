-- Lists of paths: the paths of all nodes are that of the root and those of all children.
use Rattle.prefix_trie_table.proofs.Prelude.{◌≡◌, ◌≢◌, ℕ, zero, suc, ◌+◌, ◌<◌, ◌≤◌, inl, inr, Bool, true, false, cond, List, [], ◌∷◌, ◌++◌, map, flat_map, Option, None, Some, is_some, IsPermutation, refl, sym, ap, ◌∙◌, subst, arith, false≢true, cases_lt, cases_eq, false_from_ne_true, map-append, IsPermutation-refl, IsPermutation-trans, IsPermutation-sym, IsPermutation-cons, Node, has_bit, if_set, bits_below, bits, Store, same_path, one_if, times, without, has_child, NodesHold}
use Rattle.prefix_trie_table.proofs.Strings.Bits.{has_bit-below}
use Rattle.prefix_trie_table.proofs.Strings.Paths.{same_path-itself, same_path-equal, same_path-not, snoc_ind, snoc_inj, snoc_not_nil, times_without, flat_map_out}
use Rattle.prefix_trie_table.proofs.Tree.Children.{same_or}

-- one path can be listed first
pub first_out : (p : List ℕ) (paths : List (List ℕ)) → 0 < times p paths → IsPermutation paths (p ∷ without p paths)
first_out p paths h = subst (λ ys. IsPermutation ys (p ∷ without p paths)) (itself paths)
    (subst (λ ys. IsPermutation (flat_map (λ q. q ∷ []) paths) (p ∷ ys)) (itself (without p paths)) (flat_map_out (λ q. q ∷ []) p paths h))
  where
    itself : (ps : List (List ℕ)) → flat_map (λ q. q ∷ []) ps ≡ ps
    itself [] = refl
    itself (q ∷ ps) = ap (λ qs. q ∷ qs) (itself ps)

-- lists that have each path equally often are permutations of each other
pub same_paths : (ps qs : List (List ℕ)) → ((r : List ℕ) → times r ps ≡ times r qs) → IsPermutation ps qs
same_paths [] [] same = IsPermutation-refl []
same_paths [] (q ∷ qs) same = absurd (let e = same q in let one : one_if (same_path q q) ≡ 1 = ap one_if (same_path-itself q) in omega arith)
same_paths (p ∷ ps) qs same =
    let one : one_if (same_path p p) ≡ 1 = ap one_if (same_path-itself p) in
    let there : 0 < times p qs = (let e = same p in omega arith) in
    IsPermutation-trans (p ∷ ps) (p ∷ without p qs) qs
    (IsPermutation-cons p ps (without p qs) (same_paths ps (without p qs) (λ r. let e = same r in let f = times_without p r qs there in omega arith)))
    (IsPermutation-sym qs (p ∷ without p qs) (first_out p qs there))

pub times-append : (q : List ℕ) (xs ys : List (List ℕ)) → times q (xs ++ ys) ≡ times q xs + times q ys
times-append q [] ys = omega arith
times-append q (x ∷ xs) ys = omega (arith, times-append q xs ys)

-- a path with one more step
abbrev pub step : List ℕ → ℕ → List ℕ
step p c = p ++ c ∷ []

-- the child numbers of a node
abbrev child_bits : Option Node → List ℕ
child_bits None = []
child_bits (Some n) = bits n.child_bitmap

abbrev pub children_of : List ℕ → Option Node → List (List ℕ)
children_of p o = map (step p) (child_bits o)

step_once : (p : List ℕ) (c : ℕ) (s : Bool) (d : ℕ) → d ≢ c → times (step p c) (map (step p) (if_set s d)) ≡ 0
step_once p c true d ne = let e : one_if (same_path (step p c) (step p d)) ≡ 0 = ap one_if (same_path-not _ _ (λ f. ne (sym (snoc_inj p p c d f).1))) in omega arith
step_once p c false d ne = refl

step_here : (p : List ℕ) (c : ℕ) (s : Bool) → times (step p c) (map (step p) (if_set s c)) ≡ one_if s
step_here p c true = let e : one_if (same_path (step p c) (step p c)) ≡ 1 = ap one_if (same_path-itself (step p c)) in omega arith
step_here p c false = refl

below_more : (p : List ℕ) (c bitmap n : ℕ) →
    times (step p c) (map (step p) (bits_below bitmap (suc n)))
    ≡ times (step p c) (map (step p) (bits_below bitmap n)) + times (step p c) (map (step p) (if_set (has_bit bitmap n) n))
below_more p c bitmap n =
    ap (times (step p c)) (map-append (step p) (bits_below bitmap n) (if_set (has_bit bitmap n) n))
    ∙ times-append (step p c) (map (step p) (bits_below bitmap n)) (map (step p) (if_set (has_bit bitmap n) n))

-- the child c of p is not among the children below c, and is once among those below a higher bound if it exists
none_below : (p : List ℕ) (c bitmap n : ℕ) → n ≤ c → times (step p c) (map (step p) (bits_below bitmap n)) ≡ 0
none_below p c bitmap zero h = refl
none_below p c bitmap (suc n) h = omega (arith, below_more p c bitmap n, none_below p c bitmap n (omega arith), step_once p c (has_bit bitmap n) n (λ e. omega arith))

one_below : (p : List ℕ) (c bitmap n : ℕ) → c < n → times (step p c) (map (step p) (bits_below bitmap n)) ≡ one_if (has_bit bitmap c)
one_below p c bitmap zero h = absurd (omega arith)
one_below p c bitmap (suc n) h = elim (cases_eq n c) as (λ _. times (step p c) (map (step p) (bits_below bitmap (suc n))) ≡ one_if (has_bit bitmap c)) [
  | inl e ↦
      let here : times (step p c) (map (step p) (if_set (has_bit bitmap n) n)) ≡ one_if (has_bit bitmap c) = ap (λ k. times (step p c) (map (step p)
      (if_set (has_bit bitmap k) k))) e ∙ step_here p c (has_bit bitmap c) in
      omega (arith, below_more p c bitmap n, none_below p c bitmap n (omega arith), here)
  | inr ne ↦
      omega (arith, below_more p c bitmap n, one_below p c bitmap n (omega arith), step_once p c (has_bit bitmap n) n ne)
]

-- the child c of p is not among the children of another path
other_below : (p x : List ℕ) (c : ℕ) (ds : List ℕ) → p ≢ x → times (step p c) (map (step x) ds) ≡ 0
other_below p x c [] ne = refl
other_below p x c (d ∷ ds) ne =
    let e : one_if (same_path (step p c) (step x d)) ≡ 0 = ap one_if (same_path-not _ _ (λ f. ne (snoc_inj p x c d f).0)) in
    omega (arith, other_below p x c ds ne)

child_once : (p : List ℕ) (c : ℕ) (o : Option Node) → times (step p c) (children_of p o) ≡ one_if (has_child o c)
unfolding bits
child_once p c None = refl
child_once p c (Some n) = elim (cases_lt c 32) as (λ _. times (step p c) (map (step p) (bits_below n.child_bitmap 32)) ≡ one_if (has_bit n.child_bitmap c)) [
  | inl within ↦ one_below p c n.child_bitmap 32 within
  | inr past ↦ none_below p c n.child_bitmap 32 past ∙ sym (ap one_if (false_from_ne_true (has_bit n.child_bitmap c) (λ h. let b = has_bit-below n.child_bitmap c h in omega arith)))
]

nil_below : (x : List ℕ) (ds : List ℕ) → times [] (map (step x) ds) ≡ 0
nil_below x [] = refl
nil_below x (d ∷ ds) =
    let e : one_if (same_path [] (step x d)) ≡ 0 = ap one_if (same_path-not _ _ (λ f. snoc_not_nil x d (sym f))) in omega (arith, nil_below x ds)

module _ (nodes : List ℕ → Option Node) where
  -- the paths of all children of the nodes at these paths
  abbrev pub children : List (List ℕ) → List (List ℕ)
  children paths = flat_map (λ p. children_of p (nodes p)) paths

  children_nil : (paths : List (List ℕ)) → times [] (children paths) ≡ 0
  children_nil [] = refl
  children_nil (x ∷ paths) = omega (arith, times-append [] (children_of x (nodes x)) (children paths), nil_below x (child_bits (nodes x)), children_nil paths)

  -- a child occurs there as often as its parent is listed
  children_step : (p : List ℕ) (c : ℕ) (b : Bool) → has_child (nodes p) c ≡ b → (paths : List (List ℕ)) →
      times (step p c) (children paths) ≡ cond b (times p paths) 0
  children_step p c true e [] = refl
  children_step p c false e [] = refl
  children_step p c true e (x ∷ paths) = elim (same_or p x) as (λ _. times (step p c) (children (x ∷ paths)) ≡ times p (x ∷ paths)) [
    | inl same ↦
        let here = ap (λ y. times (step p c) (children_of y (nodes y))) (sym same) ∙ child_once p c (nodes p) ∙ ap one_if e in
        omega (arith, times-append (step p c) (children_of x (nodes x)) (children paths), here, children_step p c true e paths, ap one_if (same_path-equal p x same))
    | inr other ↦
        let here = other_below p x c (child_bits (nodes x)) other in
        omega (arith, times-append (step p c) (children_of x (nodes x)) (children paths), here, children_step p c true e paths, ap one_if (same_path-not p x other))
  ]
  children_step p c false e (x ∷ paths) =
      let here : times (step p c) (children_of x (nodes x)) ≡ 0 = elim (same_or p x) as (λ _. times (step p c) (children_of x (nodes x)) ≡ 0) [
        | inl same ↦ ap (λ y. times (step p c) (children_of y (nodes y))) (sym same) ∙ child_once p c (nodes p) ∙ ap one_if e
        | inr other ↦ other_below p x c (child_bits (nodes x)) other
      ] in
      omega (arith, times-append (step p c) (children_of x (nodes x)) (children paths), here, children_step p c false e paths)

  -- each listed path is the root's, or that of exactly one child
  pub listed_below : (sizes : List ℕ) (paths : List (List ℕ)) (v : Store Node) → NodesHold sizes nodes paths v →
      IsPermutation paths ([] ∷ children paths)
  listed_below sizes paths v hold = same_paths paths ([] ∷ children paths) (snoc_ind (λ q. times q paths ≡ times q ([] ∷ children paths)) root more)
    where
      root : times [] paths ≡ times [] ([] ∷ children paths)
      root =
          let one : one_if (same_path [] []) ≡ 1 = ap one_if (same_path-itself []) in
          let is : times [] paths ≡ 1 = hold.listed [] ∙ ap (λ o. one_if (is_some o)) hold.rooted in
          omega (arith, is, one, children_nil paths)

      counted : (p : List ℕ) (c : ℕ) (b : Bool) (o : Option Node) → has_child o c ≡ b → times p paths ≡ one_if (is_some o) → one_if b ≡ cond b (times p paths) 0
      counted p c true None e t = absurd (false≢true e)
      counted p c true (Some n) e t = sym t
      counted p c false o e t = refl

      more : (p : List ℕ) (c : ℕ) → times p paths ≡ times p ([] ∷ children paths) → times (step p c) paths ≡ times (step p c) ([] ∷ children paths)
      more p c ih =
          let none : one_if (same_path (step p c) []) ≡ 0 = ap one_if (same_path-not _ _ (snoc_not_nil p c)) in
          let is : times (step p c) paths ≡ one_if (has_child (nodes p) c) = hold.listed (step p c) ∙ ap one_if (hold.linked p c) in
          let below : times (step p c) (children paths) ≡ cond (has_child (nodes p) c) (times p paths) 0 = children_step p c (has_child (nodes p) c) refl paths in
          omega (arith, is, none, below, counted p c (has_child (nodes p) c) (nodes p) refl (hold.listed p))
