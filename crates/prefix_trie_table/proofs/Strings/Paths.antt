-- Lists of paths: how often a path occurs, and removing one.
use Rattle.prefix_trie_table.proofs.Prelude.{◌≡◌, ℕ, ◌+◌, ◌<◌, inl, inr, true, false, cond, List, [], ◌∷◌, ◌++◌, length, flat_map, IsPermutation, refl, sym, ap, subst, arith, append_assoc, append-nil, length-append, cases_Bool, false_from_ne_true, tied_itself, nat_list_cmp_total, Equal-is, nat_cmp, is_eq, slice_cmp, slice_cmp-IsAntisymmetric, nat_cmp-IsAntisymmetric, IsPermutation-refl, IsPermutation-trans, IsPermutation-append_comm, IsPermutation-append_left, IsPermutation-append_right, same_path, one_if, times, without}

pub same_path-true : (q k : List ℕ) → same_path q k ≡ true → q ≡ k
same_path-true q k h = slice_cmp-IsAntisymmetric nat_cmp-IsAntisymmetric q k ((Equal-is (slice_cmp nat_cmp q k)).0 h)

pub same_path-itself : (k : List ℕ) → same_path k k ≡ true
same_path-itself k = ap is_eq (tied_itself nat_list_cmp_total k)

pub same_path-equal : (q k : List ℕ) → q ≡ k → same_path q k ≡ true
same_path-equal q k e = subst (λ x. same_path x k ≡ true) (sym e) (same_path-itself k)

pub same_path-not : (q k : List ℕ) → (q ≡ k → ⊥) → same_path q k ≡ false
same_path-not q k miss = false_from_ne_true (same_path q k) (λ h. miss (same_path-true q k h))

-- induction on a path from its end
along : (P : List ℕ → Type 0) → ((path : List ℕ) (c : ℕ) → P path → P (path ++ c ∷ [])) → (path more : List ℕ) → P path → P (path ++ more)
along P step path [] h = subst P (sym (append-nil path)) h
along P step path (c ∷ more) h = subst P (append_assoc path (c ∷ []) more) (along P step (path ++ c ∷ []) more (step path c h))

pub snoc_ind : (P : List ℕ → Type 0) → P [] → ((path : List ℕ) (c : ℕ) → P path → P (path ++ c ∷ [])) → (path : List ℕ) → P path
snoc_ind P none step path = along P step [] path none

pub snoc_inj : {X : Type 0} (p q : List X) (c d : X) → p ++ c ∷ [] ≡ q ++ d ∷ [] → (p ≡ q) × (c ≡ d)
snoc_inj [] [] c d e = (refl, cc)
snoc_inj [] (y ∷ q) c d e = absurd (omega (arith, length-append q (d ∷ []), ap length e))
snoc_inj (x ∷ p) [] c d e = absurd (omega (arith, length-append p (c ∷ []), ap length e))
snoc_inj (x ∷ p) (y ∷ q) c d e =
    let more : (p ≡ q) × (c ≡ d) = snoc_inj p q c d cc in
    (let head : x ≡ y = cc in let tail : p ≡ q = more.0 in cc, more.1)

pub snoc_not_nil : (p : List ℕ) (c : ℕ) → p ++ c ∷ [] ≡ [] → ⊥
snoc_not_nil p c e = omega (arith, length-append p (c ∷ []), ap length e)

pub snoc_not_same : (p : List ℕ) (c : ℕ) → p ++ c ∷ [] ≡ p → ⊥
snoc_not_same p c e = omega (arith, length-append p (c ∷ []), ap length e)

pub times_without : (p q : List ℕ) (paths : List (List ℕ)) → 0 < times p paths → times q paths ≡ one_if (same_path q p) + times q (without p paths)
times_without p q [] h = absurd (omega arith)
times_without p q (x ∷ paths) h = elim (cases_Bool (same_path p x)) as (λ _. one_if (same_path q x) + times q paths ≡ one_if (same_path q p) + times q
    (cond (same_path p x) paths (x ∷ without p paths))) [
      | inl hit ↦ rw hit (ap (λ y. one_if (same_path q y) + times q paths) (sym (same_path-true p x hit)))
      | inr miss ↦
          let more : 0 < times p paths = (let e : one_if (same_path p x) ≡ 0 = ap one_if miss in omega arith) in
          let ih : times q paths ≡ one_if (same_path q p) + times q (without p paths) = times_without p q paths more in
          rw miss (omega arith)
    ]

module _ {Y : Type 0} where
  pub swap_fronts : (xs ys zs : List Y) → IsPermutation (xs ++ (ys ++ zs)) (ys ++ (xs ++ zs))
  swap_fronts xs ys zs =
      subst (λ us. IsPermutation us (ys ++ (xs ++ zs))) (append_assoc xs ys zs)
      (subst (λ us. IsPermutation ((xs ++ ys) ++ zs) us) (append_assoc ys xs zs)
      (IsPermutation-append_left zs (xs ++ ys) (ys ++ xs) (IsPermutation-append_comm xs ys)))

  pub flat_map_out : (f : List ℕ → List Y) (p : List ℕ) (paths : List (List ℕ)) → 0 < times p paths →
      IsPermutation (flat_map f paths) (f p ++ flat_map f (without p paths))
  flat_map_out f p [] h = absurd (omega arith)
  flat_map_out f p (x ∷ paths) h = elim (cases_Bool (same_path p x)) as (λ _. IsPermutation (f x ++ flat_map f paths)
      (f p ++ flat_map f (cond (same_path p x) paths (x ∷ without p paths)))) [
        | inl hit ↦ rw hit (subst (λ y. IsPermutation (f x ++ flat_map f paths) (f y ++ flat_map f paths)) (sym (same_path-true p x hit))
            (IsPermutation-refl (f x ++ flat_map f paths)))
        | inr miss ↦
            let more : 0 < times p paths = (let e : one_if (same_path p x) ≡ 0 = ap one_if miss in omega arith) in
            rw miss (IsPermutation-trans (f x ++ flat_map f paths) (f x ++ (f p ++ flat_map f (without p paths)))
            (f p ++ (f x ++ flat_map f (without p paths)))
            (IsPermutation-append_right (f x) (flat_map f paths) (f p ++ flat_map f (without p paths)) (flat_map_out f p paths more))
            (swap_fronts (f x) (f p) (flat_map f (without p paths))))
      ]

  pub flat_map_same : (f g : List ℕ → List Y) (paths : List (List ℕ)) → ((q : List ℕ) → 0 < times q paths → g q ≡ f q) → flat_map g paths ≡ flat_map f paths
  flat_map_same f g [] same = refl
  flat_map_same f g (x ∷ paths) same =
      let here : g x ≡ f x = same x (let e : one_if (same_path x x) ≡ 1 = ap one_if (same_path-itself x) in omega arith) in
      let rest : flat_map g paths ≡ flat_map f paths = flat_map_same f g paths (λ q h. same q (omega arith)) in
      λ i. here i ++ rest i
