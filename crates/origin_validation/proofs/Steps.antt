-- A step down the chain of a path: for `matching`.
use Rattle.std.proofs.Common.{◌≡◌, ◌↔◌, inl, inr, ℕ, zero, suc, ◌+◌, ◌<◌, ◌≤◌, Bool, false, IsTrue, List, [], ◌∷◌, Option, None, Some, length, slice_get, refl, sym, subst, ap, ◌∙◌, arith}
use Rattle.std.proofs.lemmas.Bool.{cases_eq, cases_lt, true≢false}
use Rattle.std.proofs.lemmas.Option.{slice_get_within}
use Rattle.prefix_trie_joint.specs.Networks.{ip_path}
use Rattle.prefix_trie_joint.specs.declared.prefix.IpPrefix.{IpPrefix}
use Rattle.origin_validation.specs.Chains.{AreChained, IsLatest, NoneMatchesFrom, paths_of}
use Rattle.origin_validation.specs.Validation.{Matches}
use Rattle.origin_validation.specs.declared.vrp.Vrp.{Vrp}
use Rattle.origin_validation.proofs.Latest.{path_at}

-- how many steps a chain has at most
abbrev pub steps_left : Option ℕ → ℕ
steps_left None = 0
steps_left (Some i) = i + 1

-- the next index is one of the list
abbrev pub IsWithin : ℕ → Option ℕ → Type 0
IsWithin n None = Unit {0}
IsWithin n (Some i) = i < n

-- an element of a list
pub at_index : {X : Type 0} (xs : List X) (i : ℕ) → i < length xs → (x : X) × (slice_get xs i ≡ Some x)
at_index [] i less = absurd (omega (arith, less))
at_index (x ∷ xs) zero less = (x, refl)
at_index (x ∷ xs) (suc i) less = at_index xs i (omega (arith, less))

pub refuted : {P : Type 0} (b : Bool) → b ≡ false → (IsTrue b ↔ P) → ¬ P
refuted b is tells holds = true≢false (sym (tells.1 holds) ∙ is)

module _ (vrps : List Vrp) (route : IpPrefix) (origin : Option ℕ) where
  -- the chain of a path goes on at an index, and no VRP of the path that was passed matches
  pub record GoesOnAt (q : List Bool) (next : Option ℕ) : Type 0 where
    pub from : ℕ
    pub last : IsLatest (paths_of vrps) from q next
    pub none : NoneMatchesFrom from vrps q route origin

  pub begins_at : (q : List Bool) (latest : ℕ) → IsLatest (paths_of vrps) (length vrps) q (Some latest) → GoesOnAt q (Some latest)
  begins_at q latest is = record {
    from = length vrps;
    last = is;
    none = λ j vrp far at. absurd (omega (arith, far, slice_get_within vrps j vrp at));
  }

  -- the VRP at the index does not match, so the chain goes on at the one before it
  pub goes_on : (older : List (Option ℕ)) (q : List Bool) (i : ℕ) (before : Option ℕ) (vrp : Vrp) → AreChained (paths_of vrps) older → slice_get older i ≡ Some before
      → slice_get vrps i ≡ Some vrp → ¬ (Matches vrp route origin) → GoesOnAt q (Some i) → GoesOnAt q before
  goes_on older q i before vrp chained there here fails at = record {
    from = i;
    last = chained i q before at.last.1 there;
    none = λ j v far is same matches. elim (cases_eq i j) [
      | inl e ↦
          let one : vrp ≡ v = cc (here, is, ap (slice_get vrps) e) in
          fails (subst (λ (x : Vrp). Matches x route origin) (sym one) matches)
      | inr other ↦ elim (cases_lt j at.from) [
        | inl below ↦ at.last.2 j below (omega (arith, far, other)) (path_at vrps j v is ∙ ap Some same)
        | inr above ↦ at.none j v above is same matches
      ]
    ];
  }

  -- the chain ends, so no VRP of the path matches
  pub ends_at : (q : List Bool) → GoesOnAt q None → NoneMatchesFrom 0 vrps q route origin
  ends_at q at = λ j v far is same matches. elim (cases_lt j at.from) [
    | inl below ↦ at.last j below (path_at vrps j v is ∙ ap Some same)
    | inr above ↦ at.none j v above is same matches
  ]

-- the one before is nearer to the beginning of the list
pub nearer : (vrps : List Vrp) (older : List (Option ℕ)) (i : ℕ) (before : Option ℕ) (vrp : Vrp) → AreChained (paths_of vrps) older → slice_get older i ≡ Some before
    → slice_get vrps i ≡ Some vrp → steps_left before ≤ i
nearer vrps older i None vrp chained there here = omega arith
nearer vrps older i (Some k) vrp chained there here = let less : k < i = (chained i (ip_path vrp.prefix) (Some k) (path_at vrps i vrp here) there).0 in omega (arith, less)

pub within_more : (n i : ℕ) (before : Option ℕ) → steps_left before ≤ i → i < n → IsWithin n before
within_more n i None near less = tt
within_more n i (Some k) near less = omega (arith, near, less)
