-- One more VRP at the end of the chain of its path: for `append` and `Vrps::new`.
use Rattle.std.proofs.Common.{◌≡◌, ◌≢◌, ◌⊎◌, inl, inr, ℕ, zero, suc, ◌+◌, ◌<◌, Bool, true, false, List, [], ◌∷◌, ◌++◌, Option, None, Some, length, slice_get, refl, sym, subst, ap, ap₂, ◌∙◌, arith}
use borrow.Author.Count.{below_more}
use Rattle.std.proofs.lemmas.List.{length-append}
use Rattle.std.proofs.lemmas.Option.{slice_get-map}
use Rattle.std.specs.FinMap.{get}
use Rattle.std.specs.Option.{option_map}
use Rattle.prefix_trie.specs.Laws.Stored.{StoredLaws}
use Rattle.prefix_trie.specs.Terms.{Entries, no_entries, with_entry}
use Rattle.prefix_trie_joint.specs.Networks.{ip_path}
use Rattle.prefix_trie_joint.specs.Texts.{IsIp}
use Rattle.origin_validation.specs.Chains.{AreChained, AreIndexed, AreLatest, IsLatest, paths_of}
use Rattle.origin_validation.specs.declared.vrp.Vrp.{Vrp}

-- an element of a list with one more
of_pushed : {X : Type 0} (xs : List X) (y : X) (j : ℕ) (x : X) → slice_get (xs ++ y ∷ []) j ≡ Some x → (slice_get xs j ≡ Some x) ⊎ ((j ≡ length xs) × (y ≡ x))
of_pushed [] y zero x is = inr (refl, cc)
of_pushed [] y (suc j) x is = cc
of_pushed (z ∷ xs) y zero x is = inl is
of_pushed (z ∷ xs) y (suc j) x is = elim (of_pushed xs y j x is) [
  | inl old ↦ inl old
  | inr new ↦ inr (ap suc new.0, new.1)
]

same_bit_or_other : (a b : Bool) → (a ≡ b) ⊎ (a ≢ b)
same_bit_or_other true true = inl refl
same_bit_or_other true false = inr (λ e. cc)
same_bit_or_other false true = inr (λ e. cc)
same_bit_or_other false false = inl refl

same_or_other : (q p : List Bool) → (q ≡ p) ⊎ (q ≢ p)
same_or_other [] [] = inl refl
same_or_other [] (b ∷ p) = inr (λ e. cc)
same_or_other (a ∷ q) [] = inr (λ e. cc)
same_or_other (a ∷ q) (b ∷ p) = elim (same_bit_or_other a b) [
  | inl bit ↦ elim (same_or_other q p) [
    | inl rest ↦ inl (ap₂ (λ x xs. x ∷ xs) bit rest)
    | inr other ↦ inr (λ e. other (cc))
  ]
  | inr other ↦ inr (λ e. other (cc))
]

-- the path of a VRP of the list
pub path_at : (vrps : List Vrp) (j : ℕ) (vrp : Vrp) → slice_get vrps j ≡ Some vrp → slice_get (paths_of vrps) j ≡ Some (ip_path vrp.prefix)
path_at vrps j vrp is = slice_get-map (λ (v : Vrp). ip_path v.prefix) vrps j ∙ ap (option_map (λ (v : Vrp). ip_path v.prefix)) is

module _ (paths : List (List Bool)) where
  -- the last index of a path stays if one more path is another one
  stays_latest : (n : ℕ) (p q : List Bool) → slice_get paths n ≡ Some p → q ≢ p → (o : Option ℕ) → IsLatest paths n q o → IsLatest paths (n + 1) q o
  stays_latest n p q at other None none = below_more (λ j. slice_get paths j ≢ Some q) n none (λ is. other (cc))
  stays_latest n p q at other (Some i) (less, is, none) =
      (omega (arith, less), is, below_more (λ j. i < j → slice_get paths j ≢ Some q) n none (λ above is. other (cc)))

  -- one more path has the last index, and the others keep theirs
  pub latest_more : StoredLaws ℕ → (n : ℕ) (p : List Bool) (m : Entries ℕ) → slice_get paths n ≡ Some p → AreLatest paths n m → AreLatest paths (n + 1) (with_entry m p n)
  latest_more laws n p m at are q = elim (same_or_other q p) [
    | inl is ↦ subst (IsLatest paths (n + 1) q) (sym (ap (get (with_entry m p n)) is ∙ laws.set m p n)) (omega arith, at ∙ ap Some (sym is), λ j below above. absurd (omega (arith, below, above)))
    | inr other ↦ subst (IsLatest paths (n + 1) q) (sym (laws.beside_set m p n q other)) (stays_latest n p q at other (get m q) (are q))
  ]

  -- no path has a last index before the first one
  pub none_latest : StoredLaws ℕ → (m : Entries ℕ) → m ≡ no_entries → AreLatest paths 0 m
  none_latest laws m empty q = subst (IsLatest paths 0 q) (sym (ap (λ (n : Entries ℕ). get n q) empty ∙ laws.nothing q)) (λ j less. absurd (omega (arith, less)))

  -- a chain goes on with the last index of its path
  chained_more : (older : List (Option ℕ)) (p : List Bool) (before : Option ℕ) → slice_get paths (length older) ≡ Some p → IsLatest paths (length older) p before
      → AreChained paths older → AreChained paths (older ++ before ∷ [])
  chained_more older p before at is are j q o here there = elim (of_pushed older before j o there) [
    | inl old ↦ are j q o here old
    | inr new ↦
        let path : p ≡ q = cc (at, here, ap (slice_get paths) new.0) in
        subst (λ k. IsLatest paths k q o) (sym new.0) (subst (IsLatest paths (length older) q) new.1 (subst (λ s. IsLatest paths (length older) s before) path is))
  ]

module _ (vrps : List Vrp) where
  -- no VRPs yet
  pub none_indexed : (m : Entries ℕ) → AreLatest (paths_of vrps) 0 m → AreIndexed 0 vrps [] m
  none_indexed m latest = record {
    counted = refl;
    chained = λ j q before here there. absurd (cc (there));
    latest_are = latest;
    fitting = λ j vrp less at. absurd (omega (arith, less));
  }

  -- one VRP more
  pub indexed_more : (n : ℕ) (older : List (Option ℕ)) (m m' : Entries ℕ) (vrp : Vrp) (before : Option ℕ) → slice_get vrps n ≡ Some vrp
      → before ≡ get m (ip_path vrp.prefix) → IsIp vrp.prefix → AreLatest (paths_of vrps) (n + 1) m' → AreIndexed n vrps older m → AreIndexed (n + 1) vrps (older ++ before ∷ []) m'
  indexed_more n older m m' vrp before at is fits latest was = record {
    counted = length_more;
    chained = chained_more (paths_of vrps) older (ip_path vrp.prefix) before
        (subst (λ k. slice_get (paths_of vrps) k ≡ Some (ip_path vrp.prefix)) (sym was.counted) (path_at vrps n vrp at))
        (subst (λ k. IsLatest (paths_of vrps) k (ip_path vrp.prefix) before) (sym was.counted)
        (subst (IsLatest (paths_of vrps) n (ip_path vrp.prefix)) (sym is) (was.latest_are (ip_path vrp.prefix)))) was.chained;
    latest_are = latest;
    fitting = λ j v less. fits_more j less v;
  }
    where
      length_more : length (older ++ before ∷ []) ≡ n + 1
      length_more = length-append older (before ∷ []) ∙ ap (λ k. k + 1) was.counted

      same_vrp : (v : Vrp) → slice_get vrps n ≡ Some v → vrp ≡ v
      same_vrp v here = cc (at, here)

      fits_more : (j : ℕ) → j < n + 1 → (v : Vrp) → slice_get vrps j ≡ Some v → IsIp v.prefix
      fits_more = below_more (λ j. (v : Vrp) → slice_get vrps j ≡ Some v → IsIp v.prefix) n (λ j less v. was.fitting j v less) (λ v here. subst (λ (x : Vrp). IsIp x.prefix) (same_vrp v here) fits)
