-- What callers of a map with an unknown history conclude: lemmas for `any_map`.
use Rattle.prefix_trie_tests.proofs.Prelude.{◌≡◌, ℕ, ◌≤◌, Bool, false, List, [], ◌∷◌, length, filter, cond, Option, Result, Ok, Err, IfOk, refl, sym, ap, ◌∙◌, contains_key, get, All-head, All-tail, IsMap, with_entry, without_entry, IsTidy, with_needed, nodes_without, State, Step, Reply, Insert, Remove, Value, stays_map, stays_tidy, step_laws, AreCloned, Contents, is_none-None, CopyLaws}
use Rattle.std.specs.List.{All}

-- Tests that agree on each item keep the same items.
pub filter_where : {X : Type 0} (p q : X → Bool) (xs : List X) → All (λ x. p x ≡ q x) xs → filter p xs ≡ filter q xs
filter_where p q [] same = refl
filter_where p q (x ∷ xs) same =
    ap (λ b. cond b (x ∷ filter p xs) (filter p xs)) (All-head (λ y. p y ≡ q y) x xs same)
    ∙ ap (λ ys. cond (q x) (x ∷ ys) ys) (filter_where p q xs (All-tail (λ y. p y ≡ q y) x xs same))

-- A tidy map stays tidy after an insertion and a removal.
pub tidy_again : {T : Type 0} (width : ℕ) (s t u : State T) (set : List Bool) (v : T) (reply : Reply (List Bool) T) (out : List Bool) (old : Option T) →
    IsMap width s → IsTidy s.entries s.nodes → length set ≤ width → Step (λ q. q) (λ q. q) width s (Insert set v) reply t →
    Step (λ q. q) (λ q. q) width t (Remove out) (Value old) u → IsTidy u.entries u.nodes
tidy_again width s t u set v reply out old good tidy short inserts removes =
    stays_tidy (λ q. q) (λ q. q) width t (Remove out) (Value old) u (λ q e. cc) removes
    (stays_map (λ q. q) (λ q. q) width s (Insert set v) reply t short inserts good)
    (stays_tidy (λ q. q) (λ q. q) width s (Insert set v) reply t (λ q e. cc) inserts good tidy)

module _ {T : Type 0} where
  -- A tidy map with a new key inserted and removed again is as it was.
  pub as_before : (width : ℕ) (m t u : State T) (s r : List Bool) (v : T) → IsMap width m → IsTidy m.entries m.nodes → length s ≤ width →
      contains_key m.entries s ≡ false → r ≡ s → t.entries ≡ with_entry m.entries s v → t.nodes ≡ with_needed m.nodes s →
      u.entries ≡ without_entry t.entries r → u.nodes ≡ nodes_without t.nodes t.entries r → (u.entries ≡ m.entries) × (u.nodes ≡ m.nodes)
  as_before width m t u s r v good tidy short new_key same set needs out left =
      let law = (step_laws (List Bool) T).set_and_removed width m.entries s v good.keys_within short (is_none-None (get m.entries s) new_key) in
      let nodes = needs ∙ ap (λ n. with_needed n s) tidy in (
        out ∙ (λ i. without_entry (set i) (same i)) ∙ law.0,
        left ∙ (λ i. nodes_without (nodes i) (set i) (same i)) ∙ law.1 ∙ sym tidy,
      )

  -- A copy with the nodes of a tidy map is tidy.
  pub tidy_copied : {E : Type 0} (C : T → T → Type 0) (m : Contents T) → CopyLaws C → IsTidy m.entries m.nodes → (r : Result (Contents T) E) →
      IfOk r (λ copy. AreCloned C m.entries copy.entries) → IfOk r (λ copy. copy.nodes ≡ m.nodes) → IfOk r (λ copy. IsTidy copy.entries copy.nodes)
  tidy_copied C m laws tidy (Ok copy) cloned nodes = nodes ∙ (laws.as_tidy m.entries copy.entries m.nodes cloned).0 tidy
  tidy_copied C m laws tidy (Err e) cloned nodes = tt
