-- The beginnings of a path.
use Rattle.prefix_trie_table.proofs.Prelude.{◌≡◌, ℕ, ◌⊎◌, inl, inr, ⊎_elim, Bool, true, false, ◌||◌, List, [], ◌∷◌, ◌++◌, take, drop, map, refl, sym, ap, ◌∙◌, subst, append_assoc, append-nil, map-append, list_any-append, false≢true, list_any, same_path, starts, is_start, or-true}
use Rattle.std.proofs.lemmas.List.{take-append-drop}
use Rattle.prefix_trie_table.proofs.Strings.Paths.{same_path-true, same_path-itself, snoc_ind}

starts-snoc : (p : List ℕ) (c : ℕ) → starts (p ++ c ∷ []) ≡ starts p ++ (p ++ c ∷ []) ∷ []
starts-snoc [] c = refl
starts-snoc (x ∷ p) c = ap (λ ps. [] ∷ map (λ q. x ∷ q) ps) (starts-snoc p c) ∙ ap (λ ps. [] ∷ ps) (map-append (λ q. x ∷ q) (starts p) ((p ++ c ∷ []) ∷ []))

pub is_start-snoc : (q p : List ℕ) (c : ℕ) → is_start q (p ++ c ∷ []) ≡ (is_start q p || (same_path q (p ++ c ∷ []) || false))
is_start-snoc q p c = ap (list_any (same_path q)) (starts-snoc p c) ∙ list_any-append (same_path q) (starts p) ((p ++ c ∷ []) ∷ [])

is_start_append : (r q p : List ℕ) → is_start q p ≡ true → is_start q (p ++ r) ≡ true
is_start_append [] q p h = ap (is_start q) (append-nil p) ∙ h
is_start_append (c ∷ r) q p h =
    ap (is_start q) (sym (append_assoc p (c ∷ []) r))
    ∙ is_start_append r q (p ++ c ∷ []) (is_start-snoc q p c ∙ ap (λ b. b || (same_path q (p ++ c ∷ []) || false)) h)

is_start_self : (q : List ℕ) → is_start q q ≡ true
is_start_self = snoc_ind (λ q. is_start q q ≡ true) (ap (λ b. b || false) (same_path-itself []))
    (λ p c ih. is_start-snoc (p ++ c ∷ []) p c ∙ ap (λ s. is_start (p ++ c ∷ []) p || (s || false)) (same_path-itself (p ++ c ∷ []))
    ∙ or-true (is_start (p ++ c ∷ []) p))

pub is_start_take : (k : ℕ) (p : List ℕ) → is_start (take k p) p ≡ true
is_start_take k p = subst (λ q. is_start (take k p) q ≡ true) (take-append-drop k p)
    (is_start_append (drop k p) (take k p) (take k p) (is_start_self (take k p)))

pub or_either : (a b : Bool) → (a || b) ≡ true → (a ≡ true) ⊎ (b ≡ true)
or_either true b e = inl refl
or_either false b e = inr e

-- a path is each of its beginnings and some more steps
pub is_start-is : (q p : List ℕ) → is_start q p ≡ true → (r : List ℕ) × (p ≡ q ++ r)
is_start-is q = snoc_ind (λ p. is_start q p ≡ true → (r : List ℕ) × (p ≡ q ++ r))
    (λ h. ⊎_elim (λ (e : same_path q [] ≡ true). let f : q ≡ [] = same_path-true q [] e in ([], sym f ∙ sym (append-nil q)))
    (λ (e : false ≡ true). absurd (false≢true e)) (or_either (same_path q []) false h))
    (λ p c ih h. ⊎_elim (λ (e : is_start q p ≡ true). let i = ih e in (i.0 ++ c ∷ [], ap (λ x. x ++ c ∷ []) i.1 ∙ append_assoc q i.0 (c ∷ [])))
    (λ (e : (same_path q (p ++ c ∷ []) || false) ≡ true). ⊎_elim
    (λ (f : same_path q (p ++ c ∷ []) ≡ true). ([], sym (same_path-true q (p ++ c ∷ []) f) ∙ sym (append-nil q)))
    (λ (f : false ≡ true). absurd (false≢true f)) (or_either (same_path q (p ++ c ∷ [])) false e))
    (or_either (is_start q p) (same_path q (p ++ c ∷ []) || false) (sym (is_start-snoc q p c) ∙ h)))
