-- Two maps that `==` finds equal have the same entries: for `equal_laws`.
use Rattle.prefix_trie.proofs.Prelude.{◌≡◌, ◌↔◌, ℕ, Bool, true, ◌&&◌, eqb, eqb-true, eq-eqb, List, [], ◌∷◌, map, refl, sym, ap, ◌∙◌, pointwise_decides, same_entries_map, All-head, All-tail, PrefixLaws, listing, prefix_pairs, and-first, and-second, and-join, listed_paths, EqualLaws}
use Rattle.std.specs.List.{All}

-- the keys of the items are the paths of their prefixes
unshown : {P T : Type 0} (path : P → List Bool) (back : List Bool → P) (es : List (List Bool × T)) → All (λ e. path (back e.0) ≡ e.0) es → map (λ x. (path x.0, x.1)) (prefix_pairs back es) ≡ es
unshown path back [] paths = refl
unshown path back (e ∷ es) paths = λ i. (All-head (λ e. path (back e.0) ≡ e.0) e es paths i, e.1) ∷ unshown path back es (All-tail (λ e. path (back e.0) ≡ e.0) e es paths) i

pub equal_laws : {K P : Type 0} {w : ℕ} {IsKey : K → Type 0} {bits : K → List Bool} {key_of : List Bool → K} {repr_of : P → K} {len_of : P → ℕ} {path : P → List Bool} {IsFitting : P → Type 0} {from_parts : K → ℕ → P} {back : List Bool → P} →
    PrefixLaws w IsKey bits key_of repr_of len_of path IsFitting from_parts back → (T : Type 0) → EqualLaws T w back
equal_laws {path = path} {back = back} laws T = record {
  same = λ eq_prefix eq_value prefixes values m n within within'.
      let items = pointwise_decides {E = λ x y. eq_prefix x.0 y.0 && eq_value x.1 y.1} (λ x y. (
        λ h i. ((prefixes x.0 y.0).0 (and-first (eq_prefix x.0 y.0) (eq_value x.1 y.1) h) i, (values x.1 y.1).0 (and-second (eq_prefix x.0 y.0) (eq_value x.1 y.1) h) i),
        λ e. and-join (eq_prefix x.0 y.0) (eq_value x.1 y.1) ((prefixes x.0 y.0).1 (ap (λ z. z.0) e)) ((values x.1 y.1).1 (ap (λ z. z.1) e)),
      )) (prefix_pairs back (listing m)) (prefix_pairs back (listing n)) in (
        λ h. same_entries_map m n (sym (unshown path back (listing m) (listed_paths laws m within)) ∙ ap (map (λ x. (path x.0, x.1))) (items.0 h) ∙ unshown path back (listing n) (listed_paths laws n within')),
        λ e. items.1 (ap (λ m. prefix_pairs back (listing m)) e),
      );
}

-- `==` of numbers, and of networks, holds exactly if they are the same
pub numbers_same : (v w : ℕ) → (eqb v w ≡ true) ↔ (v ≡ w)
numbers_same v w = (eqb-true v w, eq-eqb v w)

pub networks_same : (p q : ℕ × ℕ) → ((eqb p.0 q.0 && eqb p.1 q.1) ≡ true) ↔ (p ≡ q)
networks_same p q = (
  λ h i. (eqb-true p.0 q.0 (and-first (eqb p.0 q.0) (eqb p.1 q.1) h) i, eqb-true p.1 q.1 (and-second (eqb p.0 q.0) (eqb p.1 q.1) h) i),
  λ e. and-join (eqb p.0 q.0) (eqb p.1 q.1) (eq-eqb p.0 q.0 (ap (λ x. x.0) e)) (eq-eqb p.1 q.1 (ap (λ x. x.1) e)),
)
