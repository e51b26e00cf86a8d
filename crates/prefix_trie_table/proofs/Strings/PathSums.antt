-- Sums over the paths of nodes: for counting entries and children.
use Rattle.prefix_trie_table.proofs.Prelude.{◌≡◌, ◌≢◌, ℕ, ◌+◌, ◌<◌, List, [], ◌∷◌, ◌++◌, length, sum_by, Option, None, Some, refl, sym, ap, ap₂, ◌∙◌, arith, length-append, sum_by-cons, sum_by-IsPermutation, Node, one_if, same_path, times, without, with_child_removed}
use Rattle.prefix_trie_table.proofs.Strings.Paths.{same_path-itself}
use Rattle.prefix_trie_table.proofs.Tree.Trees.{times_out, times_out_same}
use Rattle.prefix_trie_table.proofs.Tree.Children.{changed_here, changed_other}
use Rattle.prefix_trie_table.proofs.Strings.PathLists.{first_out}

-- the term of one path can be taken first
pub sum_out : (f : List ℕ → ℕ) (p : List ℕ) (paths : List (List ℕ)) → 0 < times p paths → sum_by f paths ≡ f p + sum_by f (without p paths)
sum_out f p paths there = sym (sum_by-IsPermutation f paths (p ∷ without p paths) (first_out p paths there)) ∙ sum_by-cons f p (without p paths)

-- equal terms for each listed path have equal sums
pub sum_same : (f g : List ℕ → ℕ) (paths : List (List ℕ)) → ((q : List ℕ) → 0 < times q paths → g q ≡ f q) → sum_by g paths ≡ sum_by f paths
sum_same f g [] same = refl
sum_same f g (x ∷ paths) same =
    let here : g x ≡ f x = same x (let e : one_if (same_path x x) ≡ 1 = ap one_if (same_path-itself x) in omega arith) in
    let rest : sum_by g paths ≡ sum_by f paths = sum_same f g paths (λ q h. same q (omega arith)) in
    sum_by-cons g x paths ∙ ap₂ (λ a b. a + b) here rest ∙ sym (sum_by-cons f x paths)

-- how the sum changes if the node n at p becomes m and loses its child c
pub sum_lacking : (g : Option Node → ℕ) (nodes : List ℕ → Option Node) (paths : List (List ℕ)) (p : List ℕ) (c : ℕ) (n m leaf : Node) →
    nodes p ≡ Some n → nodes (p ++ c ∷ []) ≡ Some leaf → times p paths ≡ 1 → times (p ++ c ∷ []) paths ≡ 1 →
    sum_by (λ q. g (with_child_removed nodes p m c q)) (without (p ++ c ∷ []) paths) + g (Some n) + g (Some leaf) ≡ sum_by (λ q. g (nodes q)) paths + g (Some m)
sum_lacking g nodes paths p c n m leaf is below once leaf_once =
    let apart : p ≢ p ++ c ∷ [] = λ e. let l : length p ≡ length p + 1 = ap (λ (xs : List ℕ). length xs) e ∙ length-append p (c ∷ []) in omega arith in
    let left : times p (without (p ++ c ∷ []) paths) ≡ 1 = times_out (p ++ c ∷ []) p paths (omega arith) apart ∙ once in
    let none : times (p ++ c ∷ []) (without p (without (p ++ c ∷ []) paths)) ≡ 0 = times_out p (p ++ c ∷ []) (without (p ++ c ∷ []) paths) (omega arith) (λ e. apart (sym e)) ∙ times_out_same (p ++ c ∷ []) paths leaf_once in
    let out_leaf = sum_out (λ q. g (nodes q)) (p ++ c ∷ []) paths (omega arith) in
    let out_before = sum_out (λ q. g (nodes q)) p (without (p ++ c ∷ []) paths) (omega arith) in
    let out_after = sum_out (λ q. g (with_child_removed nodes p m c q)) p (without (p ++ c ∷ []) paths) (omega arith) in
    let rest = sum_same (λ q. g (nodes q)) (λ q. g (with_child_removed nodes p m c q)) (without p (without (p ++ c ∷ []) paths))
    (λ q some. ap g (changed_other nodes p m c None q
    (λ e. gone q p (without p (without (p ++ c ∷ []) paths)) e (times_out_same p (without (p ++ c ∷ []) paths) left) some)
    (λ e. gone q (p ++ c ∷ []) (without p (without (p ++ c ∷ []) paths)) e none some))) in
    let now : g (with_child_removed nodes p m c p) ≡ g (Some m) = ap g (changed_here nodes p m c None p refl) in
    omega (arith, out_leaf, out_before, out_after, rest, ap g is, ap g below, now)
  where
    gone : (q r : List ℕ) (ps : List (List ℕ)) → q ≡ r → times r ps ≡ 0 → 0 < times q ps → ⊥
    gone q r ps e z h = (let y : times q ps ≡ 0 = ap (λ x. times x ps) e ∙ z in omega arith)
