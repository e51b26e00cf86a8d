-- The number of nodes that a lookup reads, which are those on its search path: for `visit_laws`.
use Rattle.prefix_trie_bits.proofs.Prelude.{◌≡◌, ℕ, zero, suc, ◌+◌, ◌*◌, ◌/◌, ◌%◌, ◌≤◌, ◌<◌, Bool, true, false, cond, ◌&&◌, ◌||◌, nat_le, List, [], ◌∷◌, length, filter, Some, None, refl, sym, ap, ◌∙◌, subst, arith, true≢false, Option, take, is_some, length-take-le, ◌⊎◌, inl, inr, leb-true, le-leb, contains_key, keys, retain_keys, empty, len, len-insert, len-empty, list_any, take-begins, begins-take, begins-linear, begins-trans, same_bool, begins-length, listing_cmp, listing_total, same_string, begins, home, Nodes, has_node, with_nodes, AreNodes, Entries, shortest_match, visits, visits_of_match, visits_to_match, VisitLaws, cases_lt, cases_eq, or-false, filter_agree, length-filter, sum_by-le-sum_by}
use Rattle.prefix_trie_bits.proofs.Model.Levels.{at_level, depth_of}
use Rattle.prefix_trie_bits.proofs.Model.Homes.{home-depth, home-begins}
use Rattle.prefix_trie_bits.proofs.Model.Matches.{match_laws}
use Rattle.prefix_trie_bits.proofs.Model.Members.{same_string-is, needs, and-join, and-first, and-second, or-left, or-right, or-cases, is-same_string, of-key, same_nodes, has-retained, has-with_nodes, has-empty}
use Rattle.prefix_trie_bits.proofs.Model.Pruning.{begins-nil, not-so}
use Rattle.prefix_trie_bits.proofs.Model.Storage.KeyCounts.{passing-len, few_behind}

pub fives : (l : ℕ) → l % 5 ≡ 0 → 5 * (l / 5) ≡ l
fives l e = omega (arith, e)

-- the beginnings of q, one for each five bits, at which a node on its search path can be
abbrev levels : List Bool → ℕ → List (List Bool)
levels q zero = at_level q zero ∷ []
levels q (suc k) = at_level q (suc k) ∷ levels q k

in_levels : (q : List Bool) (k j : ℕ) → j ≤ k → list_any (same_string (at_level q j)) (levels q k) ≡ true
in_levels q zero j h = or-left (same_string (at_level q j) (at_level q 0)) false (is-same_string _ _ (ap (at_level q) (let e : j ≡ 0 = omega arith in e)))
in_levels q (suc k) j h = elim (cases_eq j (suc k)) as (λ _. list_any (same_string (at_level q j)) (levels q (suc k)) ≡ true) [
  | inl e ↦ or-left (same_string (at_level q j) (at_level q (suc k))) _ (is-same_string _ _ (ap (at_level q) e))
  | inr other ↦ or-right (same_string (at_level q j) (at_level q (suc k))) _ (in_levels q k j (let l : j ≤ k = grind (arith, h, other) in l))
]

from_levels : (q : List Bool) (k : ℕ) (s : List Bool) → list_any (same_string s) (levels q k) ≡ true → (j : ℕ) × (j ≤ k) × (s ≡ at_level q j)
from_levels q zero s e = (0, omega arith, same_string-is s _ (sym (or-false (same_string s (at_level q 0))) ∙ e))
from_levels q (suc k) s e = elim (or-cases (same_string s (at_level q (suc k))) (list_any (same_string s) (levels q k)) e) [
  | inl here ↦ (suc k, omega arith, same_string-is s _ here)
  | inr there ↦ let r = from_levels q k s there in (r.0, (let l = r.1 in omega (arith, l)), r.2)
]

length-levels : (q : List Bool) (k : ℕ) → length (levels q k) ≡ k + 1
length-levels q zero = refl
length-levels q (suc k) = let r = length-levels q k in omega (arith, r)

-- the set of these beginnings
abbrev level_set : List Bool → ℕ → Nodes
level_set q k = with_nodes empty (levels q k)

has-level : (q : List Bool) (k : ℕ) (s : List Bool) → has_node (level_set q k) s ≡ list_any (same_string s) (levels q k)
has-level q k s = has-with_nodes empty (levels q k) s ∙ ap (λ b. list_any (same_string s) (levels q k) || b) (has-empty s) ∙ or-false (list_any (same_string s) (levels q k))

len-levels : (q : List Bool) (k : ℕ) → 5 * k ≤ length q → len (level_set q k) ≡ k + 1
len-levels q zero short =
    let none : Nodes = empty in
    len-insert listing_total none (at_level q 0) tt ∙ ap (λ b. cond b (len none) (len none + 1)) (has-empty (at_level q 0)) ∙ ap (λ n. n + 1) (len-empty listing_cmp (Unit {0}))
len-levels q (suc k) short =
    len-insert listing_total (level_set q k) (at_level q (suc k)) tt
    ∙ ap (λ b. cond b (len (level_set q k)) (len (level_set q k) + 1)) (not-so (has_node (level_set q k) (at_level q (suc k))) (λ h.
    let r = from_levels q k (at_level q (suc k)) (sym (has-level q k (at_level q (suc k))) ∙ h) in
    let within = r.1 in
    let same = ap length r.2 in
    let long = length-take-le (5 * suc k) q short in
    let other = length-take-le (5 * r.0) q (omega (arith, within, short)) in
    absurd (omega (arith, same, long, other, within))))
    ∙ (let rest = len-levels q k (omega (arith, short)) in omega (arith, rest))

-- a node that begins q is one of them
at_its_level : (n : Nodes) (q s : List Bool) → ((s : List Bool) → has_node n s ≡ true → length s % 5 ≡ 0) → contains_key (retain_keys n (λ t. begins t q)) s ≡ true
    → (begins s q ≡ true) × (has_node n s ≡ true) × (length s % 5 ≡ 0) × (at_level q (length s / 5) ≡ s)
at_its_level n q s depths has =
    let both = sym (has-retained n (λ t. begins t q) s) ∙ has in
    let b = and-first (begins s q) (has_node n s) both in
    let at = and-second (begins s q) (has_node n s) both in
    (b, at, depths s at, ap (λ l. take l q) (fives (length s) (depths s at)) ∙ begins-take s q b)

pub visits-bound : (n : Nodes) (q : List Bool) → ((s : List Bool) → has_node n s ≡ true → length s % 5 ≡ 0) → visits n q ≤ length q / 5 + 1
visits-bound n q depths =
    let few = few_behind [] (levels q (length q / 5)) (retain_keys n (λ s. begins s q)) (λ s has.
    let h = at_its_level n q s depths has in
    let short = begins-length s q h.0 in
    (begins-nil s, subst (λ x. list_any (same_string x) (levels q (length q / 5)) ≡ true) h.3 (in_levels q (length q / 5) (length s / 5) (omega (arith, short))))) in
    omega (arith, few, passing-len (λ s. begins s q) n, length-levels q (length q / 5))

-- a test with one more condition is passed by no more strings
fewer : (p r : List Bool → Bool) (ss : List (List Bool)) → length (filter (λ s. p s && r s) ss) ≤ length (filter p ss)
fewer p r ss =
    omega (arith, length-filter (λ s. p s && r s) ss, length-filter p ss, sum_by-le-sum_by (λ s. cond (p s && r s) 1 0) (λ s. cond (p s) 1 0) ss (λ s. less (p s) (r s)))
  where
    less : (a b : Bool) → ◌≤◌ (cond (a && b) 1 0) (cond a 1 0)
    less true true = omega arith
    less true false = omega arith
    less false b = omega arith

some-passes : (p : List Bool → Bool) (ss : List (List Bool)) → list_any p ss ≡ true → 1 ≤ length (filter p ss)
some-passes p [] e = absurd (true≢false (sym e))
some-passes p (s ∷ ss) e =
    elim (p s) as (λ b. (b || list_any p ss) ≡ true → 1 ≤ length (cond b (s ∷ filter p ss) (filter p ss))) [
      | true ↦ λ _. omega arith
      | false ↦ λ f. some-passes p ss f
    ] e

has-root : (n : Nodes) (q : List Bool) → has_node n [] ≡ true → 1 ≤ visits n q
has-root n q at = some-passes (λ s. begins s q) (keys n) (of-key n (λ s. begins s q) [] at (begins-nil q))

module _ {T : Type 0} where
  by_match : (n : Nodes) (q : List Bool) (o : Option (List Bool × T)) → visits_of_match n q o ≤ visits n q
  by_match n q None = omega arith
  by_match n q (Some e) = fewer (λ s. begins s q) (λ s. nat_le (length s) (length e.0)) (keys n)

-- in a node set with the nodes above each of its nodes, the number of nodes that begin q is what a lookup counts on
-- its way down
pub visits-exact : (n : Nodes) (q : List Bool) (k : ℕ) → ((s : List Bool) → has_node n s ≡ true → length s % 5 ≡ 0) → ((s t : List Bool) → has_node n t ≡ true → begins s t ≡ true → length s % 5 ≡ 0 → has_node n s ≡ true)
    → 5 * k ≤ length q → has_node n (take (5 * k) q) ≡ true → (length q < 5 * (k + 1)) ⊎ (has_node n (take (5 * (k + 1)) q) ≡ false) → visits n q ≡ k + 1
visits-exact n q k depths closed short there ends =
    passing-len (λ s. begins s q) n
    ∙ ap (λ m. len m) (same_nodes (retain_keys n (λ s. begins s q)) (level_set q k)
    (λ s has.
    let h = at_its_level n q s depths has in
    has-level q k s ∙ subst (λ x. list_any (same_string x) (levels q k) ≡ true) h.3 (in_levels q k (length s / 5) (no_deeper s h.1 h.0)))
    (λ s has.
    let r = from_levels q k s (sym (has-level q k s) ∙ has) in
    has-retained n (λ t. begins t q) s ∙ subst (λ x. (begins x q && has_node n x) ≡ true) (sym r.2) (and-join _ _ (take-begins (5 * r.0) q) (above r.0 k r.1 short there))))
    ∙ len-levels q k short
  where
    above : (i j : ℕ) → i ≤ j → 5 * j ≤ length q → has_node n (at_level q j) ≡ true → has_node n (at_level q i) ≡ true
    above i j h inside at =
        let a = length-take-le (5 * i) q (omega (arith, h, inside)) in
        let b = length-take-le (5 * j) q inside in
        closed (at_level q i) (at_level q j) at (begins-linear (at_level q i) (at_level q j) q (take-begins (5 * i) q) (take-begins (5 * j) q) (omega (arith, a, b, h))) (depth_of i (length (at_level q i)) a)

    no_deeper : (s : List Bool) → has_node n s ≡ true → begins s q ≡ true → length s / 5 ≤ k
    no_deeper s at b = elim (cases_lt k (length s / 5)) as (λ _. length s / 5 ≤ k) [
      | inr within ↦ within
      | inl deeper ↦
          let in_q = begins-length s q b in
          let five = fives (length s) (depths s at) in
          elim ends as (λ _. length s / 5 ≤ k) [
            | inl over ↦ absurd (omega (arith, over, in_q, five, deeper))
            | inr missing ↦ absurd (true≢false (sym (above (k + 1) (length s / 5) (omega (arith, deeper)) (omega (arith, in_q, five))
                (subst (λ x. has_node n x ≡ true) (sym (ap (λ l. take l q) five ∙ begins-take s q b)) at)) ∙ missing))
          ]
    ]

-- of two beginnings of q, the shorter begins the longer
pub begins-within : (k q s : List Bool) → begins k q ≡ true → (begins s q && nat_le (length s) (length k)) ≡ begins s k
begins-within k q s e =
    same_bool (begins s q && nat_le (length s) (length k)) (begins s k)
    (λ h. begins-linear s k q (and-first (begins s q) (nat_le (length s) (length k)) h) e (leb-true (length s) (length k) (and-second (begins s q) (nat_le (length s) (length k)) h)))
    (λ h. and-join (begins s q) (nat_le (length s) (length k)) (begins-trans s k q h e) (le-leb (length s) (length k) (begins-length s k h)))

module _ {T : Type 0} where
  to_match : (width : ℕ) (m : Entries T) (n : Nodes) (q : List Bool) (e : List Bool × T) → AreNodes width m n → shortest_match m q ≡ Some e → visits_to_match m n q ≡ length e.0 / 5 + 1
  to_match width m n q e good is =
      let found = ((match_laws T).shortest_is m q e).0 is in
      let stored : contains_key m e.0 ≡ true = ap is_some found.matches.stored in
      let node : has_node n (home e.0) ≡ true = good.hold_needed (home e.0) (needs m (home e.0) e.0 (home-depth e.0) stored (home-begins e.0)) in
      ap (visits_of_match n q) is
      ∙ ap length (filter_agree (λ s. begins s q && nat_le (length s) (length e.0)) (λ s. begins s e.0) (λ s. begins-within e.0 q s found.matches.begins_it) (keys n))
      ∙ visits-exact n e.0 (length e.0 / 5) good.depths good.closed (omega arith) node (inl (omega arith))

pub visit_laws : (T : Type 0) → VisitLaws T
visit_laws T = record {
  at_most = λ width m n q good. visits-bound n q good.depths;
  fewer_to_match = λ m n q. by_match n q (shortest_match m q);
  at_least_root = λ width m n q good. has-root n q good.rooted;
  exact = λ width m n q k good. visits-exact n q k good.depths good.closed;
  to_match = to_match;
}
