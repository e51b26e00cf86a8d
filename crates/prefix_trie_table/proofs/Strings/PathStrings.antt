-- The string of the node at a path, and that there are as many nodes as paths: for `node_count`.
use Rattle.prefix_trie_table.proofs.Prelude.{◌≡◌, ℕ, suc, ◌+◌, ◌%◌, ◌^◌, ◌<◌, ◌≤◌, inl, inr, Bool, true, false, cond, ◌&&◌, ◌||◌, List, [], ◌∷◌, ◌++◌, length, length-append, map, Option, None, Some, is_some, refl, sym, ap, ap₂, ◌∙◌, subst, arith, eqb-true, eq-eqb, false≢true, cases_Bool, false_from_ne_true, All-nil, All-push, All-head, All-tail, All, list_any, empty, len, contains_key, len-empty, len-insert, number, digits, length-digits, number-digits, same_bool, listing_cmp, listing_total, same_string, Nodes, has_node, with_nodes, is_node_depth, or-cases, or-left, or-right, and-first, and-second, and-join, same_string-is, is-same_string, has-empty, has-with_nodes, same_members, Node, chunks_of, Store, same_path, one_if, times, has_child, NodesHold, or-false}
use Rattle.prefix_trie_table.proofs.Strings.SmallFacts.{needs_node}
use Rattle.prefix_trie_table.proofs.Strings.Bits.{has_bit-below}
use Rattle.prefix_trie_table.proofs.Strings.Keys.{same_above}
use Rattle.prefix_trie_table.proofs.Strings.Paths.{same_path-true, same_path-itself, snoc_ind}

-- the string to which a path leads, with five bits for each step
abbrev pub string_at : List ℕ → List Bool
string_at [] = []
string_at (c ∷ path) = digits 5 c ++ string_at path

-- its length is a multiple of five
pub string_depth : (path : List ℕ) → length (string_at path) % 5 ≡ 0
string_depth [] = refl
string_depth (c ∷ path) = omega (arith, string_depth path, length-append (digits 5 c) (string_at path), length-digits 5 c)

path_more : (c : ℕ) (s : List Bool) → chunks_of (digits 5 c ++ s) ≡ number (digits 5 c) ∷ chunks_of s
unfolding digits
path_more c s = refl

small : (c n : ℕ) → c < 32 → n ≡ c % 2 ^ 5 → n ≡ c
small c n h e = omega (arith, h, e)

-- steps are numbers of five bits
abbrev pub IsStep : ℕ → Type 0
IsStep c = c < 32

-- its chunks are the path
pub string_path : (path : List ℕ) → All IsStep path → chunks_of (string_at path) ≡ path
string_path [] h = refl
string_path (c ∷ path) h =
    path_more c (string_at path)
    ∙ ap₂ (λ d p. d ∷ p) (small c _ (All-head IsStep c path h) (number-digits 5 c)) (string_path path (All-tail IsStep c path h))

listed-string : (p : List ℕ) (paths : List (List ℕ)) → 0 < times p paths → list_any (same_string (string_at p)) (map string_at paths) ≡ true
listed-string p [] h = absurd (omega arith)
listed-string p (x ∷ paths) h =
    elim (cases_Bool (same_path p x)) as (λ _. (same_string (string_at p) (string_at x) || list_any (same_string (string_at p)) (map string_at paths)) ≡ true) [
      | inl hit ↦ or-left _ _ (is-same_string (string_at p) (string_at x) (ap string_at (same_path-true p x hit)))
      | inr miss ↦ or-right _ _ (listed-string p paths (let e : one_if (same_path p x) ≡ 0 = ap one_if miss in omega arith))
    ]

string-listed : (s : List Bool) (paths : List (List ℕ)) → list_any (same_string s) (map string_at paths) ≡ true →
    (p : List ℕ) × (0 < times p paths) × (s ≡ string_at p)
string-listed s [] h = absurd (false≢true h)
string-listed s (x ∷ paths) h =
    elim (or-cases (same_string s (string_at x)) (list_any (same_string s) (map string_at paths)) h) as (λ _. (p : List ℕ) × (0 < times p (x ∷ paths)) ×
    (s ≡ string_at p)) [
      | inl here ↦ (x, (let e : one_if (same_path x x) ≡ 1 = ap one_if (same_path-itself x) in omega arith), same_string-is s (string_at x) here)
      | inr there ↦ let r = string-listed s paths there in (r.0, (let m = r.1 in omega arith), r.2)
    ]

-- the set of the strings of these paths
abbrev pub nodes_at : List (List ℕ) → Nodes
nodes_at paths = with_nodes empty (map string_at paths)

has-nodes_at : (paths : List (List ℕ)) (s : List Bool) → has_node (nodes_at paths) s ≡ list_any (same_string s) (map string_at paths)
has-nodes_at paths s = has-with_nodes empty (map string_at paths) s ∙ ap (λ b. list_any (same_string s) (map string_at paths) || b) (has-empty s)
    ∙ or-false (list_any (same_string s) (map string_at paths))

-- all steps of these paths are below 32
abbrev pub AreSteps : List (List ℕ) → Type 0
AreSteps paths = (p : List ℕ) → 0 < times p paths → All IsStep p

-- no path is listed twice
abbrev pub AreOnce : List (List ℕ) → Type 0
AreOnce paths = (p : List ℕ) → times p paths ≤ 1

-- so the steps of the first path are below 32, and those of the others are
pub first_steps : (x : List ℕ) (paths : List (List ℕ)) → AreSteps (x ∷ paths) → All IsStep x
first_steps x paths steps = steps x (let e : one_if (same_path x x) ≡ 1 = ap one_if (same_path-itself x) in omega arith)

pub other_steps : (x : List ℕ) (paths : List (List ℕ)) → AreSteps (x ∷ paths) → AreSteps paths
other_steps x paths steps = λ p h. steps p (omega arith)

-- the other paths are listed at most once
pub other_once : (x : List ℕ) (paths : List (List ℕ)) → AreOnce (x ∷ paths) → AreOnce paths
other_once x paths once = λ p. let o = once p in omega arith

-- no other path has the string of the first one
pub fresh_string : (x : List ℕ) (paths : List (List ℕ)) → AreSteps (x ∷ paths) → AreOnce (x ∷ paths) →
    list_any (same_string (string_at x)) (map string_at paths) ≡ false
fresh_string x paths steps once =
    let one : one_if (same_path x x) ≡ 1 = ap one_if (same_path-itself x) in
    let gone : times x paths ≡ 0 = (let o = once x in omega arith) in
    false_from_ne_true (list_any (same_string (string_at x)) (map string_at paths)) (λ h.
    let r = string-listed (string_at x) paths h in
    let same : x ≡ r.0 = sym (string_path x (first_steps x paths steps)) ∙ ap chunks_of r.2 ∙ string_path r.0 (other_steps x paths steps r.0 r.1) in
    let none : times r.0 paths ≡ 0 = ap (λ p. times p paths) (sym same) ∙ gone in
    let m = r.1 in absurd (omega arith))

-- so the string of the first path is not in the set of the others
pub new_string : (x : List ℕ) (paths : List (List ℕ)) → AreSteps (x ∷ paths) → AreOnce (x ∷ paths) → contains_key (nodes_at paths) (string_at x) ≡ false
new_string x paths steps once = has-nodes_at paths (string_at x) ∙ fresh_string x paths steps once

-- the set has as many strings as there are paths, if each path is listed once
len-nodes_at : (paths : List (List ℕ)) → AreSteps paths → AreOnce paths → len (nodes_at paths) ≡ length paths
len-nodes_at [] steps once = len-empty listing_cmp (Unit {0})
len-nodes_at (x ∷ paths) steps once =
    len-insert listing_total (nodes_at paths) (string_at x) tt
    ∙ ap (λ b. cond b (len (nodes_at paths)) (len (nodes_at paths) + 1)) (new_string x paths steps once)
    ∙ ap (λ n. n + 1) (len-nodes_at paths (other_steps x paths steps) (other_once x paths once))
    ∙ (let e : length paths + 1 ≡ suc (length paths) = omega arith in e)

one-at-most : (b : Bool) (t : ℕ) → t ≡ one_if b → t ≤ 1
one-at-most true t e = omega (arith, e)
one-at-most false t e = omega (arith, e)

pub from-one : (b : Bool) (t : ℕ) → t ≡ one_if b → 0 < t → b ≡ true
from-one true t e h = refl
from-one false t e h = absurd (omega (arith, e, h))

module _ (sizes : List ℕ) (nodes : List ℕ → Option Node) (paths : List (List ℕ)) (v : Store Node) (hold : NodesHold sizes nodes paths v) where
  -- the steps of a path to a node are below 32
  steps_small : (q : List ℕ) → is_some (nodes q) ≡ true → All IsStep q
  steps_small = snoc_ind (λ q. is_some (nodes q) ≡ true → All IsStep q) (λ h. All-nil IsStep)
      (λ q c ih h. let has : has_child (nodes q) c ≡ true = sym (hold.linked q c) ∙ h in All-push IsStep q c (ih (needs_node (nodes q) c has)) (within (nodes q) c has))
    where
      within : (o : Option Node) (c : ℕ) → has_child o c ≡ true → c < 32
      within None c h = absurd (false≢true h)
      within (Some n) c h = has_bit-below n.child_bitmap c h

  -- a listed path leads to a node
  pub listed_some : (p : List ℕ) → 0 < times p paths → is_some (nodes p) ≡ true
  listed_some p h = from-one (is_some (nodes p)) (times p paths) (hold.listed p) h

  -- the strings of the listed paths are the strings of the nodes
  pub listed_at : (s : List Bool) → list_any (same_string s) (map string_at paths) ≡ (is_node_depth s && is_some (nodes (chunks_of s)))
  listed_at s = sym (same_bool _ _ (into s) (out s))
    where
      into : (s : List Bool) → (is_node_depth s && is_some (nodes (chunks_of s))) ≡ true → list_any (same_string s) (map string_at paths) ≡ true
      into s h =
          let some : is_some (nodes (chunks_of s)) ≡ true = and-second (is_node_depth s) (is_some (nodes (chunks_of s))) h in
          let there : times (chunks_of s) paths ≡ 1 = hold.listed (chunks_of s) ∙ ap one_if some in
          let same : string_at (chunks_of s) ≡ s = same_above (string_at (chunks_of s)) s (string_depth (chunks_of s)) (eqb-true (length s % 5) 0 (and-first (is_node_depth s)
          (is_some (nodes (chunks_of s))) h)) (string_path (chunks_of s) (steps_small (chunks_of s) some)) in
          subst (λ t. list_any (same_string t) (map string_at paths) ≡ true) same (listed-string (chunks_of s) paths (omega arith))

      out : (s : List Bool) → list_any (same_string s) (map string_at paths) ≡ true → (is_node_depth s && is_some (nodes (chunks_of s))) ≡ true
      out s h =
          let r = string-listed s paths h in
          let some : is_some (nodes r.0) ≡ true = listed_some r.0 r.1 in
          let path : chunks_of s ≡ r.0 = ap chunks_of r.2 ∙ string_path r.0 (steps_small r.0 some) in
          and-join (is_node_depth s) (is_some (nodes (chunks_of s)))
          (eq-eqb (length s % 5) 0 (ap (λ t. length t % 5) r.2 ∙ string_depth r.0)) (ap (λ p. is_some (nodes p)) path ∙ some)

  -- all steps are below 32, and each path is listed once
  pub paths_steps : AreSteps paths
  paths_steps = λ p h. steps_small p (listed_some p h)

  pub paths_once : AreOnce paths
  paths_once = λ p. one-at-most (is_some (nodes p)) (times p paths) (hold.listed p)

  module _ (n : Nodes) (are : (s : List Bool) → has_node n s ≡ (is_node_depth s && is_some (nodes (chunks_of s)))) where
    -- the nodes are the strings of the paths
    pub same_nodes : n ≡ nodes_at paths
    same_nodes = same_members n (nodes_at paths) (λ s. are s ∙ sym (listed_at s) ∙ sym (has-nodes_at paths s))

    -- there are as many nodes as paths
    pub paths_counted : len n ≡ length paths
    paths_counted =
        ap (λ m. len m) same_nodes
        ∙ len-nodes_at paths paths_steps paths_once
