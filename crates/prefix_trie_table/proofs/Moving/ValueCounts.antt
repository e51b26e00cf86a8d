-- The nodes of a table have as many values as it has entries.
use Rattle.prefix_trie_table.proofs.Prelude.{◌≡◌, ℕ, ◌+◌, ◌%◌, ◌<◌, Bool, true, false, cond, ◌&&◌, nat_lt, List, [], ◌∷◌, length, filter, sum_by, Option, is_some, refl, sym, ap, ◌∙◌, arith, ltb-true, eq-eqb, length-map, All-head, All-tail, All-map, All-weaker, All-contains_itself, sum_by-cons, contains_key, keys, len, len-entries, entries, entries_sorted, get-entries, begins, same_bool, Entries, and-first, and-second, and-join, find-from_Contains, Node, node_sizes, chunks_of, bit_of, same_path, one_if, times, own_count, entry_count, Holds, Store, IsShapeOf, State, own_home, home-begins, home-depth, home-length, home}
use Rattle.std.proofs.lemmas.Bool.{lt-ltb}
use Rattle.std.specs.List.{All, Contains}
use Rattle.prefix_trie_table.proofs.Counts.EntryCounts.{count_sum}
use Rattle.prefix_trie_table.proofs.Removal.NodesLeft.{home_path}
use Rattle.prefix_trie_table.proofs.Removal.ModelSizes.{own_is}
use Rattle.prefix_trie_table.proofs.Tree.Shapes.{shape_entries}
use Rattle.prefix_trie_table.proofs.Strings.Keys.{same_above}
use Rattle.prefix_trie_table.proofs.Strings.Paths.{same_path-equal, same_path-true}
use Rattle.prefix_trie_table.proofs.Strings.PathStrings.{IsStep, string_at, string_depth, string_path, paths_steps}
use Rattle.prefix_trie_table.proofs.Strings.PathSums.{sum_same}
use Rattle.prefix_trie_table.proofs.Strings.SmallFacts.{some_node}

-- how many keys have their node at a path
abbrev at_path : List (List Bool) → List ℕ → ℕ
at_path ks p = length (filter (λ k. same_path (chunks_of k) p) ks)

one_more : (k : List Bool) (ks : List (List Bool)) (paths : List (List ℕ)) → sum_by (at_path (k ∷ ks)) paths ≡ times (chunks_of k) paths + sum_by (at_path ks) paths
one_more k ks [] = refl
one_more k ks (p ∷ paths) =
    omega (arith, sum_by-cons (at_path (k ∷ ks)) p paths, sum_by-cons (at_path ks) p paths, passes (same_path (chunks_of k) p) (filter (λ x. same_path (chunks_of x) p) ks), one_more k ks paths)
  where
    passes : (b : Bool) (xs : List (List Bool)) → length (cond b (k ∷ xs) xs) ≡ one_if b + length xs
    passes true xs = omega arith
    passes false xs = omega arith

-- if the path of each is listed once, these are all keys
all_listed : (paths : List (List ℕ)) (ks : List (List Bool)) → All (λ k. times (chunks_of k) paths ≡ 1) ks → sum_by (at_path ks) paths ≡ length ks
all_listed paths [] each = none paths
  where
    none : (ps : List (List ℕ)) → sum_by (at_path []) ps ≡ 0
    none [] = refl
    none (p ∷ ps) = omega (arith, sum_by-cons (at_path []) p ps, none ps)
all_listed paths (k ∷ ks) each = omega (arith, one_more k ks paths, All-head (λ x. times (chunks_of x) paths ≡ 1) k ks each, all_listed paths ks (All-tail (λ x. times (chunks_of x) paths ≡ 1) k ks each))

-- the strings of a node's own values are those whose chunks lead there
own_search_path : (p : List ℕ) → All IsStep p → (k : List Bool) → (begins (string_at p) k && nat_lt (length k) (length (string_at p) + 5)) ≡ same_path (chunks_of k) p
own_search_path p steps k =
    let s = string_at p in
    let five : length (string_at p) % 5 ≡ 0 = string_depth p in
    same_bool _ _
    (λ h.
    let is = own_home s k five (and-first (begins s k) _ h) (ltb-true (length k) (length s + 5) (and-second (begins s k) _ h)) in
    same_path-equal (chunks_of k) p (sym (home_path k) ∙ ap chunks_of (sym is) ∙ string_path p steps))
    (λ h.
    let is : string_at p ≡ home k = same_above s (home k) five (home-depth k) (string_path p steps ∙ sym (same_path-true (chunks_of k) p h) ∙ sym (home_path k)) in
    and-join (begins s k) _ (ap (λ x. begins x k) is ∙ home-begins k) (lt-ltb (length k) (length s + 5) (omega (arith, ap length is, home-length k))))

module _ {T : Type 0} (reading : List ℕ → Option Node) (values : List ℕ → ℕ → Option T) (paths : List (List ℕ)) (v : Store Node) (w : Store (Option T))
    (holds : Holds reading values paths v w) (s : State T) (is : IsShapeOf v.slots w.slots s) where
  abbrev m : Entries T
  m = s.entries

  own_of : (p : List ℕ) → 0 < times p paths → own_count (reading p) ≡ at_path (keys m) p
  own_of p listed =
      let steps = paths_steps node_sizes reading paths v holds.hold p listed in
      sym (own_is reading values paths v w holds s is (string_at p) (eq-eqb (length (string_at p) % 5) 0 (string_depth p)) ∙ ap (λ q. own_count (reading q)) (string_path p steps))
      ∙ ap (λ test. length (filter test (keys m))) (λ i k. own_search_path p steps k i)

  is_there_once : (k : List Bool) → contains_key m k ≡ true → times (chunks_of k) paths ≡ 1
  is_there_once k stored =
      holds.hold.listed (chunks_of k)
      ∙ ap one_if (some_node (reading (chunks_of k)) (bit_of k) (sym (holds.cells.set_where (chunks_of k) (bit_of k)) ∙ ap is_some (sym (shape_entries reading values paths v w holds s is k)) ∙ stored))

  -- the nodes have as many values as there are entries
  pub values_all : entry_count reading paths ≡ len m
  values_all =
      count_sum reading paths
      ∙ sum_same (at_path (keys m)) (λ p. own_count (reading p)) paths own_of
      ∙ all_listed paths (keys m)
      (All-map (λ k. times (chunks_of k) paths ≡ 1) (λ e. e.0) (entries m)
      (All-weaker (Contains (entries m)) (λ e. times (chunks_of e.0) paths ≡ 1)
      (λ e h. is_there_once e.0 (ap is_some (get-entries m e.0 ∙ find-from_Contains (entries m) e (entries_sorted m) h))) (entries m) (All-contains_itself (entries m))))
      ∙ length-map (entries m) (λ e. e.0) ∙ sym (len-entries m)
