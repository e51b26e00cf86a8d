-- How many nodes a descent reads, and how many entries a table can have: for the counted lookups and `len`.
use Rattle.prefix_trie_table.proofs.Prelude.{◌≡◌, ℕ, ◌+◌, ◌*◌, ◌/◌, ◌%◌, ◌<◌, ◌≤◌, ◌⊎◌, inl, inr, Bool, true, false, ◌&&◌, List, length, take, Option, is_some, sym, ap₂, ◌∙◌, arith, nat_lt, eqb-true, eq-eqb, ltb-true, cases_Bool, nat_tests, begins, Nodes, has_node, is_node_depth, visits, and-first, and-second, and-join, visits-exact, Node, node_sizes, chunks_of, Store, NodesHold, IsEnd}
use Rattle.std.proofs.lemmas.List.{length-take-le}
use Rattle.prefix_trie_table.proofs.Strings.SmallFacts.{fifths, whole_levels}
use Rattle.prefix_trie_table.proofs.Strings.Digits.{path-length, path-take}
use Rattle.prefix_trie_table.proofs.Strings.Keys.{begins-search_path}
use Rattle.prefix_trie_table.proofs.Lookup.DescentEnds.{prefix_some}

past-five : (k n l : ℕ) → n ≤ k → n ≡ l / 5 → l < 5 * (k + 1)
past-five k n l h e = omega (arith, h, e)

-- the nodes are the strings whose chunks lead to nodes
module _ (reading : List ℕ → Option Node) (paths : List (List ℕ)) (v : Store Node) (hold : NodesHold node_sizes reading paths v) (n : Nodes)
    (are : (s : List Bool) → has_node n s ≡ (is_node_depth s && is_some (reading (chunks_of s)))) where
  -- the length of a node's string is a multiple of five
  pub nodes_depths : (s : List Bool) → has_node n s ≡ true → length s % 5 ≡ 0
  nodes_depths s h = eqb-true (length s % 5) 0 (and-first (is_node_depth s) (is_some (reading (chunks_of s))) (sym (are s) ∙ h))

  nodes_some : (s : List Bool) → has_node n s ≡ true → is_some (reading (chunks_of s)) ≡ true
  nodes_some s h = and-second (is_node_depth s) (is_some (reading (chunks_of s))) (sym (are s) ∙ h)

  -- all nodes on the path to a node exist
  pub nodes_closed : (s t : List Bool) → has_node n t ≡ true → begins s t ≡ true → length s % 5 ≡ 0 → has_node n s ≡ true
  nodes_closed s t h b five =
      are s ∙ and-join (is_node_depth s) (is_some (reading (chunks_of s))) (eq-eqb (length s % 5) 0 five)
      (prefix_some node_sizes reading paths v hold (chunks_of s) (chunks_of t) (nodes_some t h) (begins-search_path s t five ∙ b))

  -- a node of the search path exists exactly if its chunks lead to a node
  node_on_path : (q : List Bool) (k : ℕ) → k ≤ length (chunks_of q) → has_node n (take (5 * k) q) ≡ is_some (reading (take k (chunks_of q)))
  node_on_path q k h =
      let within : 5 * k ≤ length q = fifths (length q) k (length (chunks_of q)) h (path-length q) in
      let five : length (take (5 * k) q) % 5 ≡ 0 = whole_levels (length (take (5 * k) q)) k (length-take-le (5 * k) q within) in
      are (take (5 * k) q) ∙ ap₂ (λ a p. a && is_some (reading p)) (eq-eqb (length (take (5 * k) q) % 5) 0 five) (path-take k q within)

  -- the number of nodes on the search path is the level at which the search ends, plus one
  pub visits_counted : (q : List Bool) (level : ℕ) → IsEnd reading (chunks_of q) level → visits n q ≡ level + 1
  visits_counted q level end =
      visits-exact n q level nodes_depths nodes_closed (fifths (length q) level (length (chunks_of q)) end.within (path-length q))
      (node_on_path q level end.within ∙ end.is_there)
      (elim (cases_Bool (nat_lt level (length (chunks_of q)))) as (λ _. (length q < 5 * (level + 1)) ⊎ (has_node n (take (5 * (level + 1)) q) ≡ false)) [
        | inl e ↦ let inside : level < length (chunks_of q) = ltb-true level (length (chunks_of q)) e in
            inr (node_on_path q (level + 1) (omega arith) ∙ end.stops inside)
        | inr e ↦ let past : length (chunks_of q) ≤ level = grind (arith, nat_tests) in inl (past-five level (length (chunks_of q)) (length q) past (path-length q))
      ])
