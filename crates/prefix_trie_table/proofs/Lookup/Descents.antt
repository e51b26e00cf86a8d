-- The descent along a bit string, as the code follows it on a key.
use Rattle.prefix_trie_table.proofs.Prelude.{◌≡◌, ℕ, ◌+◌, ◌*◌, ◌/◌, ◌<◌, ◌≤◌, Bool, true, false, List, [], ◌∷◌, ◌++◌, length, get_or, take, Option, Some, is_some, sym, ap, ◌∙◌, subst, arith, take_more, Node, has_bit, rank, node_at, node_sizes, chunks_of, Store, IsSlot, at_root, at_child, NodesHold, Deepest, IsEnd, has_child, node_or_blank}
use Rattle.std.proofs.lemmas.List.{length-take-le}
use Rattle.prefix_trie_table.proofs.Strings.Digits.{path-length}
use Rattle.prefix_trie_table.proofs.Tree.Trees.{slot_holds, is_some-Some}

-- ---- the steps and the value bit of the first len bits of a key

module _ (b : List Bool) (len level : ℕ) (within : len ≤ length b) where
  steps-length : length (chunks_of (take len b)) ≡ len / 5
  steps-length = path-length (take len b) ∙ ap (λ n. n / 5) (length-take-le len b within)

  -- one more whole chunk is on the path
  pub step-inside : 5 * level + 5 ≤ len → level < length (chunks_of (take len b))
  step-inside h = omega (arith, steps-length, h)

  -- if no whole chunk is left, the path is at its end
  pub steps-end : 5 * level ≤ len → len < 5 * level + 5 → length (chunks_of (take len b)) ≡ level
  steps-end h k = omega (arith, steps-length, h, k)

-- ---- the node that was reached

-- the root is on every path
pub deepest_root : (reading : List ℕ → Option Node) (paths : List (List ℕ)) (v : Store Node) (path : List ℕ) → NodesHold node_sizes reading paths v →
    Deepest reading path 0 0 v
deepest_root reading paths v path hold = record { node = node_at v.slots 0; is_there = at_root; is = hold.rooted }

module _ (reading : List ℕ → Option Node) (paths : List (List ℕ)) (v : Store Node) (path : List ℕ) (depth slot : ℕ)
    (hold : NodesHold node_sizes reading paths v) (deep : Deepest reading path depth slot v) where
  -- the slot is one of the array
  pub deepest_in : slot < length v.slots
  deepest_in = (slot_holds node_sizes reading paths v hold (take depth path) slot deep.node deep.is_there deep.is).1

  -- the node in the slot is the one on the path
  pub deepest_is : (k : Node) → k ≡ node_at v.slots slot → reading (take depth path) ≡ Some k
  deepest_is k read = deep.is ∙ ap Some (sym (slot_holds node_sizes reading paths v hold (take depth path) slot deep.node deep.is_there deep.is).0 ∙ sym read)

  -- a child that is there is one step deeper
  pub deepest_more : (offset : ℕ) (k : Node) → depth < length path → k ≡ node_at v.slots slot → has_bit k.child_bitmap (get_or path depth 0) ≡ true →
      offset ≡ rank k.child_bitmap (get_or path depth 0) → Deepest reading path (depth + 1) (k.child_block + offset) v
  deepest_more offset k inside read bit place_is =
      let here : reading (take depth path) ≡ Some k = deepest_is k read in
      let d : ℕ = get_or path depth 0 in
      let longer : take (depth + 1) path ≡ take depth path ++ d ∷ [] = take_more path depth 0 inside in
      let some : is_some (reading (take depth path ++ d ∷ [])) ≡ true = hold.linked (take depth path) d ∙ ap (λ o. has_child o d) here ∙ bit in
      record {
        node = node_or_blank (reading (take depth path ++ d ∷ []));
        is_there = subst (λ p. IsSlot reading p (k.child_block + offset)) (sym longer)
            (subst (λ i. IsSlot reading (take depth path ++ d ∷ []) (k.child_block + i)) (sym place_is) (at_child (take depth path) d k here bit));
        is = ap reading longer ∙ is_some-Some (reading (take depth path ++ d ∷ [])) some;
      }

  -- if the next child is missing, or there is no next one, the search ends
  pub deepest_end : (k : Node) → depth ≤ length path → k ≡ node_at v.slots slot →
      (depth < length path → has_bit k.child_bitmap (get_or path depth 0) ≡ false) → IsEnd reading path depth
  deepest_end k within read missing = record {
    within = within;
    is_there = ap is_some deep.is;
    stops = λ inside.
        let d : ℕ = get_or path depth 0 in
        ap (λ p. is_some (reading p)) (take_more path depth 0 inside) ∙ hold.linked (take depth path) d ∙ ap (λ o. has_child o d) (deepest_is k read)
        ∙ missing inside;
  }

-- ---- whole steps of a length

pub level_past : (level len : ℕ) → len < 5 * level + 5 → 5 * level ≤ len → level ≡ len / 5
level_past level len h k = omega (arith, h, k)

-- how many chunks the path has
pub steps-all : (b : List Bool) (len : ℕ) → len ≤ length b → length (chunks_of (take len b)) ≡ len / 5
steps-all b len within = steps-length b len 0 within
