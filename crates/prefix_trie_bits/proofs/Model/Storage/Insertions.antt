-- A possible storage after the insertion of a new key: each list gets the block that it needs, and missing blocks are
-- made. It shows that a step exists.
use Rattle.prefix_trie_bits.proofs.Prelude.{◌≡◌, ℕ, ◌+◌, ◌≤◌, Bool, true, false, cond, not, ◌&&◌, ◌||◌, nat_lt, List, [], ◌∷◌, length, take, Option, None, Some, refl, sym, ap, ◌∙◌, subst, arith, filter_map, option_to_list, option_or, list_any, cons_option, get, same_string, Sizes, child_block_sizes, value_block_sizes, free_of, used_of, one_of, gains_child, child_block_needed, value_block_needed, child_blocks_needed, value_blocks_needed, missing_child_blocks, missing_value_blocks, missing_node_slots, missing_cell_slots, missing_of, TakesBlocks, has_node, home, nodes_above, State, Storage, InsertsInStorage}
use Rattle.prefix_trie_bits.proofs.Model.Members.{same_string-is, any-node_above}
use Rattle.prefix_trie_bits.proofs.Model.Storage.ShrunkBlocks.{rest_free, as_many, with_taken, with_taken_at, with_taken_used}
use Rattle.prefix_trie_bits.proofs.Model.Storage.Slots.{how_many, how_many-more}

-- ---- blocks that are taken

-- each node of the list takes the block that it needs
abbrev pub take_all : (List Bool → Option ℕ) → List (List Bool) → Sizes → Sizes
take_all needed [] blocks = blocks
take_all needed (p ∷ ps) blocks = with_taken (take_all needed ps blocks) p (needed p)

take_all-at : (needed : List Bool → Option ℕ) (ps : List (List Bool)) (blocks : Sizes) (p : List Bool) →
    get (take_all needed ps blocks) p ≡ cond (list_any (same_string p) ps) (option_or (needed p) (get blocks p)) (get blocks p)
take_all-at needed [] blocks p = refl
take_all-at needed (x ∷ ps) blocks p =
    with_taken_at (take_all needed ps blocks) x (needed x) p
    ∙ ap (λ o. cond (same_string p x) (option_or (needed x) o) o) (take_all-at needed ps blocks p)
    ∙ elim (same_string p x) as (λ b. same_string p x ≡ b → cond b (option_or (needed x) (rest p)) (rest p) ≡ cond (b || list_any (same_string p) ps) (option_or (needed p) (get blocks p)) (get blocks p)) [
      | true ↦ λ e. ap (λ s. option_or (needed s) (rest p)) (sym (same_string-is p x e)) ∙ twice (list_any (same_string p) ps) (needed p) (get blocks p)
      | false ↦ λ e. refl
    ] refl
  where
    rest : List Bool → Option ℕ
    rest s = cond (list_any (same_string s) ps) (option_or (needed s) (get blocks s)) (get blocks s)

    twice : (b : Bool) (o h : Option ℕ) → option_or o (cond b (option_or o h) h) ≡ option_or o h
    twice true None h = refl
    twice b o h = refl

take_all-used : (needed : List Bool → Option ℕ) (ps : List (List Bool)) (blocks : Sizes) (size : ℕ) →
    used_of (take_all needed ps blocks) size ≤ used_of blocks size + how_many size (filter_map needed ps)
take_all-used needed [] blocks size = omega arith
take_all-used needed (x ∷ ps) blocks size =
    let rest = take_all-used needed ps blocks size in
    let one = with_taken_used (take_all needed ps blocks) x (needed x) size in
    let more = counted (needed x) (filter_map needed ps) in
    omega (arith, rest, one, more)
  where
    counted : (o : Option ℕ) (xs : List ℕ) → how_many size (cons_option o xs) ≡ one_of o size + how_many size xs
    counted None xs = omega arith
    counted (Some n) xs = how_many-more size n xs

-- the nodes outside the list need no block, so all needed blocks are taken
takes_all : (needed : List Bool → Option ℕ) (ps : List (List Bool)) (blocks : Sizes) → ((p : List Bool) → list_any (same_string p) ps ≡ false → needed p ≡ None) →
    TakesBlocks needed blocks (take_all needed ps blocks)
takes_all needed ps blocks nowhere p = take_all-at needed ps blocks p ∙ elim (list_any (same_string p) ps) as
    (λ b. list_any (same_string p) ps ≡ b → cond b (option_or (needed p) (get blocks p)) (get blocks p) ≡ option_or (needed p) (get blocks p)) [
      | true ↦ λ e. refl
      | false ↦ λ e. sym (ap (λ o. option_or o (get blocks p)) (nowhere p e))
    ] refl

-- for each size, the blocks taken are at most the free ones and the missing ones together
few_lack : (sizes free : List ℕ) (needed : List ℕ) (used old size : ℕ) → used ≤ old + how_many size needed →
    used ≤ old + free_of sizes free size + missing_of sizes free needed size
few_lack sizes free needed used old size h = omega (arith, h)

none_of : (b : Bool) (o : Option ℕ) → b ≡ false → cond b o None ≡ None
none_of b o e = ap (λ c. cond c o None) e

pub one_list : (o : Option ℕ) → ◌≡◌ {A = List ℕ} (cons_option o []) (option_to_list o)
one_list None = refl
one_list (Some n) = refl

module _ {T : Type 0} (s : State T) (q : List Bool) (before : Storage) where
  abbrev pub children : Sizes
  children = take_all (child_block_needed s.nodes before.layout.child_blocks q) (nodes_above q) before.layout.child_blocks

  abbrev pub values : Sizes
  values = take_all (value_block_needed s.entries before.layout.value_blocks q) (home q ∷ []) before.layout.value_blocks

  abbrev pub all_children : ℕ → ℕ
  all_children size = used_of before.layout.child_blocks size + free_of child_block_sizes before.layout.free_child_blocks size + missing_child_blocks s.nodes before.layout q size

  abbrev pub all_values : ℕ → ℕ
  all_values size = used_of before.layout.value_blocks size + free_of value_block_sizes before.layout.free_value_blocks size + missing_value_blocks s.entries before.layout q size

  children_few : (size : ℕ) → used_of children size ≤ all_children size
  children_few size = few_lack child_block_sizes before.layout.free_child_blocks (child_blocks_needed s.nodes before.layout q) (used_of children size) (used_of before.layout.child_blocks size) size
      (take_all-used (child_block_needed s.nodes before.layout.child_blocks q) (nodes_above q) before.layout.child_blocks size)

  values_few : (size : ℕ) → used_of values size ≤ all_values size
  values_few size = few_lack value_block_sizes before.layout.free_value_blocks (value_blocks_needed s.entries before.layout q) (used_of values size) (used_of before.layout.value_blocks size) size
      (subst (λ xs. used_of values size ≤ used_of before.layout.value_blocks size + how_many size xs) (one_list (value_block_needed s.entries before.layout.value_blocks q (home q)))
      (take_all-used (value_block_needed s.entries before.layout.value_blocks q) (home q ∷ []) before.layout.value_blocks size))

  -- the storage in which each missing block is made
  abbrev pub gained : Storage
  gained = record {
    space = record {
      limit = before.space.limit;
      node_slots = before.space.node_slots + missing_node_slots s.nodes before.layout q;
      cell_slots = before.space.cell_slots + missing_cell_slots s.entries before.layout q;
    };
    layout = record {
      child_blocks = children;
      value_blocks = values;
      free_child_blocks = rest_free child_block_sizes all_children children;
      free_value_blocks = rest_free value_block_sizes all_values values;
    };
  }

  pub gained_inserts : InsertsInStorage s q before gained
  gained_inserts = record {
    node_slots = refl;
    cell_slots = refl;
    child_blocks = takes_all (child_block_needed s.nodes before.layout.child_blocks q) (nodes_above q) before.layout.child_blocks
        (λ p away. none_of (gains_child s.nodes q p) _ (ap (λ b. b && (nat_lt (length p) (length (home q)) && not (has_node s.nodes (take (length p + 5) q)))) (sym (any-node_above p q) ∙ away)));
    value_blocks = takes_all (value_block_needed s.entries before.layout.value_blocks q) (home q ∷ []) before.layout.value_blocks
        (λ p away. none_of (same_string p (home q)) _ (first_false (same_string p (home q)) away));
    child_blocks_made = λ size at. as_many child_block_sizes all_children children size (children_few size) at;
    value_blocks_made = λ size at. as_many value_block_sizes all_values values size (values_few size) at;
  }
    where
      first_false : (b : Bool) → (b || false) ≡ false → b ≡ false
      first_false true e = e
      first_false false e = refl
