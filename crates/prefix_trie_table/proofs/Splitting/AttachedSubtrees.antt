-- A subtree that was built on its own is attached to a node, with its blocks.
use Rattle.prefix_trie_table.proofs.Prelude.{◌≡◌, ◌≢◌, ℕ, ◌+◌, ◌<◌, inl, inr, true, false, cond, nat_eq, List, [], ◌∷◌, ◌++◌, length, map, flat_map, Option, None, Some, is_some, refl, sym, ap, ap₂, ◌∙◌, arith, Node, has_bit, node_sizes, cell_sizes, same_path, one_if, times, has_child, node_or_blank, child_blocks_of, child_blocks, value_blocks_of, value_blocks, AreNodesFrom, no_value, UsedBlock, held, size_in}
use Rattle.prefix_trie_table.proofs.Strings.PathStrings.{from-one}
use Rattle.prefix_trie_table.proofs.Strings.BitLists.{map_same}
use Rattle.prefix_trie_table.proofs.Strings.Paths.{same_path-itself, same_path-equal, same_path-not, snoc_ind, flat_map_same}
use Rattle.prefix_trie_table.proofs.Strings.PathLists.{times-append}
use Rattle.prefix_trie_table.proofs.Tree.Children.{same_or, number_or, same_number, other_number}
use Rattle.prefix_trie_table.proofs.Tree.Trees.{is_none-None}

-- ---- paths with a step more in front

abbrev head-of : ℕ → List ℕ → ℕ
head-of d [] = d
head-of d (c ∷ p) = c

abbrev tail-of : List ℕ → List ℕ
tail-of [] = []
tail-of (c ∷ p) = p

same_behind : (c : ℕ) (p x : List ℕ) → one_if (same_path (c ∷ p) (c ∷ x)) ≡ one_if (same_path p x)
same_behind c p x = elim (same_or p x) as (λ _. one_if (same_path (c ∷ p) (c ∷ x)) ≡ one_if (same_path p x)) [
  | inl e ↦ ap one_if (same_path-equal (c ∷ p) (c ∷ x) (ap (λ q. c ∷ q) e) ∙ sym (same_path-equal p x e))
  | inr ne ↦ ap one_if (same_path-not (c ∷ p) (c ∷ x) (λ e. ne (ap tail-of e)) ∙ sym (same_path-not p x ne))
]

not_nil : (c : ℕ) (p : List ℕ) → (c ∷ p ≡ []) → ⊥
not_nil c p e = absurd (omega (arith, ap (λ (q : List ℕ). length q) e))

pub times-front : (c : ℕ) (p : List ℕ) (paths : List (List ℕ)) → times (c ∷ p) (map (λ q. c ∷ q) paths) ≡ times p paths
times-front c p [] = refl
times-front c p (x ∷ paths) = ap₂ (λ a b. a + b) (same_behind c p x) (times-front c p paths)

pub times-front_other : (c d : ℕ) (p : List ℕ) (paths : List (List ℕ)) → d ≢ c → times (d ∷ p) (map (λ q. c ∷ q) paths) ≡ 0
times-front_other c d p [] ne = refl
times-front_other c d p (x ∷ paths) ne =
    let first : one_if (same_path (d ∷ p) (c ∷ x)) ≡ 0 = ap one_if (same_path-not (d ∷ p) (c ∷ x) (λ e. ne (ap (head-of 0) e))) in
    omega (arith, first, times-front_other c d p paths ne)

pub times-front_nil : (c : ℕ) (paths : List (List ℕ)) → times [] (map (λ q. c ∷ q) paths) ≡ 0
times-front_nil c [] = refl
times-front_nil c (x ∷ paths) =
    let first : one_if (same_path [] (c ∷ x)) ≡ 0 = ap one_if (same_path-not [] (c ∷ x) (λ e. not_nil c x (sym e))) in
    omega (arith, first, times-front_nil c paths)

-- ---- the subtree branch, hung as the child c

abbrev pub attached : Node → ℕ → (List ℕ → Option Node) → (List ℕ → Option Node) → List ℕ → Option Node
attached n c branch sub [] = Some n
attached n c branch sub (d ∷ p) = cond (nat_eq d c) (branch p) (sub (d ∷ p))

module _ (m : Node) (c : ℕ) (sub branch : List ℕ → Option Node) where
  pub attach_here : (d : ℕ) (p : List ℕ) → d ≡ c → attached m c branch sub (d ∷ p) ≡ branch p
  attach_here d p e = ap (λ b. cond b (branch p) (sub (d ∷ p))) (ap (λ i. nat_eq i c) e ∙ same_number c)

  pub attach_other : (d : ℕ) (p : List ℕ) → d ≢ c → attached m c branch sub (d ∷ p) ≡ sub (d ∷ p)
  attach_other d p ne = ap (λ b. cond b (branch p) (sub (d ∷ p))) (other_number d c ne)

module _ (n m top : Node) (c : ℕ) (sub branch : List ℕ → Option Node) (rest paths : List (List ℕ)) (h : AreNodesFrom n sub ([] ∷ rest)) (k : AreNodesFrom top branch paths)
    (gone : (p : List ℕ) → sub (c ∷ p) ≡ None) (set : has_bit m.child_bitmap c ≡ true)
    (others : (i : ℕ) → i ≢ c → has_bit m.child_bitmap i ≡ has_bit n.child_bitmap i) where
  linked : (p : List ℕ) (e : ℕ) → is_some (attached m c branch sub (p ++ e ∷ [])) ≡ has_child (attached m c branch sub p) e
  linked [] e = elim (number_or e c) as (λ _. is_some (attached m c branch sub (e ∷ [])) ≡ has_bit m.child_bitmap e) [
    | inl same ↦ ap is_some (attach_here m c sub branch e [] same ∙ k.top) ∙ sym (ap (has_bit m.child_bitmap) same ∙ set)
    | inr ne ↦ ap is_some (attach_other m c sub branch e [] ne) ∙ h.linked [] e ∙ ap (λ o. has_child o e) h.top ∙ sym (others e ne)
  ]
  linked (d ∷ p) e = elim (number_or d c) as (λ _. is_some (attached m c branch sub (d ∷ (p ++ e ∷ []))) ≡ has_child (attached m c branch sub (d ∷ p)) e) [
    | inl same ↦ ap is_some (attach_here m c sub branch d (p ++ e ∷ []) same) ∙ k.linked p e ∙ ap (λ o. has_child o e) (sym (attach_here m c sub branch d p same))
    | inr ne ↦ ap is_some (attach_other m c sub branch d (p ++ e ∷ []) ne) ∙ h.linked (d ∷ p) e ∙ ap (λ o. has_child o e) (sym (attach_other m c sub branch d p ne))
  ]

  listed : (q : List ℕ) → times q ([] ∷ (map (λ p. c ∷ p) paths ++ rest)) ≡ one_if (is_some (attached m c branch sub q))
  listed [] =
      let own : one_if (same_path [] []) ≡ 1 = ap one_if (same_path-itself []) in
      let was : one_if (same_path [] []) + times [] rest ≡ 1 = h.listed [] ∙ ap (λ o. one_if (is_some o)) h.top in
      omega (arith, own, was, times-append [] (map (λ p. c ∷ p) paths) rest, times-front_nil c paths)
  listed (d ∷ p) =
      let away : one_if (same_path (d ∷ p) []) ≡ 0 = ap one_if (same_path-not (d ∷ p) [] (not_nil d p)) in
      let was = h.listed (d ∷ p) in
      let both = times-append (d ∷ p) (map (λ x. c ∷ x) paths) rest in
      elim (number_or d c) as (λ _. times (d ∷ p) ([] ∷ (map (λ x. c ∷ x) paths ++ rest)) ≡ one_if (is_some (attached m c branch sub (d ∷ p)))) [
        | inl same ↦
            let none : one_if (is_some (sub (d ∷ p))) ≡ 0 = ap (λ i. one_if (is_some (sub (i ∷ p)))) same ∙ ap (λ o. one_if (is_some o)) (gone p) in
            let there : times (d ∷ p) (map (λ x. c ∷ x) paths) ≡ times p paths = ap (λ i. times (i ∷ p) (map (λ x. c ∷ x) paths)) same ∙ times-front c p paths in
            let now : one_if (is_some (attached m c branch sub (d ∷ p))) ≡ one_if (is_some (branch p)) = ap (λ o. one_if (is_some o)) (attach_here m c sub branch d p same) in
            omega (arith, away, was, both, none, there, k.listed p, now)
        | inr ne ↦
            let now : one_if (is_some (attached m c branch sub (d ∷ p))) ≡ one_if (is_some (sub (d ∷ p))) = ap (λ o. one_if (is_some o)) (attach_other m c sub branch d p ne) in
            omega (arith, away, was, both, times-front_other c d p paths ne, now)
      ]

  pub attach_nodes_from : AreNodesFrom m (attached m c branch sub) ([] ∷ (map (λ p. c ∷ p) paths ++ rest))
  attach_nodes_from = record { top = refl; linked = linked; listed = listed }

-- ---- blocks of a graft

module _ (m : Node) (c : ℕ) (sub branch : List ℕ → Option Node) where
  moved : (p : List ℕ) (o : Option Node) → child_blocks_of node_sizes (attached m c branch sub) (c ∷ p) o ≡ child_blocks_of node_sizes branch p o
  moved p None = refl
  moved p (Some k) =
      ap (held k.child_tier k.child_block (size_in node_sizes k.child_tier))
      (map_same (λ e. node_or_blank (branch (p ++ e ∷ []))) (λ e. node_or_blank (attached m c branch sub (c ∷ (p ++ e ∷ [])))) k.child_bitmap k.child_bitmap (λ i. refl)
      (λ e. ap node_or_blank (attach_here m c sub branch c (p ++ e ∷ []) refl)))

  pub branch_blocks : (paths : List (List ℕ)) →
      flat_map (child_blocks node_sizes (attached m c branch sub)) (map (λ p. c ∷ p) paths) ≡ flat_map (child_blocks node_sizes branch) paths
  branch_blocks [] = refl
  branch_blocks (p ∷ paths) =
      ap₂ (λ xs ys. xs ++ ys)
      (ap (child_blocks_of node_sizes (attached m c branch sub) (c ∷ p)) (attach_here m c sub branch c p refl) ∙ moved p (branch p))
      (branch_blocks paths)

module _ {T : Type 0} where
  abbrev pub cells_of : (List ℕ → Option Node) → List ℕ → List (UsedBlock (Option T))
  cells_of sub = value_blocks cell_sizes sub no_value

  same_cells : (p q : List ℕ) (o : Option Node) → ◌≡◌ {A = List (UsedBlock (Option T))} (value_blocks_of cell_sizes no_value p o) (value_blocks_of cell_sizes no_value q o)
  same_cells p q None = refl
  same_cells p q (Some k) = refl

  pub branch_cells : (m : Node) (c : ℕ) (sub branch : List ℕ → Option Node) (paths : List (List ℕ)) →
      flat_map (cells_of (attached m c branch sub)) (map (λ p. c ∷ p) paths) ≡ flat_map (cells_of branch) paths
  branch_cells m c sub branch [] = refl
  branch_cells m c sub branch (p ∷ paths) =
      ap₂ (λ xs ys. xs ++ ys)
      (ap (value_blocks_of cell_sizes no_value (c ∷ p)) (attach_here m c sub branch c p refl) ∙ same_cells (c ∷ p) p (branch p))
      (branch_cells m c sub branch paths)

-- ---- the paths after the first

module _ (n : Node) (sub : List ℕ → Option Node) (rest : List (List ℕ)) (h : AreNodesFrom n sub ([] ∷ rest)) where
  not_first : times [] rest ≡ 0
  not_first =
      let own : one_if (same_path [] []) ≡ 1 = ap one_if (same_path-itself []) in
      let was : one_if (same_path [] []) + times [] rest ≡ 1 = h.listed [] ∙ ap (λ o. one_if (is_some o)) h.top in
      omega (arith, own, was)

  is_there_too : (c : ℕ) (p : List ℕ) → 0 < times (c ∷ p) rest → is_some (sub (c ∷ p)) ≡ true
  is_there_too c p there = from-one (is_some (sub (c ∷ p))) (times (c ∷ p) ([] ∷ rest)) (h.listed (c ∷ p)) (omega (arith, there))

  -- what is the same at each path after the first
  pub rest_same : {Y : Type 0} (f g : List ℕ → List Y) → ((c : ℕ) (p : List ℕ) → is_some (sub (c ∷ p)) ≡ true → g (c ∷ p) ≡ f (c ∷ p)) →
      flat_map g rest ≡ flat_map f rest
  rest_same f g same = flat_map_same f g rest by
    where
      by : (q : List ℕ) → 0 < times q rest → g q ≡ f q
      by [] there = absurd (omega (arith, there, not_first))
      by (c ∷ p) there = same c p (is_there_too c p there)

  -- nothing is below a child that is not there
  pub none_below : (c : ℕ) → has_bit n.child_bitmap c ≡ false → (p : List ℕ) → sub (c ∷ p) ≡ None
  none_below c clear =
      snoc_ind (λ p. sub (c ∷ p) ≡ None)
      (is_none-None (sub (c ∷ [])) (h.linked [] c ∙ ap (λ o. has_child o c) h.top ∙ clear))
      (λ p e ih. is_none-None (sub (c ∷ (p ++ e ∷ []))) (h.linked (c ∷ p) e ∙ ap (λ o. has_child o e) ih))

  -- if there is no child, there is no path after the first
  pub no_rest : ((c : ℕ) → has_bit n.child_bitmap c ≡ false) → rest ≡ []
  no_rest bare = by rest (λ q. none q)
    where
      by : (paths : List (List ℕ)) → ((q : List ℕ) → times q paths ≡ 0) → paths ≡ []
      by [] never = refl
      by (x ∷ paths) never =
          let one : one_if (same_path x x) ≡ 1 = ap one_if (same_path-itself x) in
          absurd (let z = never x in omega (arith, one, z))

      none : (q : List ℕ) → times q rest ≡ 0
      none [] = not_first
      none (c ∷ p) =
          let gone : one_if (is_some (sub (c ∷ p))) ≡ 0 = ap (λ o. one_if (is_some o)) (none_below c (bare c) p) in
          omega (arith, h.listed (c ∷ p), gone)
