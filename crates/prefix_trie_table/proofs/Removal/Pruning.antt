-- A search path pruned from its end upward.
use Rattle.prefix_trie_table.proofs.Prelude.{◌≡◌, ◌≢◌, ℕ, ◌+◌, ◌<◌, ◌≤◌, inl, inr, true, List, [], ◌∷◌, ◌++◌, length, get_or, take, Option, None, Some, is_some, refl, sym, ap, ◌∙◌, subst, arith, length-append, false≢true, cases_lt, take_more, Node, has_bit, rank, node_at, node_sizes, cell_sizes, Store, tier_sizes, free_counts, NodesHold, CellsHold, IsSlot, at_root, at_child, has_child, is_start, without, own_count, entry_count, with_child_removed, node_or_blank, ShrinksList, MakesEntered, MakesFew, SameValues, IsBare, AreAncestors, GivesBack, ChildDropped, Drops, none, more, PrunedTo, IsAtEnd, slot_in, LongerByOne, free_of, own_children, child_block_size}
use Rattle.std.proofs.lemmas.List.{take_all, length-take-le}
use Rattle.prefix_trie_table.proofs.Removal.ShrinkingLists.{shrinks_none, children_none}
use Rattle.prefix_trie_table.proofs.Strings.BareBitmaps.{no_bit}
use Rattle.prefix_trie_table.proofs.Tree.Children.{changed, changed_below, changed_here, changed_other}
use Rattle.prefix_trie_table.proofs.Counts.EntryCounts.{count_sum}
use Rattle.prefix_trie_table.proofs.Strings.PathSums.{sum_lacking}
use Rattle.prefix_trie_table.proofs.Removal.GrowthBounds.{bounds_growth_none, bounds_growth_then}
use Rattle.prefix_trie_table.proofs.Strings.Beginnings.{is_start_take}
use Rattle.prefix_trie_table.proofs.Tree.Trees.{listed_once, slot_holds}
use Rattle.prefix_trie_table.proofs.Tree.Values.{cells_lacking_child}

-- a node is in its slot if the nodes above it are unchanged
pub slot_stays : (f g : List ℕ → Option Node) (p : List ℕ) (slot : ℕ) → ((q : List ℕ) → length q < length p → g q ≡ f q) → IsSlot f p slot → IsSlot g p slot
slot_stays f g p slot same (at_root) = at_root
slot_stays f g p slot same (at_child r c n is bit) = at_child r c n (same r (omega (arith, length-append r (c ∷ []))) ∙ is) bit

-- a node no deeper than p is in its slot when p gains or loses a child
slots_still : (reading : List ℕ → Option Node) (p : List ℕ) (m : Node) (c : ℕ) (o : Option Node) (q : List ℕ) (s : ℕ) → IsSlot reading q s →
    length q ≤ length p → IsSlot (changed reading p m c o) q s
slots_still reading p m c o q s at short = slot_stays reading (changed reading p m c o) q s (λ r less. changed_other reading p m c o r
    (λ e. let l : length r ≡ length p = ap (λ (xs : List ℕ). length xs) e in omega arith)
    (λ e. let l : length r ≡ length p + 1 = ap (λ (xs : List ℕ). length xs) e ∙ length-append p (c ∷ []) in omega arith)) at

-- what holds while the path is pruned
pub record Pruning (reading : List ℕ → Option Node) (paths : List (List ℕ)) (path : List ℕ) (ancestors : List ℕ) (level : ℕ) (node : Node)
    (before after : Store Node) : Type 0 where
  pub to : PrunedTo reading paths path level node before after
  pub slots : AreAncestors to.later path ancestors level

-- at first nothing is pruned
pub pruning_first : (path : List ℕ) (ancestors : List ℕ) (level : ℕ) (node : Node) (v : Store Node) (s : IsAtEnd path ancestors node v) → level ≡ length path →
    Pruning s.reading s.paths path ancestors level node v v
pruning_first path ancestors level node v s all = record {
  to = record {
    later = s.reading;
    left = s.paths;
    hold = s.hold;
    drops = none;
    within = omega arith;
    is = ap s.reading (take_all level path (omega arith)) ∙ s.is;
    gone = λ k more less. absurd (omega arith);
    above = λ k less. refl;
    off = λ q no. refl;
    whole = λ end. refl;
    shrinks = subst (λ o. ShrinksList MakesFew node_sizes v v (own_children o) (own_children (Some node)) (child_block_size o) (child_block_size (Some node))) (sym (ap s.reading (take_all level path (omega arith)) ∙ s.is))
        (shrinks_none MakesFew node_sizes v v (own_children (Some node)) (child_block_size (Some node)) (children_none (Some node)) refl
        (λ size there. (omega arith, omega arith)));
    bounds_growth = bounds_growth_none v 0;
  };
  slots = subst (AreAncestors s.reading path ancestors) (sym all) s.slots;
}

-- a list lost an item while more blocks are free than before
module _ (u v w : Store Node) (are : tier_sizes v.tiers ≡ node_sizes) (back : GivesBack u v) where
  more_free : (size : ℕ) → free_of node_sizes (free_counts u.tiers) size ≤ free_of node_sizes (free_counts v.tiers) size
  more_free size =
      let f = back.free size in
      let a = ap (λ ns. free_of ns (free_counts v.tiers) size) are in
      let b = ap (λ ns. free_of ns (free_counts u.tiers) size) (sym back.sizes ∙ are) in
      omega (arith, f, a, b)

  shrinks_from : (c d : ℕ) (old new : Option ℕ) → ShrinksList MakesEntered node_sizes v w c d old new → ShrinksList MakesFew node_sizes u w c d old new
  shrinks_from c d old new l = record {
    has = l.has;
    steps = record {
      fewer = l.steps.fewer;
      same = l.steps.same;
      none = l.steps.none;
      one_of = l.steps.one_of;
      smallest = λ size less some is one. l.steps.smallest size less some is (let f = more_free size in omega (arith, f, one));
    };
    grows = record {
      longer = elim l.grows.longer as (λ _. LongerByOne node_sizes (free_counts u.tiers) old new (length u.slots) (length w.slots)) [
        | inl same ↦ inl (same ∙ back.none.space.0)
        | inr (size, is, other, empty, long) ↦ inr (size, is, other, (let f = more_free size in omega (arith, f, empty)), long ∙ ap (λ n. n + size) back.none.space.0)
      ];
      made = λ size there.
          let m = l.grows.made size there in
          let b = back.none.made size in
          let f = more_free size in
          (omega (arith, m, b), omega (arith, m, b, f));
    };
  }

module _ (reading : List ℕ → Option Node) (paths : List (List ℕ)) (path : List ℕ) (ancestors : List ℕ) (level : ℕ) (node : Node)
    (before v : Store Node) (p : Pruning reading paths path ancestors (level + 1) node before v) where
  -- the parent's path, the step from there, and the slot
  abbrev up : List ℕ
  up = take level path

  abbrev step : ℕ
  step = get_or path level 0

  inside : level < length path
  inside = (let w = p.to.within in omega arith)

  path_is : take (level + 1) path ≡ take level path ++ get_or path level 0 ∷ []
  path_is = take_more path level 0 inside

  below_is : p.to.later (take level path ++ get_or path level 0 ∷ []) ≡ Some node
  below_is = ap p.to.later (sym path_is) ∙ p.to.is

  -- the parent has this child
  parent_has : has_child (p.to.later (take level path)) (get_or path level 0) ≡ true
  parent_has = sym (p.to.hold.linked (take level path) (get_or path level 0)) ∙ ap is_some below_is

  pub parent : Node
  parent = node_or_blank (p.to.later (take level path))

  parent_some : (o : Option Node) (c : ℕ) → has_child o c ≡ true → o ≡ Some (node_or_blank o)
  parent_some None c h = absurd (false≢true h)
  parent_some (Some n) c h = refl

  pub parent_is : p.to.later (take level path) ≡ Some (node_or_blank (p.to.later (take level path)))
  parent_is = parent_some (p.to.later (take level path)) (get_or path level 0) parent_has

  pub parent_slot : IsSlot p.to.later (take level path) (slot_in ancestors level)
  parent_slot = p.slots level (omega arith)

  -- its node in the array has the child's bit
  pub parent_bit : has_bit (node_at v.slots (slot_in ancestors level)).child_bitmap (get_or path level 0) ≡ true
  parent_bit =
      let at = slot_holds node_sizes p.to.later p.to.left v p.to.hold (take level path) (slot_in ancestors level) _ parent_slot parent_is in
      ap (λ (n : Node). has_bit n.child_bitmap (get_or path level 0)) at.0 ∙ ap (λ o. has_child o (get_or path level 0)) (sym parent_is) ∙ parent_has

  long : (k : ℕ) → k ≤ length path → length (take k path) ≡ k
  long k h = length-take-le k path h

  -- one more is pruned
  pub pruning_more : (c : ℕ) (m : Node) (w : Store Node) → c ≡ get_or path level 0 → IsBare node → GivesBack before v →
      ((f : List ℕ → Option Node) (ps : List (List ℕ)) (q : List ℕ) (n leaf : Node) → NodesHold node_sizes f ps v → IsSlot f q (slot_in ancestors level) →
      f q ≡ Some n → f (q ++ c ∷ []) ≡ Some leaf → rank leaf.child_bitmap 32 ≡ 0 → ChildDropped f ps q c n m v w) →
      Pruning reading paths path ancestors level m before w
  pruning_more c m w digit bare back dropped =
      let there : p.to.later (take level path ++ c ∷ []) ≡ Some node = ap (λ d. p.to.later (take level path ++ d ∷ [])) digit ∙ below_is in
      let one : ChildDropped p.to.later p.to.left (take level path) c (node_or_blank (p.to.later (take level path))) m v w =
      dropped p.to.later p.to.left (take level path) (node_or_blank (p.to.later (take level path))) node p.to.hold parent_slot parent_is there bare.no_children in
      let was : reading (take level path) ≡ Some (node_or_blank (p.to.later (take level path))) = sym (p.to.above level (omega arith)) ∙ parent_is in
      let end : take (level + 1) path ≡ take level path ++ c ∷ [] = path_is ∙ ap (λ d. take level path ++ d ∷ []) (sym digit) in
      let not_up : (k : ℕ) → k ≤ length path → k ≢ level → take k path ≢ take level path = λ k h ne e.
      ne (let a = long k h in let b = long level (let i = inside in omega arith) in let l : length (take k path) ≡ length (take level path) = ap (λ (xs : List ℕ). length xs) e in omega arith) in
      let not_end : (k : ℕ) → k ≤ length path → k ≢ level + 1 → take k path ≢ take level path ++ c ∷ [] = λ k h ne e.
      ne (let a = long k h in let b = long (level + 1) (let i = inside in omega arith) in
      let l : length (take k path) ≡ length (take (level + 1) path) = ap (λ (xs : List ℕ). length xs) (e ∙ sym end) in omega arith) in
      record {
        to = record {
          later = with_child_removed p.to.later (take level path) m c;
          left = without (take level path ++ c ∷ []) p.to.left;
          hold = one.hold;
          drops = more p.to.later p.to.left v (take level path) c (node_or_blank (p.to.later (take level path))) m node p.to.drops p.to.hold parent_is there bare one.values;
          within = (let i = inside in omega arith);
          is = changed_here p.to.later (take level path) m c None (take level path) refl;
          gone = λ k deeper h. fall k deeper h m c end (not_up k h (λ e. omega arith)) (not_end k h);
          above = λ k less.
              let h : k ≤ length path = (let i = inside in omega arith) in
              changed_other p.to.later (take level path) m c None (take k path) (not_up k h (λ e. omega arith)) (not_end k h (λ e. omega arith))
              ∙ p.to.above k (omega arith);
          off = λ q no.
              changed_other p.to.later (take level path) m c None q
              (λ e. false≢true (sym no ∙ ap (λ x. is_start x path) e ∙ is_start_take level path))
              (λ e. false≢true (sym no ∙ ap (λ x. is_start x path) (e ∙ sym end) ∙ is_start_take (level + 1) path))
              ∙ p.to.off q no;
          whole = λ end. absurd (let i = inside in omega arith);
          shrinks = subst (λ o. ShrinksList MakesFew node_sizes before w (own_children o) (own_children (Some m)) (child_block_size o) (child_block_size (Some m))) (sym was)
              (shrinks_from before v w p.to.hold.sizes_are back _ _ _ _ one.shrinks);
          bounds_growth = bounds_growth_then before v w 0 0 0 p.to.bounds_growth one.bounds_growth;
        };
        slots = λ k h.
            slots_still p.to.later (take level path) m c None (take k path) (slot_in ancestors k) (p.slots k (omega arith))
            (let a = long k (let i = inside in omega arith) in let b = long level (let i = inside in omega arith) in omega arith);
      }
    where
      fall : (k : ℕ) → level < k → k ≤ length path → (m : Node) (c : ℕ) → take (level + 1) path ≡ take level path ++ c ∷ [] →
          take k path ≢ take level path → (k ≢ level + 1 → take k path ≢ take level path ++ c ∷ []) →
          with_child_removed p.to.later (take level path) m c (take k path) ≡ None
      fall k deeper h m c end not_up not_end = elim (cases_lt (level + 1) k) as (λ _. with_child_removed p.to.later (take level path) m c (take k path) ≡ None) [
        | inl more_deep ↦ changed_other p.to.later (take level path) m c None (take k path) not_up (not_end (λ e. omega arith)) ∙ p.to.gone k more_deep h
        | inr last ↦
            let e : k ≡ level + 1 = omega arith in
            changed_below p.to.later (take level path) m c None (take k path) (ap (λ i. take i path) e ∙ end)
      ]

-- ---- what such changes leave of the values

module _ {T : Type 0} (values : List ℕ → ℕ → Option T) (w : Store (Option T)) where
  -- the cells hold the values that they held
  pub drops_cells : (reading : List ℕ → Option Node) (paths : List (List ℕ)) (later : List ℕ → Option Node) (left : List (List ℕ)) → Drops reading paths later left →
      CellsHold cell_sizes reading values paths w → CellsHold cell_sizes later values left w
  drops_cells reading paths later left (none) cells = cells
  drops_cells reading paths later left (more f ps v p c n m leaf drops hold is below bare same) cells =
      cells_lacking_child cell_sizes node_sizes f ps v hold values w (drops_cells reading paths f ps drops cells) p n m is same.bitmap same.block
      same.tier c leaf below (λ i. no_bit leaf.value_bitmap i bare.no_values)

count_lacking : (f : List ℕ → Option Node) (ps : List (List ℕ)) (v : Store Node) (p : List ℕ) (c : ℕ) (n m leaf : Node) → NodesHold node_sizes f ps v →
    f p ≡ Some n → f (p ++ c ∷ []) ≡ Some leaf → IsBare leaf → SameValues n m →
    entry_count (with_child_removed f p m c) (without (p ++ c ∷ []) ps) ≡ entry_count f ps
count_lacking f ps v p c n m leaf hold is below bare same =
    let change = sum_lacking own_count f ps p c n m leaf is below (listed_once node_sizes f ps v hold p n is)
    (listed_once node_sizes f ps v hold (p ++ c ∷ []) leaf below) in
    let nothing = bare.no_values in
    let as_many : rank m.value_bitmap 32 ≡ rank n.value_bitmap 32 = ap (λ b. rank b 32) same.bitmap in
    omega (arith, count_sum (with_child_removed f p m c) (without (p ++ c ∷ []) ps), count_sum f ps, change, nothing, as_many)

-- the nodes left have as many entries
pub drops_count : (reading : List ℕ → Option Node) (paths : List (List ℕ)) (later : List ℕ → Option Node) (left : List (List ℕ)) → Drops reading paths later left →
    entry_count later left ≡ entry_count reading paths
drops_count reading paths later left (none) = refl
drops_count reading paths later left (more f ps v p c n m leaf drops hold is below bare same) = count_lacking f ps v p c n m leaf hold is below bare same ∙ drops_count reading paths f ps drops
