-- The arrays after a value or a child is removed.
use Rattle.prefix_trie_table.proofs.Prelude.{◌≡◌, ℕ, zero, suc, ◌+◌, ◌-◌, ◌<◌, ◌≤◌, true, List, [], ◌∷◌, ◌++◌, length, set, remove, map, flat_map, Option, None, Some, refl, sym, ap, ◌∙◌, subst, arith, Contains, same_Some, none-some, Sets, StepsDown, LongerByOne, made_of, goes_up, has_some, sizes_to, Node, BlockRef, has_bit, bits, rank, blank_node, node_at, node_sizes, cell_sizes, Store, UsedBlock, Sound, block, held, HasList, Keeps, Turnover, tier_at, tier_sizes, size_in, size_if_any, list_size, free_counts, made_in, without, child_items, child_blocks, IsSlot, NodesHold, CellsHold, value_blocks, with_node, with_child_removed, node_or_blank, LosesOne, SameChildren, SameValues, ShrinksList, MakesEntered, ValueTaken, ChildDropped, GivesBack, headroom_if_any, child_headroom, Grows}
use Rattle.std.proofs.lemmas.List.{length-set}
use Rattle.prefix_trie_table.specs.OwnBlocks.{child_block_size, value_block_size}
use Rattle.prefix_trie_table.proofs.Strings.BareBitmaps.{no_bit, cleared, others_stay, one_fewer}
use Rattle.prefix_trie_table.proofs.Strings.BitLists.{rank-all}
use Rattle.prefix_trie_table.proofs.Tree.Children.{child_removed, node_changed}
use Rattle.prefix_trie_table.proofs.Blocks.Soundness.{fits_block, tier_of_block}
use Rattle.prefix_trie_table.proofs.Removal.ShrinkingLists.{all_spaces, shrinks_list_few, shrinks_down, longer_by_one, gives_back}
use Rattle.prefix_trie_table.proofs.Removal.GrowthBounds.{child_bounds_growth}
use Rattle.prefix_trie_table.proofs.Blocks.BySize.{size_at, size_among, size_some, tiers_long}
use Rattle.prefix_trie_table.proofs.Tree.Trees.{own_first, slot_holds, held_some}
use Rattle.prefix_trie_table.proofs.Blocks.Turnovers.{made_turned}
use Rattle.prefix_trie_table.proofs.Tree.Values.{values_first, value_removed}

-- ---- by how much an array grows when a list loses an item

-- a list is in a block of one of the seven tiers, which holds it
pub held_fits : {S : Type 0} (vacant : S) (v : Store S) (k start count : ℕ) (sizes : List ℕ) → tier_sizes v.tiers ≡ sizes → length sizes ≡ 7 → HasList vacant v k start count →
    0 < count → (k < 7) × (count ≤ size_in sizes k)
held_fits vacant v k start count sizes sizes_are seven list some =
    let s : Sound vacant (block k start list.size list.items ∷ list.live) v = subst (λ bs. Sound vacant (bs ++ list.live) v) (held_some k start list.size list.items (let e = list.is_count in omega arith)) list.sound in
    let of = tier_of_block vacant (block k start list.size list.items) list.live v s in
    let fits : length list.items ≤ list.size = fits_block vacant (block k start list.size list.items) list.live v s in
    let tiers : length v.tiers ≡ 7 = tiers_long v.tiers sizes sizes_are ∙ seven in
    let size : list.size ≡ size_in sizes k = of.size_is ∙ size_at v.tiers k ∙ ap (λ ns. size_in ns k) sizes_are in
    ((let x = of.within in omega arith), (let e = list.is_count in omega arith))

-- what is left of an array after a list of so many items, at `start` in a block of tier k, lost the
-- one at an offset and moved to `next` in a block of tier `to`
pub record Lost {S : Type 0} (vacant : S) (sizes : List ℕ) (v w : Store S) (k start count offset to next : ℕ) : Type 0 where
  pub keeps : Keeps v w
  pub grows : Grows v w 24
  pub back : count ≤ 1 → GivesBack v w
  pub shrinks : (left : ℕ) → left + 1 ≡ count → ShrinksList MakesEntered sizes v w count left (size_if_any count (size_in sizes k)) (size_if_any left (size_in sizes to))
  pub down : (left : ℕ) → left + 1 ≡ count → length w.slots + headroom_if_any (size_if_any left (size_in sizes to)) ≤
      length v.slots + headroom_if_any (size_if_any count (size_in sizes k))
  pub sound : (n : ℕ) (xs : List S) (live : List (UsedBlock S)) → Sound vacant (held k start n xs ++ live) v → length xs ≡ count →
      Sound vacant (held to next (tier_at v.tiers to).size (remove xs offset) ++ live) w

-- a call that removes an item of a list and returns where the list is then
module _ {S : Type 0} (vacant : S) (v w : Store S) (k start count offset : ℕ) (next : BlockRef) (top : ℕ) (are : tier_sizes v.tiers ≡ sizes_to top)
    (up : goes_up 0 (sizes_to top) ≡ true) (rooms : all_spaces (sizes_to top) ≡ true) (list : HasList vacant v k start count) (some : 0 < count) (within : next.tier < length v.tiers)
    (loses : LosesOne v w count (list_size v.tiers k count) (list_size v.tiers next.tier (count - 1))) where
  -- its block, and what became of the array then
  from_block : Turnover v w (made_of (tier_sizes v.tiers) (free_counts v.tiers) (Some (size_in (tier_sizes v.tiers) k)) (list_size v.tiers next.tier (count - 1)))
      (Some (size_in (tier_sizes v.tiers) k)) (list_size v.tiers next.tier (count - 1))
  from_block =
      subst (λ o. Turnover v w (made_of (tier_sizes v.tiers) (free_counts v.tiers) o (list_size v.tiers next.tier (count - 1))) o (list_size v.tiers next.tier (count - 1)))
      (size_some count (size_in (tier_sizes v.tiers) k) some) loses.turnover

  shrinks_one : ShrinksList MakesEntered (sizes_to top) v w count (count - 1) (size_if_any count (size_in (sizes_to top) k)) (size_if_any (count - 1) (size_in (sizes_to top) next.tier))
  shrinks_one = record {
    has = λ less.
        let fits = held_fits vacant v k start count (sizes_to top) are refl list some in
        has_some (sizes_to top) count (size_if_any count (size_in (sizes_to top) k)) (size_in (sizes_to top) k) some (size_some count (size_in (sizes_to top) k) some)
        (size_among (sizes_to top) k fits.0) fits.1;
    steps = subst (λ ns. StepsDown ns (free_counts v.tiers) count (count - 1) (size_if_any count (size_in ns k)) (size_if_any (count - 1) (size_in ns next.tier))) are loses.steps;
    grows = record {
      longer = subst (λ ns. LongerByOne ns (free_counts v.tiers) (size_if_any count (size_in ns k)) (size_if_any (count - 1) (size_in ns next.tier)) (length v.slots) (length w.slots)) are
          (subst (λ o. LongerByOne (tier_sizes v.tiers) (free_counts v.tiers) o (list_size v.tiers next.tier (count - 1)) (length v.slots) (length w.slots))
          (sym (size_some count (size_in (tier_sizes v.tiers) k) some))
          (longer_by_one v w (size_in (tier_sizes v.tiers) k) (list_size v.tiers next.tier (count - 1)) (ap (goes_up 0) are ∙ up) among from_block));
      made = λ size there. loses.turnover.made_is size
          ∙ ap (λ ns. made_in v.tiers size + made_of ns (free_counts v.tiers) (size_if_any count (size_in ns k)) (size_if_any (count - 1) (size_in ns next.tier)) size) are;
    };
  }
    where
      among : (n : ℕ) → list_size v.tiers next.tier (count - 1) ≡ Some n → Contains (tier_sizes v.tiers) n
      among n is = of (count - 1) is
        where
          of : (c : ℕ) → size_if_any c (size_in (tier_sizes v.tiers) next.tier) ≡ Some n → Contains (tier_sizes v.tiers) n
          of zero e = absurd (none-some n e)
          of (suc c) e = subst (Contains (tier_sizes v.tiers)) (same_Some (size_in (tier_sizes v.tiers) next.tier) n e)
              (size_among (tier_sizes v.tiers) next.tier (let l = tiers_long v.tiers (tier_sizes v.tiers) refl in omega (arith, l, within)))

  few_more : Grows v w 24
  few_more = record {
    first_is = loses.turnover.keeps.first_is;
    limit_is = loses.turnover.keeps.limit_is;
    longer = loses.turnover.keeps.longer;
    at_most = shrinks_list_few top v w count (count - 1) _ _ shrinks_one (omega (arith, some));
    within = loses.turnover.keeps.within;
    made = made_turned v w _ _ _ loses.turnover;
  }

  pub lost_one : ((n : ℕ) (xs : List S) (live : List (UsedBlock S)) → Sound vacant (held k start n xs ++ live) v → length xs ≡ count →
      Sound vacant (held next.tier next.start (tier_at v.tiers next.tier).size (remove xs offset) ++ live) w)
      → (n at : ℕ) → count ≡ n → offset ≡ at → Lost vacant (sizes_to top) v w k start n at next.tier next.start
  lost_one sound n at same is =
      subst (λ x. Lost vacant (sizes_to top) v w k start x at next.tier next.start) same
      (subst (λ x. Lost vacant (sizes_to top) v w k start count x next.tier next.start) is (record {
        keeps = loses.turnover.keeps;
        grows = few_more;
        back = λ few. gives_back v w (size_in (tier_sizes v.tiers) k) (list_size v.tiers next.tier (count - 1))
            (ap (λ c. size_if_any c (size_in (tier_sizes v.tiers) next.tier)) (let e : count - 1 ≡ 0 = omega (arith, few) in e)) from_block;
        shrinks = λ left one. subst (λ l. ShrinksList MakesEntered (sizes_to top) v w count l (size_if_any count (size_in (sizes_to top) k)) (size_if_any l (size_in (sizes_to top) next.tier)))
            (let e : count - 1 ≡ left = omega (arith, one) in e) shrinks_one;
        down = λ left one. subst (λ l. length w.slots + headroom_if_any (size_if_any l (size_in (sizes_to top) next.tier)) ≤ length v.slots + headroom_if_any (size_if_any count (size_in (sizes_to top) k)))
            (let e : count - 1 ≡ left = omega (arith, one) in e) (shrinks_down (sizes_to top) v w count (count - 1) _ _ up shrinks_one rooms refl (omega (arith, some)));
        sound = sound;
      }))

-- ---- the reading of the arrays after a value is gone

-- a node with another list of values, and with another of children
abbrev pub with_values : Node → ℕ → ℕ → ℕ → Node
with_values k bitmap start tier = record k { value_bitmap = bitmap; value_block = start; value_tier = tier }

abbrev pub with_children : Node → ℕ → ℕ → ℕ → Node
with_children k bitmap start tier = record k { child_bitmap = bitmap; child_block = start; child_tier = tier }

-- the value is missing in the list without it, and in the node written with it
pub values_taken : {T : Type 0} (v v2 : Store Node) (w u : Store (Option T)) (slot b tier start bitmap : ℕ) (k : Node) → k ≡ node_at v.slots slot → Sets bitmap b k.value_bitmap
    → Lost None cell_sizes w u k.value_tier k.value_block (rank k.value_bitmap 32) (rank k.value_bitmap b) tier start
    → b < 31 → has_bit k.value_bitmap b ≡ true → v2 ≡ record v { slots = set v.slots slot (with_values k bitmap start tier) }
    → (reading : List ℕ → Option Node) (paths : List (List ℕ)) (values : List ℕ → ℕ → Option T) (p : List ℕ) (n : Node) →
    NodesHold node_sizes reading paths v → CellsHold cell_sizes reading values paths w → IsSlot reading p slot → reading p ≡ Some n
    → ValueTaken reading paths values p b n (with_values k bitmap start tier) v2 w u
values_taken {T} v v2 w u slot b tier start bitmap k read sets lost small there v2_is reading paths values p n hold cells is_there is =
    let at = slot_holds node_sizes reading paths v hold p slot n is_there is in
    let same : k ≡ n = read ∙ at.0 in
    let here : reading p ≡ Some k = is ∙ ap Some (sym same) in
    let size : (tier_at w.tiers tier).size ≡ size_in cell_sizes tier = size_at w.tiers tier ∙ ap (λ ns. size_in ns tier) cells.sizes_are in
    let digit : b < 32 = omega arith in
    let fewer_here : rank bitmap 32 + 1 ≡ rank k.value_bitmap 32 = one_fewer bitmap k.value_bitmap b sets digit in
    let live : List (UsedBlock (Option T)) = flat_map (value_blocks cell_sizes reading values) (without p paths) in
    let left = lost.sound (size_in cell_sizes k.value_tier) (map (values p) (bits k.value_bitmap)) live
    (values_first cell_sizes node_sizes reading paths v hold values w cells p k here) (rank-all (values p) k.value_bitmap) in
    record {
      hold = subst (λ y. NodesHold node_sizes (with_node reading p (with_values k bitmap start tier)) paths y) (sym v2_is)
          (node_changed node_sizes reading paths v hold p slot k (with_values k bitmap start tier) is_there here refl refl refl);
      cells = value_removed cell_sizes node_sizes reading paths v hold values w cells p k (with_values k bitmap start tier) b None here
          (others_stay bitmap k.value_bitmap b sets digit) (cleared bitmap k.value_bitmap b sets digit) small u digit there refl (lost.keeps.sizes ∙ cells.sizes_are)
          (subst (λ size. Sound None (held tier start size (remove (map (values p) (bits k.value_bitmap)) (rank k.value_bitmap b)) ++ live) u) size left);
      fewer = fewer_here ∙ ap (λ (y : Node). rank y.value_bitmap 32) same;
      children = subst (λ (y : Node). SameChildren y (with_values k bitmap start tier)) same (record { bitmap = refl; block = refl; tier = refl });
      shrinks = subst (λ (y : Node). ShrinksList MakesEntered cell_sizes w u (rank y.value_bitmap 32) (rank bitmap 32) (value_block_size (Some y)) (size_if_any (rank bitmap 32) (size_in cell_sizes tier))) same
          (lost.shrinks (rank bitmap 32) fewer_here);
    }

-- ---- the reading of the arrays after a child is gone

-- the child is missing in the list without it, and in the node written with it
pub children_dropped : (v u v2 : Store Node) (slot c tier start bitmap : ℕ) (k : Node) → k ≡ node_at v.slots slot → Sets bitmap c k.child_bitmap
    → Lost blank_node node_sizes v u k.child_tier k.child_block (rank k.child_bitmap 32) (rank k.child_bitmap c) tier start
    → c < 32 → v2 ≡ record u { slots = set u.slots slot (with_children k bitmap start tier) }
    → (reading : List ℕ → Option Node) (paths : List (List ℕ)) (p : List ℕ) (n leaf : Node) →
    NodesHold node_sizes reading paths v → IsSlot reading p slot → reading p ≡ Some n → reading (p ++ c ∷ []) ≡ Some leaf →
    rank leaf.child_bitmap 32 ≡ 0
    → ChildDropped reading paths p c n (with_children k bitmap start tier) v v2
children_dropped v u v2 slot c tier start bitmap k read sets lost digit v2_is reading paths p n leaf hold is_there is below bare =
    let at = slot_holds node_sizes reading paths v hold p slot n is_there is in
    let same : k ≡ n = read ∙ at.0 in
    let here : reading p ≡ Some k = is ∙ ap Some (sym same) in
    let size : (tier_at v.tiers tier).size ≡ size_in node_sizes tier = size_at v.tiers tier ∙ ap (λ ns. size_in ns tier) hold.sizes_are in
    let live : List (UsedBlock Node) = flat_map (child_blocks node_sizes reading) (without p paths) in
    let left = lost.sound (size_in node_sizes k.child_tier) (child_items reading p k.child_bitmap) live
    (own_first node_sizes reading paths v hold p k here) (rank-all (λ d. node_or_blank (reading (p ++ d ∷ []))) k.child_bitmap) in
    let fewer_here : rank bitmap 32 + 1 ≡ rank k.child_bitmap 32 = one_fewer bitmap k.child_bitmap c sets digit in
    let long : length v2.slots ≡ length u.slots = ap (λ (y : Store Node). length y.slots) v2_is ∙ length-set u.slots slot (with_children k bitmap start tier) in
    let later = subst (λ y. NodesHold node_sizes (with_child_removed reading p (with_children k bitmap start tier) c) (without (p ++ c ∷ []) paths) y) (sym v2_is)
    (child_removed node_sizes reading paths v hold p slot k (with_children k bitmap start tier) leaf c u is_there here digit below (λ i. no_bit leaf.child_bitmap i bare)
    (cleared bitmap k.child_bitmap c sets digit) (others_stay bitmap k.child_bitmap c sets digit)
    (lost.keeps.first_is ∙ hold.first_is) (lost.keeps.sizes ∙ hold.sizes_are) (lost.keeps.before 0 blank_node (let f = hold.first_is in omega arith))
    (subst (λ size. Sound blank_node (held tier start size (remove (child_items reading p k.child_bitmap) (rank k.child_bitmap c)) ++ live) u) size left)) in
    record {
      hold = later;
      values = subst (λ (y : Node). SameValues y (with_children k bitmap start tier)) same (record { bitmap = refl; block = refl; tier = refl });
      fewer = fewer_here ∙ ap (λ (y : Node). rank y.child_bitmap 32) same;
      shrinks = subst (λ (y : Node). ShrinksList MakesEntered node_sizes v v2 (rank y.child_bitmap 32) (rank bitmap 32) (child_block_size (Some y)) (size_if_any (rank bitmap 32) (size_in node_sizes tier))) same
          (let l = lost.shrinks (rank bitmap 32) fewer_here in record {
            has = l.has;
            steps = l.steps;
            grows = record {
              longer = subst (λ n. LongerByOne node_sizes (free_counts v.tiers) (child_block_size (Some k)) (size_if_any (rank bitmap 32) (size_in node_sizes tier)) (length v.slots) n) (sym long) l.grows.longer;
              made = subst (λ (y : Store Node). MakesEntered node_sizes v y (child_block_size (Some k)) (size_if_any (rank bitmap 32) (size_in node_sizes tier))) (sym v2_is) l.grows.made;
            };
          });
      bounds_growth = child_bounds_growth reading paths v v2 p c n (with_children k bitmap start tier) leaf hold is below later (ap (λ (y : Node). value_block_size (Some y)) same)
          (let down = lost.down (rank bitmap 32) fewer_here in let was : child_headroom k ≡ child_headroom n = ap child_headroom same in omega (arith, down, long, was));
    }
