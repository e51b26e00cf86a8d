-- A stack of spots, read from its end.
use Rattle.prefix_trie_table.proofs.Prelude.{◌≡◌, ℕ, ◌+◌, ◌*◌, ◌<◌, ◌≤◌, Bool, List, [], ◌∷◌, ◌++◌, length, take, Some, refl, ap, sym, ◌∙◌, subst, arith, length-append, drop, get_or, Less, AllByRecursion, take-take, drop-take, get_or_append_left, to_come, Entries, listing_at_places, Spot, chunks_of, read, Node, IsSpot, IsPlaceOf, IsStackFrom, IsStack, depth_of, start, still, pending, IsOther, IsPassed, ArePassed, All-nil, All-cons, All-head, All-tail, All-push, listing_cmp, listing-refl}
use Rattle.std.specs.List.{All}
use Rattle.prefix_trie_table.proofs.Walk.Levels.{from_last-done, from_last-entry, from_last-popped, from_last-push, from_last-child, levels-at, levels-child, levels-push, levels-put}

-- a spot of as many levels as another
pub spot_as : {width : ℕ} {nodes : List Node} {key other : List Bool} {p q : Spot} (i : IsSpot width nodes key p) → q.depth ≡ p.depth → p.depth ≤ length other →
    read nodes (chunks_of (take q.depth other)) ≡ Some i.node → q.node ≡ p.node → All (IsPlaceOf q.node) (to_come q.places) → IsSpot width nodes other q
spot_as i same long is_there same_node each = record {
  node = i.node;
  level = i.level;
  depth_is = same ∙ i.depth_is;
  within = (let h = i.within in omega (arith, h, same));
  long = omega (arith, long, same);
  is_there = is_there;
  node_is = same_node ∙ i.node_is;
  each = each;
}

-- a spot serves for another key with the same bits down to it
moves : (width : ℕ) (nodes : List Node) (key other : List Bool) (p : Spot) → IsSpot width nodes key p → p.depth ≤ length other → take p.depth other ≡ take p.depth key →
    IsSpot width nodes other p
moves width nodes key other p i long same = spot_as i refl long (ap (λ s. read nodes (chunks_of s)) same ∙ i.is_there) refl i.each

still-same : {T : Type 0} (m : Entries T) (key other : List Bool) (p : Spot) → take p.depth other ≡ take p.depth key → still m other p ≡ still m key p
still-same m key other p same = ap (λ s. listing_at_places m s (to_come p.places)) same

module _ {T : Type 0} (m : Entries T) (key : List Bool) where
  pub pending-push : (ps : List Spot) (p : Spot) → pending m key (ps ++ p ∷ []) ≡ still m key p ++ pending m key ps
  pending-push = from_last-push (still m key)

module _ (width : ℕ) (nodes : List Node) (key : List Bool) where
  pub cursor-push : (n : ℕ) (ps : List Spot) (p : Spot) → IsStackFrom width nodes n key ps → p.depth ≡ n + 5 * length ps → IsSpot width nodes key p →
      IsStackFrom width nodes n key (ps ++ p ∷ [])
  cursor-push = levels-push depth_of (IsSpot width nodes key)

  -- spots are a stack from whatever depth they start
  pub restart : (n : ℕ) (ps : List Spot) → IsStackFrom width nodes n key ps → IsStack width nodes key ps
  restart n [] h = tt
  restart n (p ∷ ps) h = subst (λ k. IsStackFrom width nodes k key (p ∷ ps)) (sym h.0) h

module _ (all below : List Spot) (p : Spot) (popped : all ≡ below ++ p ∷ []) where
  module _ {T : Type 0} (m : Entries T) (key : List Bool) where
    pub pending-popped : pending m key all ≡ still m key p ++ pending m key below
    pending-popped = from_last-popped (still m key) all below p popped

    pub pending-entry : (q : Spot) (e : List Bool × T) → still m key p ≡ e ∷ still m key q → pending m key all ≡ e ∷ pending m key (below ++ q ∷ [])
    pending-entry = from_last-entry (still m key) all below p popped

    pub pending-done : still m key p ≡ [] → pending m key below ≡ pending m key all
    pending-done = from_last-done (still m key) all below p popped

  module _ (width : ℕ) (nodes : List Node) (key : List Bool) (stack : IsStack width nodes key all) where
    pub cursor-at : IsStackFrom width nodes (start all) key below × (p.depth ≡ start all + 5 * length below) × IsSpot width nodes key p
    cursor-at = levels-at depth_of (IsSpot width nodes key) (start all) all below p popped stack

    pub stack-popped : IsStack width nodes key below
    stack-popped = restart width nodes key (start all) below cursor-at.0

    -- there is space to put the spot back
    pub stack-space : width ≤ 128 → length below < 26
    stack-space small = let w = cursor-at.2.within in omega (arith, w, cursor-at.1, small)

    -- the spot is put back as q
    pub stack-put : (q : Spot) → q.depth ≡ p.depth → IsSpot width nodes key q → IsStack width nodes key (below ++ q ∷ [])
    stack-put q d i = restart width nodes key (start all) (below ++ q ∷ []) (levels-put depth_of (IsSpot width nodes key) (start all) all below p popped stack q d i)

-- the last spot p of these has become q, and c, with a key of its own, is above it
module _ (width : ℕ) (nodes : List Node) (key other : List Bool) (all below : List Spot) (p q c : Spot) (popped : all ≡ below ++ p ∷ [])
    (stack : IsStack width nodes key all) (depth : q.depth ≡ p.depth) (is_q : IsSpot width nodes key q)
    (deeper : c.depth ≡ p.depth + 5) (is_c : IsSpot width nodes other c) (same : take p.depth other ≡ take p.depth key) where
  reach : p.depth ≤ length other
  reach = let l = is_c.long in omega (arith, l, deeper)

  pub stack-child_search_path : IsStack width nodes other ((below ++ q ∷ []) ++ c ∷ [])
  stack-child_search_path =
      restart width nodes other (start all) ((below ++ q ∷ []) ++ c ∷ [])
      (levels-child depth_of (IsSpot width nodes) (moves width nodes) take-take key other (start all) all below p q c popped stack depth is_q deeper is_c reach same)

  pub pending-child_search_path : {T : Type 0} (m : Entries T) → still m key p ≡ still m other c ++ still m key q →
      pending m other ((below ++ q ∷ []) ++ c ∷ []) ≡ pending m key all
  pending-child_search_path m =
      from_last-child depth_of (IsSpot width nodes) (moves width nodes) take-take key other (start all) all below p q c popped stack depth is_q deeper is_c reach same
      (still m) (still-same m key other)

-- ---- the child that leads from a spot of a walk to the next one is no longer to come

-- what is after a string is another
pub others_after : (s : List Bool) (ss : List (List Bool)) → AllByRecursion (λ t. listing_cmp s t ≡ Less) ss → All (IsOther s) ss
others_after s [] h = All-nil (IsOther s)
others_after s (t ∷ ss) h = All-cons (IsOther s) t ss (λ e. let less : listing_cmp s s ≡ Less = ap (listing_cmp s) (sym e) ∙ h.0 in let tie = listing-refl s in cc) (others_after s ss h.1)

module _ (key : List Bool) where
  pub passed-below : (all below : List Spot) (p : Spot) → all ≡ below ++ p ∷ [] → ArePassed key all → All (IsPassed key) below
  passed-below all below p e h k d l =
      subst (IsPassed key) (ap (λ ps. get_or ps k d) e ∙ get_or_append_left below (p ∷ []) d k l)
      (h k d (omega arith) (omega (arith, l, ap length e, length-append below (p ∷ []))))

  pub passed-above : (all below : List Spot) (p : Spot) → all ≡ below ++ p ∷ [] → All (IsPassed key) below → ArePassed key all
  passed-above all below p e h k d low high =
      let l : k < length below = omega (arith, high, ap length e, length-append below (p ∷ [])) in
      subst (IsPassed key) (sym (ap (λ ps. get_or ps k d) e ∙ get_or_append_left below (p ∷ []) d k l)) (h k d l)

  -- the last spot is taken off
  pub passed-popped : (all below : List Spot) (p : Spot) → all ≡ below ++ p ∷ [] → ArePassed key all → ArePassed key below
  passed-popped all below p e h k d low high = passed-below all below p e h k d (omega (arith, high))

-- a key that has the same bits as far as the deepest spot goes serves as well
module _ (width : ℕ) (nodes : List Node) (key other : List Bool) where
  passed-search_path : (d : ℕ) → take d other ≡ take d key → (n : ℕ) (ps : List Spot) → n + 5 * length ps ≤ d → IsStackFrom width nodes n key ps →
      All (IsPassed key) ps → All (IsPassed other) ps
  passed-search_path d same n [] h t p = All-nil (IsPassed other)
  passed-search_path d same n (q ∷ qs) h t p =
      All-cons (IsPassed other) q qs
      (subst (λ c. All (IsOther c) (to_come q.places)) (sym (child q.depth (omega (arith, h, t.0)))) (All-head (IsPassed key) q qs p))
      (passed-search_path d same (n + 5) qs (omega (arith, h)) t.2 (All-tail (IsPassed key) q qs p))
    where
      child : (k : ℕ) → k + 5 ≤ d → take 5 (drop k other) ≡ take 5 (drop k key)
      child k l =
          sym (drop-take k 5 other)
          ∙ ap (drop k) (sym (take-take (k + 5) d other l) ∙ ap (take (k + 5)) same ∙ take-take (k + 5) d key l)
          ∙ drop-take k 5 key

  -- the last spot p has become q, and its child c is put above it
  pub passed-child : (all below : List Spot) (p q c : Spot) → all ≡ below ++ p ∷ [] → IsStack width nodes key all → take p.depth other ≡ take p.depth key →
      IsPassed other q → ArePassed key all → ArePassed other ((below ++ q ∷ []) ++ c ∷ [])
  passed-child all below p q c is stack same behind h =
      let at = cursor-at all below p is width nodes key stack in
      passed-above other ((below ++ q ∷ []) ++ c ∷ []) (below ++ q ∷ []) c refl
      (All-push (IsPassed other) below q (passed-search_path p.depth same (start all) below (omega (arith, at.1)) at.0 (passed-below key all below p is h)) behind)
