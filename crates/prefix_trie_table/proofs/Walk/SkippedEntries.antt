-- A walk drops the entries whose keys begin with a given key: for `next_outermost`.
use Rattle.prefix_trie_table.proofs.Prelude.{◌≡◌, ℕ, ◌+◌, ◌*◌, ◌≤◌, Bool, true, false, not, cond, ◌&&◌, nat_lt, List, [], ◌∷◌, ◌++◌, length, take, drop, filter, refl, sym, ap, ap₂, ◌∙◌, subst, arith, length-append, length-drop, take-add, take-take, filter-append, All-head, All-tail, All-weaker, All-filter, begins, same_bool, begins-length, begins-linear, begins-trans, begins-same-length, begins-from-rest, take-begins, to_come, Entries, listing_at_places, each, Node, Spot, chunks_of, read, IsSpot, IsPlaceOf, IsStackFrom, IsStack, IsOther, IsPassed, ArePassed, EndsLast, SkipsLast, start, still, pending}
use Rattle.std.specs.List.{All}
use Rattle.std.proofs.lemmas.Bool.{lt-ltb}
use Rattle.std.proofs.lemmas.List.{take-append-drop, length-take-le}
use Rattle.prefix_trie_table.specs.Walking.Walks.{EndsAt}
use Rattle.prefix_trie_table.proofs.Walk.Stacks.{passed-below, passed-above, spot_as, pending-popped, stack-space, stack-put, cursor-at}
use Rattle.prefix_trie_table.proofs.Strings.Paths.{snoc_inj}
use Rattle.prefix_trie_table.proofs.Walk.Selections.{begins-common, one-match, some-places}

-- ---- at a spot

begins-within : (s t u k : List Bool) → length t ≤ length u → begins (s ++ u) k ≡ true → begins (s ++ t) k ≡ begins t u
begins-within s t u k h e =
    same_bool (begins (s ++ t) k) (begins t u)
    (λ f. sym (begins-common s t u) ∙ begins-linear (s ++ t) (s ++ u) k f e (omega (arith, h, length-append s t, length-append s u)))
    (λ f. begins-trans (s ++ t) (s ++ u) k (begins-common s t u ∙ f) e)

abbrev IsShort : List Bool → Type 0
IsShort t = length t ≤ 5

short-each : (ts : List (List Bool)) → All IsShort ts → each (λ t. nat_lt (length t) 6) ts ≡ true
unfolding each
short-each [] h = refl
short-each (t ∷ ts) h =
    let s : length t ≤ 5 = All-head IsShort t ts h in
    ap₂ (λ x y. x && y) (lt-ltb (length t) 6 (omega (arith, s))) (short-each ts (All-tail IsShort t ts h))

module _ {T : Type 0} (m : Entries T) (s : List Bool) where
  -- the pairs that a string does not begin are those at the places that it does not begin
  stay-places : (t : List Bool) → length t ≤ 5 → (us : List (List Bool)) → All IsShort us →
      listing_at_places m s (filter (λ u. not (begins t u)) us) ≡ filter (λ e. not (begins (s ++ t) e.0)) (listing_at_places m s us)
  stay-places t short us h =
      some-places m s (λ e. not (begins (s ++ t) e.0)) (λ u. not (begins t u))
      (λ u l v. ap not (begins-common s t u)) (λ u five e b. ap not (begins-within s t u e.0 (omega (arith, short, five)) b))
      (λ u. not (begins t u)) (λ u. true) (λ u l. refl) (λ u l e. absurd (cc)) us (short-each us h)

  module _ (c z : List Bool) (five : length c ≡ 5) (search_path : begins (s ++ c) z ≡ true) where
    not-begun : (u : List Bool) → IsShort u → IsOther c u → begins c u ≡ false
    not-begun u h o =
        same_bool (begins c u) false (λ e. absurd (o (sym (begins-same-length c u e (omega (arith, five, h, begins-length c u e)))))) (λ e. cc)

    none-begun : (us : List (List Bool)) → All IsShort us → All (IsOther c) us → filter (λ u. not (begins c u)) us ≡ us
    none-begun [] h o = refl
    none-begun (u ∷ us) h o =
        ap (λ b. cond (not b) (u ∷ filter (λ x. not (begins c x)) us) (filter (λ x. not (begins c x)) us)) (not-begun u (All-head IsShort u us h) (All-head (IsOther c) u us o))
        ∙ ap (λ xs. u ∷ xs) (none-begun us (All-tail IsShort u us h) (All-tail (IsOther c) u us o))

    longer : (k : List Bool) → not (begins (s ++ c) k) ≡ true → not (begins z k) ≡ true
    longer k b =
        ap not (same_bool (begins z k) false (λ e. let f : begins (s ++ c) k ≡ true = begins-trans (s ++ c) z k search_path e in let g : not true ≡ true = ap not (sym f) ∙ b in cc) (λ e. cc))

    -- a string that goes on by c begins nothing at other places
    stay-others : (us : List (List Bool)) → All IsShort us → All (IsOther c) us → filter (λ e. not (begins z e.0)) (listing_at_places m s us) ≡ listing_at_places m s us
    stay-others us h o =
        let all : filter (λ e. not (begins (s ++ c) e.0)) (listing_at_places m s us) ≡ listing_at_places m s us = sym (stay-places c (omega (arith, five)) us h) ∙ ap (listing_at_places m s) (none-begun us h o) in
        ap (filter (λ e. not (begins z e.0))) (sym all)
        ∙ one-match (λ e. not (begins z e.0)) (λ e. not (begins (s ++ c) e.0)) true (λ e b. longer e.0 b) (listing_at_places m s us)
        ∙ all

-- ---- at a stack

-- a stack that is not empty is no longer than levels of a key are
pub few_spots : (width : ℕ) (nodes : List Node) (search_path : List Bool) (ps : List Spot) → width ≤ 128 → IsStack width nodes search_path ps →
    (along path : List Bool) → EndsLast along ps path → length ps ≤ 26
few_spots width nodes search_path ps small stack along path ends =
    let space = stack-space ps ends.below ends.spot ends.is width nodes search_path stack small in
    omega (arith, space, ap length ends.is, length-append ends.below (ends.spot ∷ []))

module _ (width : ℕ) (nodes : List Node) (search_path : List Bool) where
  shorts : (p : Spot) → IsSpot width nodes search_path p → All IsShort (to_come p.places)
  shorts p i = All-weaker (IsPlaceOf p.node) IsShort (λ s h. h.0) (to_come p.places) i.each

  -- a string that goes on deeper begins nothing of what is to come at spots that it has passed
  stay-below : {T : Type 0} (m : Entries T) (z : List Bool) (d : ℕ) → d ≤ length search_path → begins (take d search_path) z ≡ true → (n : ℕ) (ps : List Spot) → n + 5 * length ps ≤ d →
      IsStackFrom width nodes n search_path ps → All (IsPassed search_path) ps →
      filter (λ e. not (begins z e.0)) (pending m search_path ps) ≡ pending m search_path ps
  stay-below m z d inside begun n [] h t o = refl
  stay-below m z d inside begun n (p ∷ ps) h t o =
      filter-append (λ e. not (begins z e.0)) (pending m search_path ps) (still m search_path p)
      ∙ ap₂ (λ xs ys. xs ++ ys) (stay-below m z d inside begun (n + 5) ps (omega (arith, h)) t.2 (All-tail (IsPassed search_path) p ps o))
      (stay-others m (take p.depth search_path) (take 5 (drop p.depth search_path)) z five goes_on (to_come p.places) (shorts p t.1) (All-head (IsPassed search_path) p ps o))
    where
      deeper : p.depth + 5 ≤ d
      deeper = omega (arith, h, t.0)

      five : length (take 5 (drop p.depth search_path)) ≡ 5
      five = length-take-le 5 (drop p.depth search_path) (omega (arith, length-drop p.depth search_path, inside, deeper))

      goes_on : begins (take p.depth search_path ++ take 5 (drop p.depth search_path)) z ≡ true
      goes_on =
          ap (λ s. begins s z) (sym (take-add p.depth 5 search_path) ∙ sym (take-take (p.depth + 5) d search_path deeper))
          ∙ begins-trans (take (p.depth + 5) (take d search_path)) (take d search_path) z (take-begins (p.depth + 5) (take d search_path)) begun

-- what a bit string begins, which ends at the last spot, was dropped there
module _ (width : ℕ) (nodes : List Node) (search_path path : List Bool) (old new : List Spot)
    (stack : IsStack width nodes search_path old) (passed : ArePassed search_path old) (ends : EndsLast search_path old path) (skips : SkipsLast path old new) where
  spot : IsSpot width nodes search_path skips.was
  spot = (cursor-at old skips.below skips.was skips.before width nodes search_path stack).2

  ended : EndsAt search_path skips.was path
  ended = subst (λ p. EndsAt search_path p path) (snoc_inj ends.below skips.below ends.spot skips.was (sym ends.is ∙ skips.before)).1 ends.ends

  spot_left : IsSpot width nodes search_path skips.now
  spot_left =
      let s = skips.skips in
      spot_as spot s.depth_is spot.long (ap (λ d. read nodes (chunks_of (take d search_path))) s.depth_is ∙ spot.is_there) s.node_is
      (subst (λ n. All (IsPlaceOf n) (to_come skips.now.places)) (sym s.node_is)
      (subst (All (IsPlaceOf skips.was.node)) (sym s.left)
      (All-filter (λ u. not (begins (drop skips.was.depth path) u)) (IsPlaceOf skips.was.node) (to_come skips.was.places) spot.each)))

  pub stack_left : IsStack width nodes search_path new
  stack_left =
      subst (IsStack width nodes search_path) (sym skips.after)
      (stack-put old skips.below skips.was skips.before width nodes search_path stack skips.now skips.skips.depth_is spot_left)

  pub passed_left : ArePassed search_path new
  passed_left = passed-above search_path new skips.below skips.now skips.after (passed-below search_path old skips.below skips.was skips.before passed)

  string_is : take skips.was.depth search_path ++ drop skips.was.depth path ≡ path
  string_is = ap (λ s. s ++ drop skips.was.depth path) (sym ended.same_above) ∙ take-append-drop skips.was.depth path

  module _ {T : Type 0} (m : Entries T) where
    still_left : still m search_path skips.now ≡ filter (λ e. not (begins path e.0)) (still m search_path skips.was)
    still_left =
        let short : length (drop skips.was.depth path) ≤ 5 = (let l = ended.last in let w = ended.whole in omega (arith, length-drop skips.was.depth path, l, w)) in
        ap (λ d. listing_at_places m (take d search_path) (to_come skips.now.places)) skips.skips.depth_is
        ∙ ap (listing_at_places m (take skips.was.depth search_path)) skips.skips.left
        ∙ stay-places m (take skips.was.depth search_path) (drop skips.was.depth path) short (to_come skips.was.places) (shorts width nodes search_path skips.was spot)
        ∙ ap (λ z. filter (λ e. not (begins z e.0)) (still m search_path skips.was)) string_is

    below_left : filter (λ e. not (begins path e.0)) (pending m search_path skips.below) ≡ pending m search_path skips.below
    below_left =
        let at = cursor-at old skips.below skips.was skips.before width nodes search_path stack in
        stay-below width nodes search_path m path skips.was.depth spot.long
        (begins-from-rest (take skips.was.depth search_path) path (drop skips.was.depth path) (sym string_is))
        (start old) skips.below (omega (arith, at.1)) at.0 (passed-below search_path old skips.below skips.was skips.before passed)

    pub pending_left : pending m search_path new ≡ filter (λ e. not (begins path e.0)) (pending m search_path old)
    pending_left =
        pending-popped new skips.below skips.now skips.after m search_path
        ∙ ap₂ (λ xs ys. xs ++ ys) still_left (sym below_left)
        ∙ sym (filter-append (λ e. not (begins path e.0)) (still m search_path skips.was) (pending m search_path skips.below))
        ∙ ap (filter (λ e. not (begins path e.0))) (sym (pending-popped old skips.below skips.was skips.before m search_path))
