-- What a loop that changes each value by a function of the old one has done so far: for `rewrite_laws`.
use Rattle.prefix_trie.proofs.Prelude.{◌≡◌, ℕ, ◌<◌, Bool, true, false, cond, ◌||◌, ◌&&◌, List, [], ◌∷◌, length, map, Option, None, Some, is_some, is_lt, is_eq, Ordering, Less, Equal, Greater, refl, sym, ap, ◌∙◌, subst, arith, true≢false, list_any, option_map, get, contains_key-keys, entries_sorted, is_sorted, below_all, listing_cmp, same_string, Entries, with_entry, listing, and-first, and-second, or-right, get-with_entry, is-same_string, same_string-is, same_entries, sorted-head, sorted-tail, t-true, true-t, Contents, bare, sorted_mapped, MapCursor, keys_left, IsFirst, GoesOver, ComesToEnd, StartsIn, ReturnsMap, PassesIn, EndsIn, FirstIn, left_at_start, left_behind, none_left, keyed, AreOrdered, is_left, Rewrites, RewritesIn, OrderedIn}
use lib.Dec.{T as IsT}
use Rattle.std.specs.Borrow.{MutBor}
use Rattle.std.specs.declared.cmp.PartialEq as partial
use Rattle.std.specs.declared.fmt.Debug as debug
use Rattle.prefix_trie_bits.specs.declared.prefix.Prefix as prefix
use Rattle.prefix_trie_bits.specs.declared.prefix.Key as key

-- a key that is before all keys of a list is not in it
apart : (k : List Bool) (ks : List (List Bool)) → IsT (below_all listing_cmp k (map keyed ks)) → list_any (same_string k) ks ≡ false
apart k [] h = refl
apart k (x ∷ ks) h =
    let both = t-true (is_lt (listing_cmp k x) && below_all listing_cmp k (map keyed ks)) h in
    let later = and-second (is_lt (listing_cmp k x)) (below_all listing_cmp k (map keyed ks)) both in
    at (listing_cmp k x) (and-first (is_lt (listing_cmp k x)) (below_all listing_cmp k (map keyed ks)) both) (apart k ks (true-t (below_all listing_cmp k (map keyed ks)) later))
  where
    at : (o : Ordering) → is_lt o ≡ true → list_any (same_string k) ks ≡ false → (is_eq o || list_any (same_string k) ks) ≡ false
    at Less e rest = rest
    at Equal e rest = absurd (true≢false (sym e))
    at Greater e rest = absurd (true≢false (sym e))

-- the keys of a listing are in order
pub listing_ordered : {T : Type 0} (m : Entries T) → AreOrdered (map (λ e. e.0) (listing m))
listing_ordered {T} m =
    subst (λ es. IsT (is_sorted listing_cmp es)) (sym (again (listing m)))
    (true-t (is_sorted listing_cmp (map bare (listing m))) (sorted_mapped bare (λ e. refl) (listing m) ∙ t-true (is_sorted listing_cmp (listing m)) (entries_sorted m)))
  where
    again : (es : List (List Bool × T)) → map keyed (map (λ e. e.0) es) ≡ map bare es
    again [] = refl
    again (e ∷ es) = ap (λ xs. keyed e.0 ∷ xs) (again es)

-- a map after each of its values was changed
pub record RewritesMap {T : Type 0} (f : T → T) (m n : MutBor (Contents T)) : Type 0 where
  pub same_map : n.ghost_name ≡ m.ghost_name
  pub values : (s : List Bool) → get n.now.entries s ≡ option_map f (get m.now.entries s)
  pub others : n.now ≡ record m.now { entries = n.now.entries }

module _ {P T A R : Type 0} {p : prefix.Ghosts P R} {shows : debug.Ghosts P} {k : key.Ghosts R} {same : partial.Ghosts R} {writes : debug.Ghosts R} where
  -- how many entries are still to come
  abbrev pub left_in : Option (MapCursor P T A R p shows k same writes) → ℕ
  left_in None = 0
  left_in (Some c) = length (keys_left c)

  -- a walk over a whole map starts with all keys to come, in order
  pub starts_ordered : (m : MutBor (Contents T)) (o : Option (MapCursor P T A R p shows k same writes)) → StartsIn m (listing m.now.entries) o → OrderedIn o
  starts_ordered m None starts = absurd starts
  starts_ordered m (Some c) starts = subst AreOrdered (sym (left_at_start m _ c starts)) (listing_ordered m.now.entries)

  -- a walk at its end changes nothing
  pub only_once : (f g : T → T) (c d e : MapCursor P T A R p shows k same writes) → Rewrites f c d → Rewrites g d e → e.map.now ≡ d.map.now
  only_once f g c d e first second =
      let m = d.map.now.entries in
      second.others
      ∙ ap (λ es. record d.map.now { entries = es })
      (same_entries e.map.now.entries m (λ s. second.values s ∙ ap (λ ks. cond (list_any (same_string s) ks) (option_map g (get m s)) (get m s)) first.ended))

module _ {P T A R : Type 0} {p : prefix.Ghosts P R} {shows : debug.Ghosts P} {k : key.Ghosts R} {same : partial.Ghosts R} {writes : debug.Ghosts R} (f : T → T) where
  -- exactly the entries that were to come and are not any more have new values
  pub record HasRewritten (c d : MapCursor P T A R p shows k same writes) : Type 0 where
    pub same_map : d.map.ghost_name ≡ c.map.ghost_name
    pub ordered : AreOrdered (keys_left d)
    pub part : (s : List Bool) → is_left d s ≡ true → is_left c s ≡ true
    pub values : (s : List Bool) → get d.map.now.entries s ≡ cond (is_left d s) (get c.map.now.entries s) (cond (is_left c s) (option_map f (get c.map.now.entries s)) (get c.map.now.entries s))
    pub others : d.map.now ≡ record c.map.now { entries = d.map.now.entries }

  -- one more value is changed
  rewrites_one : (c d e : MapCursor P T A R p shows k same writes) (q : P) (x : T) → HasRewritten c d → IsFirst d q x → GoesOver d (f x) e → HasRewritten c e
  rewrites_one c d e q x so_far first goes = record {
    same_map = ap (λ (b : MutBor (Contents T)). b.ghost_name) goes.map ∙ so_far.same_map;
    ordered = sorted-tail (keyed goes.key) (map keyed (keys_left e)) sorted;
    part = λ s h. so_far.part s (ap (list_any (same_string s)) behind ∙ or-right (same_string s goes.key) (is_left e s) h);
    values = λ s. ap (λ (b : MutBor (Contents T)). get b.now.entries s) goes.map ∙ get-with_entry d.map.now.entries goes.key (f x) s ∙ at s (same_string s goes.key) refl;
    others =
        ap (λ (b : MutBor (Contents T)). b.now) goes.map
        ∙ ap (λ (m : Contents T). record m { entries = with_entry d.map.now.entries goes.key (f x) }) so_far.others
        ∙ ap (λ (b : MutBor (Contents T)). record c.map.now { entries = b.now.entries }) (sym goes.map);
  }
    where
      behind : keys_left d ≡ goes.key ∷ keys_left e
      behind = left_behind d e (f x) goes

      sorted : IsT (is_sorted listing_cmp (map keyed (goes.key ∷ keys_left e)))
      sorted = subst AreOrdered behind so_far.ordered

      key_is : first.0 ≡ goes.key
      key_is = let both = sym first.2.0 ∙ behind in cc

      left_before : is_left d goes.key ≡ true
      left_before = ap (list_any (same_string goes.key)) behind ∙ ap (λ b. b || is_left e goes.key) (is-same_string goes.key goes.key refl)

      stored : Some x ≡ get c.map.now.entries goes.key
      stored =
          sym first.4 ∙ ap (get d.map.now.entries) key_is ∙ so_far.values goes.key
          ∙ ap (λ b. cond b (get c.map.now.entries goes.key) (cond (is_left c goes.key) (option_map f (get c.map.now.entries goes.key)) (get c.map.now.entries goes.key))) left_before

      out : is_left e goes.key ≡ false
      out = apart goes.key (keys_left e) (sorted-head (keyed goes.key) (map keyed (keys_left e)) sorted)

      here : Some (f x) ≡ cond (is_left e goes.key) (get c.map.now.entries goes.key) (cond (is_left c goes.key) (option_map f (get c.map.now.entries goes.key)) (get c.map.now.entries goes.key))
      here =
          ap (option_map f) stored
          ∙ sym (λ i. cond (out i) (get c.map.now.entries goes.key) (cond (so_far.part goes.key left_before i) (option_map f (get c.map.now.entries goes.key)) (get c.map.now.entries goes.key)))

      at : (s : List Bool) (b : Bool) → same_string s goes.key ≡ b → cond b (Some (f x)) (get d.map.now.entries s)
          ≡ cond (is_left e s) (get c.map.now.entries s) (cond (is_left c s) (option_map f (get c.map.now.entries s)) (get c.map.now.entries s))
      at s true is =
          subst (λ r. Some (f x) ≡ cond (is_left e r) (get c.map.now.entries r) (cond (is_left c r) (option_map f (get c.map.now.entries r)) (get c.map.now.entries r)))
          (sym (same_string-is s goes.key is)) here
      at s false is =
          so_far.values s
          ∙ ap (λ b. cond b (get c.map.now.entries s) (cond (is_left c s) (option_map f (get c.map.now.entries s)) (get c.map.now.entries s)))
          (ap (list_any (same_string s)) behind ∙ ap (λ b. b || is_left e s) is)

  rewrites_all : (c d e : MapCursor P T A R p shows k same writes) → HasRewritten c d → ComesToEnd d e → Rewrites f c e
  rewrites_all c d e so_far ends = record {
    same_map = ap (λ (b : MutBor (Contents T)). b.ghost_name) ends.map ∙ so_far.same_map;
    values = λ s. ap (λ (b : MutBor (Contents T)). get b.now.entries s) ends.map ∙ so_far.values s
        ∙ ap (λ ks. cond (list_any (same_string s) ks) (get c.map.now.entries s) (cond (is_left c s) (option_map f (get c.map.now.entries s)) (get c.map.now.entries s))) (ends.ends None).0;
    others = subst (λ (b : MutBor (Contents T)). b.now ≡ record c.map.now { entries = b.now.entries }) (sym ends.map) so_far.others;
    ended = none_left d e ends;
  }

  -- the same for a walk that may have no map
  abbrev pub HasRewrittenIn : Option (MapCursor P T A R p shows k same writes) → Option (MapCursor P T A R p shows k same writes) → Type 0
  HasRewrittenIn None None = Unit {0}
  HasRewrittenIn None (Some d) = ⊥
  HasRewrittenIn (Some c) None = ⊥
  HasRewrittenIn (Some c) (Some d) = HasRewritten c d

  pub goes_on_rewriting : (start o n : Option (MapCursor P T A R p shows k same writes)) (x : T) → HasRewrittenIn start o → ((q : P) × FirstIn IsFirst o q x) →
      PassesIn GoesOver o (f x) n → HasRewrittenIn start n × (left_in n < left_in o)
  goes_on_rewriting start None n x so_far first goes = absurd goes
  goes_on_rewriting start (Some d) None x so_far first goes = absurd goes
  goes_on_rewriting None (Some d) (Some e) x so_far first goes = absurd so_far
  goes_on_rewriting (Some c) (Some d) (Some e) x so_far first goes =
      (rewrites_one c d e first.0 x so_far first.1 goes, shorter (keys_left d) (keys_left e) goes.key (left_behind d e (f x) goes))
    where
      shorter : (xs ys : List (List Bool)) (y : List Bool) → xs ≡ y ∷ ys → length ys < length xs
      shorter xs ys y same = omega (arith, ap length same)

  pub ends_rewriting : (start o n : Option (MapCursor P T A R p shows k same writes)) → HasRewrittenIn start o → EndsIn ComesToEnd o n → RewritesIn f start n
  ends_rewriting None None None so_far ends = tt
  ends_rewriting None None (Some e) so_far ends = absurd ends
  ends_rewriting None (Some d) n so_far ends = absurd so_far
  ends_rewriting (Some c) None n so_far ends = absurd so_far
  ends_rewriting (Some c) (Some d) None so_far ends = absurd ends
  ends_rewriting (Some c) (Some d) (Some e) so_far ends = rewrites_all c d e so_far ends

  -- the map that the walk returns at its end, after each value was changed
  pub rewritten : (m : MutBor (Contents T)) (o d : Option (MapCursor P T A R p shows k same writes)) (n : MutBor (Contents T)) →
      StartsIn m (listing m.now.entries) o → RewritesIn f o d → ReturnsMap d (Some n) → RewritesMap f m n
  rewritten m None d n starts done back = absurd starts
  rewritten m (Some c) None n starts done back = absurd back
  rewritten m (Some c) (Some d) n starts done back = record {
    same_map = back.0 ∙ done.same_map ∙ starts.same_map;
    values = λ s. ap (λ (x : Contents T). get x.entries s) back.1
        ∙ done.values s ∙ ap (λ (x : Contents T). cond (is_left c s) (option_map f (get x.entries s)) (get x.entries s)) starts.map
        ∙ ap (λ b. cond b (option_map f (get m.now.entries s)) (get m.now.entries s)) (ap (list_any (same_string s)) (left_at_start m _ c starts) ∙ sym (contains_key-keys m.now.entries s))
        ∙ at (get m.now.entries s);
    others = back.1 ∙ done.others ∙ (λ i. record (starts.map i) { entries = (sym back.1 i).entries });
  }
    where
      at : (o : Option T) → cond (is_some o) (option_map f o) o ≡ option_map f o
      at None = refl
      at (Some x) = refl
