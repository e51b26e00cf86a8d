-- The matches to come of a cover walk, node by node.
use Rattle.prefix_trie_table.proofs.Prelude.{◌≡◌, ℕ, ◌+◌, ◌-◌, ◌*◌, ◌^◌, ◌<◌, ◌≤◌, Bool, true, false, ◌&&◌, nat_le, List, length, take, drop, Option, None, Some, refl, sym, ap, ◌∙◌, subst, arith, inl, inr, leb-true, length-drop, bit_and, bit_at, le-leb, lt-leb, cases_lt, false≢true, and_le_r, bit_at_above, begins, digits, length-digits, same_bool, begins-take, begins-length, take-begins, has, value_bit, has_first, Sets, HoldsValues, both, bit-set, has-zero, has-and, value_bit-longer, one_of_length, Node, Match, Store, node_sizes, NodesHold, NoneHeld, Reached, IsAlong, IsLast, AreLeft, TakesMatch, TakesShortest, NextHeld, IsCovering, GoesOn, IsCover}
use Rattle.std.proofs.lemmas.List.{length-take-le}
use Rattle.prefix_trie_table.proofs.Strings.SmallFacts.{no_or_yes}
use Rattle.prefix_trie_table.proofs.Lookup.SearchPaths.{path_end}
use Rattle.prefix_trie_table.proofs.Lookup.NodeMatches.{held_is, held_here, none_join, none_past, along_is}

-- three that hold at once
all-three : (a b c : Bool) → a ≡ true → b ≡ true → c ≡ true → (a && (b && c)) ≡ true
all-three a b c e f g = ap (λ x. x && (b && c)) e ∙ ap (λ x. x && c) f ∙ g

each-of : (a b c : Bool) → (a && (b && c)) ≡ true → (a ≡ true) × (b ≡ true) × (c ≡ true)
each-of a b c h =
    let x = both a (b && c) h in
    let y = both b c x.1 in (x.0, y.0, y.1)

second-fails : (a b c : Bool) → b ≡ false → (a && (b && c)) ≡ false
second-fails true b c e = ap (λ x. x && c) e
second-fails false b c e = refl

-- a set bit of a bitmap without bit 31
pub match-small : (m t : ℕ) → m < 2 ^ 31 → bit_at m t ≡ 1 → t < 31
match-small m t small set = elim (cases_lt t 31) [
  | inl l ↦ l
  | inr g ↦ let z : bit_at m t ≡ 0 = bit_at_above m 31 t small g in absurd (omega arith)
]

-- ---- the matches of one node

module _ (level : ℕ) (node : Node) (matches first : ℕ) (q : List Bool) (deep : 5 * level ≤ length q) (low : 5 * level ≤ first) (high : first ≤ 5 * level + 5)
    (left : AreLeft matches node.value_bitmap (5 * level) first q) where
  rest-long : length (drop (5 * level) q) ≡ length q - 5 * level
  rest-long = length-drop (5 * level) q

  -- what is in the node and to come has its match
  match-of : (i : ℕ) → first ≤ i → i < 5 * level + 5 → i ≤ length q → has_first node.value_bitmap (drop (5 * level) q) (i - 5 * level) ≡ true
      → has matches (value_bit (take (i - 5 * level) (drop (5 * level) q))) ≡ true
  match-of i from last within st =
      let s = take (i - 5 * level) (drop (5 * level) q) in
      let long : length s ≡ i - 5 * level = length-take-le (i - 5 * level) (drop (5 * level) q) (omega (arith, rest-long)) in
      left.bits s (omega (arith, long)) ∙ all-three _ _ _ (take-begins (i - 5 * level) (drop (5 * level) q)) (le-leb first (5 * level + length s) (omega (arith, long))) st

  -- no match is left
  pub takes_none : matches ≡ 0 → TakesMatch level node matches first q None
  takes_none e = record {
    later = 5 * level + 5;
    high = omega arith;
    low = high;
    left = record {
      bits = λ s short. ap (λ m. has m (value_bit s)) e ∙ has-zero (value_bit s) ∙ sym (second-fails (begins s (drop (5 * level) q)) _ _ (lt-leb (5 * level + 5) (5 * level + length s) (omega arith)));
      small = left.small;
    };
    next = λ reading is. (
      λ i from last within. held_is q level i (omega arith) within last reading node is
          ∙ no_or_yes _ (λ st. false≢true (sym (has-zero _) ∙ sym (ap (λ m. has m (value_bit (take (i - 5 * level) (drop (5 * level) q)))) e) ∙ match-of i from last within st)),
      λ i from last within. absurd (omega arith),
    );
  }

  -- the lowest match is that of a string of n bits
  module _ (new t n x : ℕ) (short : n ≤ 4) (bit_is : value_bit (digits n x) ≡ t) (set : has matches t ≡ true) (lowest : (i : ℕ) → i < t → bit_at matches i ≡ 0)
      (sets : Sets new t matches) (small : new < 2 ^ 31) where
    own_length : length (digits n x) ≡ n
    own_length = length-digits n x

    own : (begins (digits n x) (drop (5 * level) q) ≡ true) × (nat_le first (5 * level + length (digits n x)) ≡ true) × (has node.value_bitmap (value_bit (digits n x)) ≡ true)
    own = each-of _ _ _ (sym (left.bits (digits n x) (omega (arith, own_length))) ∙ ap (has matches) bit_is ∙ set)

    own_within : n ≤ length (drop (5 * level) q)
    own_within = omega (arith, begins-length (digits n x) (drop (5 * level) q) own.0, own_length)

    own_first : first ≤ 5 * level + n
    own_first = omega (arith, leb-true first (5 * level + length (digits n x)) own.1, own_length)

    -- a shorter one has no match
    none_shorter : (s : List Bool) → length s < n → has matches (value_bit s) ≡ true → ⊥
    none_shorter s shorter is =
        let below : value_bit s < t = omega (arith, bit_is, value_bit-longer s (digits n x) (omega (arith, own_length))) in
        omega (arith, lowest (value_bit s) below, bit-set matches (value_bit s) is)

    -- one that is left is longer
    longer : (s : List Bool) → begins s (drop (5 * level) q) ≡ true → has new (value_bit s) ≡ true → has matches (value_bit s) ≡ true → 5 * level + n + 1 ≤ 5 * level + length s
    longer s begin is was = elim (cases_lt n (length s)) [
      | inl l ↦ omega arith
      | inr g ↦ elim (cases_lt (length s) n) [
        | inl l ↦ absurd (none_shorter s l was)
        | inr h ↦ let same : s ≡ digits n x = one_of_length (drop (5 * level) q) s (digits n x) begin own.0 (omega (arith, own_length)) in
            absurd (false≢true (sym sets.clear ∙ ap (has new) (sym bit_is ∙ ap value_bit (sym same)) ∙ is))
      ]
    ]

    left_is : (s : List Bool) → length s ≤ 4 → has new (value_bit s) ≡ (begins s (drop (5 * level) q) && (nat_le (5 * level + n + 1) (5 * level + length s) && has node.value_bitmap (value_bit s)))
    left_is s few = same_bool _ _
        (λ h.
        let was : has matches (value_bit s) ≡ true = sets.others (value_bit s) (λ e. false≢true (sym sets.clear ∙ ap (has new) (sym e) ∙ h)) ∙ h in
        let each = each-of _ _ _ (sym (left.bits s few) ∙ was) in
        all-three _ _ _ each.0 (le-leb (5 * level + n + 1) (5 * level + length s) (longer s each.0 h was)) each.2)
        (λ h.
        let each = each-of _ _ _ h in
        let more : n < length s = omega (arith, leb-true (5 * level + n + 1) (5 * level + length s) each.1) in
        let above : t < value_bit s = omega (arith, bit_is, value_bit-longer (digits n x) s (omega (arith, own_length))) in
        sym (sets.others (value_bit s) (λ e. omega (arith, e))) ∙ left.bits s few ∙ all-three _ _ _ each.0 (le-leb first (5 * level + length s) (omega (arith, own_first))) each.2)

    pub takes_some : TakesMatch level node new first q (Some (record { len = 5 * level + n; node = node; bit = t }))
    takes_some = record {
      later = 5 * level + n + 1;
      high = omega arith;
      low = omega (arith, own_first);
      left = record { bits = left_is; small = small };
      next = λ reading is. (
        own_first,
        refl,
        held_here q level deep reading node is n t short own_within (sym bit_is ∙ ap value_bit (sym (ap (λ k. take k (drop (5 * level) q)) (sym own_length) ∙ begins-take (digits n x) (drop (5 * level) q) own.0))) (ap (has node.value_bitmap) (sym bit_is) ∙ own.2),
        λ i from last within. held_is q level i (omega arith) within (omega arith) reading node is
            ∙ no_or_yes _ (λ st. none_shorter (take (i - 5 * level) (drop (5 * level) q)) (omega (arith, length-take-le (i - 5 * level) (drop (5 * level) q) (omega (arith, rest-long)))) (match-of i from (omega arith) within st)),
      );
    }

-- the matches of a node, none of which was given yet
pub all_left : (level bitmap mask : ℕ) (q : List Bool) → HoldsValues mask (λ s. begins s (drop (5 * level) q)) → AreLeft (bit_and bitmap mask) bitmap (5 * level) (5 * level) q
all_left level bitmap mask q holds = record {
  bits = λ s short. has-and bitmap mask (value_bit s) ∙ ap (λ b. has bitmap (value_bit s) && b) (holds.bits s short) ∙ turned (has bitmap (value_bit s)) (begins s (drop (5 * level) q)) _ (le-leb (5 * level) (5 * level + length s) (omega arith));
  small = (let h = holds.small in omega (arith, h, and_le_r bitmap mask));
}
  where
    turned : (a b c : Bool) → c ≡ true → (a && b) ≡ (b && (c && a))
    turned true true c e = sym (ap (λ x. x && true) e)
    turned true false c e = refl
    turned false true c e = sym (ap (λ x. x && false) e)
    turned false false c e = refl

-- ---- the descent

-- a walk whose beginnings of `first` bits or more were still to come has passed those without a value
pub record HasReached (q : List Bool) (first : ℕ) (here : Reached) (matches : ℕ) (v : Store Node) : Type 0 where
  pub to : ℕ
  pub is_there : IsCovering q here matches to v
  pub low : first ≤ to
  pub none : (reading : List ℕ → Option Node) (paths : List (List ℕ)) → NodesHold node_sizes reading paths v → NoneHeld reading q first to

-- so it has at its start
pub reached_nowhere : (q : List Bool) (first : ℕ) (here : Reached) (matches : ℕ) (v : Store Node) → IsCovering q here matches first v → HasReached q first here matches v
reached_nowhere q first here matches v at = record { to = first; is_there = at; low = omega arith; none = λ reading paths hold i from last within. absurd (omega arith) }

module _ (q : List Bool) (first : ℕ) (here : Reached) (matches : ℕ) (v : Store Node) (gone : HasReached q first here matches v)
    (new : ℕ) (o : Option Match) (takes : TakesShortest here.level here.node matches new o) where
  taken : TakesMatch here.level here.node new gone.to q o
  taken = takes q gone.to gone.is_there.along.whole gone.is_there.low gone.is_there.high gone.is_there.left

  -- the walk is where it was, with the matches that are left
  stays : IsCovering q here new taken.later v
  stays = record { along = gone.is_there.along; low = (let l = gone.is_there.low in let m = taken.low in omega (arith, l, m)); high = taken.high; left = taken.left }

  taken_next : (reading : List ℕ → Option Node) (paths : List (List ℕ)) → NodesHold node_sizes reading paths v → NextHeld reading q (5 * here.level + 5) gone.to taken.later o
  taken_next reading paths hold = taken.next reading (along_is q here v gone.is_there.along reading paths hold)

-- a match was taken
pub reached_match : (q : List Bool) (first : ℕ) (here : Reached) (matches : ℕ) (v : Store Node) (gone : HasReached q first here matches v)
    (new : ℕ) (m : Match) → TakesShortest here.level here.node matches new (Some m) → GoesOn q here new first (Some m) v
reached_match q first here matches v gone new m takes = record {
  later = (taken q first here matches v gone new (Some m) takes).later;
  is_there = stays q first here matches v gone new (Some m) takes;
  next = λ reading paths hold.
      let next = taken_next q first here matches v gone new (Some m) takes reading paths hold in
      let before = gone.low in
      (omega (arith, before, next.0), next.1, next.2, none_join reading q first gone.to m.len (gone.none reading paths hold) next.3);
}

-- there is none, here and below
pub reached_end : (q : List Bool) (first : ℕ) (here : Reached) (matches : ℕ) (v : Store Node) (gone : HasReached q first here matches v)
    (new : ℕ) → TakesShortest here.level here.node matches new None → IsLast q here v → GoesOn q here new first None v
reached_end q first here matches v gone new takes end = record {
  later = (taken q first here matches v gone new None takes).later;
  is_there = stays q first here matches v gone new None takes;
  next = λ reading paths hold.
      let now = taken_next q first here matches v gone new None takes reading paths hold in
      let past = none_past reading paths v q here.level (length q + 1) hold (path_end q here v end reading paths hold) in (
        none_join reading q first gone.to (length q + 1) (gone.none reading paths hold) (none_join reading q gone.to (5 * here.level + 5) (length q + 1) now.0 past),
        none_join reading q _ (5 * here.level + 5) (length q + 1) now.1 past,
      );
}

-- there is none here, and the walk goes down
pub gone_down : (q : List Bool) (first : ℕ) (here : Reached) (matches : ℕ) (v : Store Node) (gone : HasReached q first here matches v)
    (new : ℕ) → TakesShortest here.level here.node matches new None → (next : Reached) (rest : ℕ) → next.level ≡ here.level + 1
    → IsAlong q next v → AreLeft rest next.node.value_bitmap (5 * next.level) (5 * next.level) q → HasReached q first next rest v
gone_down q first here matches v gone new takes next rest down along left = record {
  to = 5 * next.level;
  is_there = record { along = along; low = omega arith; high = omega arith; left = left };
  low = (let l = gone.low in let h = gone.is_there.high in omega (arith, l, h, down));
  none = λ reading paths hold.
      let now = taken_next q first here matches v gone new None takes reading paths hold in
      let more : 5 * here.level + 5 ≡ 5 * next.level = omega (arith, down) in
      subst (NoneHeld reading q first) more (none_join reading q first gone.to (5 * here.level + 5) (gone.none reading paths hold) now.0);
}

-- a walk begins at the root
pub at_root : (q : List Bool) (here : Reached) (matches : ℕ) (v : Store Node) → IsAlong q here v → AreLeft matches here.node.value_bitmap (5 * here.level) (5 * here.level) q
    → IsCovering q here matches (5 * here.level) v
at_root q here matches v along left = record { along = along; low = omega arith; high = omega arith; left = left }

-- what holds of a walk's fields holds after a step
pub cover_on : {T : Type 0} (q : List Bool) (here next : Reached) (matches rest : ℕ) (o : Option Match) (v : Store Node) (w : Store (Option T)) (at : IsCover q here matches v w)
    → GoesOn q next rest at.first o v → IsCover q next rest v w
cover_on q here next matches rest o v w at gone = record { table = at.table; first = gone.later; is_there = gone.is_there }
