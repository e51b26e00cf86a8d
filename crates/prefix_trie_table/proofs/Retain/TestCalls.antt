-- Calling a test on the entries of some places of a node, and then on those of others, is calling it on the entries of
-- all of them.
use Rattle.prefix_trie_table.proofs.Prelude.{◌≡◌, ◌+◌, ◌≤◌, take, drop, length-drop, take-append-drop, Bool, true, false, cond, ◌||◌, nat_lt, List, [], ◌∷◌, ◌++◌, length, None, is_some, refl, sym, ap, ap₂, ◌∙◌, subst, arith, inl, inr, append_assoc, length-append, Less, AllByRecursion, All-head, All-tail, IsStrictlySortedBy, false≢true, cases_lt, le-ltb, append_cancel_left, list_any-append, get, entries, begins, begins-append, begins-refl, begins-rest, begins-from-rest, begins-length, begins-trans, begins-linear, begins-same-length, listing_cmp, same_string, RetainsEntriesTo, CallableOnEachEntry, Entries, part_below, listing_below, pair_of, listing_at_place, listing_at_places, State, or-cases, or-left, or-right, same_string-is, is-same_string, get-part_below, same_entries, entries-retained, not_itself, is_at, is_at_some, is_under, is_under_some, Needs, AsksUpTo, Retains, or_parts}
use Rattle.std.specs.List.{All}
use Rattle.std.proofs.lemmas.Bool.{lt-ltb}
use Rattle.std.proofs.lemmas.Grind.{flat_map-append}
use Rattle.std.proofs.lemmas.List.{length-take-le}
use Rattle.prefix_trie_table.proofs.Strings.SmallFacts.{no_or_yes}

-- `b || false` is true only if b is
pub only_one : (b : Bool) → (b || false) ≡ true → b ≡ true
only_one true h = refl
only_one false h = h

-- ---- which strings are at a place

pub at_value : (s t q : List Bool) → length t ≤ 4 → is_at s t q ≡ same_string q (s ++ t)
at_value s t q short = ap (λ c. cond c (same_string q (s ++ t)) (begins (s ++ t) q)) (lt-ltb (length t) 5 (omega arith))

pub at_child : (s t q : List Bool) → length t ≡ 5 → is_at s t q ≡ begins (s ++ t) q
at_child s t q five = ap (λ c. cond c (same_string q (s ++ t)) (begins (s ++ t) q)) (le-ltb (length t) 5 (omega arith))

pub under_value : (s t q : List Bool) → length t ≤ 4 → is_under s t q ≡ false
under_value s t q short = ap (λ c. cond c false (begins (s ++ t) q)) (lt-ltb (length t) 5 (omega arith))

pub under_child : (s t q : List Bool) → length t ≡ 5 → is_under s t q ≡ begins (s ++ t) q
under_child s t q five = ap (λ c. cond c false (begins (s ++ t) q)) (le-ltb (length t) 5 (omega arith))

-- what begins with a string under a place is at the place
under_at : (s t q k : List Bool) → is_under s t q ≡ true → begins q k ≡ true → is_at s t k ≡ true
under_at s t q k = go (nat_lt (length t) 5)
  where
    go : (b : Bool) → cond b false (begins (s ++ t) q) ≡ true → begins q k ≡ true → cond b (same_string k (s ++ t)) (begins (s ++ t) k) ≡ true
    go true h e = absurd (false≢true h)
    go false h e = begins-trans (s ++ t) q k h e

pub under_at_some : (s : List Bool) (ts : List (List Bool)) (q k : List Bool) → is_under_some s ts q ≡ true → begins q k ≡ true → is_at_some s ts k ≡ true
under_at_some s [] q k h e = absurd (false≢true h)
under_at_some s (t ∷ ts) q k h e = elim (or-cases (is_under s t q) (is_under_some s ts q) h) as (λ _. (is_at s t k || is_at_some s ts k) ≡ true) [
  | inl here ↦ or-left (is_at s t k) (is_at_some s ts k) (under_at s t q k here e)
  | inr rest ↦ later (is_at s t k) (under_at_some s ts q k rest e)
]
  where
    later : (b : Bool) → is_at_some s ts k ≡ true → (b || is_at_some s ts k) ≡ true
    later true h = refl
    later false h = h

-- what is at a place begins with the place's string, and so with the node's
pub at_goes_on : (s t k : List Bool) → is_at s t k ≡ true → begins (s ++ t) k ≡ true
at_goes_on s t k = go (nat_lt (length t) 5)
  where
    go : (b : Bool) → cond b (same_string k (s ++ t)) (begins (s ++ t) k) ≡ true → begins (s ++ t) k ≡ true
    go true h = subst (λ x. begins (s ++ t) x ≡ true) (sym (same_string-is k (s ++ t) h)) (begins-refl (s ++ t))
    go false h = h

pub at_begins : (s t q : List Bool) → is_at s t q ≡ true → begins s q ≡ true
at_begins s t q h = begins-trans s (s ++ t) q (begins-append s t) (at_goes_on s t q h)

-- what is at some places is at one of them
pub at_some_one : (P : List Bool → Type 0) (s : List Bool) (ts : List (List Bool)) (q : List Bool) → All P ts → is_at_some s ts q ≡ true →
    (t : List Bool) × P t × (is_at s t q ≡ true)
at_some_one P s [] q all h = absurd (false≢true h)
at_some_one P s (t ∷ ts) q all h = elim (or-cases (is_at s t q) (is_at_some s ts q) h) as (λ _. (t : List Bool) × P t × (is_at s t q ≡ true)) [
  | inl here ↦ (t, All-head P t ts all, here)
  | inr later ↦ at_some_one P s ts q (All-tail P t ts all) later
]

-- the five bits that follow c in a longer string q
pub five_further : (c q : List Bool) → begins c q ≡ true → length c + 5 ≤ length q →
    (length (take 5 (drop (length c) q)) ≡ 5) × (begins (c ++ take 5 (drop (length c) q)) q ≡ true)
five_further c q below longer = (
  length-take-le 5 (drop (length c) q) (omega (arith, length-drop (length c) q, longer)),
  begins-from-rest (c ++ take 5 (drop (length c) q)) q (drop 5 (drop (length c) q))
      (begins-rest c q below ∙ ap (λ r. c ++ r) (sym (take-append-drop 5 (drop (length c) q)))
      ∙ sym (append_assoc c (take 5 (drop (length c) q)) (drop 5 (drop (length c) q)))),
)

-- a string is at one place of a node only
pub one_place : (s t u q : List Bool) → length t ≤ 5 → length u ≤ 5 → is_at s t q ≡ true → is_at s u q ≡ true → t ≡ u
one_place s t u q short_t short_u ht hu = append_cancel_left s t u (elim (cases_lt (length t) 5) as (λ _. s ++ t ≡ s ++ u) [
  | inl lt ↦
      let qt : q ≡ s ++ t = same_string-is q (s ++ t) (sym (at_value s t q (omega arith)) ∙ ht) in
      elim (cases_lt (length u) 5) as (λ _. s ++ t ≡ s ++ u) [
        | inl lu ↦ sym qt ∙ same_string-is q (s ++ u) (sym (at_value s u q (omega arith)) ∙ hu)
        | inr gu ↦
            let five : length u ≡ 5 = omega arith in
            let long = begins-length (s ++ u) q (sym (at_child s u q five) ∙ hu) in
            absurd (omega (arith, long, ap length qt, length-append s t, length-append s u, lt, five))
      ]
  | inr gt ↦
      let five : length t ≡ 5 = omega arith in
      let bt : begins (s ++ t) q ≡ true = sym (at_child s t q five) ∙ ht in
      elim (cases_lt (length u) 5) as (λ _. s ++ t ≡ s ++ u) [
        | inl lu ↦
            let qu : q ≡ s ++ u = same_string-is q (s ++ u) (sym (at_value s u q (omega arith)) ∙ hu) in
            let long = begins-length (s ++ t) q bt in
            absurd (omega (arith, long, ap length qu, length-append s t, length-append s u, lu, five))
        | inr gu ↦
            let also : length u ≡ 5 = omega arith in
            let bu : begins (s ++ u) q ≡ true = sym (at_child s u q also) ∙ hu in
            let same : length (s ++ t) ≡ length (s ++ u) = omega (arith, length-append s t, length-append s u, five, also) in
            begins-same-length (s ++ t) (s ++ u) (begins-linear (s ++ t) (s ++ u) q bt bu (omega (arith, same))) same
      ]
])

-- no string is at the first of some places in listing order and also at a later one
less_apart : (s t : List Bool) (ts : List (List Bool)) (q : List Bool) → length t ≤ 5 → All (λ u. length u ≤ 5) ts → AllByRecursion (λ u. listing_cmp t u ≡ Less) ts →
    is_at s t q ≡ true → is_at_some s ts q ≡ true → ⊥
less_apart s t [] q short all less here later = false≢true later
less_apart s t (u ∷ ts) q short all less here later = elim (or-cases (is_at s u q) (is_at_some s ts q) later) as (λ _. ⊥) [
  | inl now ↦ not_itself t u less.0 (one_place s t u q short (All-head (λ x. length x ≤ 5) u ts all) here now)
  | inr rest ↦ less_apart s t ts q short (All-tail (λ x. length x ≤ 5) u ts all) less.1 here rest
]

pub apart_first : (s t : List Bool) (ts : List (List Bool)) (q : List Bool) → length t ≤ 5 → All (λ u. length u ≤ 5) ts →
    IsStrictlySortedBy listing_cmp (t ∷ ts) → is_at s t q ≡ true → is_at_some s ts q ≡ true → ⊥
unfolding IsStrictlySortedBy
apart_first s t ts q short all sorted = less_apart s t ts q short all sorted.0

-- ---- what the listing has at places

module _ {T : Type 0} where
  -- what is listed under a string depends only on the entries there
  pub below_same : (m n : Entries T) (q : List Bool) → ((k : List Bool) → begins q k ≡ true → get m k ≡ get n k) → listing_below m q ≡ listing_below n q
  below_same m n q same =
      sym (entries-retained m (begins q))
      ∙ ap entries (same_entries (part_below m q) (part_below n q) (λ k. get-part_below m q k ∙ by k (begins q k) refl ∙ sym (get-part_below n q k)))
      ∙ entries-retained n (begins q)
    where
      by : (k : List Bool) (b : Bool) → begins q k ≡ b → cond b (get m k) None ≡ cond b (get n k) None
      by k true e = same k e
      by k false e = refl

  -- what is listed at a place depends only on the entries there
  pub place_same : (m n : Entries T) (s t : List Bool) → ((k : List Bool) → is_at s t k ≡ true → get m k ≡ get n k) → listing_at_place m s t ≡ listing_at_place n s t
  place_same m n s t = go (nat_lt (length t) 5)
    where
      go : (b : Bool) → ((k : List Bool) → cond b (same_string k (s ++ t)) (begins (s ++ t) k) ≡ true → get m k ≡ get n k) →
          cond b (pair_of (s ++ t) (get m (s ++ t))) (listing_below m (s ++ t)) ≡ cond b (pair_of (s ++ t) (get n (s ++ t))) (listing_below n (s ++ t))
      go true same = ap (pair_of (s ++ t)) (same (s ++ t) (is-same_string (s ++ t) (s ++ t) refl))
      go false same = below_same m n (s ++ t) same

  pub places_same : (m n : Entries T) (s : List Bool) (ts : List (List Bool)) → ((k : List Bool) → is_at_some s ts k ≡ true → get m k ≡ get n k) →
      listing_at_places m s ts ≡ listing_at_places n s ts
  places_same m n s [] same = refl
  places_same m n s (t ∷ ts) same =
      ap₂ (λ a b. a ++ b) (place_same m n s t (λ k h. same k (or-left (is_at s t k) (is_at_some s ts k) h)))
      (places_same m n s ts (λ k h. same k (or-right (is_at s t k) (is_at_some s ts k) h)))

-- ---- the calls

module _ {F T : Type 0} (may_return : F → List Bool → T → Bool → F → Type 0) (accepts : F → List Bool → T → Type 0) where
  -- for no places there are no calls
  pub none_asked : (s : List Bool) (f : F) (x : State T) → Retains may_return accepts s [] f x f x
  none_asked s f x = record {
    kept = [];
    asked = λ rest later g h. h;
    up_to = refl;
    may_ask = λ rest h. h;
    stays = refl;
    others = λ q h. refl;
    fewer = λ q h. h;
    off = λ q h. refl;
    needed = λ q h. absurd (false≢true h);
  }

  -- the calls on some entries and then on others are the calls on all of them
  up_to_both : (f g h : F) (es rest : List (List Bool × T)) → AsksUpTo may_return f es g → AsksUpTo may_return g rest h → AsksUpTo may_return f (es ++ rest) h
  up_to_both f g h [] rest first second = subst (λ x. AsksUpTo may_return x rest h) first second
  up_to_both f g h (e ∷ es) rest first second = (first.0, first.1, first.2, up_to_both first.1 g h es rest first.3 second)

  -- if the test may be called on some entries and then on others, it may be called on the first ones
  pub may_ask_first : (f : F) (es rest : List (List Bool × T)) → CallableOnEachEntry may_return accepts f (es ++ rest) → CallableOnEachEntry may_return accepts f es
  may_ask_first f [] rest h = tt
  may_ask_first f (e ∷ es) rest h = (h.0, λ b g called. may_ask_first g es rest (h.1 b g called))

  module _ (s : List Bool) (ts us : List (List Bool)) (f g h : F) (x y z : State T) (first : Retains may_return accepts s ts f x g y)
      (second : Retains may_return accepts s us g y h z) (apart : (q : List Bool) → is_at_some s ts q ≡ true → is_at_some s us q ≡ true → ⊥) where
    not_later : (q : List Bool) → is_at_some s ts q ≡ true → is_at_some s us q ≡ false
    not_later q here = no_or_yes (is_at_some s us q) (apart q here)

    not_before : (q : List Bool) → is_at_some s us q ≡ true → is_at_some s ts q ≡ false
    not_before q here = no_or_yes (is_at_some s ts q) (λ before. apart q before here)

    later_same : listing_at_places y.entries s us ≡ listing_at_places x.entries s us
    later_same = places_same y.entries x.entries s us (λ k at. first.others k (not_before k at))

    first_same : listing_at_places z.entries s ts ≡ listing_at_places y.entries s ts
    first_same = places_same z.entries y.entries s ts (λ k at. second.others k (not_later k at))

    both_places : (m : Entries T) → listing_at_places m s (ts ++ us) ≡ listing_at_places m s ts ++ listing_at_places m s us
    both_places m = flat_map-append (listing_at_place m s) ts us

    spread : (rest : List (List Bool × T)) → listing_at_places x.entries s (ts ++ us) ++ rest ≡ listing_at_places x.entries s ts ++ (listing_at_places y.entries s us ++ rest)
    spread rest =
        ap (λ es. es ++ rest) (both_places x.entries)
        ∙ append_assoc (listing_at_places x.entries s ts) (listing_at_places x.entries s us) rest
        ∙ ap (λ es. listing_at_places x.entries s ts ++ (es ++ rest)) (sym later_same)

    either : (q : List Bool) → is_at_some s (ts ++ us) q ≡ (is_at_some s ts q || is_at_some s us q)
    either q = list_any-append (λ t. is_at s t q) ts us

    either_under : (q : List Bool) → is_under_some s (ts ++ us) q ≡ (is_under_some s ts q || is_under_some s us q)
    either_under q = list_any-append (λ t. is_under s t q) ts us

    needs_later : (q : List Bool) → is_under_some s ts q ≡ true → Needs y.entries q → Needs z.entries q
    needs_later q under n = record {
      key = n.key;
      stored = ap is_some (second.others n.key (not_later n.key (under_at_some s ts q n.key under n.goes_on))) ∙ n.stored;
      goes_on = n.goes_on;
    }

    -- what was done at some places and then at others was done at all of them
    pub asked_both : Retains may_return accepts s (ts ++ us) f x h z
    asked_both = record {
      kept = first.kept ++ second.kept;
      asked = λ rest later last after.
          subst (λ es. RetainsEntriesTo may_return f es ((first.kept ++ second.kept) ++ later) last) (sym (spread rest))
          (subst (λ es. RetainsEntriesTo may_return f (listing_at_places x.entries s ts ++ (listing_at_places y.entries s us ++ rest)) es last) (sym (append_assoc first.kept second.kept later))
          (first.asked (listing_at_places y.entries s us ++ rest) (second.kept ++ later) last (second.asked rest later last after)));
      up_to =
          subst (λ es. AsksUpTo may_return f es h) (ap (λ es. listing_at_places x.entries s ts ++ es) later_same ∙ sym (both_places x.entries))
          (up_to_both f g h (listing_at_places x.entries s ts) (listing_at_places y.entries s us) first.up_to second.up_to);
      may_ask = λ rest may.
          second.may_ask rest (first.may_ask (listing_at_places y.entries s us ++ rest) (subst (CallableOnEachEntry may_return accepts f) (spread rest) may));
      stays = both_places z.entries ∙ ap₂ (λ a b. a ++ b) (first_same ∙ first.stays) second.stays;
      others = λ q off.
          let none : (is_at_some s ts q || is_at_some s us q) ≡ false = sym (either q) ∙ off in
          second.others q (or_parts (is_at_some s ts q) (is_at_some s us q) none).1 ∙ first.others q (or_parts (is_at_some s ts q) (is_at_some s us q) none).0;
      fewer = λ q there. first.fewer q (second.fewer q there);
      off = λ q off.
          let none : (is_under_some s ts q || is_under_some s us q) ≡ false = sym (either_under q) ∙ off in
          second.off q (or_parts (is_under_some s ts q) (is_under_some s us q) none).1 ∙ first.off q (or_parts (is_under_some s ts q) (is_under_some s us q) none).0;
      needed = λ q under there.
          elim (or-cases (is_under_some s ts q) (is_under_some s us q) (sym (either_under q) ∙ under)) as (λ _. Needs z.entries q) [
            | inl one ↦ needs_later q one (first.needed q one (second.fewer q there))
            | inr other ↦ second.needed q other there
          ];
    }

  -- if the test may be called on all entries, it may be called on the others after the first ones
  pub may_ask_then : (s : List Bool) (ts us : List (List Bool)) (f g : F) (x y : State T) → Retains may_return accepts s ts f x g y →
      ((q : List Bool) → is_at_some s ts q ≡ true → is_at_some s us q ≡ true → ⊥) →
      CallableOnEachEntry may_return accepts f (listing_at_places x.entries s (ts ++ us)) → CallableOnEachEntry may_return accepts g (listing_at_places y.entries s us)
  may_ask_then s ts us f g x y first apart may =
      let same : listing_at_places y.entries s us ≡ listing_at_places x.entries s us = places_same y.entries x.entries s us (λ k at. first.others k (no_or_yes (is_at_some s ts k) (λ before. apart k before at))) in
      first.may_ask (listing_at_places y.entries s us)
      (subst (CallableOnEachEntry may_return accepts f) (flat_map-append (listing_at_place x.entries s) ts us ∙ ap (λ es. listing_at_places x.entries s ts ++ es) (sym same)) may)
