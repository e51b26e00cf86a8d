-- The laws of the listing and its selections: for `listing_laws`.
use Rattle.prefix_trie_bits.proofs.Prelude.{◌≡◌, ◌≢◌, ◌↔◌, ◌⊎◌, Bool, true, false, cond, not, ◌&&◌, T, List, [], ◌∷◌, ◌++◌, filter, is_lt, is_le, Ordering, Less, Equal, Greater, refl, sym, ap, ◌∙◌, subst, Some, inl, inr, true≢false, ordering_reverse, entries_sorted, get, get-entries, is_sorted, below_all, begins, listing_cmp, listing_total, listing_same, listing-refl, listing-common, IsBefore, Entries, listing, listing_from, listing_after, is_root, ListingLaws, IsListedBefore, All, All-nil, All-cons, order-filled, order-numbers}
use lib.Dec.{T as IsT}
use Rattle.std.specs.List.{Contains}
use Rattle.prefix_trie_bits.proofs.Model.Members.{and-first, and-second}
use Rattle.prefix_trie_bits.proofs.Model.SortedListings.{t-true, true-t, lt-less, not_itself, not_less, sorted-tail, sorted-head, sorted-neighbours, Contains-from_find, find-from_Contains, entries-retained}
use Rattle.prefix_trie_bits.proofs.Model.NodeListings.{listing_by_places}
use Rattle.prefix_trie_bits.proofs.Model.Pruning.{begins-nil}

-- a string is listed before the strings that it begins, and otherwise the first differing bit decides
begins-cons : (b : Bool) (s t : List Bool) → begins s t ≡ true → begins (b ∷ s) (b ∷ t) ≡ true
unfolding begins
begins-cons true s t e = e
begins-cons false s t e = e

abbrev tail-of : List Bool → List Bool
tail-of [] = []
tail-of (b ∷ s) = s

longer : (b : Bool) (s t : List Bool) → IsBefore s t → IsBefore (b ∷ s) (b ∷ t)
longer b s t (inl (e, f)) = inl (begins-cons b s t e, λ g. f (ap tail-of g))
longer b s t (inr (c, x, y, e, f)) = inr (b ∷ c, x, y, ap (λ z. b ∷ z) e, ap (λ z. b ∷ z) f)

less-before : (s t : List Bool) → listing_cmp s t ≡ Less → IsBefore s t
less-before [] (b ∷ t) e = inl (begins-nil (b ∷ t), λ h. true≢false (ap is_root h))
less-before (true ∷ s) (true ∷ t) e = longer true s t (less-before s t e)
less-before (false ∷ s) (true ∷ t) e = inr ([], s, t, refl, refl)
less-before (false ∷ s) (false ∷ t) e = longer false s t (less-before s t e)
less-before s t e = absurd (true≢false (sym (ap is_lt e)))

begun-less : (s t : List Bool) → begins s t ≡ true → (s ≢ t) → listing_cmp s t ≡ Less
unfolding begins
begun-less [] [] e f = absurd (f refl)
begun-less [] (b ∷ t) e f = refl
begun-less (true ∷ s) (true ∷ t) e f = begun-less s t e (λ h. f (ap (λ x. true ∷ x) h))
begun-less (false ∷ s) (false ∷ t) e f = begun-less s t e (λ h. f (ap (λ x. false ∷ x) h))
begun-less s t e f = absurd (true≢false (sym e))

before-less : (s t : List Bool) → IsBefore s t → listing_cmp s t ≡ Less
before-less s t (inl (e, f)) = begun-less s t e f
before-less s t (inr (c, x, y, e, f)) =
    subst (λ z. listing_cmp z t ≡ Less) (sym e) (subst (λ z. listing_cmp (c ++ false ∷ x) z ≡ Less) (sym f) (listing-common c (false ∷ x) (true ∷ y)))

back : (s t : List Bool) → listing_cmp s t ≡ Less → listing_cmp t s ≡ Greater
back s t e = listing_total.antisymm t s ∙ ap ordering_reverse e

module _ {X : Type 0} where
  -- in a sorted list, each item before the last one has a lesser key
  heads-before : (x : List Bool × X) (read : List (List Bool × X)) (last : List Bool × X) (rest : List (List Bool × X)) → T (below_all listing_cmp x.0 (read ++ last ∷ rest)) → listing_cmp x.0 last.0 ≡ Less
  heads-before x [] last rest h = lt-less (listing_cmp x.0 last.0) (and-first (is_lt (listing_cmp x.0 last.0)) (below_all listing_cmp x.0 rest) (t-true (is_lt (listing_cmp x.0 last.0) && below_all listing_cmp x.0 rest) h))
  heads-before x (r ∷ read) last rest h =
      heads-before x read last rest (true-t (below_all listing_cmp x.0 (read ++ last ∷ rest)) (and-second (is_lt (listing_cmp x.0 r.0)) (below_all listing_cmp x.0 (read ++ last ∷ rest)) (t-true (is_lt (listing_cmp x.0 r.0) && below_all listing_cmp x.0 (read ++ last ∷ rest)) h)))

-- what comes after an item, with or without the item itself, is what a test of the order keeps
module _ {X : Type 0} (test : Ordering → Bool) (less : test Less ≡ true) (greater : test Greater ≡ false) where
  abbrev those : List Bool → List (List Bool × X) → List (List Bool × X)
  those s es = filter (λ e. test (listing_cmp s e.0)) es

  all-behind : (s : List Bool) (es : List (List Bool × X)) → T (below_all listing_cmp s es) → those s es ≡ es
  all-behind s [] h = refl
  all-behind s (x ∷ es) h =
      let all = t-true (is_lt (listing_cmp s x.0) && below_all listing_cmp s es) h in
      ap (λ b. cond b (x ∷ those s es) (those s es)) (ap test (lt-less (listing_cmp s x.0) (and-first (is_lt (listing_cmp s x.0)) (below_all listing_cmp s es) all)) ∙ less)
      ∙ ap (λ ys. x ∷ ys) (all-behind s es (true-t (below_all listing_cmp s es) (and-second (is_lt (listing_cmp s x.0)) (below_all listing_cmp s es) all)))

  from-last : (read : List (List Bool × X)) (last : List Bool × X) (rest : List (List Bool × X)) → T (is_sorted listing_cmp (read ++ last ∷ rest)) → those last.0 (read ++ last ∷ rest) ≡ cond (test Equal) (last ∷ rest) rest
  from-last [] last rest h =
      ap (λ o. cond (test o) (last ∷ those last.0 rest) (those last.0 rest)) (listing-refl last.0)
      ∙ ap (λ ys. cond (test Equal) (last ∷ ys) ys) (all-behind last.0 rest (sorted-head last rest h))
  from-last (x ∷ read) last rest h =
      ap (λ b. cond b (x ∷ those last.0 (read ++ last ∷ rest)) (those last.0 (read ++ last ∷ rest)))
      (ap test (back x.0 last.0 (heads-before x read last rest (sorted-head x (read ++ last ∷ rest) h))) ∙ greater)
      ∙ from-last read last rest (sorted-tail x (read ++ last ∷ rest) h)

module _ {T : Type 0} where
  resumes : (m : Entries T) (read : List (List Bool × T)) (last : List Bool × T) (rest : List (List Bool × T)) → listing m ≡ read ++ last ∷ rest → listing_after m last.0 ≡ rest
  resumes m read last rest e =
      ap (filter (λ x. is_lt (listing_cmp last.0 x.0))) e
      ∙ from-last is_lt refl refl read last rest (subst (λ es. IsT (is_sorted listing_cmp es)) e (entries_sorted m))

  resumes_at : (m : Entries T) (read : List (List Bool × T)) (last : List Bool × T) (rest : List (List Bool × T)) → listing m ≡ read ++ last ∷ rest → listing_from m last.0 ≡ last ∷ rest
  resumes_at m read last rest e =
      ap (filter (λ x. is_le (listing_cmp last.0 x.0))) e
      ∙ from-last is_le refl refl read last rest (subst (λ es. IsT (is_sorted listing_cmp es)) e (entries_sorted m))

  has_each : (m : Entries T) (s : List Bool) (v : T) → (get m s ≡ Some v) ↔ Contains (listing m) (s, v)
  has_each m s v = (
    λ e. Contains-from_find (listing m) s v (sym (get-entries m s) ∙ e),
    λ has. get-entries m s ∙ find-from_Contains (listing m) (s, v) (entries_sorted m) has,
  )

  in_order : (m : Entries T) (front rest : List (List Bool × T)) (d e : List Bool × T) → listing m ≡ front ++ d ∷ e ∷ rest → IsBefore d.0 e.0
  in_order m front rest d e is = less-before d.0 e.0 (sorted-neighbours front rest d e (subst (λ es. IsT (is_sorted listing_cmp es)) is (entries_sorted m)))

module _ {X : Type 0} where
  before_it : (front : List (List Bool × X)) (e : List Bool × X) (rest : List (List Bool × X)) → T (is_sorted listing_cmp (front ++ e ∷ rest)) → All (λ d. IsListedBefore d e) front
  before_it [] e rest h = All-nil (λ d. IsListedBefore d e)
  before_it (x ∷ front) e rest h =
      All-cons (λ d. IsListedBefore d e) x front (heads-before x front e rest (sorted-head x (front ++ e ∷ rest) h)) (before_it front e rest (sorted-tail x (front ++ e ∷ rest) h))

  below_it : (e : List Bool × X) (rest : List (List Bool × X)) → T (below_all listing_cmp e.0 rest) → All (λ d. IsListedBefore e d) rest
  below_it e [] h = All-nil (λ d. IsListedBefore e d)
  below_it e (x ∷ rest) h =
      let all = t-true (is_lt (listing_cmp e.0 x.0) && below_all listing_cmp e.0 rest) h in
      All-cons (λ d. IsListedBefore e d) x rest (lt-less (listing_cmp e.0 x.0) (and-first (is_lt (listing_cmp e.0 x.0)) (below_all listing_cmp e.0 rest) all))
      (below_it e rest (true-t (below_all listing_cmp e.0 rest) (and-second (is_lt (listing_cmp e.0 x.0)) (below_all listing_cmp e.0 rest) all)))

  after_it : (front : List (List Bool × X)) (e : List Bool × X) (rest : List (List Bool × X)) → T (is_sorted listing_cmp (front ++ e ∷ rest)) → All (λ d. IsListedBefore e d) rest
  after_it [] e rest h = below_it e rest (sorted-head e rest h)
  after_it (x ∷ front) e rest h = after_it front e rest (sorted-tail x (front ++ e ∷ rest) h)

module _ {T : Type 0} where
  all_before : (m : Entries T) (front rest : List (List Bool × T)) (e : List Bool × T) → listing m ≡ front ++ e ∷ rest → All (λ d. IsListedBefore d e) front
  all_before m front rest e is = before_it front e rest (subst (λ es. IsT (is_sorted listing_cmp es)) is (entries_sorted m))

  all_after : (m : Entries T) (front rest : List (List Bool × T)) (e : List Bool × T) → listing m ≡ front ++ e ∷ rest → All (λ d. IsListedBefore e d) rest
  all_after m front rest e is = after_it front e rest (subst (λ es. IsT (is_sorted listing_cmp es)) is (entries_sorted m))

le-cases : (s t : List Bool) (o : Ordering) → listing_cmp s t ≡ o → is_le o ≡ true → (s ≡ t) ⊎ IsBefore s t
le-cases s t Less e h = inr (less-before s t e)
le-cases s t Equal e h = inl (listing_same s t e)
le-cases s t Greater e h = absurd (true≢false (sym h))

order_or_same : (s t : List Bool) → (is_le (listing_cmp s t) ≡ true) ↔ ((s ≡ t) ⊎ IsBefore s t)
order_or_same s t = (
  le-cases s t (listing_cmp s t) refl,
  λ h. elim h [
    | inl same ↦ subst (λ x. is_le (listing_cmp s x) ≡ true) same (ap is_le (listing-refl s))
    | inr before ↦ ap is_le (before-less s t before)
  ],
)

pub listing_laws : (T : Type 0) → ListingLaws T
listing_laws T = record {
  order = λ s t. (less-before s t, before-less s t);
  order_or_same = order_or_same;
  one_way = not_less;
  not_itself = not_itself;
  by_numbers = order-numbers;
  by_filled = order-filled;
  all_before = all_before;
  all_after = all_after;
  retained = entries-retained;
  has_each = has_each;
  in_order = in_order;
  resumes = λ m read last rest e. record { behind = resumes m read last rest e; at = resumes_at m read last rest e };
  removed = λ m q. entries-retained m (λ s. not (begins q s));
  split_off = λ m q. entries-retained m (λ s. begins q s);
  by_places = listing_by_places;
}
