-- A walk can be resumed after the last item read: for `resume_laws`.
use Rattle.prefix_trie_map.proofs.Prelude.{◌≡◌, ℕ, Bool, true, false, cond, List, [], ◌∷◌, ◌++◌, filter, is_lt, is_le, Less, Equal, Greater, refl, sym, ap, ◌∙◌, subst, false≢true, All, All-head, All-tail, All-filter, filter_passes, retain_keys, PrefixLaws, listing_cmp, listing_total, listing_same, Entries, AreWithin, listing, listing_from, listing_after, prefix_pairs, listing_laws, entries-retained, lt-less, ResumeLaws}
use Rattle.prefix_trie_map.proofs.Listed.{listed_paths}

module _ {X : Type 0} where
  middle : (F : X → Type 0) (front : List X) (x : X) (back : List X) → All F (front ++ x ∷ back) → F x
  middle F [] x back h = All-head F x back h
  middle F (y ∷ front) x back h = middle F front x back (All-tail F y (front ++ x ∷ back) h)

  -- filtering by two tests is filtering by the second if it implies the first
  first-for-nothing : (p q : X → Bool) → ((x : X) → q x ≡ true → p x ≡ true) → (xs : List X) → filter q (filter p xs) ≡ filter q xs
  first-for-nothing p q h [] = refl
  first-for-nothing p q h (x ∷ xs) =
      let rest = first-for-nothing p q h xs in
      elim (p x) as (λ b. p x ≡ b → filter q (cond b (x ∷ filter p xs) (filter p xs)) ≡ cond (q x) (x ∷ filter q xs) (filter q xs)) [
        | true ↦ λ _. ap (λ ys. cond (q x) (x ∷ ys) ys) rest
        | false ↦ λ off. elim (q x) as (λ b. q x ≡ b → filter q (filter p xs) ≡ cond b (x ∷ filter q xs) (filter q xs)) [
          | true ↦ λ on. absurd (false≢true (sym off ∙ h x on))
          | false ↦ λ _. rest
        ] refl
      ] refl

module _ {T : Type 0} (m : Entries T) where
  -- if everything after an item passes a test, filtering what comes after the item by the test changes nothing
  some-resumes : (p : List Bool → Bool) → ((s t : List Bool) → p s ≡ true → listing_cmp s t ≡ Less → p t ≡ true) → (front : List (List Bool × T)) (last : List Bool × T) (back : List (List Bool × T)) →
      filter (λ e. p e.0) (listing m) ≡ front ++ last ∷ back → listing_after m last.0 ≡ back
  some-resumes p on front last back e =
      let passes = middle (λ x. p x.0 ≡ true) front last back (subst (All (λ x. p x.0 ≡ true)) e (filter_passes (λ x. p x.0) (listing m))) in
      sym (first-for-nothing (λ x. p x.0) (λ x. is_lt (listing_cmp last.0 x.0)) (λ x h. on last.0 x.0 passes (lt-less (listing_cmp last.0 x.0) h)) (listing m))
      ∙ ap (filter (λ x. is_lt (listing_cmp last.0 x.0))) (sym (entries-retained m p))
      ∙ ((listing_laws T).resumes (retain_keys m p) front last back (entries-retained m p ∙ e)).behind

  from-on : (q s t : List Bool) → is_le (listing_cmp q s) ≡ true → listing_cmp s t ≡ Less → is_le (listing_cmp q t) ≡ true
  from-on q s t h less = elim (listing_cmp q s) as (λ o. listing_cmp q s ≡ o → is_le o ≡ true → is_le (listing_cmp q t) ≡ true) [
    | Less ↦ λ e _. ap is_le (listing_total.trans q s t e less)
    | Equal ↦ λ e _. ap (λ u. is_le (listing_cmp u t)) (listing_same q s e) ∙ ap is_le less
    | Greater ↦ λ _ no. absurd (false≢true no)
  ] refl h

  after-on : (q s t : List Bool) → is_lt (listing_cmp q s) ≡ true → listing_cmp s t ≡ Less → is_lt (listing_cmp q t) ≡ true
  after-on q s t h less = ap is_lt (listing_total.trans q s t (lt-less (listing_cmp q s) h) less)

  from-resumes : (inclusive : Bool) (q : List Bool) (front : List (List Bool × T)) (last : List Bool × T) (back : List (List Bool × T)) →
      cond inclusive (listing_from m q) (listing_after m q) ≡ front ++ last ∷ back → listing_after m last.0 ≡ back
  from-resumes true q = some-resumes (λ k. is_le (listing_cmp q k)) (from-on q)
  from-resumes false q = some-resumes (λ k. is_lt (listing_cmp q k)) (after-on q)

-- the items after those whose prefixes were read
record Behind {P T : Type 0} (back : List Bool → P) (es : List (List Bool × T)) (last : P × T) (rest : List (P × T)) : Type 0 where
  front : List (List Bool × T)
  item : List Bool × T
  others : List (List Bool × T)
  are : es ≡ front ++ item ∷ others
  shows : back item.0 ≡ last.0
  rest_is : prefix_pairs back others ≡ rest

behind : {P T : Type 0} (back : List Bool → P) (es : List (List Bool × T)) (read : List (P × T)) (last : P × T) (rest : List (P × T)) → prefix_pairs back es ≡ read ++ last ∷ rest → Behind back es last rest
behind back [] [] last rest e = absurd (cc)
behind back [] (x ∷ read) last rest e = absurd (cc)
behind back (d ∷ es) [] last rest e =
    let head : (back d.0, d.1) ≡ last = cc in
    record { front = []; item = d; others = es; are = refl; shows = ap (λ x. x.0) head; rest_is = cc }
behind back (d ∷ es) (x ∷ read) last rest e =
    let tail : prefix_pairs back es ≡ read ++ last ∷ rest = cc in
    let b = behind back es read last rest tail in
    record { front = d ∷ b.front; item = b.item; others = b.others; are = ap (λ xs. d ∷ xs) b.are; shows = b.shows; rest_is = b.rest_is }

module _ {K P : Type 0} {w : ℕ} {IsKey : K → Type 0} {bits : K → List Bool} {key_of : List Bool → K} {repr_of : P → K} {len_of : P → ℕ} {path : P → List Bool} {IsFitting : P → Type 0} {from_parts : K → ℕ → P} {back : List Bool → P} (laws : PrefixLaws w IsKey bits key_of repr_of len_of path IsFitting from_parts back) where
  module _ {T : Type 0} (m : Entries T) (within : AreWithin w m) where
    shown-resumes : (es : List (List Bool × T)) → All (λ e. path (back e.0) ≡ e.0) es
        → ((front : List (List Bool × T)) (item : List Bool × T) (others : List (List Bool × T)) → es ≡ front ++ item ∷ others → listing_after m item.0 ≡ others)
        → (read : List (P × T)) (last : P × T) (rest : List (P × T)) → prefix_pairs back es ≡ read ++ last ∷ rest → prefix_pairs back (listing_after m (path last.0)) ≡ rest
    shown-resumes es paths resumes read last rest e =
        let b = behind back es read last rest e in
        let here = middle (λ d. path (back d.0) ≡ d.0) b.front b.item b.others (subst (All (λ d. path (back d.0) ≡ d.0)) b.are paths) in
        ap (λ p. prefix_pairs back (listing_after m (path p))) (sym b.shows) ∙ ap (λ k. prefix_pairs back (listing_after m k)) here
        ∙ ap (prefix_pairs back) (resumes b.front b.item b.others b.are) ∙ b.rest_is

    selected-paths : (inclusive : Bool) (q : List Bool) → All (λ e. path (back e.0) ≡ e.0) (cond inclusive (listing_from m q) (listing_after m q))
    selected-paths true q = All-filter (λ e. is_le (listing_cmp q e.0)) (λ e. path (back e.0) ≡ e.0) (listing m) (listed_paths laws m within)
    selected-paths false q = All-filter (λ e. is_lt (listing_cmp q e.0)) (λ e. path (back e.0) ≡ e.0) (listing m) (listed_paths laws m within)

  pub resume_laws : (T : Type 0) → ResumeLaws T w path back
  resume_laws T = record {
    after_iter = λ m within. shown-resumes m within (listing m) (listed_paths laws m within) (λ front item others e. ((listing_laws T).resumes m front item others e).behind);
    after_iter_from = λ m within inclusive q. shown-resumes m within (cond inclusive (listing_from m q) (listing_after m q)) (selected-paths m within inclusive q) (from-resumes m inclusive q);
  }
