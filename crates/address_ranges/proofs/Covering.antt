-- The fewest networks of all addresses that pass a test: they cover just these, each once, and no shorter list does.
use Rattle.std.proofs.Common.{◌≡◌, ◌∙◌, zero, suc, ℕ, ◌^◌, ◌<◌, ◌≤◌, ◌||◌, Bool, true, false, cond, List, [], ◌∷◌, length, filter, leb, ap, sym, subst, arith, refl}
use Rattle.std.proofs.lemmas.Bool.{le-leb, lt-leb}
use Rattle.std.proofs.lemmas.List.Folds.{list_any_at}
use Rattle.std.specs.List.{Contains, list_any}
use Rattle.prefix_trie_bits.specs.Begins.{same_bool}
use Rattle.prefix_trie_bits.specs.BitStrings.{length-digits, number-below, number_of_digits}
use Rattle.prefix_trie_bits.specs.Model.Bits.{begins, digits, number}
use Rattle.address_ranges.specs.Networks.{first_address, past_address}
use Rattle.address_ranges.specs.Networks.{AreFewest, AreFewestUpTo, AreInOrder, IsInside, IsShortest, is_covered_by}
use Rattle.address_ranges.proofs.Keys.{get_or-any}
use Rattle.address_ranges.proofs.Addresses.{begins_within, within_begins}
use Rattle.address_ranges.proofs.Blocks.{nested, past_within, some_address}

-- by whether a test passes
pub by_bool : (b : Bool) (P : Type 0) → (b ≡ true → P) → (b ≡ false → P) → P
by_bool true P f g = f refl
by_bool false P f g = g refl

module _ {X : Type 0} where
  later_item : (y x : X) (xs : List X) → Contains xs x → Contains (y ∷ xs) x
  later_item y x xs (k, l, e) = (suc k, omega (arith, l), e)

  first_item : (x : X) (xs : List X) → Contains (x ∷ xs) x
  first_item x xs = (0, omega arith, refl)

  -- a test that some item passes
  pub any_has : (p : X → Bool) (xs : List X) → list_any p xs ≡ true → (x : X) × Contains xs x × (p x ≡ true)
  any_has p [] h = absurd (let e : false ≡ true = h in cc)
  any_has p (x ∷ xs) h = by_bool (p x) _
      (λ e. (x, first_item x xs, e))
      (λ e. let (y, at, q) = any_has p xs (sym (ap (λ b. b || list_any p xs) e) ∙ h) in (y, later_item x y xs at, q))

  pub has_any : (p : X → Bool) (xs : List X) (x : X) → Contains xs x → p x ≡ true → list_any p xs ≡ true
  has_any p xs x (k, lt, is) e = list_any_at p xs k x lt (ap p is ∙ e)

  kept : (p : X → Bool) (x : X) (xs : List X) → p x ≡ true → filter p (x ∷ xs) ≡ x ∷ filter p xs
  kept p x xs e = ap (λ b. cond b (x ∷ filter p xs) (filter p xs)) e

  left_out : (p : X → Bool) (x : X) (xs : List X) → p x ≡ false → filter p (x ∷ xs) ≡ filter p xs
  left_out p x xs e = ap (λ b. cond b (x ∷ filter p xs) (filter p xs)) e

  filter_has : (p : X → Bool) (xs : List X) (x : X) → Contains xs x → p x ≡ true → Contains (filter p xs) x
  filter_has p [] x (k, lt, is) e = absurd (omega (arith, lt))
  filter_has p (y ∷ xs) x (zero, lt, is) e = subst (λ ys. Contains ys x) (sym (kept p y xs (ap p is ∙ e))) (0, omega arith, is)
  filter_has p (y ∷ xs) x (suc k, lt, is) e =
      let rest = filter_has p xs x (k, omega (arith, lt), is) e in
      by_bool (p y) _
      (λ e. subst (λ ys. Contains ys x) (sym (kept p y xs e)) (later_item y x (filter p xs) rest))
      (λ e. subst (λ ys. Contains ys x) (sym (left_out p y xs e)) rest)

  filter_most : (p : X → Bool) (xs : List X) → length (filter p xs) ≤ length xs
  filter_most p [] = omega arith
  filter_most p (x ∷ xs) =
      let m = filter_most p xs in
      by_bool (p x) _ (λ e. let l = ap length (kept p x xs e) in omega (arith, l, m)) (λ e. let l = ap length (left_out p x xs e) in omega (arith, l, m))

  -- a filter is shorter if it leaves out an item
  filter_less : (p : X → Bool) (xs : List X) (x : X) → Contains xs x → p x ≡ false → length (filter p xs) < length xs
  filter_less p [] x (k, lt, is) e = absurd (omega (arith, lt))
  filter_less p (y ∷ xs) x (zero, lt, is) e = let l = ap length (left_out p y xs (ap p is ∙ e)) in let m = filter_most p xs in omega (arith, l, m)
  filter_less p (y ∷ xs) x (suc k, lt, is) e =
      let m = filter_less p xs x (k, omega (arith, lt), is) e in
      by_bool (p y) _ (λ e. let l = ap length (kept p y xs e) in omega (arith, l, m)) (λ e. let l = ap length (left_out p y xs e) in omega (arith, l, m))

  filter_none : (p : X → Bool) (xs : List X) → ((x : X) → Contains xs x → p x ≡ false) → length (filter p xs) ≡ 0
  filter_none p [] none = refl
  filter_none p (x ∷ xs) none = ap length (left_out p x xs (none x (first_item x xs))) ∙ filter_none p xs (λ y at. none y (later_item x y xs at))

-- ---- networks in order

module _ (w : ℕ) where
  in_order_rest : (s : List Bool) (ss : List (List Bool)) → AreInOrder w (s ∷ ss) → AreInOrder w ss
  in_order_rest s ss order j k lt in_it = order (suc j) (suc k) (omega (arith, lt)) (omega (arith, in_it))

  after_first : (s : List Bool) (ss : List (List Bool)) → AreInOrder w (s ∷ ss) → (t : List Bool) → Contains ss t → past_address w s ≤ first_address w t
  after_first s ss order t (k, lt, is) =
      let o = order 0 (suc k) (omega arith) (omega (arith, lt)) in
      let e = ap (first_address w) (get_or-any ss k [] t lt ∙ is) in
      omega (arith, o, e)

  -- an address is in one of them at most
  pub once : (ss : List (List Bool)) → AreInOrder w ss → (q : List Bool) → length q ≡ w → length (filter (λ s. begins s q) ss) ≤ 1
  once [] order q long = omega arith
  once (s ∷ ss) order q long =
      let m = once ss (in_order_rest s ss order) q long in
      by_bool (begins s q) _
      (λ e.
      let in_s = begins_within w s q long e in
      let none = filter_none (λ t. begins t q) ss (λ t at. by_bool (begins t q) _
      (λ h. absurd (let in_t = begins_within w t q long h in let o = after_first s ss order t at in omega (arith, in_s.1, in_t.0, o)))
      (λ h. h)) in
      let l = ap length (kept (λ t. begins t q) s ss e) in
      omega (arith, l, none))
      (λ e. let l = ap length (left_out (λ t. begins t q) s ss e) in omega (arith, l, m))

  -- if each of them has the first address of a network of another list, that list is no shorter
  no_shorter : (ss os : List (List Bool)) → AreInOrder w ss → ((s : List Bool) → Contains ss s → (o : List Bool) × Contains os o × (first_address w s ≤ first_address w o) × (first_address w o < past_address w s))
      → length ss ≤ length os
  no_shorter [] os order each = omega arith
  no_shorter (s ∷ ss) os order each =
      let (o, at, low, high) = each s (first_item s ss) in
      let less = filter_less (λ o. leb (past_address w s) (first_address w o)) os o at (lt-leb (past_address w s) (first_address w o) high) in
      let rest = no_shorter ss (filter (λ o. leb (past_address w s) (first_address w o)) os) (in_order_rest s ss order) (λ t has.
      let (u, at, low, high) = each t (later_item s t ss has) in
      let after = after_first s ss order t has in (
        u,
        filter_has (λ o. leb (past_address w s) (first_address w o)) os u at (le-leb (past_address w s) (first_address w u) (omega (arith, after, low))),
        low,
        high,
      )) in
      omega (arith, less, rest)

module _ (w : ℕ) (test : ℕ → Bool) (ss : List (List Bool)) (are : AreFewestUpTo w test (2 ^ w) ss) where
  -- they cover the addresses that pass the test
  pub covered_is : (q : List Bool) → length q ≡ w → is_covered_by ss q ≡ test (number q)
  covered_is q long = same_bool _ _
      (λ h. let (s, has, b) = any_has (λ s. begins s q) ss h in let (lo, hi) = begins_within w s q long b in are.inside s has (number q) lo hi)
      (λ h. let (s, has, lo, hi) = are.all (number q) (number-below w q long) h in has_any (λ s. begins s q) ss s has (within_begins w s q long (are.short s has) lo hi))

  -- and no shorter list does
  pub is_shortest : IsShortest w ss
  is_shortest os short same = no_shorter w ss os are.in_order (λ s has.
      let first : ℕ = first_address w s in
      let below : first_address w s < 2 ^ w = (let p = past_within w s (are.short s has) in let q = some_address w s in omega (arith, p, q)) in
      let q : List Bool = digits w (first_address w s) in
      let long : length (digits w (first_address w s)) ≡ w = length-digits w (first_address w s) in
      let is : number (digits w (first_address w s)) ≡ first_address w s = number_of_digits w (first_address w s) below in
      let covered : is_covered_by os (digits w (first_address w s)) ≡ true =
      same (digits w (first_address w s)) long ∙ covered_is (digits w (first_address w s)) long ∙ ap test is ∙ are.inside s has (first_address w s) (omega arith) (some_address w s) in
      let (o, at, b) = any_has (λ o. begins o (digits w (first_address w s))) os covered in
      let fits : length o ≤ w = short_at o at in
      let (lo, hi) = begins_within w o (digits w (first_address w s)) long b in
      let lo' : first_address w o ≤ first_address w s = omega (arith, lo, is) in
      let hi' : first_address w s < past_address w o = omega (arith, hi, is) in
      let smaller = are.largest s o has fits (inside_other o at fits) lo' hi' in
      let (a, z) = nested w s o smaller fits (first_address w s) (omega arith) (some_address w s) lo' hi' in
      let p = some_address w o in
      (o, at, a, omega (arith, z, p)))
    where
      short_at : (o : List Bool) → Contains os o → length o ≤ w
      short_at o (k, lt, is) = subst (λ t. length t ≤ w) is (short k o lt)

      inside_other : (o : List Bool) → Contains os o → length o ≤ w → IsInside w test o
      inside_other o at fits n lo hi =
          let below : n < 2 ^ w = (let p = past_within w o fits in omega (arith, p, hi)) in
          let long : length (digits w n) ≡ w = length-digits w n in
          let is : number (digits w n) ≡ n = number_of_digits w n below in
          let b : begins o (digits w n) ≡ true = within_begins w o (digits w n) long fits (omega (arith, lo, is)) (omega (arith, hi, is)) in
          sym (ap test is) ∙ sym (covered_is (digits w n) long) ∙ sym (same (digits w n) long) ∙ has_any (λ s. begins s (digits w n)) os o at b

  -- so they are the fewest
  pub are_fewest : AreFewest w test ss
  are_fewest = record { covered = covered_is; once = once w ss are.in_order; in_order = are.in_order; shortest = is_shortest }

-- the fewest networks by one test are so by another one that the same addresses pass
pub fewest_same : (w : ℕ) (test other : ℕ → Bool) (ss : List (List Bool)) → ((n : ℕ) → n < 2 ^ w → test n ≡ other n) → AreFewest w test ss → AreFewest w other ss
fewest_same w test other ss same are = record { covered = λ q long. are.covered q long ∙ same (number q) (number-below w q long); once = are.once; in_order = are.in_order; shortest = are.shortest }
