-- How comparing numbers, or windows of keys, gives the listing order. This project's own.
use Rattle.std.proofs.Common.{◌≡◌, ℕ, zero, suc, ◌+◌, ◌-◌, ◌*◌, ◌^◌, ◌<◌, ◌≤◌, Bool, true, false, List, [], ◌∷◌, ◌++◌, length, length-append, take, drop, refl, sym, ap, ap₂, ◌∙◌, subst, arith, Ordering, Less, Equal, Greater, true≢false}
use Rattle.std.proofs.lemmas.List.{drop-drop, length-drop, length-replicate}
use Rattle.std.specs.Cmp.{nat_cmp_is, ranks}
use Rattle.std.specs.Ordering.{nat_cmp, is_ne, ordering_then, MatchOrdering}
use Rattle.prefix_trie_bits.specs.Model.Bits.{number, digits, zeros}
use Rattle.prefix_trie_bits.specs.BitStrings.{length-digits, number-lt, number_of_digits}
use Rattle.prefix_trie_bits.specs.Model.Order.{listing_cmp}
use Rattle.prefix_trie_bits.specs.Order.{listing-refl}
use Rattle.prefix_trie_bits.specs.Windows.{window-inside, length-window}

-- adding the same number to both sides does not change a comparison
raised : (o : Ordering) (a b x y k : ℕ) → x ≡ k + a → y ≡ k + b → MatchOrdering o (a < b) (a ≡ b) (b < a) → MatchOrdering o (x < y) (x ≡ y) (y < x)
raised Less a b x y k e f h = omega (arith, e, f, h)
raised Equal a b x y k e f h = omega (arith, e, f, h)
raised Greater a b x y k e f h = omega (arith, e, f, h)

ranked : (s t : List Bool) → length s ≡ length t → MatchOrdering (listing_cmp s t) (number s < number t) (number s ≡ number t) (number t < number s)
unfolding number
ranked [] [] e = refl
ranked [] (b ∷ t) e = absurd (omega (arith, e))
ranked (b ∷ s) [] e = absurd (omega (arith, e))
ranked (true ∷ s) (true ∷ t) e =
    let same : length s ≡ length t = omega (arith, e) in
    raised (listing_cmp s t) (number s) (number t) (number (true ∷ s)) (number (true ∷ t)) (1 * 2 ^ length s) refl (ap (λ n. 1 * 2 ^ n + number t) (sym same)) (ranked s t same)
ranked (false ∷ s) (false ∷ t) e =
    let same : length s ≡ length t = omega (arith, e) in
    raised (listing_cmp s t) (number s) (number t) (number (false ∷ s)) (number (false ∷ t)) 0 (omega arith) (omega arith) (ranked s t same)
ranked (false ∷ s) (true ∷ t) e =
    let same : 2 ^ length s ≡ 2 ^ length t = ap (λ n. 2 ^ n) (let l : length s ≡ length t = omega (arith, e) in l) in
    omega (arith, number-lt s, same)
ranked (true ∷ s) (false ∷ t) e =
    let same : 2 ^ length s ≡ 2 ^ length t = ap (λ n. 2 ^ n) (let l : length s ≡ length t = omega (arith, e) in l) in
    omega (arith, number-lt t, same)

-- strings of the same length are ordered as their numbers
pub order-numbers : (s t : List Bool) → length s ≡ length t → listing_cmp s t ≡ nat_cmp (number s) (number t)
order-numbers s t e = nat_cmp_is (number s) (number t) (listing_cmp s t) (ranked s t e)

-- keys that are numbers compare as numbers (a name that `using(..)` accepts)
pub ordered_as_numbers : (w a b : ℕ) → a < 2 ^ w → b < 2 ^ w → nat_cmp a b ≡ listing_cmp (digits w a) (digits w b)
ordered_as_numbers w a b l m =
    sym (order-numbers (digits w a) (digits w b) (length-digits w a ∙ sym (length-digits w b)) ∙ ap₂ nat_cmp (number_of_digits w a l) (number_of_digits w b m))

-- the first n bits decide the order, and if they are equal the later bits do
order-split : (n : ℕ) (s t : List Bool) → n ≤ length s → n ≤ length t → listing_cmp s t ≡ ordering_then (listing_cmp (take n s) (take n t)) (listing_cmp (drop n s) (drop n t))
order-split zero s t h k = refl
order-split (suc n) [] t h k = absurd (omega (arith, h))
order-split (suc n) (a ∷ s) [] h k = absurd (omega (arith, k))
order-split (suc n) (true ∷ s) (true ∷ t) h k = order-split n s t (omega (arith, h)) (omega (arith, k))
order-split (suc n) (false ∷ s) (false ∷ t) h k = order-split n s t (omega (arith, h)) (omega (arith, k))
order-split (suc n) (true ∷ s) (false ∷ t) h k = refl
order-split (suc n) (false ∷ s) (true ∷ t) h k = refl

-- the windows of n bits at depth d decide the order, and if they are equal the later bits do
order-windows : (a b : List Bool) (d n : ℕ) → length a ≡ length b → d + n ≤ length a
    → listing_cmp (drop d a) (drop d b)
    ≡ ordering_then (nat_cmp (number (take n (drop d (a ++ zeros 5)))) (number (take n (drop d (b ++ zeros 5))))) (listing_cmp (drop (d + n) a) (drop (d + n) b))
order-windows a b d n same inside =
    let inside_b : d + n ≤ length b = omega (arith, same, inside) in
    order-split n (drop d a) (drop d b) (let l = length-drop d a in omega (arith, l, inside)) (let l = length-drop d b in omega (arith, l, inside_b))
    ∙ ap₂ ordering_then
    (order-numbers (take n (drop d a)) (take n (drop d b)) (length-window a d n inside ∙ sym (length-window b d n inside_b))
    ∙ ap₂ (λ x y. nat_cmp (number x) (number y)) (sym (window-inside a (zeros 5) d n inside)) (sym (window-inside b (zeros 5) d n inside_b)))
    (ap₂ listing_cmp (drop-drop n d a) (drop-drop n d b))

module _ (a b : List Bool) (d n x y : ℕ) (o : Ordering) (same : length a ≡ length b) (inside : d + n ≤ length a)
    (x_is : x ≡ number (take n (drop d (a ++ zeros 5)))) (y_is : y ≡ number (take n (drop d (b ++ zeros 5)))) (o_is : o ≡ nat_cmp x y) where
  by_windows : listing_cmp (drop d a) (drop d b) ≡ ordering_then o (listing_cmp (drop (d + n) a) (drop (d + n) b))
  by_windows =
      order-windows a b d n same inside
      ∙ ap (λ r. ordering_then r (listing_cmp (drop (d + n) a) (drop (d + n) b))) (sym (o_is ∙ ap₂ nat_cmp x_is y_is))

  -- windows that differ decide the order
  pub order-here : is_ne o ≡ true → listing_cmp (drop d a) (drop d b) ≡ o
  order-here e = by_windows ∙ decided o e
    where
      decided : (p : Ordering) → is_ne p ≡ true → ordering_then p (listing_cmp (drop (d + n) a) (drop (d + n) b)) ≡ p
      decided Less h = refl
      decided Equal h = absurd (true≢false (sym h))
      decided Greater h = refl

  -- if the windows are equal, the later bits decide the order
  pub order-later : is_ne o ≡ false → listing_cmp (drop d a) (drop d b) ≡ listing_cmp (drop (d + n) a) (drop (d + n) b)
  order-later e = by_windows ∙ left o e
    where
      left : (p : Ordering) → is_ne p ≡ false → ordering_then p (listing_cmp (drop (d + n) a) (drop (d + n) b)) ≡ listing_cmp (drop (d + n) a) (drop (d + n) b)
      left Less h = absurd (true≢false h)
      left Equal h = refl
      left Greater h = absurd (true≢false h)

-- ---- strings filled with zeros to one length, as prefixes without host bits are

nat_cmp-suc : (a b : ℕ) → nat_cmp (suc a) (suc b) ≡ nat_cmp a b
nat_cmp-suc a b = sym (nat_cmp_is (suc a) (suc b) (nat_cmp a b) (raised (nat_cmp a b) a b (suc a) (suc b) 1 (omega arith) (omega arith) (ranks a b)))

zeros_first : (y : List Bool) → ordering_then (listing_cmp (zeros (length y)) y) Less ≡ Less
zeros_first [] = refl
zeros_first (true ∷ y) = refl
zeros_first (false ∷ y) = zeros_first y

zeros_last : (y : List Bool) → ordering_then (listing_cmp y (zeros (length y))) Greater ≡ Greater
zeros_last [] = refl
zeros_last (true ∷ y) = refl
zeros_last (false ∷ y) = zeros_last y

length-filled_by : (s : List Bool) (n : ℕ) → length (s ++ zeros n) ≡ length s + n
length-filled_by s n = length-append s (zeros n) ∙ ap (λ k. length s + k) (length-replicate n false)

filled_by : (s t : List Bool) (n m : ℕ) → length s + n ≡ length t + m
    → listing_cmp s t ≡ ordering_then (listing_cmp (s ++ zeros n) (t ++ zeros m)) (nat_cmp (length s) (length t))
filled_by [] [] n m e = sym (ap (λ o. ordering_then o Equal) (subst (λ k. listing_cmp (zeros n) (zeros k) ≡ Equal) (let f : n ≡ m = omega (arith, e) in f) (listing-refl (zeros n))))
filled_by [] (b ∷ t) n m e =
    let long : n ≡ length (b ∷ t ++ zeros m) = (let l = length-filled_by (b ∷ t) m in omega (arith, l, e)) in
    sym (ap₂ (λ k o. ordering_then (listing_cmp (zeros k) (b ∷ t ++ zeros m)) o) long (sym (nat_cmp_is 0 (suc (length t)) Less (omega arith))) ∙ zeros_first (b ∷ t ++ zeros m))
filled_by (a ∷ s) [] n m e =
    let long : m ≡ length (a ∷ s ++ zeros n) = (let l = length-filled_by (a ∷ s) n in omega (arith, l, e)) in
    sym (ap₂ (λ k o. ordering_then (listing_cmp (a ∷ s ++ zeros n) (zeros k)) o) long (sym (nat_cmp_is (suc (length s)) 0 Greater (omega arith))) ∙ zeros_last (a ∷ s ++ zeros n))
filled_by (true ∷ s) (true ∷ t) n m e =
    filled_by s t n m (omega (arith, e)) ∙ ap (ordering_then (listing_cmp (s ++ zeros n) (t ++ zeros m))) (sym (nat_cmp-suc (length s) (length t)))
filled_by (false ∷ s) (false ∷ t) n m e =
    filled_by s t n m (omega (arith, e)) ∙ ap (ordering_then (listing_cmp (s ++ zeros n) (t ++ zeros m))) (sym (nat_cmp-suc (length s) (length t)))
filled_by (true ∷ s) (false ∷ t) n m e = refl
filled_by (false ∷ s) (true ∷ t) n m e = refl

-- two strings are ordered as they are when filled with zeros to one length; if those are equal, the shorter is first
pub order-filled : (w : ℕ) (s t : List Bool) → length s ≤ w → length t ≤ w
    → listing_cmp s t ≡ ordering_then (listing_cmp (s ++ zeros (w - length s)) (t ++ zeros (w - length t))) (nat_cmp (length s) (length t))
order-filled w s t h k = filled_by s t (w - length s) (w - length t) (omega (arith, h, k))
