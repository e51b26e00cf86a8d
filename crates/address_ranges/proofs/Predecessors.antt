-- The address before another one: the bit before its last zeros is cleared, and ones follow.
use Rattle.std.proofs.Common.{Ordering, Less, Equal, Greater, MatchBool, inl, inr, ◌≡◌, ◌∙◌, suc, ℕ, ◌+◌, ◌-◌, ◌*◌, ◌^◌, ◌<◌, ◌≤◌, Bool, true, false, List, [], ◌∷◌, ◌++◌, length, length-append, get_or, take, sym, ap, ap₂, arith, pow-add, pow_pos}
use Rattle.std.proofs.lemmas.Bool.{MatchBool-at_false, MatchBool-at_true, cases_lt}
use Rattle.std.specs.Cmp.{ranks}
use Rattle.std.specs.Ordering.{MatchOrdering, is_eq, is_ne, nat_cmp}
use Rattle.std.proofs.lemmas.List.{append_assoc, length-replicate, length-take-le, take_at, take_more}
use Rattle.prefix_trie_bits.specs.BitStrings.{length-digits, number_of_digits}
use Rattle.prefix_trie_bits.specs.Model.Bits.{digits, number, zeros}
use Rattle.address_ranges.specs.Networks.{first_address, past_address}
use Rattle.address_ranges.proofs.Addresses.{number_parts, number_zeros}
use Rattle.address_ranges.proofs.Blocks.{halves_of}

-- more ones after some bits, and then zeros
pub ones_added : (w d n : ℕ) (b b' : List Bool) → length b ≡ w → d + n ≤ w → b ≡ take d b ++ zeros (w - d) → b' ≡ take d b ++ digits n (2 ^ n - 1) ++ zeros (w - (d + n))
    → (number b' + 2 ^ (w - (d + n)) ≡ number b + 2 ^ (w - d)) × (b' ≡ take (d + n) b' ++ zeros (w - (d + n)))
ones_added w d n b b' long fits is is' =
    let t : List Bool = take d b in
    let p : ℕ = 2 ^ (w - (d + n)) in
    let whole : 2 ^ (w - d) ≡ 2 ^ n * 2 ^ (w - (d + n)) = ap (λ k. 2 ^ k) (let e : w - d ≡ n + (w - (d + n)) = omega (arith, fits) in e) ∙ pow-add 2 n (w - (d + n)) in
    let zeros_long : length (zeros (w - d)) ≡ w - d = length-replicate (w - d) false in
    let old : number b ≡ number (take d b) * 2 ^ (w - d) = ap number is ∙ number_parts (take d b) (zeros (w - d)) ∙ ap₂ (λ k m. number (take d b) * 2 ^ k + m) zeros_long (number_zeros (w - d)) ∙ (let e : number (take d b) * 2 ^ (w - d) + 0 ≡ number (take d b) * 2 ^ (w - d) = omega arith in e) in
    let some : 0 < 2 ^ n = pow_pos n in
    let ones : number (digits n (2 ^ n - 1)) ≡ 2 ^ n - 1 = number_of_digits n (2 ^ n - 1) (omega (arith, some)) in
    let tail_long : length (digits n (2 ^ n - 1) ++ zeros (w - (d + n))) ≡ w - d =
    length-append (digits n (2 ^ n - 1)) (zeros (w - (d + n))) ∙ ap₂ (λ x y. x + y) (length-digits n (2 ^ n - 1)) (length-replicate (w - (d + n)) false) ∙ (let e : n + (w - (d + n)) ≡ w - d = omega (arith, fits) in e) in
    let tail : number (digits n (2 ^ n - 1) ++ zeros (w - (d + n))) ≡ (2 ^ n - 1) * 2 ^ (w - (d + n)) + 0 =
    number_parts (digits n (2 ^ n - 1)) (zeros (w - (d + n))) ∙ ap₂ (λ x y. x * 2 ^ length (zeros (w - (d + n))) + y) ones (number_zeros (w - (d + n))) ∙ ap (λ k. (2 ^ n - 1) * 2 ^ k + 0) (length-replicate (w - (d + n)) false) in
    let new : number b' ≡ number (take d b) * 2 ^ (w - d) + ((2 ^ n - 1) * 2 ^ (w - (d + n)) + 0) =
    ap number (is' ∙ append_assoc (take d b) (digits n (2 ^ n - 1)) (zeros (w - (d + n)))) ∙ number_parts (take d b) (digits n (2 ^ n - 1) ++ zeros (w - (d + n))) ∙ ap₂ (λ k m. number (take d b) * 2 ^ k + m) tail_long tail in
    let one_more : (2 ^ n - 1) * 2 ^ (w - (d + n)) + 2 ^ (w - (d + n)) ≡ 2 ^ n * 2 ^ (w - (d + n)) = all_but_one (2 ^ n) (2 ^ (w - (d + n))) some in (
      omega (arith, old, new, one_more, whole),
      is' ∙ ap (λ s. s ++ zeros (w - (d + n))) (sym front),
    )
  where
    all_but_one : (x p : ℕ) → 0 < x → (x - 1) * p + p ≡ x * p
    all_but_one x p some = let e : x ≡ (x - 1) + 1 = omega (arith, some) in let f : ((x - 1) + 1) * p ≡ (x - 1) * p + p = omega arith in sym (ap (λ y. y * p) e ∙ f)

    front : take (d + n) b' ≡ take d b ++ digits n (2 ^ n - 1)
    front =
        ap (take (d + n)) is'
        ∙ take_at (take d b ++ digits n (2 ^ n - 1)) (zeros (w - (d + n))) (d + n)
        (length-append (take d b) (digits n (2 ^ n - 1)) ∙ ap₂ (λ x y. x + y) (length-take-le d b (omega (arith, long, fits))) (length-digits n (2 ^ n - 1)))

module _ (w d : ℕ) (b front : List Bool) (long : length b ≡ w) (some : 1 ≤ d) (short : d ≤ w) (is : front ≡ take (d - 1) b ++ zeros (w - (d - 1))) where
  few : length (take (d - 1) b) ≡ d - 1
  few = length-take-le (d - 1) b (omega (arith, long, short))

  front_is : number front ≡ first_address w (take (d - 1) b)
  front_is = ap number (is ∙ ap (λ k. take (d - 1) b ++ zeros (w - k)) (sym few))

  by_bit : (x : Bool) → take d b ≡ take (d - 1) b ++ x ∷ [] → number (take d b ++ zeros (w - d)) ≡ number b → (number front ≡ number b → ⊥) → number b ≡ number front + 2 ^ (w - d)
  by_bit x split here differs =
      let parts = halves_of w (take (d - 1) b) (omega (arith, few, some, short)) in
      let longer : length (take (d - 1) b ++ x ∷ []) ≡ d = length-append (take (d - 1) b) (x ∷ []) ∙ (let e : length (take (d - 1) b) + 1 ≡ d = omega (arith, few, some) in e) in
      let whole : number b ≡ first_address w (take (d - 1) b ++ x ∷ []) = sym here ∙ ap (λ t. number (t ++ zeros (w - d))) split ∙ ap (λ k. number ((take (d - 1) b ++ x ∷ []) ++ zeros (w - k))) (sym longer) in
      by x parts whole differs
    where
      by : (x : Bool) → (first_address w (take (d - 1) b ++ false ∷ []) ≡ first_address w (take (d - 1) b)) × (past_address w (take (d - 1) b ++ false ∷ []) ≡ first_address w (take (d - 1) b ++ true ∷ [])) × (past_address w (take (d - 1) b ++ true ∷ []) ≡ past_address w (take (d - 1) b))
          → number b ≡ first_address w (take (d - 1) b ++ x ∷ []) → (number front ≡ number b → ⊥) → number b ≡ number front + 2 ^ (w - d)
      by false parts whole differs = absurd (differs (front_is ∙ sym parts.0 ∙ sym whole))
      by true parts whole differs =
          let size = ap (λ k. 2 ^ (w - k)) (length-append (take (d - 1) b) (false ∷ []) ∙ (let e : length (take (d - 1) b) + 1 ≡ d = omega (arith, few, some) in e)) in
          let p = parts.0 in
          let q = parts.1 in
          omega (arith, p, q, size, whole, front_is)

  -- an address is the one with its last 1 cleared and the size of a network
  pub last_one : number (take d b ++ zeros (w - d)) ≡ number b → (number front ≡ number b → ⊥) → number b ≡ number front + 2 ^ (w - d)
  last_one = by_bit (get_or b (d - 1) false) (ap (λ k. take k b) (let e : d ≡ d - 1 + 1 = omega (arith, some) in e) ∙ take_more b (d - 1) false (omega (arith, long, some, short)))

  -- the bits from d on are 0
  pub zeros_after : front ≡ take d front ++ zeros (w - d)
  zeros_after =
      let s : List Bool = take (d - 1) b in
      let split : front ≡ (take (d - 1) b ++ false ∷ []) ++ zeros (w - d) =
      is ∙ ap (λ k. take (d - 1) b ++ zeros k) (let e : w - (d - 1) ≡ suc (w - d) = omega (arith, some, short) in e) ∙ sym (append_assoc (take (d - 1) b) (false ∷ []) (zeros (w - d))) in
      let first : take d front ≡ take (d - 1) b ++ false ∷ [] =
      ap (take d) split ∙ take_at (take (d - 1) b ++ false ∷ []) (zeros (w - d)) d (length-append (take (d - 1) b) (false ∷ []) ∙ (let e : length (take (d - 1) b) + 1 ≡ d = omega (arith, few, some) in e)) in
      split ∙ ap (λ t. t ++ zeros (w - d)) (sym first)

by_eq : (o : Ordering) (a b : ℕ) → MatchOrdering o (a < b) (a ≡ b) (b < a) → MatchBool (is_eq o) (a ≡ b) (a ≡ b → ⊥)
by_eq Less a b h = λ e. omega (arith, e, h)
by_eq Equal a b h = h
by_eq Greater a b h = λ e. omega (arith, e, h)

-- addresses that compare as equal have one number, and others differ
pub eq_from : (a b : ℕ) (o : Ordering) → true ≡ is_eq o → o ≡ nat_cmp a b → a ≡ b
eq_from a b o e is = MatchBool-at_true _ _ (ap is_eq (sym is) ∙ sym e) (by_eq (nat_cmp a b) a b (ranks a b))

pub ne_from : (a b : ℕ) (o : Ordering) → false ≡ is_eq o → o ≡ nat_cmp a b → a ≡ b → ⊥
ne_from a b o e is = MatchBool-at_false _ _ (ap is_eq (sym is) ∙ sym e) (by_eq (nat_cmp a b) a b (ranks a b))

-- no bit of 0 is 1, so the search ends before all bits are cleared
pub deeper : (w d : ℕ) (b front : List Bool) → 1 ≤ d → front ≡ take (d - 1) b ++ zeros (w - (d - 1)) → number front ≡ number b → 0 < number b → 1 ≤ d - 1
deeper w d b front some is same lt = elim (cases_lt 1 d) [
  | inl more ↦ omega (arith, more)
  | inr le ↦ absurd (
      let none : number front ≡ 0 = ap number (is ∙ ap (λ k. take k b ++ zeros (w - k)) (let e : d - 1 ≡ 0 = omega (arith, le) in e)) ∙ number_zeros (w - 0) in
      omega (arith, none, same, lt))
]

by_ne : (o : Ordering) (a b : ℕ) → MatchOrdering o (a < b) (a ≡ b) (b < a) → MatchBool (is_ne o) (a ≡ b → ⊥) (a ≡ b)
by_ne Less a b h = λ e. omega (arith, e, h)
by_ne Equal a b h = h
by_ne Greater a b h = λ e. omega (arith, e, h)

pub eq_from_ne : (a b : ℕ) (o : Ordering) → false ≡ is_ne o → o ≡ nat_cmp a b → a ≡ b
eq_from_ne a b o e is = MatchBool-at_false _ _ (ap is_ne (sym is) ∙ sym e) (by_ne (nat_cmp a b) a b (ranks a b))

pub ne_from_ne : (a b : ℕ) (o : Ordering) → true ≡ is_ne o → o ≡ nat_cmp a b → a ≡ b → ⊥
ne_from_ne a b o e is = MatchBool-at_true _ _ (ap is_ne (sym is) ∙ sym e) (by_ne (nat_cmp a b) a b (ranks a b))
