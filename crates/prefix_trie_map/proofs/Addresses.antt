-- Summing the addresses of the outermost entries along a walk gives the number of covered addresses: for
-- `address_count`.
use Rattle.prefix_trie_map.proofs.Prelude.{◌≡◌, ℕ, ◌+◌, ◌-◌, ◌^◌, ◌<◌, ◌≤◌, Bool, not, List, [], length, take, Some, None, refl, sym, ap, ◌∙◌, subst, arith, pow_pos, length-take-le, length-filter_both, option_map, number, zeros, begins, zero_bits, number_of_digits, number-lt, KeyLaws, address_total, Entries, listing, IsCounted, counted-start, counted-next, counted-end, counted-all, total-number, GivesOutermost}

-- the sum so far and the addresses of one more entry, as numbers
pub sum-with-power : (n p w width len : ℕ) → p ≡ 2 ^ (width - len) → width ≡ w → n + p ≡ n + 2 ^ (w - len)
sum-with-power n p w width len e is = ap (λ x. n + x) (e ∙ ap (λ k. 2 ^ (k - len)) is)

number-zeros : (w : ℕ) → number (zeros w) ≡ 0
number-zeros w = ap number (sym (zero_bits w)) ∙ number_of_digits w 0 (pow_pos w)

module _ {K T : Type 0} {w : ℕ} {IsKey : K → Type 0} {bits : K → List Bool} {key_of : List Bool → K} (laws : KeyLaws w IsKey bits key_of) where
  -- before the first entry, the sum is 0
  pub adds-none : (m : Entries T) (es : List (List Bool × T)) (zero : K) → bits zero ≡ zeros w → es ≡ listing m → IsCounted w m es (number (bits zero))
  adds-none m es zero e is = counted-start w m es (number (bits zero)) is (ap number e ∙ number-zeros w)

  -- adding the addresses of the next outermost entry keeps the invariant
  pub adds-more : (m : Entries T) (old new : List (List Bool × T)) (n sum : ℕ) (key : K) (len : ℕ) → GivesOutermost IsKey bits w key len old new → IsCounted w m old n → sum ≡ n + 2 ^ (w - len) → IsCounted w m new sum
  adds-more m old new n sum key len g c e =
      let s = take len (bits key) in
      let long : length s ≡ len =
      length-take-le len (bits key) (subst (λ x. len ≤ x) (sym (laws.bits_length key g.is_key)) g.short) in
      subst (λ x. IsCounted w m new x) (ap (λ k. n + 2 ^ (w - k)) long ∙ sym e)
      (subst (λ es. IsCounted w m es (n + 2 ^ (w - length s))) (sym g.rest)
      (counted-next w m old n (s, g.value) g.later g.first (subst (λ x. x ≤ w) (sym long) g.short) c))

  -- after each step fewer entries are still to come
  pub adds-on : (old new : List (List Bool × T)) (key : K) (len : ℕ) → GivesOutermost IsKey bits w key len old new → length new < length old
  adds-on old new key len g =
      let s = take len (bits key) in
      let both = length-filter_both (λ (e : List Bool × T). not (begins s e.0)) (λ (e : List Bool × T). not (not (begins s e.0))) (λ _. refl) g.later in
      omega (arith, ap length g.first, ap length g.rest, both)

  -- if the sum exceeds the width, all addresses are covered
  pub adds-past : (m : Entries T) (old new : List (List Bool × T)) (n : ℕ) (key : K) (len : ℕ) → GivesOutermost IsKey bits w key len old new → IsCounted w m old n → 2 ^ w ≤ n + 2 ^ (w - len) → None ≡ address_total w m
  adds-past m old new n key len g c h = sym (counted-all w m new (n + 2 ^ (w - len)) h (adds-more m old new n (n + 2 ^ (w - len)) key len g c refl))

  -- an entry of length 0 covers all addresses
  pub adds-root : (m : Entries T) (old new : List (List Bool × T)) (n : ℕ) (key : K) (len : ℕ) → GivesOutermost IsKey bits w key len old new → IsCounted w m old n → len ≡ 0 → None ≡ address_total w m
  adds-root m old new n key len g c none =
      let whole : w ≡ w - len = omega (arith, none) in
      adds-past m old new n key len g c (omega (arith, ap (λ k. 2 ^ k) whole))

  -- after the last entry, the sum is the result
  pub adds-up : (m : Entries T) (es : List (List Bool × T)) (total : K) → IsKey total → es ≡ [] → IsCounted w m es (number (bits total)) → option_map (λ r. number (bits r)) (Some total) ≡ address_total w m
  adds-up m es total is_key e c =
      total-number w m (number (bits total)) (counted-end w m es (number (bits total)) e c)
      (subst (λ x. number (bits total) < 2 ^ x) (laws.bits_length total is_key) (number-lt (bits total)))
