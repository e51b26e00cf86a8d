-- The path of a network, or of a pair of a number and a length, as numbers: for `network_laws` and
-- `narrow_laws`.
use Rattle.prefix_trie.proofs.Prelude.{◌≡◌, ℕ, ◌+◌, ◌-◌, ◌^◌, ◌/◌, ◌<◌, ◌≤◌, length, take, nat_eq, refl, sym, ap, ◌∙◌, subst, arith, eqb-true, eq-eqb, Option, Some, None, IfSome, option_map, length-take-le, take_all, shr_below, begins, digits, number, length-digits, take-digits, number_of_digits, same_bool, begins-take, begins-from-take, NetworkLaws, NumberLaws}

-- the number of the first len bits of a number is below 2^len
first_below : (w n len : ℕ) → n < 2 ^ w → len ≤ w → n / 2 ^ (w - len) < 2 ^ len
first_below w n len small within = shr_below n len (w - len) (subst (λ k. n < 2 ^ k) (sym (split w len within)) small)
  where
    split : (a c : ℕ) → c ≤ a → c + (a - c) ≡ a
    split a c h = omega arith

path_long : (w n len : ℕ) → len ≤ w → length (take len (digits w n)) ≡ len
path_long w n len within = length-take-le len (digits w n) (omega (arith, length-digits w n, within))

module _ (w network addr len : ℕ) (network_small : network < 2 ^ w) (addr_small : addr < 2 ^ w) (within : len ≤ w) where
  contains : begins (take len (digits w network)) (digits w addr) ≡ nat_eq (network / 2 ^ (w - len)) (addr / 2 ^ (w - len))
  contains =
      same_bool _ _
      (λ b.
      let same : take len (digits w addr) ≡ take len (digits w network) = ap (λ n. take n (digits w addr)) (sym (path_long w network len within)) ∙ begins-take (take len (digits w network)) (digits w addr) b in
      eq-eqb (network / 2 ^ (w - len)) (addr / 2 ^ (w - len))
      (sym (number_of_digits len (network / 2 ^ (w - len)) (first_below w network len network_small within))
      ∙ ap number (sym (take-digits len w network within) ∙ sym same ∙ take-digits len w addr within)
      ∙ number_of_digits len (addr / 2 ^ (w - len)) (first_below w addr len addr_small within)))
      (λ b.
      begins-from-take (take len (digits w network)) (digits w addr) len
      (take-digits len w addr within ∙ ap (digits len) (sym (eqb-true (network / 2 ^ (w - len)) (addr / 2 ^ (w - len)) b)) ∙ sym (take-digits len w network within)))

whole : (w addr : ℕ) → take w (digits w addr) ≡ digits w addr
whole w addr = take_all w (digits w addr) (omega (arith, length-digits w addr))

counted : (w : ℕ) (count : Option ℕ) → IfSome count (λ n. n < 2 ^ w) → option_map (λ n. number (digits w n)) count ≡ count
counted w None small = refl
counted w (Some n) small = ap Some (number_of_digits w n small)

pub number_laws : (w : ℕ) → NumberLaws w
number_laws w = record { as_long = path_long w; whole = whole w; contains = contains w; count = counted w }

pub network_laws : NetworkLaws
network_laws = record {
  ipv4_host = whole 32;
  ipv6_host = whole 128;
  ipv4_contains = contains 32;
  ipv6_contains = contains 128;
  ipv4_count = counted 32;
  ipv6_count = counted 128;
}
