-- Networks without host bits are ordered by address and then by length, as their paths are listed:
-- for `network_order_laws`.
use Rattle.std.proofs.Common.{◌≡◌, ℕ, suc, ◌+◌, ◌-◌, ◌*◌, ◌^◌, ◌<◌, ◌≤◌, Bool, true, false, List, [], ◌∷◌, ◌++◌, length, refl, sym, ap, ap₂, ◌∙◌, subst, arith, inl, inr, pow_pos, Ordering, Less, Equal, Greater}
use Rattle.std.proofs.lemmas.Bool.{cases_lt}
use Rattle.std.proofs.lemmas.Bool.Decides.{nat_tests}
use Rattle.std.specs.Ordering.{nat_cmp, ordering_then}
use Rattle.prefix_trie_bits.specs.Model.Bits.{bit, number, digits, zeros}
use Rattle.prefix_trie_bits.specs.BitStrings.{number-lt, length-digits, zero_bits, number_of_digits}
use Rattle.prefix_trie_bits.specs.Begins.{length-first}
use Rattle.prefix_trie_bits.specs.Windows.{length-filled}
use Rattle.prefix_trie_bits.specs.Model.Order.{listing_cmp}
use Rattle.prefix_trie_bits.specs.Networks.{network_path, network_cmp, HasNoHostBits}
use Rattle.prefix_trie_bits.specs.Laws.NetworkOrder.{FamilyOrderLaws, NetworkOrderLaws}

less : (x y : ℕ) → x < y → nat_cmp x y ≡ Less
less x y h = grind (arith, nat_tests)

equal : (x : ℕ) → nat_cmp x x ≡ Equal
equal x = grind (arith, nat_tests)

greater : (x y : ℕ) → y < x → nat_cmp x y ≡ Greater
greater x y h = grind (arith, nat_tests)

-- adding the same number on both sides does not change a comparison
shifted : (c x y : ℕ) → nat_cmp (c + x) (c + y) ≡ nat_cmp x y
shifted c x y = grind (arith, nat_tests)

longer : (m n : ℕ) → nat_cmp (suc m) (suc n) ≡ nat_cmp m n
longer m n = grind (arith, nat_tests)

-- the number whose digits are a path and then zeros
abbrev filled : ℕ → List Bool → ℕ
filled w s = number (s ++ zeros (w - length s))

filled-below : (w : ℕ) (s : List Bool) → length s ≤ w → filled w s < 2 ^ w
filled-below w s h = subst (λ k. filled w s < 2 ^ k) (length-filled w s h) (number-lt (s ++ zeros (w - length s)))

filled-none : (w : ℕ) → filled w [] ≡ 0
filled-none w =
    let all : w - 0 ≡ w = omega arith in
    ap (λ k. number (zeros k)) all ∙ ap number (sym (zero_bits w)) ∙ number_of_digits w 0 (pow_pos w)

filled-more : (w : ℕ) (b : Bool) (s : List Bool) → suc (length s) ≤ w → filled w (b ∷ s) ≡ bit b * 2 ^ (w - 1) + filled (w - 1) s
unfolding number
filled-more w b s h =
    let rest : w - suc (length s) ≡ w - 1 - length s = omega arith in
    ap (λ k. number (b ∷ s ++ zeros k)) rest ∙
    ap (λ k. bit b * 2 ^ k + filled (w - 1) s) (length-filled (w - 1) s (omega arith))

nothing_before : (x y m : ℕ) → x ≡ 0 → ordering_then (nat_cmp x y) (nat_cmp 0 (suc m)) ≡ Less
nothing_before x y m none = elim (cases_lt x y) [
  | inl lower ↦ ap (λ o. ordering_then o (nat_cmp 0 (suc m))) (less x y lower)
  | inr other ↦
      let same : x ≡ y = omega arith in
      ap (λ z. ordering_then (nat_cmp x z) (nat_cmp 0 (suc m))) (sym same) ∙
      ap (λ o. ordering_then o (nat_cmp 0 (suc m))) (equal x) ∙ less 0 (suc m) (omega arith)
]

nothing_after : (x y m : ℕ) → y ≡ 0 → ordering_then (nat_cmp x y) (nat_cmp (suc m) 0) ≡ Greater
nothing_after x y m none = elim (cases_lt y x) [
  | inl higher ↦ ap (λ o. ordering_then o (nat_cmp (suc m) 0)) (greater x y higher)
  | inr other ↦
      let same : x ≡ y = omega arith in
      ap (λ z. ordering_then (nat_cmp x z) (nat_cmp (suc m) 0)) (sym same) ∙
      ap (λ o. ordering_then o (nat_cmp (suc m) 0)) (equal x) ∙ greater (suc m) 0 (omega arith)
]

-- the order by address and then by length
abbrev by_numbers : ℕ → List Bool → List Bool → Ordering
by_numbers w s t = ordering_then (nat_cmp (filled w s) (filled w t)) (nat_cmp (length s) (length t))

same_first : (w : ℕ) (b : Bool) (s t : List Bool) → suc (length s) ≤ w → suc (length t) ≤ w → by_numbers w (b ∷ s) (b ∷ t) ≡ by_numbers (w - 1) s t
same_first w b s t h k =
    ap₂ ordering_then (ap₂ nat_cmp (filled-more w b s h) (filled-more w b t k) ∙ shifted (bit b * 2 ^ (w - 1)) (filled (w - 1) s) (filled (w - 1) t)) (longer (length s) (length t))

zero_first : (w : ℕ) (s t : List Bool) → suc (length s) ≤ w → suc (length t) ≤ w → filled w (false ∷ s) < filled w (true ∷ t)
zero_first w s t h k = omega (arith, filled-more w false s h, filled-more w true t k, filled-below (w - 1) s (omega arith))

pub listed_by_numbers : (w : ℕ) (s t : List Bool) → length s ≤ w → length t ≤ w → by_numbers w s t ≡ listing_cmp s t
listed_by_numbers w [] [] h k = ap (λ o. ordering_then o (nat_cmp 0 0)) (equal (filled w []))
listed_by_numbers w [] (b ∷ t) h k = nothing_before (filled w []) (filled w (b ∷ t)) (length t) (filled-none w)
listed_by_numbers w (a ∷ s) [] h k = nothing_after (filled w (a ∷ s)) (filled w []) (length s) (filled-none w)
listed_by_numbers w (true ∷ s) (true ∷ t) h k = same_first w true s t h k ∙ listed_by_numbers (w - 1) s t (omega arith) (omega arith)
listed_by_numbers w (false ∷ s) (false ∷ t) h k = same_first w false s t h k ∙ listed_by_numbers (w - 1) s t (omega arith) (omega arith)
listed_by_numbers w (false ∷ s) (true ∷ t) h k =
    ap (λ o. ordering_then o (nat_cmp (suc (length s)) (suc (length t)))) (less _ _ (zero_first w s t h k))
listed_by_numbers w (true ∷ s) (false ∷ t) h k =
    ap (λ o. ordering_then o (nat_cmp (suc (length s)) (suc (length t)))) (greater _ _ (zero_first w t s k h))

listing : (w : ℕ) (p q : ℕ × ℕ) → p.1 ≤ w → q.1 ≤ w → HasNoHostBits w p → HasNoHostBits w q → network_cmp p q ≡ listing_cmp (network_path w p) (network_path w q)
listing w p q h k no_hosts no_hosts' =
    let length_p : length (network_path w p) ≡ p.1 = length-first _ (digits w p.0) w p.1 refl (length-digits w p.0) h in
    let length_q : length (network_path w q) ≡ q.1 = length-first _ (digits w q.0) w q.1 refl (length-digits w q.0) k in
    let number_p : p.0 ≡ filled w (network_path w p) = no_hosts ∙ ap (λ n. number (network_path w p ++ zeros (w - n))) (sym length_p) in
    let number_q : q.0 ≡ filled w (network_path w q) = no_hosts' ∙ ap (λ n. number (network_path w q ++ zeros (w - n))) (sym length_q) in
    ap₂ ordering_then (ap₂ nat_cmp number_p number_q) (ap₂ nat_cmp (sym length_p) (sym length_q)) ∙
    listed_by_numbers w (network_path w p) (network_path w q) (omega arith) (omega arith)

family : (w : ℕ) → FamilyOrderLaws w
family w = record { listing = listing w; walked = listed_by_numbers w }

pub network_order_laws : NetworkOrderLaws
network_order_laws = record { ipv4 = family 32; ipv6 = family 128 }
