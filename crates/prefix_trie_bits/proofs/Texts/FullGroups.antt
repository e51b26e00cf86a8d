-- Eight groups of four digits are a text of an IPv6 address: for `text_laws` and the `Debug` text.
use Rattle.std.proofs.Common.{◌≡◌, ℕ, suc, ◌/◌, ◌%◌, ◌^◌, ◌<◌, List, [], ◌∷◌, length, get_or, flat_map, true, refl, arith, inl}
use Rattle.std.proofs.lemmas.Bool.Decides.{nat_tests}
use Rattle.std.specs.Char.{digit_value, digit_char}
use Rattle.std.specs.Net.Grammar.{IsGroup, IsGroupsAfter, IsColonHex}
use Rattle.prefix_trie_bits.specs.Texts.{four_digits, full_groups}

value : (d : ℕ) → d < 16 → digit_value (digit_char d) ≡ d
value d h = grind (arith, nat_tests)

group : (n : ℕ) → n < 2 ^ 16 → IsGroup (four_digits n) n
group n fits =
    let a = value (n / 0x1000) (omega arith) in
    let b = value (n / 0x100 % 16) (omega arith) in
    let c = value (n / 0x10 % 16) (omega arith) in
    let d = value (n % 16) (omega arith) in
    omega arith

more : (xs : List ℕ) → ((i : ℕ) → get_or xs i 0 < 2 ^ 16) → IsGroupsAfter true (58 ∷ []) (flat_map (λ t. 58 ∷ four_digits t) xs) xs
more [] h = refl
more (x ∷ xs) h = inl (four_digits x, _, refl, group x (h 0), more xs (λ j. h (suc j)))

pub IsColonHex-full_groups : (xs : List ℕ) → length xs ≡ 8 → ((i : ℕ) → get_or xs i 0 < 2 ^ 16) → IsColonHex (full_groups xs) xs
IsColonHex-full_groups [] eight h = inl (refl, eight)
IsColonHex-full_groups (x ∷ xs) eight h = inl (inl (four_digits x, _, refl, group x (h 0), more xs (λ j. h (suc j))), eight)
