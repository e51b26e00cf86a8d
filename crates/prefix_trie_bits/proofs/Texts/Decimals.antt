-- `read_decimal` reads exactly the numbers in plain decimal, with no sign and no leading zero: for `parse` of lengths
-- and of `Narrow`.
use Rattle.std.proofs.Common.{◌≡◌, ◌≢◌, ℕ, ◌^◌, ◌<◌, ◌≤◌, List, length, get_or, Result, Ok, decimal, sym, ◌∙◌, ap, arith, inl, inr}
use Rattle.std.specs.Str.Parse.{AllDigits, digits_value, ParsesUnsigned}
use Rattle.std.proofs.lemmas.Bool.{cases_lt}
use Rattle.std.proofs.lemmas.Nat.{pow_below}
use Rattle.std.proofs.lemmas.Fmt.{decimal_digit, decimal_is_IsNumeral, first_decimal, decimal-digits_value, parse-decimal}
use Rattle.std.proofs.lemmas.Str.Parse.{IsNumeralModel, numerals_by_value, tells_digits, parse_plain, digit_at}

own : IsNumeralModel (AllDigits 10) (digits_value 10)
own = numerals_by_value _ tells_digits

-- a text without a sign and without a leading zero
pub record IsPlain (text : List ℕ) : Type 0 where
  pub some : 0 < length text
  pub no_plus : get_or text 0 0 ≢ 43
  pub no_zero : get_or text 0 0 ≡ 48 → length text ≡ 1

pub decimal-plain : (text : List ℕ) (n : ℕ) → n < 2 ^ 64 → text ≡ decimal n → IsPlain text
decimal-plain text n small e =
    let (some, all) = (decimal_is_IsNumeral n small).0 in
    let first = digit_at (decimal n) 0 all some in
    rw e (record {
      some = some;
      no_plus = λ plus. omega (arith, first.0);
      no_zero = λ zero. elim (cases_lt n 10) [
        | inl one ↦ ap length (decimal_digit n one)
        | inr more ↦ absurd (omega (arith, first_decimal n (omega arith) small))
      ];
    })

-- if `parse` reads a number from a plain text, the text is that number in decimal
pub read : {E : Type 0} (text : List ℕ) (n : ℕ) (r : Result ℕ E) → IsPlain text → r ≡ Ok n → ParsesUnsigned 64 10 text r → text ≡ decimal n
read text n r plain is parsed =
    let h = rw is at (parse_plain own 64 text r parsed plain.no_plus) in
    let small : digits_value 10 text < 2 ^ 64 = omega (arith, h.0.2) in
    sym (ap decimal h.1 ∙ decimal-digits_value own text h.0.0 h.0.1 plain.no_zero small)

-- `parse` reads each number that is written in plain decimal
pub reads : {E : Type 0} (text : List ℕ) (n : ℕ) (r : Result ℕ E) → n < 2 ^ 64 → text ≡ decimal n → ParsesUnsigned 64 10 text r → r ≡ Ok n
reads text n r fits e = parse-decimal 64 n text r fits (omega arith) e

-- a number of at most 63 bits is below 2^64
pub narrow_fits : (width n : ℕ) → width ≤ 63 → n < 2 ^ width → n < 2 ^ 64
narrow_fits width n within h = omega (arith, pow_below width 64 (omega arith))
