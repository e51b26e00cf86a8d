-- The checks of `read_decimal` leave exactly the plain decimal numbers up to the limit.
use Rattle.std.proofs.Common.{◌≡◌, ◌<◌, length, get_or, sym, ◌∙◌, inl, inr, arith}
use Rattle.std.proofs.lemmas.Grind.{common_steps}
use Rattle.prefix_trie_bits.proofs.Texts.Decimals.{IsPlain, decimal-plain, read, reads}
use Rattle.prefix_trie_bits.proofs.prefix.decimal.read_decimal.Goals.{then-has_plus-via-then-has_plus, then-has_plus-via-else-has_plus+then-text-gt1}
use Rattle.prefix_trie_bits.proofs.prefix.decimal.read_decimal.Goals as goal

pub returns-in_default : goal.returns-in_default
returns-in_default c n low is =
    let plain = decimal-plain c.args.text.now n (omega arith) is in
    let some : 0 < length c.args.text.now = plain.some in
    grind (arith, common_steps)

pub returns-then-has_plus : goal.returns-then-has_plus
returns-then-has_plus c n low is =
    let plain = decimal-plain c.args.text.now n (omega arith) is in
    let first : get_or c.args.text.now 0 0 ≡ c.in-Some.first.now = grind (arith, common_steps) in
    elim c.then-has_plus.branch [
      | then-has_plus-via-then-has_plus w ↦ plain.no_plus (first ∙ w.if-has_plus.true)
      | then-has_plus-via-else-has_plus+then-text-gt1 w ↦
          let one = plain.no_zero (first ∙ w.if-text-gt1.true.0) in
          omega (arith, w.if-text-gt1.true.1)
    ]

pub returns-in_default-parse : goal.returns-in_default-parse
returns-in_default-parse c n low is =
    let same = reads c.args.text.now n _ (omega arith) is c.parse.ensures.value.0 in
    let h = c.in_default-parse.is in
    cc

pub returns-then-number-most : goal.returns-then-number-most
returns-then-number-most c n low is =
    let same = reads c.args.text.now n _ (omega arith) is c.parse.ensures.value.0 in
    let equal : n ≡ c.in-Ok.number = let h = c.in-Ok.is in cc in
    omega (arith, c.if-number-most.true)

pub returns : goal.returns
returns c =
    let first : get_or c.args.text.now 0 0 ≡ c.in-Some.first.now = grind (arith, common_steps) in
    let some : 0 < length c.args.text.now = grind (arith, common_steps) in
    let plain : IsPlain c.args.text.now = record {
      some = some;
      no_plus = λ plus. c.if-has_plus.false (sym first ∙ plus);
      no_zero = λ zero. elim c.if-text-gt1.either [
        | inl one ↦ omega (arith, one.1, some)
        | inr other ↦ absurd (other (sym first ∙ zero))
      ];
    } in
    (omega (arith, c.if-number-most.false), read c.args.text.now c.in-Ok.number _ plain c.in-Ok.is c.parse.ensures.value.0)
