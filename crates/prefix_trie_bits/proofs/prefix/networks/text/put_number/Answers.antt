-- The bytes before `end` are the decimal digits.
use Rattle.std.proofs.Common.{◌<◌, drop, arith}
use Rattle.prefix_trie_bits.proofs.Texts.Octets.{one_digit, two_digits, three_digits}
use Rattle.prefix_trie_bits.proofs.prefix.networks.text.put_number.Goals as goal

pub returns-then-number-lt10-clause-value : goal.returns-then-number-lt10-clause-value
returns-then-number-lt10-clause-value c =
    let e = one_digit (drop c.args.end c.args.text.now) c.args.number c.if-number-lt10.true in cc

pub returns-then-number-lt100-clause-value : goal.returns-then-number-lt100-clause-value
returns-then-number-lt100-clause-value c =
    let e = two_digits (drop c.args.end c.args.text.now) c.args.number c.if-number-lt10.false c.if-number-lt100.true in cc

pub returns-clause-value : goal.returns-clause-value
returns-clause-value c =
    let below : c.args.number < 256 = omega arith in
    let e = three_digits (drop c.args.end c.args.text.now) c.args.number c.if-number-lt100.false below in cc
