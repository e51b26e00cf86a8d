-- A text that is not UTF-8 has a byte that is no digit.
use Rattle.std.proofs.lemmas.Fmt.{IsAscii-from_digits}
use Rattle.std.proofs.lemmas.Str.{IsUtf8-from_ascii}
use Rattle.route_tables.proofs.as_numbers.parse_digits.Goals as goal

pub returns-in-Err : goal.returns-in-Err
returns-in-Err c n is = c.in-Err.ensures.cases.0 (IsUtf8-from_ascii _ (IsAscii-from_digits _ is.digits.1))
