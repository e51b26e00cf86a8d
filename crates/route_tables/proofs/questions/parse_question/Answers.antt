-- A text that is not what may be asked is no question.
use Rattle.std.proofs.Common.{refl}
use Rattle.std.proofs.lemmas.Result.{err_from_is_err_and}
use Rattle.route_tables.proofs.questions.parse_question.Goals as goal

pub returns-in_err-written : goal.returns-in_err-written
returns-in_err-written c =
    let p = err_from_is_err_and c.from_residual.result c.from_residual.ensures.1 in rw (p.1) (λ network is. c.in_err-written.ensures is.0 is.1)

pub returns : goal.returns
returns c = (refl, (c.in_ok-written.written, c.in_ok-written.ensures, c.read_mapped-network.ensures))
