-- A line is blank, or its only field is a question, or neither.
use Rattle.std.proofs.Common.{◌≡◌, ◌∙◌, [], ◌∷◌, subst, sym, true≢false}
use Rattle.route_tables.specs.Lines.{fields}
use Rattle.route_tables.specs.Questions.{AreFieldsOfQuestion}
use Rattle.route_tables.proofs.questions.read_question.Goals as goal

pub returns-then-has_bare_return : goal.returns-then-has_bare_return
returns-then-has_bare_return c = (
  λ blank. true≢false (sym c.if-has_bare_return.true ∙ c.has_bare_return.ensures ∙ blank.1),
  λ text network is. true≢false (sym c.if-has_bare_return.true ∙ c.has_bare_return.ensures ∙ is.1),
)

pub returns-in-Ok : goal.returns-in-Ok
returns-in-Ok c = (
  subst (λ read. AreFieldsOfQuestion c.args.asking read c.in-Ok.question.text.now c.in-Ok.question.network) (sym c.in-Some.ensures) c.in-Ok.ensures,
  sym c.has_bare_return.ensures ∙ c.if-has_bare_return.false,
)

pub returns-in-Err : goal.returns-in-Err
returns-in-Err c = (
  λ blank. let e : [] ≡ c.in-Some.field.now ∷ fields c.in-Some.rest.now = sym blank.0 ∙ c.in-Some.ensures in cc,
  λ text network is. c.in-Err.ensures text network (subst (λ read. AreFieldsOfQuestion c.args.asking read text network) c.in-Some.ensures is.0),
)
