-- The field is a question if it is UTF-8 and its text is one.
use Rattle.std.proofs.Common.{◌≡◌, ◌∙◌, [], ◌∷◌, ap, subst, sym}
use Rattle.std.proofs.lemmas.Result.{MatchResult-weaker}
use Rattle.std.specs.Str.{IsUtf8}
use Rattle.route_tables.specs.Questions.{IsQuestion}
use Rattle.route_tables.proofs.questions.read_field.Goals as goal

pub returns-in-Ok : goal.returns-in-Ok
returns-in-Ok c =
    MatchResult-weaker c.parse_question.result c.parse_question.ensures
    (λ question is. record {
      only = ap (λ text. text ∷ []) (sym (is.0 ∙ c.in-Ok.ensures.cases.0));
      utf8 = subst IsUtf8 (sym (is.0 ∙ c.in-Ok.ensures.cases.0)) c.in-Ok.ensures.cases.1;
      is_question = subst (λ text. IsQuestion c.args.asking text question.network) (sym is.0) is.1;
    })
    (λ error none text network is.
    let only : c.args.field.now ∷ [] ≡ text ∷ [] = is.only in
    let same : text ≡ c.args.field.now = cc in
    none network (subst (λ t. IsQuestion c.args.asking t network) (same ∙ sym c.in-Ok.ensures.cases.0) is.is_question))

pub returns-in-Err : goal.returns-in-Err
returns-in-Err c text network is =
    let only : c.args.field.now ∷ [] ≡ text ∷ [] = is.only in let same : text ≡ c.args.field.now = cc in c.in-Err.ensures.cases.0 (subst IsUtf8 same is.utf8)
