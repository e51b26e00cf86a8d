-- A line with two fields or more asks nothing.
use Rattle.std.proofs.Common.{◌≡◌, ◌∷◌, ℕ, List, MatchResult, ap, arith, length, subst, suc, sym}
use Rattle.prefix_trie_joint.specs.declared.prefix.IpPrefix.{IpPrefix}
use Rattle.route_tables.specs.Lines.{fields}
use Rattle.route_tables.specs.Questions.{AreFieldsOfQuestion}
use Rattle.route_tables.proofs.questions.read_only.Goals as goal

pub returns-in-None : goal.returns-in-None
returns-in-None c =
    subst (λ later. MatchResult c.read_field.result (λ question. AreFieldsOfQuestion c.args.asking (c.args.field.now ∷ later) question.text.now question.network)
    (λ _. (text : List ℕ) (network : IpPrefix) → ¬ (AreFieldsOfQuestion c.args.asking (c.args.field.now ∷ later) text network))) (sym c.in-None.ensures) c.read_field.ensures

pub returns-in-Some : goal.returns-in-Some
returns-in-Some c text network is =
    let one : length (c.args.field.now ∷ fields c.args.rest.now) ≡ 1 = ap length is.only in
    let more : length (fields c.args.rest.now) ≡ suc (length (fields c.in-Some.field-0.1.now)) = ap length c.in-Some.ensures in omega arith
