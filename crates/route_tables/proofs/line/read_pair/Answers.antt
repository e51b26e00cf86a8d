-- The second field is a hyphen and another follows it, or it is the value.
use Rattle.std.proofs.Common.{◌∷◌, inl, inr}
use Rattle.std.proofs.lemmas.Result.{IfErr-weaker, IfOk-weaker}
use Rattle.route_tables.specs.Lines.{fields}
use Rattle.route_tables.proofs.Reading.LineFields.{if_line, of_spaced, of_valued}
use Rattle.route_tables.proofs.line.read_pair.Goals as goal

pub returns-in-None-clause-read : goal.returns-in-None-clause-read
returns-in-None-clause-read c = IfOk-weaker c.read_valued.result _ _ (λ route are. inl are) c.read_valued.ensures.read

pub returns-in-None-clause-none : goal.returns-in-None-clause-none
returns-in-None-clause-none c =
    IfErr-weaker c.read_valued.result _ _
    (if_line _ _ (λ none networks value are. none networks value
    (of_valued c.args.reading c.args.first.now networks value (c.args.second.now ∷ fields c.args.rest.now) c.in-None.ensures are))) c.read_valued.ensures.none

pub returns-in-Some-clause-read : goal.returns-in-Some-clause-read
returns-in-Some-clause-read c =
    IfOk-weaker c.read_spaced.result _ _ (λ route are. inr (c.in-Some.last.now, fields c.in-Some.rest.now, c.in-Some.ensures, are)) c.read_spaced.ensures.read

pub returns-in-Some-clause-none : goal.returns-in-Some-clause-none
returns-in-Some-clause-none c =
    IfErr-weaker c.read_spaced.result _ _
    (if_line _ _ (λ none networks value are. none networks value
    (of_spaced c.args.reading c.args.first.now networks value (c.args.second.now ∷ fields c.args.rest.now) (fields c.in-Some.rest.now) c.in-Some.last.now c.in-Some.ensures are)))
    c.read_spaced.ensures.none

pub returns-in-None-clause-reason : goal.returns-in-None-clause-reason
returns-in-None-clause-reason c = IfErr-weaker c.read_valued.result _ _ (λ error reason. inr (c.in-None.ensures, reason)) c.read_valued.ensures.reason

pub returns-in-Some-clause-reason : goal.returns-in-Some-clause-reason
returns-in-Some-clause-reason c =
    IfErr-weaker c.read_spaced.result _ _ (λ error reason. inl (c.in-Some.last.now, fields c.in-Some.rest.now, c.in-Some.ensures, reason)) c.read_spaced.ensures.reason
