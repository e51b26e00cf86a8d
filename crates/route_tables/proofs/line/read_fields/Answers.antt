-- A line has one field or more.
use Rattle.std.proofs.Common.{◌≡◌, ◌∙◌, ℕ, [], ◌∷◌, List, IfErr, IfOk, codes, inl, inr, subst, sym}
use Rattle.std.proofs.lemmas.Result.{IfErr-weaker, IfOk-weaker}
use Rattle.prefix_trie_joint.specs.declared.prefix.IpPrefix.{IpPrefix}
use Rattle.route_tables.specs.Networks.{all_networks}
use Rattle.route_tables.specs.Reasons.{AreNoNetworksAndValue, IsFieldsReason}
use Rattle.route_tables.specs.Routes.{AreFieldsOf, AreNetworksAndValue, IfLine}
use Rattle.route_tables.proofs.Reading.LineFields.{if_line, of_alone}
use Rattle.route_tables.proofs.line.read_fields.Goals as goal

pub returns-in-None-clause-read : goal.returns-in-None-clause-read
returns-in-None-clause-read c =
    IfOk-weaker c.read_alone.result _ _
    (λ route are. inl (subst (λ later. AreNetworksAndValue c.args.reading c.args.first.now later (all_networks route.0) route.1.now) (sym c.in-None.ensures) are)) c.read_alone.ensures.read

pub returns-in-None-clause-none : goal.returns-in-None-clause-none
returns-in-None-clause-none c =
    IfErr-weaker c.read_alone.result _ _
    (if_line _ _ (λ none networks value are. none networks value (of_alone c.args.reading c.args.first.now networks value _ c.in-None.ensures are))) c.read_alone.ensures.none

pub returns-in-Some-clause-read : goal.returns-in-Some-clause-read
returns-in-Some-clause-read c =
    subst (λ later. IfOk c.read_pair.result (λ route. AreFieldsOf c.args.reading c.args.first.now later (all_networks route.0) route.1.now)) (sym c.in-Some.ensures) c.read_pair.ensures.read

pub returns-in-Some-clause-none : goal.returns-in-Some-clause-none
returns-in-Some-clause-none c =
    subst (λ later. IfErr c.read_pair.result (IfLine ((networks : List IpPrefix) (value : List ℕ) → ¬ (AreFieldsOf c.args.reading c.args.first.now later networks value)))) (sym c.in-Some.ensures)
    c.read_pair.ensures.none

pub returns-in-None-clause-reason : goal.returns-in-None-clause-reason
returns-in-None-clause-reason c =
    IfErr-weaker c.read_alone.result _ _
    (λ error reason. inr (
      λ last rest split. let e : [] ≡ codes "-" ∷ last ∷ rest = sym c.in-None.ensures ∙ split in cc,
      subst (λ later. AreNoNetworksAndValue c.args.reading c.args.first.now later error) (sym c.in-None.ensures) reason,
    )) c.read_alone.ensures.reason

pub returns-in-Some-clause-reason : goal.returns-in-Some-clause-reason
returns-in-Some-clause-reason c =
    subst (λ later. IfErr c.read_pair.result (IsFieldsReason c.args.reading c.args.first.now later)) (sym c.in-Some.ensures) c.read_pair.ensures.reason
