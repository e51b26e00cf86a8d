-- A text with a hyphen is split at the first one.
use Rattle.std.proofs.Common.{◌==◌, List, subst, sym, IfErr, IfOk, lit<}
use Rattle.std.specs.List.{after_first}
use Rattle.prefix_trie_joint.specs.declared.prefix.IpPrefix.{IpPrefix}
use Rattle.route_tables.specs.Networks.{AreOfEnds, AreOfTextByHyphen, all_networks}
use Rattle.route_tables.specs.Reasons.{IsEndsReason, IsReasonByHyphen}
use Rattle.route_tables.specs.Routes.{IfLine}
use Rattle.route_tables.proofs.Ranges.{is_missing, occurs}
use Rattle.route_tables.proofs.range.parse_split.Goals as goal

pub returns-in-Some-clause-read : goal.returns-in-Some-clause-read
returns-in-Some-clause-read c =
    let cut = c.in-Some.ensures.byte (lit< tt) (λ w o h. h) in
    subst (λ b. IfOk c.parse_range.result (λ networks. AreOfTextByHyphen b c.args.host_bits c.args.text.now (all_networks networks)))
    (sym (occurs (λ b. b == 45) c.args.text.now cut.2))
    (subst (λ front. IfOk c.parse_range.result (λ networks. AreOfEnds front (after_first (λ b. b == 45) c.args.text.now) (all_networks networks))) cut.0
    (subst (λ back. IfOk c.parse_range.result (λ networks. AreOfEnds c.in-Some.first.now back (all_networks networks))) cut.1 c.parse_range.ensures.read))

pub returns-in-Some-clause-none : goal.returns-in-Some-clause-none
returns-in-Some-clause-none c =
    let cut = c.in-Some.ensures.byte (lit< tt) (λ w o h. h) in
    subst (λ b. IfErr c.parse_range.result (IfLine ((networks : List IpPrefix) → ¬ (AreOfTextByHyphen b c.args.host_bits c.args.text.now networks))))
    (sym (occurs (λ b. b == 45) c.args.text.now cut.2))
    (subst (λ front. IfErr c.parse_range.result (IfLine ((networks : List IpPrefix) → ¬ (AreOfEnds front (after_first (λ b. b == 45) c.args.text.now) networks)))) cut.0
    (subst (λ back. IfErr c.parse_range.result (IfLine ((networks : List IpPrefix) → ¬ (AreOfEnds c.in-Some.first.now back networks)))) cut.1 c.parse_range.ensures.none))

pub returns-in-None-clause-read : goal.returns-in-None-clause-read
returns-in-None-clause-read c =
    subst (λ b. IfOk c.parse_one.result (λ networks. AreOfTextByHyphen b c.args.host_bits c.args.text.now (all_networks networks)))
    (sym (is_missing (λ b. b == 45) c.args.text.now (c.in-None.ensures.byte (lit< tt) (λ w o h. h)))) c.parse_one.ensures.read

pub returns-in-None-clause-none : goal.returns-in-None-clause-none
returns-in-None-clause-none c =
    subst (λ b. IfErr c.parse_one.result (IfLine ((networks : List IpPrefix) → ¬ (AreOfTextByHyphen b c.args.host_bits c.args.text.now networks))))
    (sym (is_missing (λ b. b == 45) c.args.text.now (c.in-None.ensures.byte (lit< tt) (λ w o h. h)))) c.parse_one.ensures.none

pub returns-in-Some-clause-reason : goal.returns-in-Some-clause-reason
returns-in-Some-clause-reason c =
    let cut = c.in-Some.ensures.byte (lit< tt) (λ w o h. h) in
    subst (λ b. IfErr c.parse_range.result (IsReasonByHyphen b c.args.host_bits c.args.text.now))
    (sym (occurs (λ b. b == 45) c.args.text.now cut.2))
    (subst (λ front. IfErr c.parse_range.result (IsEndsReason front (after_first (λ b. b == 45) c.args.text.now))) cut.0
    (subst (λ back. IfErr c.parse_range.result (IsEndsReason c.in-Some.first.now back)) cut.1 c.parse_range.ensures.reason))

pub returns-in-None-clause-reason : goal.returns-in-None-clause-reason
returns-in-None-clause-reason c =
    subst (λ b. IfErr c.parse_one.result (IsReasonByHyphen b c.args.host_bits c.args.text.now))
    (sym (is_missing (λ b. b == 45) c.args.text.now (c.in-None.ensures.byte (lit< tt) (λ w o h. h)))) c.parse_one.ensures.reason
