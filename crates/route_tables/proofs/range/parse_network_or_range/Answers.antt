-- A text without a hyphen is read as one network.
use Rattle.std.proofs.Common.{IfErr, List, ◌∙◌, subst, sym}
use Rattle.prefix_trie_joint.specs.declared.prefix.IpPrefix.{IpPrefix}
use Rattle.route_tables.specs.Networks.{AreOfTextByHyphen}
use Rattle.route_tables.specs.Reasons.{IsReasonByHyphen}
use Rattle.route_tables.specs.Routes.{IfLine}
use Rattle.route_tables.proofs.range.parse_network_or_range.Goals as goal

pub returns-else-has_hyphen-clause-none : goal.returns-else-has_hyphen-clause-none
returns-else-has_hyphen-clause-none c =
    let has_none = sym c.has_hyphen.ensures ∙ c.if-has_hyphen.false in
    subst (λ b. IfErr c.parse_one.result (IfLine ((networks : List IpPrefix) → ¬ (AreOfTextByHyphen b c.args.host_bits c.args.text.now networks)))) (sym has_none) c.parse_one.ensures.none

pub returns-else-has_hyphen-clause-reason : goal.returns-else-has_hyphen-clause-reason
returns-else-has_hyphen-clause-reason c =
    let has_none = sym c.has_hyphen.ensures ∙ c.if-has_hyphen.false in
    subst (λ b. IfErr c.parse_one.result (IsReasonByHyphen b c.args.host_bits c.args.text.now)) (sym has_none) c.parse_one.ensures.reason
