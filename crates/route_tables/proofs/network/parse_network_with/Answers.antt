-- A text with a slash is read as a network, and one without it as an address.
use Rattle.std.proofs.Common.{◌∙◌, IfErr, MatchResult, subst, sym}
use Rattle.prefix_trie_joint.specs.declared.prefix.IpPrefix.{IpPrefix}
use Rattle.route_tables.specs.Networks.{IsTextBySlash}
use Rattle.route_tables.specs.Reasons.{IsReasonBySlash}
use Rattle.route_tables.proofs.network.parse_network_with.Goals as goal

pub returns-then-has_slash-clause-network : goal.returns-then-has_slash-clause-network
returns-then-has_slash-clause-network c =
    subst (λ b. MatchResult c.parse_with_length.result (IsTextBySlash b c.args.host_bits c.args.text.now) (λ _. (network : IpPrefix) → ¬ (IsTextBySlash b c.args.host_bits c.args.text.now network)))
    (sym c.if-has_slash.true ∙ c.has_slash.ensures) c.parse_with_length.ensures.network

pub returns-else-has_slash-clause-network : goal.returns-else-has_slash-clause-network
returns-else-has_slash-clause-network c =
    subst (λ b. MatchResult c.parse_host.result (IsTextBySlash b c.args.host_bits c.args.text.now) (λ _. (network : IpPrefix) → ¬ (IsTextBySlash b c.args.host_bits c.args.text.now network)))
    (sym c.if-has_slash.false ∙ c.has_slash.ensures) (c.parse_host.ensures.network c.args.host_bits)

pub returns-then-has_slash-clause-reason : goal.returns-then-has_slash-clause-reason
returns-then-has_slash-clause-reason c =
    subst (λ b. IfErr c.parse_with_length.result (IsReasonBySlash b c.args.host_bits c.args.text.now)) (sym c.if-has_slash.true ∙ c.has_slash.ensures) c.parse_with_length.ensures.reason

pub returns-else-has_slash-clause-reason : goal.returns-else-has_slash-clause-reason
returns-else-has_slash-clause-reason c =
    subst (λ b. IfErr c.parse_host.result (IsReasonBySlash b c.args.host_bits c.args.text.now)) (sym c.if-has_slash.false ∙ c.has_slash.ensures) c.parse_host.ensures.reason
