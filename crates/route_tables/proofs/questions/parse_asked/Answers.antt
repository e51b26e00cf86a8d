-- What may be asked decides how a text is read.
use Rattle.std.proofs.Common.{MatchResult, subst, sym}
use Rattle.prefix_trie_joint.specs.declared.prefix.IpPrefix.{IpPrefix}
use Rattle.route_tables.specs.Questions.{IsAsked}
use Rattle.route_tables.proofs.questions.parse_asked.Goals as goal

pub returns-in-Addresses : goal.returns-in-Addresses
returns-in-Addresses c =
    subst (λ asked. MatchResult c.parse_host.result (IsAsked asked c.args.text.now) (λ _. (network : IpPrefix) → ¬ (IsAsked asked c.args.text.now network))) (sym c.in-Addresses.is) c.parse_host.ensures

pub returns-in-Networks : goal.returns-in-Networks
returns-in-Networks c =
    subst (λ asked. MatchResult c.parse_named.result (IsAsked asked c.args.text.now) (λ _. (network : IpPrefix) → ¬ (IsAsked asked c.args.text.now network))) (sym c.in-Networks.is) c.parse_named.ensures
