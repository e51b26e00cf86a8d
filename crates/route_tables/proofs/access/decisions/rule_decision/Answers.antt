-- The decision of a network is that of its rule.
use Rattle.std.proofs.Common.{◌≡◌, ◌∙◌, ap, bytes_eq, codes, cond, false, sym, true}
use Rattle.route_tables.specs.declared.access.Decision.TheVariants.{Allowed, Denied}
use Rattle.route_tables.proofs.Decisions.{rule_allows, rule_denies}
use Rattle.route_tables.proofs.access.decisions.rule_decision.Goals as goal

pub returns-then-is_allow-clause-value : goal.returns-then-is_allow-clause-value
returns-then-is_allow-clause-value c =
    let same : bytes_eq c.args.rule.now (codes "allow") ≡ true = sym c.is_allow.ensures ∙ c.if-is_allow.true in sym (ap (λ b. cond b (Allowed c.args.network) (Denied c.args.network)) same)

pub returns-then-is_allow-clause-in_words : goal.returns-then-is_allow-clause-in_words
returns-then-is_allow-clause-in_words c m q is = rule_allows c.args.network c.args.rule.now m q (sym c.is_allow.ensures ∙ c.if-is_allow.true) is

pub returns-else-is_allow-clause-value : goal.returns-else-is_allow-clause-value
returns-else-is_allow-clause-value c =
    let other : bytes_eq c.args.rule.now (codes "allow") ≡ false = sym c.is_allow.ensures ∙ c.if-is_allow.false in
    sym (ap (λ b. cond b (Allowed c.args.network) (Denied c.args.network)) other)

pub returns-else-is_allow-clause-in_words : goal.returns-else-is_allow-clause-in_words
returns-else-is_allow-clause-in_words c m q is = rule_denies c.args.network c.args.rule.now m q c.requires (sym c.is_allow.ensures ∙ c.if-is_allow.false) is
