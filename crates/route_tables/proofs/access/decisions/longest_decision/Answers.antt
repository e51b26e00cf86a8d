-- The decision is that of the longest match.
use Rattle.std.proofs.Common.{◌∙◌}
use Rattle.prefix_trie.specs.Terms.{longest_match}
use Rattle.prefix_trie_joint.specs.Joined.{entries_of}
use Rattle.prefix_trie_joint.specs.Networks.{ip_path}
use Rattle.route_tables.proofs.Decisions.{decision_of_found, decision_of_none}
use Rattle.route_tables.proofs.access.decisions.longest_decision.Goals as goal

pub rule_decision-requires : goal.rule_decision-requires
rule_decision-requires c = c.requires _ c.in-Some.value.now c.in-Some.ensures.longest.matches.stored

pub returns-in-Some-clause-value : goal.returns-in-Some-clause-value
returns-in-Some-clause-value c =
    c.rule_decision.ensures.value
    ∙ decision_of_found (longest_match (entries_of c.args.table.now) (ip_path c.args.address.now)) c.in-Some.network c.in-Some.value.now c.in-Some.ensures.value

pub returns-in-Some-clause-in_words : goal.returns-in-Some-clause-in_words
returns-in-Some-clause-in_words c = c.rule_decision.ensures.in_words (entries_of c.args.table.now) (ip_path c.args.address.now) c.in-Some.ensures.longest

pub returns-in-None-clause-value : goal.returns-in-None-clause-value
returns-in-None-clause-value c = decision_of_none (longest_match (entries_of c.args.table.now) (ip_path c.args.address.now)) c.in-None.ensures.value
