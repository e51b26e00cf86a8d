-- Each line of a text gives rules, or the list is lost.
use Rattle.std.proofs.Common.{◌∙◌, ap, refl, subst, sym}
use Rattle.prefix_trie_joint.specs.Joined.{entries_of}
use Rattle.route_tables.specs.Access.{access_reading}
use Rattle.route_tables.specs.Lines.{table_lines}
use Rattle.route_tables.specs.Loads.{with_routes}
use Rattle.route_tables.specs.Rules.{HasRules}
use Rattle.route_tables.proofs.AccessLists.{all_rules, rules_after}
use Rattle.route_tables.proofs.access.AccessList.add.Goals as goal

pub invariant_of-result : goal.invariant_of-result
invariant_of-result c =
    let added = c.in_ok-warnings.ensures.added in
    subst HasRules (sym added.2)
    (rules_after added.0 (entries_of c.self.inside.table) c.self.invariant (all_rules (access_reading c.args.host_bits) (table_lines c.args.text.now) added.0 refl added.1))

pub returns-clause-whole : goal.returns-clause-whole
returns-clause-whole c =
    let added = c.in_ok-warnings.ensures.added in
    (added.0, added.1, all_rules (access_reading c.args.host_bits) (table_lines c.args.text.now) added.0 refl added.1, added.2 ∙ ap (with_routes added.0) c.self.view_is)
