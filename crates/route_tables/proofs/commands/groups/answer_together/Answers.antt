-- The values that are found together are those of the longest matches.
use Rattle.std.proofs.Common.{◌∙◌, ◌≤◌, length, subst, sym}
use Rattle.std.proofs.lemmas.List.{length-take-le, take_at}
use Rattle.prefix_trie_joint.specs.Joined.{entries_of}
use Rattle.route_tables.specs.Groups.{AreMatchValues}
use Rattle.route_tables.proofs.Groups.{matches_of}
use Rattle.route_tables.proofs.commands.groups.answer_together.Goals as goal

pub answer_each-requires-clause-found : goal.answer_each-requires-clause-found
answer_each-requires-clause-found g c =
    let few = c.requires.few in
    let long : length c.args.networks.now ≤ length c.copy_ipv4.new.asked = subst (λ n. length c.args.networks.now ≤ n) (sym c.copy_ipv4.ensures.length) few in
    subst (AreMatchValues (entries_of c.args.table.now) c.args.networks.now)
    (sym (take_at c.get_lpm_value_bulk.new.out _ (length c.args.networks.now) (c.get_lpm_value_bulk.auto.out ∙ length-take-le (length c.args.networks.now) _ few)))
    (matches_of c.args.table.now.ipv4.entries c.args.table.now.ipv6.entries c.args.networks.now c.copy_ipv4.new.asked c.get_lpm_value_bulk.new.out long c.copy_ipv4.ensures.copied c.get_lpm_value_bulk.ensures)
