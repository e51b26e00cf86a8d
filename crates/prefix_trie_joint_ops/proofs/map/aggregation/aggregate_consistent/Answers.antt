-- Removing the entries that are not marked removes the redundant ones, so no lookup changes and none is redundant.
use Rattle.std.proofs.Common.{◌∙◌, ap₂}
use Rattle.prefix_trie_ops.specs.Values.{stays}
use Rattle.prefix_trie_ops.proofs.RedundantEntries.{gone_get, none_left, same_values}
use Rattle.prefix_trie_joint.specs.Joined.{entries_of}
use Rattle.prefix_trie_joint_ops.proofs.Reduced.{reduced}
use Rattle.prefix_trie_joint_ops.proofs.map.aggregation.aggregate_consistent.Goals as goal

pub returns-clause-entries : goal.returns-clause-entries
returns-clause-entries g c =
    let eq = g.T.PartialEq.eq in
    reduced eq _ _ _ _
    (c.keep_marked.ensures.kept (stays eq c.args.table.now.ipv4.entries) (c.as_slice.ensures.value ∙ c.in_ok-ipv4.ensures))
    (c.keep_marked-2.ensures.kept (stays eq c.args.table.now.ipv6.entries) (c.as_slice-2.ensures.value ∙ c.in_ok-ipv6.ensures))

pub returns-clause-values : goal.returns-clause-values
returns-clause-values g c exact q =
    let eq = g.T.PartialEq.eq in
    let is = returns-clause-entries g c in
    same_values eq (entries_of c.args.table.now) _ (gone_get eq (entries_of c.args.table.now) _ is) c.lookup_laws.ensures exact q

pub returns-clause-none_redundant : goal.returns-clause-none_redundant
returns-clause-none_redundant g c exact s =
    let eq = g.T.PartialEq.eq in
    let is = returns-clause-entries g c in
    none_left eq (entries_of c.args.table.now) _ (gone_get eq (entries_of c.args.table.now) _ is) c.lookup_laws.ensures exact s

pub returns-clause-limit : goal.returns-clause-limit
returns-clause-limit g c = ap₂ (λ a b. (a, b)) c.keep_marked.ensures.limit c.keep_marked-2.ensures.limit
