-- Removing the entries that are not marked removes the redundant ones, so no lookup changes and none is redundant.
use Rattle.std.proofs.Common.{◌≡◌, ◌∙◌}
use Rattle.prefix_trie_ops.specs.Values.{stays, without_redundant}
use Rattle.prefix_trie_ops.proofs.RedundantEntries.{gone_entries, gone_get, none_left, same_values}
use Rattle.prefix_trie_ops.proofs.map.aggregation.aggregate_consistent.Goals as goal

pub returns-clause-entries : goal.returns-clause-entries
returns-clause-entries g c =
    gone_entries g.T.PartialEq.eq c.args.table.now.entries c.keep_marked.new.table.entries
    (c.keep_marked.ensures.kept (stays g.T.PartialEq.eq c.args.table.now.entries) (c.as_slice.ensures.value ∙ c.in_ok-marks.ensures))

pub returns-clause-values : goal.returns-clause-values
returns-clause-values g c exact q =
    let left : c.keep_marked.new.table.entries ≡ without_redundant g.T.PartialEq.eq c.args.table.now.entries =
    gone_entries g.T.PartialEq.eq c.args.table.now.entries c.keep_marked.new.table.entries
    (c.keep_marked.ensures.kept (stays g.T.PartialEq.eq c.args.table.now.entries) (c.as_slice.ensures.value ∙ c.in_ok-marks.ensures)) in
    same_values g.T.PartialEq.eq c.args.table.now.entries c.keep_marked.new.table.entries
    (gone_get g.T.PartialEq.eq c.args.table.now.entries c.keep_marked.new.table.entries left) c.lookup_laws.ensures exact q

pub returns-clause-none_redundant : goal.returns-clause-none_redundant
returns-clause-none_redundant g c exact s =
    let left : c.keep_marked.new.table.entries ≡ without_redundant g.T.PartialEq.eq c.args.table.now.entries =
    gone_entries g.T.PartialEq.eq c.args.table.now.entries c.keep_marked.new.table.entries
    (c.keep_marked.ensures.kept (stays g.T.PartialEq.eq c.args.table.now.entries) (c.as_slice.ensures.value ∙ c.in_ok-marks.ensures)) in
    none_left g.T.PartialEq.eq c.args.table.now.entries c.keep_marked.new.table.entries
    (gone_get g.T.PartialEq.eq c.args.table.now.entries c.keep_marked.new.table.entries left) c.lookup_laws.ensures exact s
