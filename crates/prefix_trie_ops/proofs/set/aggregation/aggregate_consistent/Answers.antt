-- The marked keys are the uppermost ones, so the same prefixes are covered and no key that is left covers another.
use Rattle.std.proofs.Common.{◌∙◌}
use Rattle.prefix_trie_ops.specs.Covered.{is_uppermost}
use Rattle.prefix_trie_ops.proofs.Uppermost.{none_covered, same_covered, uppermost_entries}
use Rattle.prefix_trie_ops.proofs.set.aggregation.aggregate_consistent.Goals as goal

pub returns-clause-entries : goal.returns-clause-entries
returns-clause-entries g c =
    let m = c.args.set.now.entries in
    uppermost_entries m c.keep_marked.new.set.entries (c.keep_marked.ensures.kept (is_uppermost m) (c.as_slice.ensures.value ∙ c.in_ok-marks.ensures))

pub returns-clause-covered : goal.returns-clause-covered
returns-clause-covered g c q = same_covered c.lookup_laws.ensures c.args.set.now.entries _ (returns-clause-entries g c) q

pub returns-clause-uncovered : goal.returns-clause-uncovered
returns-clause-uncovered g c s there = none_covered c.lookup_laws.ensures c.args.set.now.entries _ (returns-clause-entries g c) s there
